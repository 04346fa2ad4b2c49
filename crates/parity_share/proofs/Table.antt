-- The table of the code: X^8 to X^95 modulo the generator, the shares of a byte 1 at places 8 to 95, each packed.
use mathlib.Core.Path.{◌≡◌, refl, sym, ap, ◌∙◌}
use mathlib.Core.List.{List, [], ◌∷◌, map}
use Prim.Native.Nat.{ℕ, zero, suc, ◌+◌, ◌-◌, ◌<◌, ◌≤◌}
use native.Mathlib.Nat.{add-zero, zero-add, add-suc, suc-add, le_of_suc-le-suc, not-suc-le-zero}
use native.Mathlib.Omega.{arith}
use lib.Bits.{bit_xor, xor_zero_l}
use lib.ListN.{length, get_or, set, replicate}
use Rattle.field.specs.Field.{times_a, mul_bits, mul, shift, pow}
use Rattle.header.specs.Header.{tap, divide_step, remainder, parity_of}
use Rattle.header.specs.Packed.{unpacked, left_of}
use Rattle.parity_share.specs.Shares.{alone, share}
use Rattle.parity_share.proofs.Linear.{message, zero-remainder, alone-length}

unfoldable pub share_table : List ℕ
share_table =
    0xe32cb247ac08e025 ∷ 0x8363ff5d1dabb279 ∷ 0x9f08bdf4d2de1d18 ∷ 0x827df03c36912ed3 ∷
    0x622b6e98444a573d ∷ 0xa310b9d26360132b ∷ 0xdda7f1823d621ecc ∷ 0x94a6644d87b8852c ∷
    0x5fad7ba2b0517489 ∷ 0x81f7166e61b64411 ∷ 0xd0b9f7068a38a852 ∷ 0x894159bef2660fa8 ∷
    0x2d8bde9753334267 ∷ 0xb9d6ed1f38372250 ∷ 0x1d2c535134834dd9 ∷ 0xb9480774bea56bee ∷
    0x83c638d7a6caf3d9 ∷ 0x3acf374fb39fbd18 ∷ 0xf801e333e57061c1 ∷ 0x4bc156db97f29e49 ∷
    0xd090724c5afc85ef ∷ 0xa0c4136e364bb2a8 ∷ 0x3179861effdba0a3 ∷ 0x3db980b44135b49b ∷
    0x1d7221092c41783a ∷ 0xe73a5f6c7c9088ee ∷ 0x3e3e268c0fe3deed ∷ 0xa2a0d28e13333355 ∷
    0x8ee01fb5c24a80e9 ∷ 0x1f09ec6f1c84999c ∷ 0x47af40d2fc61f3a4 ∷ 0x5e4b70244af19c4e ∷
    0x84d022d36d566334 ∷ 0xbf110a4c4c37cae3 ∷ 0xaa238baafb5b8407 ∷ 0x46c4c25fa3bd81dc ∷
    0xd6e54f3c3a8b046b ∷ 0xa511e8818efa4c76 ∷ 0xac1e29e0680d3912 ∷ 0x0b8e03433a30ee02 ∷
    0xfd0a71f1d0b66c5a ∷ 0x08cfd4a877d742f8 ∷ 0x84a95175de02ab35 ∷ 0xc662acff18ffcbe3 ∷
    0xb408c4a7e8b5621c ∷ 0xc0e452c599ab155d ∷ 0x421e75a9735ba6c2 ∷ 0xa7e24bed568cbdff ∷
    0x84e53cb65bec6d58 ∷ 0x8a0f6f7af639a6e3 ∷ 0x5bc9d15ae5823408 ∷ 0x4eed1c3a38d66285 ∷
    0xb446d3a558280e5e ∷ 0x8ef3507504c7575d ∷ 0x0c462ca991532d9c ∷ 0xa6e1a292d04d68a1 ∷
    0x6420f1773631d37d ∷ 0xd867dd2fd7d429f5 ∷ 0x1c1689e117a7fb9d ∷ 0x60be0510361bcfcb ∷
    0xed23482e77e83861 ∷ 0xb70ce40b3b03df92 ∷ 0xfcb035dfc60ea632 ∷ 0x51a748f96315cadd ∷
    0xb0513f30e37839fa ∷ 0x32af37cfded054c9 ∷ 0xd37c9a5ca3d9e3f4 ∷ 0x7458c85efa3594c7 ∷
    0x36a41be7c113359f ∷ 0x73e04042ea981260 ∷ 0x1de83e3f0fad0864 ∷ 0x7d25694f90e0d6ee ∷
    0xe35441c8b119af8f ∷ 0xfb9070400ce41879 ∷ 0xe226eefbea931b26 ∷ 0x6a13f15c2a58515c ∷
    0xd0f284be7826211e ∷ 0xc232e14cecef43a8 ∷ 0x4ff58552721d8e88 ∷ 0x4ff309a83fcce37b ∷
    0x497ff3e5eea1107b ∷ 0xb56d35bb4c626aa5 ∷ 0x4639fc26e2ab4c78 ∷ 0x2bdb367d2c46a06b ∷
    0x99d68cef82e5548e ∷ 0x2ca460e3c2e8c20d ∷ 0x75442bc94fbfa875 ∷ 0xc96b3e15e72767ba ∷ []

-- ---- the rule, over the whole table

-- the generator's low eight coefficients, worked out
abbrev coefficients : List ℕ
coefficients = 37 ∷ 224 ∷ 8 ∷ 172 ∷ 71 ∷ 178 ∷ 44 ∷ 227 ∷ []

-- X times r modulo the generator
unfoldable next_power : List ℕ → List ℕ
next_power r = map (λ k. bit_xor (get_or (0 ∷ r) k 0) (mul (get_or coefficients k 0) (get_or r 7 0))) (0 ∷ 1 ∷ 2 ∷ 3 ∷ 4 ∷ 5 ∷ 6 ∷ 7 ∷ [])

next_power_lem : (r : List ℕ) → next_power r ≡ divide_step r 0
unfolding next_power divide_step tap pow shift times_a
next_power_lem r = ap (λ (f : ℕ). map (tap r f) (0 ∷ 1 ∷ 2 ∷ 3 ∷ 4 ∷ 5 ∷ 6 ∷ 7 ∷ [])) (sym (xor_zero_l (get_or r 7 0)))

-- r, X times r, .. : n remainders
unfoldable run : ℕ → List ℕ → List (List ℕ)
run zero r = []
run (suc n) r = r ∷ run n (next_power r)

table-run : map unpacked share_table ≡ run 88 coefficients
unfolding share_table unpacked run next_power mul mul_bits times_a
table-run = refl

get_d_map : (f : ℕ → List ℕ) (l : List ℕ) (k : ℕ) → k < length l → get_or (map f l) k [] ≡ f (get_or l k 0)
get_d_map f [] k h = absurd (not-suc-le-zero h)
get_d_map f (x ∷ l) zero h = refl
get_d_map f (x ∷ l) (suc k) h = get_d_map f l k (le_of_suc-le-suc h)

first-power : coefficients ≡ left_of 0
unfolding left_of remainder divide_step tap mul mul_bits pow shift times_a
first-power = refl

-- entries of such a run from X^(8 + j) on
get_or-run : (n j k : ℕ) (r : List ℕ) → r ≡ left_of j → k < n → get_or (run n r) k [] ≡ left_of (k + j)
unfolding run left_of remainder
get_or-run zero j k r e h = absurd (not-suc-le-zero h)
get_or-run (suc n) j zero r e h = e ∙ ap left_of (sym (zero-add j))
get_or-run (suc n) j (suc k) r e h =
    get_or-run n (suc j) k (next_power r) (next_power_lem r ∙ ap (λ (l : List ℕ). divide_step l 0) e) (le_of_suc-le-suc h)
    ∙ ap left_of (add-suc k j ∙ sym (suc-add k j))

-- entry k is X^(8 + k) modulo the generator
table-rule : (k : ℕ) → k < 88 → unpacked (get_or share_table k 0) ≡ left_of k
unfolding share_table
table-rule k h =
    sym (get_d_map unpacked share_table k h)
    ∙ ap (λ (t : List (List ℕ)). get_or t k []) table-run ∙ get_or-run 88 0 k coefficients first-power h ∙ ap left_of (add-zero k)

-- ---- the share of a byte 1

power-alone : (n k : ℕ) → k < n → remainder (set (replicate n 0) k 1) ≡ left_of k
unfolding left_of remainder
power-alone zero k h = absurd (not-suc-le-zero h)
power-alone (suc n) zero h = ap (λ (r : List ℕ). divide_step r 1) (zero-remainder n)
power-alone (suc n) (suc k) h = ap (λ (r : List ℕ). divide_step r 0) (power-alone n k (le_of_suc-le-suc h))

eight-up : (k : ℕ) → k < 88 → share (suc (suc (suc (suc (suc (suc (suc (suc k)))))))) 1 ≡ left_of k
unfolding share parity_of alone
eight-up k h =
    let i : ℕ = suc (suc (suc (suc (suc (suc (suc (suc k))))))) in
    ap remainder (message (alone i 1) (alone-length i 1)) ∙ power-alone 88 k h

-- the table has the share of a byte 1 at each place
pub table-share : (i : ℕ) → 8 ≤ i → i < 96 → unpacked (get_or share_table (i - 8) 0) ≡ share i 1
table-share i l h =
    let e : suc (suc (suc (suc (suc (suc (suc (suc (i - 8)))))))) ≡ i = omega arith in
    let b : i - 8 < 88 = omega arith in
    table-rule (i - 8) b ∙ sym (eight-up (i - 8) b) ∙ ap (λ (j : ℕ). share j 1) e
