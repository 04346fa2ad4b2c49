-- Document 02, Ask 12: a burst in a piece with its CRC byte is always found, whatever the register starts at.
use mathlib.Core.Path.{◌≡◌, refl, sym, ap, ◌∙◌}
use mathlib.Core.List.{List, [], ◌∷◌, ◌++◌}
use Prim.Native.Nat.{ℕ, zero, suc, ◌+◌, ◌*◌, ◌/◌, ◌%◌}
use native.Mathlib.Omega.{arith}
use lib.Bits.{bit_xor, xor_zero_r, xor_self}
use lib.ListN.{length, get_or}
use Rattle.crc.specs.Crc.{divisor, crc_bit, crc_bits, crc_byte, crc_from}
use Rattle.bits.proofs.Xor.{mod-xor}
use Rattle.burst.specs.Burst.{top_bits, bits_of, Burst}
use Rattle.burst.proofs.Streams.{stream, crc-stream, all-bits, inside-eight}

-- ---- a piece and its CRC leave 0

own-bit : (b : ℕ) → crc_bit b (b / 128 % 2) ≡ b % 128 * 2
unfolding crc_bit
own-bit b =
    let e : bit_xor (b / 128) (b / 128 % 2) % 2 ≡ 0 = mod-xor (b / 128) (b / 128) ∙ ap (λ (x : ℕ). x % 2) (xor_self (b / 128)) in
    ap (λ (t : ℕ). bit_xor (b % 128 * 2) (t * divisor)) e ∙ xor_zero_r (b % 128 * 2)

-- n bits of b moved out
left : ℕ → ℕ → ℕ
left zero b = b
left (suc n) b = left n (b % 128 * 2)

own_bits : (n b : ℕ) → crc_bits n b b ≡ left n b
unfolding crc_bits left
own_bits zero b = refl
own_bits (suc n) b = ap (λ (r : ℕ). crc_bits n r (b % 128 * 2)) (own-bit b) ∙ own_bits n (b % 128 * 2)

own-byte : (b : ℕ) → crc_byte b b ≡ 0
unfolding crc_byte left
own-byte b = own_bits 8 b ∙ let e : left 8 b ≡ 0 = omega arith in e

crc-append : (a b : List ℕ) (r : ℕ) → crc_from r (a ++ b) ≡ crc_from (crc_from r a) b
unfolding crc_from
crc-append [] b r = refl
crc-append (x ∷ a) b r = crc-append a b (crc_byte r x)

pub right-leaves-zero : (r c : ℕ) (p : List ℕ) → crc_from r p ≡ c → crc_from r (p ++ (c ∷ [])) ≡ 0
right-leaves-zero r c p e = crc-append p (c ∷ []) r ∙ unfold crc_from in ap (λ (x : ℕ). crc_byte x c) e ∙ own-byte c

-- ---- bursts

pub bits-long : (x y : List ℕ) → length x ≡ length y → length (bits_of x) ≡ length (bits_of y)
unfolding bits_of top_bits
bits-long [] [] e = refl
bits-long [] (b ∷ y) e = absurd (omega arith)
bits-long (a ∷ x) [] e = absurd (omega arith)
bits-long (a ∷ x) (b ∷ y) e = let h = bits-long x y (omega arith) in omega (arith, h)

-- two lists of bytes that a register does not tell apart are no burst from one another
pub no-burst : (r : ℕ) (x y : List ℕ) → crc_from r x ≡ crc_from r y → Burst x y → ⊥
no-burst r x y e b =
    let s : stream r (bits_of x) ≡ stream r (bits_of y) = sym (crc-stream x r) ∙ e ∙ crc-stream y r in
    let q : bits_of x ≡ bits_of y = inside-eight (bits_of x) (bits_of y) b.within.from r (all-bits x) (all-bits y) (bits-long x y (sym b.within.long)) (λ k d. let h = b.within.inside k d in (h.0, omega (arith, h.1))) s in
    b.hit.1 (ap (λ (l : List ℕ). get_or l b.hit.0 0) (sym q))

-- the piece p with its CRC c, come as q and d
pub burst-found : (r c d : ℕ) (p q : List ℕ) → crc_from r p ≡ c → Burst (p ++ (c ∷ [])) (q ++ (d ∷ [])) → ¬ (crc_from r q ≡ d)
burst-found r c d p q e b f = no-burst r (p ++ (c ∷ [])) (q ++ (d ∷ [])) (right-leaves-zero r c p e ∙ sym (right-leaves-zero r d q f)) b
