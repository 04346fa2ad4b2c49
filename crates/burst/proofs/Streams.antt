-- The CRC bit by bit: two streams from one register that differ in at most eight bits in a row leave different registers.
use mathlib.Core.Path.{◌≡◌, refl, sym, ap, ap₂, ◌∙◌}
use mathlib.Core.List.{List, [], ◌∷◌, ◌++◌}
use Prim.Native.Nat.{ℕ, zero, suc, ◌+◌, ◌*◌, ◌/◌, ◌%◌, ◌<◌, ◌≤◌}
use native.Mathlib.Omega.{arith}
use native.Mathlib.Nat.{zero-add, not-suc-le-zero, le_of_suc-le-suc}
use native.Mathlib.Decide.{ℕ_discrete}
use lib.Bits.{bit_xor, xor_zero_l, xor_zero_r, xor_self, xor_lt, xor_shr, xor_mod}
use lib.Dec.{lit≤}
use lib.ListN.{length, get_or}
use Rattle.crc.specs.Crc.{divisor, crc_bit, crc_bits, crc_byte, crc_from}
use Rattle.bits.proofs.Xor.{by_bit, xor_assoc, xor-swap, bit-times, double}
use Rattle.burst.specs.Burst.{top_bits, bits_of}

-- ---- bits into the register, one by one

pub stream : ℕ → List ℕ → ℕ
stream r [] = r
stream r (b ∷ bs) = stream (crc_bit r b) bs

pub stream-append : (r : ℕ) (a b : List ℕ) → stream r (a ++ b) ≡ stream (stream r a) b
unfolding stream
stream-append r [] b = refl
stream-append r (x ∷ a) b = stream-append (crc_bit r x) a b

bits-stream : (n r b : ℕ) → crc_bits n r b ≡ stream r (top_bits n b)
unfolding crc_bits stream top_bits
bits-stream zero r b = refl
bits-stream (suc n) r b = bits-stream n (crc_bit r (b / 128 % 2)) (b % 128 * 2)

pub crc-stream : (bytes : List ℕ) (r : ℕ) → crc_from r bytes ≡ stream r (bits_of bytes)
unfolding crc_from crc_byte stream bits_of
crc-stream [] r = refl
crc-stream (b ∷ bs) r =
    crc-stream bs (crc_bits 8 r b) ∙ ap (λ (x : ℕ). stream x (bits_of bs)) (bits-stream 8 r b) ∙ sym (stream-append r (top_bits 8 b) (bits_of bs))

-- ---- a bit is linear in the register and itself

linear : (r s a b : ℕ) → bit_xor (crc_bit r a) (crc_bit s b) ≡ crc_bit (bit_xor r s) (bit_xor a b)
unfolding crc_bit
linear r s a b =
    let p : bit_xor r s % 128 * 2 ≡ bit_xor (r % 128 * 2) (s % 128 * 2) = ap (λ (n : ℕ). n * 2) (xor_mod r s 7) ∙ double (r % 128) (s % 128) in
    let q : bit_xor (bit_xor r s / 128) (bit_xor a b) ≡ bit_xor (bit_xor (r / 128) a) (bit_xor (s / 128) b) =
    ap (λ (n : ℕ). bit_xor n (bit_xor a b)) (xor_shr r s 7) ∙ xor-swap (r / 128) (s / 128) a b in
    xor-swap (r % 128 * 2) (bit_xor (r / 128) a % 2 * divisor) (s % 128 * 2) (bit_xor (s / 128) b % 2 * divisor)
    ∙ ap₂ (λ (x y : ℕ). bit_xor x y) (sym p) (sym (bit-times (bit_xor (r / 128) a) (bit_xor (s / 128) b) divisor) ∙ ap (λ (n : ℕ). n % 2 * divisor) (sym q))

pub bit_below : (r b : ℕ) → crc_bit r b < 256
unfolding crc_bit
bit_below r b = xor_lt 8 (r % 128 * 2) (bit_xor (r / 128) b % 2 * divisor) (omega arith) (omega arith)

-- ---- differences

xor-equal : (r s : ℕ) → bit_xor r s ≡ 0 → r ≡ s
xor-equal r s e =
    sym (xor_zero_r r) ∙ ap (λ (x : ℕ). bit_xor r x) (sym (xor_self s)) ∙ sym (xor_assoc r s s) ∙ ap (λ (x : ℕ). bit_xor x s) e ∙ xor_zero_l s

-- a bit's step, by the bit that is taken away or not
by-step : (P : ℕ → Type 0) (d b : ℕ) → P (d % 128 * 2) → P (bit_xor (d % 128 * 2) divisor) → P (crc_bit d b)
unfolding crc_bit
by-step P d b p q = by_bit (λ (t : ℕ). P (bit_xor (d % 128 * 2) (t * divisor))) (rw (xor_zero_r (d % 128 * 2)) p) q (bit_xor (d / 128) b)

odd_step : (d : ℕ) → bit_xor (d % 128 * 2) divisor % 2 ≡ 1
odd_step d = xor_mod (d % 128 * 2) divisor 1 ∙ ap (λ (x : ℕ). bit_xor x (divisor % 2)) (let e : d % 128 * 2 % 2 ≡ 0 = omega arith in e)

-- a difference does not vanish while the bits agree
step_keeps : (d : ℕ) → d < 256 → crc_bit d 0 ≡ 0 → d ≡ 0
unfolding crc_bit
step_keeps d h e = go (d / 128) refl (sym (ap (λ (t : ℕ). bit_xor (d % 128 * 2) (t % 2 * divisor)) (xor_zero_r (d / 128))) ∙ e)
  where
    go : (t : ℕ) → d / 128 ≡ t → bit_xor (d % 128 * 2) (t % 2 * divisor) ≡ 0 → d ≡ 0
    go zero q z = let y : d % 128 * 2 ≡ 0 = sym (xor_zero_r (d % 128 * 2)) ∙ z in omega arith
    go (suc zero) q z = absurd (let y = odd_step d in let x : bit_xor (d % 128 * 2) divisor ≡ 0 = z in omega (arith, x, y))
    go (suc (suc t)) q z = absurd (omega arith)

bit-injective : (r s b : ℕ) → r < 256 → s < 256 → crc_bit r b ≡ crc_bit s b → r ≡ s
bit-injective r s b h g e =
    let d : crc_bit (bit_xor r s) (bit_xor b b) ≡ 0 = sym (linear r s b b) ∙ ap (λ (x : ℕ). bit_xor x (crc_bit s b)) e ∙ xor_self (crc_bit s b) in
    xor-equal r s (step_keeps (bit_xor r s) (xor_lt 8 r s h g) (ap (λ (x : ℕ). crc_bit (bit_xor r s) x) (sym (xor_self b)) ∙ d))

pub stays-different : (l : List ℕ) (r s : ℕ) → r < 256 → s < 256 → stream r l ≡ stream s l → r ≡ s
unfolding stream
stays-different [] r s h g e = e
stays-different (b ∷ l) r s h g e = bit-injective r s b h g (stays-different l (crc_bit r b) (crc_bit s b) (bit_below r b) (bit_below s b) e)

-- ---- eight bits

-- one of the lowest j + 1 bits of d is set
abbrev power : ℕ → ℕ
power zero = 2
power (suc zero) = 4
power (suc (suc zero)) = 8
power (suc (suc (suc zero))) = 16
power (suc (suc (suc (suc zero)))) = 32
power (suc (suc (suc (suc (suc zero))))) = 64
power (suc (suc (suc (suc (suc (suc zero)))))) = 128
power (suc (suc (suc (suc (suc (suc (suc j))))))) = 256

abbrev Low : ℕ → ℕ → Type 0
Low j d = ¬ (d % power j ≡ 0)

low-odd : (j d : ℕ) → d % 2 ≡ 1 → Low j d
low-odd zero d o = omega arith
low-odd (suc zero) d o = omega arith
low-odd (suc (suc zero)) d o = omega arith
low-odd (suc (suc (suc zero))) d o = omega arith
low-odd (suc (suc (suc (suc zero)))) d o = omega arith
low-odd (suc (suc (suc (suc (suc zero))))) d o = omega arith
low-odd (suc (suc (suc (suc (suc (suc zero)))))) d o = omega arith
low-odd (suc (suc (suc (suc (suc (suc (suc j))))))) d o = omega arith

low-some : (j d : ℕ) → Low j d → ¬ (d ≡ 0)
low-some zero d o e = o (omega arith)
low-some (suc zero) d o e = o (omega arith)
low-some (suc (suc zero)) d o e = o (omega arith)
low-some (suc (suc (suc zero))) d o e = o (omega arith)
low-some (suc (suc (suc (suc zero)))) d o e = o (omega arith)
low-some (suc (suc (suc (suc (suc zero))))) d o e = o (omega arith)
low-some (suc (suc (suc (suc (suc (suc zero)))))) d o e = o (omega arith)
low-some (suc (suc (suc (suc (suc (suc (suc j))))))) d o e = o (omega arith)

low-double : (j d : ℕ) → j < 7 → Low j d → Low (suc j) (d % 128 * 2)
low-double j d h o e = o (go j d h e)
  where
    go : (j d : ℕ) → j < 7 → d % 128 * 2 % power (suc j) ≡ 0 → d % power j ≡ 0
    go zero d h e = let x : d % 128 % 2 ≡ d % 2 = omega arith in let y : d % 128 * 2 % 4 ≡ d % 128 % 2 * 2 = omega arith in omega arith
    go (suc zero) d h e = let x : d % 128 % 4 ≡ d % 4 = omega arith in let y : d % 128 * 2 % 8 ≡ d % 128 % 4 * 2 = omega arith in omega arith
    go (suc (suc zero)) d h e = let x : d % 128 % 8 ≡ d % 8 = omega arith in let y : d % 128 * 2 % 16 ≡ d % 128 % 8 * 2 = omega arith in omega arith
    go (suc (suc (suc zero))) d h e = let x : d % 128 % 16 ≡ d % 16 = omega arith in let y : d % 128 * 2 % 32 ≡ d % 128 % 16 * 2 = omega arith in omega arith
    go (suc (suc (suc (suc zero)))) d h e = let x : d % 128 % 32 ≡ d % 32 = omega arith in let y : d % 128 * 2 % 64 ≡ d % 128 % 32 * 2 = omega arith in omega arith
    go (suc (suc (suc (suc (suc zero))))) d h e = let x : d % 128 % 64 ≡ d % 64 = omega arith in let y : d % 128 * 2 % 128 ≡ d % 128 % 64 * 2 = omega arith in omega arith
    go (suc (suc (suc (suc (suc (suc zero)))))) d h e = let x : d % 128 % 128 ≡ d % 128 = omega arith in let y : d % 128 * 2 % 256 ≡ d % 128 % 128 * 2 = omega arith in omega arith
    go (suc (suc (suc (suc (suc (suc (suc j))))))) d h e = absurd (omega arith)

low_step : (j d b : ℕ) → j < 7 → Low j d → Low (suc j) (crc_bit d b)
low_step j d b h o = by-step (Low (suc j)) d b (low-double j d h o) (low-odd (suc j) (bit_xor (d % 128 * 2) divisor) (odd_step d))

-- ---- lists of bits that differ at few places

-- each place where v differs from u is below n
abbrev Below : ℕ → List ℕ → List ℕ → Type 0
Below n u v = (k : ℕ) → ¬ (get_or v k 0 ≡ get_or u k 0) → k < n

below_next : (n a b : ℕ) (u v : List ℕ) → Below (suc n) (a ∷ u) (b ∷ v) → Below n u v
below_next n a b u v y k d = le_of_suc-le-suc (y (suc k) d)

decided : (a b : ℕ) → ¬ ¬ (a ≡ b) → a ≡ b
decided a b h = go (ℕ_discrete a b)
  where
    go : Dec (a ≡ b) → a ≡ b
    go (yes e) = e
    go (no n) = absurd (h n)

same-all : (u v : List ℕ) → length u ≡ length v → Below 0 u v → u ≡ v
same-all [] [] l y = refl
same-all [] (b ∷ v) l y = absurd (omega arith)
same-all (a ∷ u) [] l y = absurd (omega arith)
same-all (a ∷ u) (b ∷ v) l y =
    ap₂ (λ (x : ℕ) (l : List ℕ). x ∷ l) (sym (decided b a (λ d. not-suc-le-zero (y 0 d)))) (same-all u v (omega arith) (λ k d. absurd (not-suc-le-zero (y (suc k) d))))

-- after the first bit that differs, up to seven more
differs-on : (u v : List ℕ) (j n r s : ℕ) → length u ≡ length v → Below n u v → j + n ≤ 7 → r < 256 → s < 256 → Low j (bit_xor r s) → ¬ (stream r u ≡ stream s v)
unfolding stream
differs-on u v j zero r s l y h hr hs o e =
    let q : u ≡ v = same-all u v l y in
    let z : r ≡ s = stays-different v r s hr hs (ap (stream r) (sym q) ∙ e) in
    low-some j (bit_xor r s) o (ap (λ (x : ℕ). bit_xor x s) z ∙ xor_self s)
differs-on [] [] j (suc n) r s l y h hr hs o e = low-some j (bit_xor r s) o (ap (λ (x : ℕ). bit_xor x s) e ∙ xor_self s)
differs-on [] (b ∷ v) j (suc n) r s l y h hr hs o e = absurd (omega arith)
differs-on (a ∷ u) [] j (suc n) r s l y h hr hs o e = absurd (omega arith)
differs-on (a ∷ u) (b ∷ v) j (suc n) r s l y h hr hs o e =
    differs-on u v (suc j) n (crc_bit r a) (crc_bit s b) (omega arith) (below_next n a b u v y) (omega arith) (bit_below r a) (bit_below s b)
    (rw (linear r s a b) (low_step j (bit_xor r s) (bit_xor a b) (omega arith) o)) e

-- ---- bits

abbrev pub Bits : List ℕ → Type 0
Bits [] = Unit {0}
Bits (a ∷ l) = (a < 2) × Bits l

bits-append : (a b : List ℕ) → Bits a → Bits b → Bits (a ++ b)
bits-append [] b x y = y
bits-append (c ∷ a) b x y = (x.0, bits-append a b x.1 y)

top-bits : (n b : ℕ) → Bits (top_bits n b)
unfolding top_bits
top-bits zero b = tt
top-bits (suc n) b = (omega arith, top-bits n (b % 128 * 2))

pub all-bits : (x : List ℕ) → Bits (bits_of x)
unfolding bits_of
all-bits [] = tt
all-bits (b ∷ x) = bits-append (top_bits 8 b) (bits_of x) (top-bits 8 b) (all-bits x)

-- two bits that differ
one_bit : (a b : ℕ) → a < 2 → b < 2 → ¬ (a ≡ b) → Low 0 (crc_bit 0 (bit_xor a b))
unfolding crc_bit
one_bit zero zero ha hb d = absurd (d refl)
one_bit zero (suc zero) ha hb d = omega arith
one_bit (suc zero) zero ha hb d = omega arith
one_bit (suc zero) (suc zero) ha hb d = absurd (d refl)
one_bit (suc (suc a)) b ha hb d = absurd (omega arith)
one_bit zero (suc (suc b)) ha hb d = absurd (omega arith)
one_bit (suc zero) (suc (suc b)) ha hb d = absurd (omega arith)

first-differs : (r a b : ℕ) → a < 2 → b < 2 → ¬ (a ≡ b) → Low 0 (bit_xor (crc_bit r a) (crc_bit r b))
first-differs r a b ha hb d = rw (linear r r a b, xor_self r) (one_bit a b ha hb d)

-- differences in the first n bits, n at most 8
first-eight : (u v : List ℕ) (n r : ℕ) → Bits u → Bits v → length u ≡ length v → Below n u v → n ≤ 8 → stream r u ≡ stream r v → u ≡ v
unfolding stream
first-eight u v zero r bu bv l y h e = same-all u v l y
first-eight [] [] (suc n) r bu bv l y h e = refl
first-eight [] (b ∷ v) (suc n) r bu bv l y h e = absurd (omega arith)
first-eight (a ∷ u) [] (suc n) r bu bv l y h e = absurd (omega arith)
first-eight (a ∷ u) (b ∷ v) (suc n) r bu bv l y h e =
    go (ℕ_discrete a b) (λ q. first-eight u v n (crc_bit r a) bu.1 bv.1 (omega arith) (below_next n a b u v y) (omega arith) (e ∙ ap (λ (x : ℕ). stream (crc_bit r x) v) (sym q)))
  where
    go : Dec (a ≡ b) → (a ≡ b → u ≡ v) → a ∷ u ≡ b ∷ v
    go (yes q) f = ap₂ (λ (x : ℕ) (l : List ℕ). x ∷ l) q (f q)
    go (no d) f = absurd (differs-on u v 0 n (crc_bit r a) (crc_bit r b) (omega arith) (below_next n a b u v y) (omega arith) (bit_below r a) (bit_below r b) (first-differs r a b bu.0 bv.0 d) e)

-- differences inside eight bits from place w on
pub inside-eight : (u v : List ℕ) (w r : ℕ) → Bits u → Bits v → length u ≡ length v → ((k : ℕ) → ¬ (get_or v k 0 ≡ get_or u k 0) → (w ≤ k) × (k < w + 8)) → stream r u ≡ stream r v → u ≡ v
unfolding stream
inside-eight u v zero r bu bv l y e = first-eight u v 8 r bu bv l (λ k d. rw zero-add at (y k d).1) (lit≤ tt) e
inside-eight [] [] (suc w) r bu bv l y e = refl
inside-eight [] (b ∷ v) (suc w) r bu bv l y e = absurd (omega arith)
inside-eight (a ∷ u) [] (suc w) r bu bv l y e = absurd (omega arith)
inside-eight (a ∷ u) (b ∷ v) (suc w) r bu bv l y e =
    let q : a ≡ b = sym (decided b a (λ d. not-suc-le-zero (y 0 d).0)) in
    ap₂ (λ (x : ℕ) (l : List ℕ). x ∷ l) q
    (inside-eight u v w (crc_bit r a) bu.1 bv.1 (omega arith) (λ k d. let z = y (suc k) d in (le_of_suc-le-suc z.0, omega (arith, z.1)))
    (e ∙ ap (λ (x : ℕ). stream (crc_bit r x) v) (sym q)))
