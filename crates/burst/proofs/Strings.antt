-- Strings of bytes and their bits: strings that differ have a bit that differs, and the bits of one byte are eight in a row.
use mathlib.Core.Path.{◌≡◌, refl, sym, ap, ap₂, ◌∙◌}
use mathlib.Core.List.{List, [], ◌∷◌, ◌++◌}
use Prim.Native.Nat.{ℕ, zero, suc, ◌+◌, ◌*◌, ◌<◌, ◌≤◌}
use native.Mathlib.Decide.{ℕ_discrete}
use native.Mathlib.Omega.{arith}
use lib.Dec.{eqb, eqb→eq}
use lib.ListN.{length, get_or, take, drop}
use Rattle.bits.proofs.Computed.{below}
use Rattle.burst.specs.Burst.{top_bits, bits_of, DiffersAt, InEight, Burst}
use Rattle.burst.proofs.Found.{bits-long}

-- ---- strings that differ

-- the number that bits are, top bit first, after n
value_from : ℕ → List ℕ → ℕ
value_from n [] = n
value_from n (b ∷ l) = value_from (n * 2 + b) l

byte-back : (b : ℕ) → b < 256 → value_from 0 (top_bits 8 b) ≡ b
unfolding value_from top_bits
byte-back b h = eqb→eq (value_from 0 (top_bits 8 b)) b (below (λ k. eqb (value_from 0 (top_bits 8 k)) k) 256 tt b h)

-- the bits tell the bytes
same_bytes : (x y : List ℕ) → ((i : ℕ) → get_or x i 0 < 256) → ((i : ℕ) → get_or y i 0 < 256) → length x ≡ length y → bits_of x ≡ bits_of y → x ≡ y
unfolding bits_of top_bits
same_bytes [] [] hx hy l e = refl
same_bytes [] (b ∷ y) hx hy l e = absurd (omega (arith, l))
same_bytes (a ∷ x) [] hx hy l e = absurd (omega (arith, l))
same_bytes (a ∷ x) (b ∷ y) hx hy l e =
    let first : a ≡ b = sym (byte-back a (hx 0)) ∙ ap (λ (k : List ℕ). value_from 0 (take 8 k)) e ∙ byte-back b (hy 0) in
    ap₂ (λ (i : ℕ) (k : List ℕ). i ∷ k) first (same_bytes x y (λ i. hx (suc i)) (λ i. hy (suc i)) (omega (arith, l)) (ap (drop 8) e))

-- the first place where lists of one length differ
first-place : (u v : List ℕ) → length u ≡ length v → ¬ (u ≡ v) → (k : ℕ) × (¬ (get_or v k 0 ≡ get_or u k 0))
first-place [] [] l n = absurd (n refl)
first-place [] (b ∷ v) l n = absurd (omega (arith, l))
first-place (a ∷ u) [] l n = absurd (omega (arith, l))
first-place (a ∷ u) (b ∷ v) l n = go (ℕ_discrete b a) (λ e. first-place u v (omega (arith, l)) (λ q. n (ap₂ (λ (i : ℕ) (k : List ℕ). i ∷ k) (sym e) q)))
  where
    go : Dec (b ≡ a) → (b ≡ a → (k : ℕ) × (¬ (get_or v k 0 ≡ get_or u k 0))) → (k : ℕ) × (¬ (get_or (b ∷ v) k 0 ≡ get_or (a ∷ u) k 0))
    go (yes e) f = let r = f e in (suc r.0, r.1)
    go (no d) f = (0, d)

-- a string that differs from another, and only inside eight consecutive bits, is a burst from it
pub hit-burst : (x y : List ℕ) → ((i : ℕ) → get_or x i 0 < 256) → ((i : ℕ) → get_or y i 0 < 256) → InEight x y → ¬ (x ≡ y) → Burst x y
hit-burst x y hx hy w n =
    let l : length x ≡ length y = sym w.long in
    record { within = w; hit = first-place (bits_of x) (bits_of y) (bits-long x y l) (λ e. n (same_bytes x y hx hy l e)) }

-- ---- one byte

-- a string as it was
pub unaltered : (x : List ℕ) → InEight x x
unaltered x = record { long = refl; from = 0; inside = λ k d. absurd (d refl) }

-- one byte more before both
next-byte : (c : ℕ) (x y : List ℕ) → InEight x y → InEight (c ∷ x) (c ∷ y)
unfolding bits_of top_bits
next-byte c x y r = record { long = ap suc r.long; from = 8 + r.from; inside = within }
  where
    within : (k : ℕ) → DiffersAt (c ∷ x) (c ∷ y) k → (8 + r.from ≤ k) × (k < 8 + r.from + 8)
    within zero d = absurd (d refl)
    within (suc zero) d = absurd (d refl)
    within (suc (suc zero)) d = absurd (d refl)
    within (suc (suc (suc zero))) d = absurd (d refl)
    within (suc (suc (suc (suc zero)))) d = absurd (d refl)
    within (suc (suc (suc (suc (suc zero))))) d = absurd (d refl)
    within (suc (suc (suc (suc (suc (suc zero)))))) d = absurd (d refl)
    within (suc (suc (suc (suc (suc (suc (suc zero))))))) d = absurd (d refl)
    within (suc (suc (suc (suc (suc (suc (suc (suc k)))))))) d = let h = r.inside k d in (omega (arith, h.0), omega (arith, h.1))

-- the bits of one byte
first_byte : (b : List ℕ) (v w : ℕ) → InEight (v ∷ b) (w ∷ b)
unfolding bits_of top_bits
first_byte b v w = record { long = refl; from = 0; inside = λ k d. (omega arith, within k d) }
  where
    within : (k : ℕ) → DiffersAt (v ∷ b) (w ∷ b) k → k < 0 + 8
    within zero d = omega arith
    within (suc zero) d = omega arith
    within (suc (suc zero)) d = omega arith
    within (suc (suc (suc zero))) d = omega arith
    within (suc (suc (suc (suc zero)))) d = omega arith
    within (suc (suc (suc (suc (suc zero))))) d = omega arith
    within (suc (suc (suc (suc (suc (suc zero)))))) d = omega arith
    within (suc (suc (suc (suc (suc (suc (suc zero))))))) d = omega arith
    within (suc (suc (suc (suc (suc (suc (suc (suc k)))))))) d = absurd (d refl)

pub one_byte : (a b : List ℕ) (v w : ℕ) → InEight (a ++ (v ∷ b)) (a ++ (w ∷ b))
one_byte [] b v w = first_byte b v w
one_byte (c ∷ a) b v w = next-byte c (a ++ (v ∷ b)) (a ++ (w ∷ b)) (one_byte a b v w)
