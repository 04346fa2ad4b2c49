-- Document 02, Ask 9: what the count limit is. It is the largest k up to 63 for which La is at most 255, and the same as a test of one k.
use mathlib.Core.Path.{◌≡◌, refl, sym, ap, ◌∙◌}
use mathlib.Core.Bool.{Bool, true, false, cond, true≢false}
use Prim.Native.Nat.{ℕ, zero, suc, ◌+◌, ◌*◌, ◌/◌, ◌-◌, ◌<◌, ◌≤◌}
use native.Mathlib.Decide.{ℕ_discrete, dec_le}
use native.Mathlib.Omega.{arith}
use lib.Dec.{eqb, leb}
use borrow.Author.Tests.{leb-true, le-leb, lt-leb}
use Rattle.layout.specs.Locators.{locator_size}
use Rattle.layout.proofs.LocatorLaw.{size-grows}
use Rattle.packing.specs.Packing.{overhead, la_with, largest_up_to, most_pieces}

-- a locator takes at most two bytes
pub size_small : (width k : ℕ) → locator_size width k ≤ 2 * k
size_small width k = go (eqb width 16)
  where
    go : (b : Bool) → cond b ((16 * k + 7) / 8) ((12 * k + 7) / 8) ≤ 2 * k
    go true = omega arith
    go false = omega arith

-- ---- the largest number up to n that passes a test

up_to : (n : ℕ) (t : ℕ → Bool) → largest_up_to n t ≤ n
unfolding largest_up_to
up_to zero t = omega arith
up_to (suc n) t = go (t (suc n)) (up_to n t)
  where
    go : (b : Bool) → largest_up_to n t ≤ n → cond b (suc n) (largest_up_to n t) ≤ suc n
    go true h = omega arith
    go false h = omega arith

passes : (n : ℕ) (t : ℕ → Bool) → 0 < largest_up_to n t → t (largest_up_to n t) ≡ true
unfolding largest_up_to
passes zero t h = absurd (omega arith)
passes (suc n) t h = go (t (suc n)) refl (passes n t) h
  where
    go : (b : Bool) → t (suc n) ≡ b → (0 < largest_up_to n t → t (largest_up_to n t) ≡ true) → 0 < cond b (suc n) (largest_up_to n t) → t (cond b (suc n) (largest_up_to n t)) ≡ true
    go true e r h = e
    go false e r h = r h

largest : (n : ℕ) (t : ℕ → Bool) (k : ℕ) → k ≤ n → t k ≡ true → k ≤ largest_up_to n t
unfolding largest_up_to
largest zero t k h e = h
largest (suc n) t k h e = go (t (suc n)) refl (ℕ_discrete k (suc n)) (largest n t k)
  where
    go : (b : Bool) → t (suc n) ≡ b → Dec (k ≡ suc n) → (k ≤ n → t k ≡ true → k ≤ largest_up_to n t) → k ≤ cond b (suc n) (largest_up_to n t)
    go true f d r = h
    go false f (yes q) r = absurd (true≢false (sym e ∙ ap t q ∙ f))
    go false f (no q) r = r (omega arith) e

-- ---- the count limit

-- it is at most 63
pub most-small : (width extra : ℕ) → most_pieces width extra ≤ 63
unfolding most_pieces
most-small width extra = up_to 63 (λ k. leb (la_with width extra k) 255)

-- La is at most 255 with as many pieces
pub most-la : (width extra : ℕ) → 0 < most_pieces width extra → la_with width extra (most_pieces width extra) ≤ 255
unfolding most_pieces
most-la width extra h =
    leb-true (la_with width extra (largest_up_to 63 (λ k. leb (la_with width extra k) 255))) 255 (passes 63 (λ k. leb (la_with width extra k) 255) h)

-- and no larger k up to 63 is such a one
pub most-largest : (width extra k : ℕ) → k ≤ 63 → la_with width extra k ≤ 255 → k ≤ most_pieces width extra
unfolding most_pieces
most-largest width extra k h l = largest 63 (λ j. leb (la_with width extra j) 255) k h (le-leb (la_with width extra k) 255 l)

-- ---- a k within it

-- La is at most 255 with some pieces within the limit
pub la-within : (width extra k : ℕ) → 0 < k → k ≤ most_pieces width extra → la_with width extra k ≤ 255
la-within width extra k some h =
    let g = size-grows width k (most_pieces width extra) h in
    let m = most-la width extra (omega arith) in
    omega arith

-- and so it is with none, where PSD and expansion leave room for that
pub la-below : (width extra k : ℕ) → extra ≤ 242 → k ≤ most_pieces width extra → overhead width extra k ≤ 256
la-below width extra zero h l = let z = size_small width 0 in omega arith
la-below width extra (suc k) h l = let z = la-within width extra (suc k) (omega arith) l in omega arith

-- some pieces are within the limit just where they are at most 63 and La is at most 255
module _ (width extra k : ℕ) where
  pub past-63 : 63 < k → false ≡ leb k (most_pieces width extra)
  past-63 h = let m = most-small width extra in sym (lt-leb k (most_pieces width extra) (omega arith))

  pub past-la : 0 < k → 256 < overhead width extra k → false ≡ leb k (most_pieces width extra)
  past-la some h = sym (lt-leb k (most_pieces width extra) (over (dec_le k (most_pieces width extra))))
    where
      over : Dec (k ≤ most_pieces width extra) → most_pieces width extra < k
      over (yes l) = let z = la-within width extra k some l in absurd (omega arith)
      over (no l) = omega arith

  pub within : k ≤ 63 → overhead width extra k ≤ 256 → true ≡ leb k (most_pieces width extra)
  within h l = sym (le-leb k (most_pieces width extra) (most-largest width extra k h (omega arith)))

-- ---- its figures

-- a piece is always within it, where PSD and expansion are within a mode's limit
pub one_piece : (width extra : ℕ) → extra ≤ 128 → 1 ≤ most_pieces width extra
one_piece width extra h = let z = size_small width 1 in most-largest width extra 1 (omega arith) (omega arith)

exactly : (width extra k : ℕ) → k ≤ 63 → la_with width extra k ≤ 255 → (k < 63 → 255 < la_with width extra (suc k)) → most_pieces width extra ≡ k
exactly width extra k a b c = go (dec_le (most_pieces width extra) k)
  where
    go : Dec (most_pieces width extra ≤ k) → most_pieces width extra ≡ k
    go (yes l) = let h = most-largest width extra k a b in omega arith
    go (no l) =
        let m = most-small width extra in
        let z = la-within width extra (suc k) (omega arith) (omega arith) in
        let y = c (omega arith) in
        absurd (omega arith)

-- locators of 12 bits: 63 with every PSD and expansion of a mode
pub twelve-bits : (extra : ℕ) → extra ≤ 128 → most_pieces 12 extra ≡ 63
twelve-bits extra h = exactly 12 extra 63 (omega arith) (omega arith) (λ l. absurd (omega arith))

-- of 16 bits: 63 with at most 116 bytes of PSD and expansion
pub sixteen-bits : (extra : ℕ) → extra ≤ 116 → most_pieces 16 extra ≡ 63
sixteen-bits extra h = exactly 16 extra 63 (omega arith) (omega arith) (λ l. absurd (omega arith))

-- and with more as many as two bytes each leave room for: 62 with 117, 57 with 128
pub sixteen-bits-more : (extra : ℕ) → 116 ≤ extra → extra ≤ 242 → most_pieces 16 extra ≡ (242 - extra) / 2
sixteen-bits-more extra h l = exactly 16 extra ((242 - extra) / 2) (omega arith) (omega arith) (λ q. omega arith)

pub with-117 : most_pieces 16 117 ≡ 62
unfolding most_pieces largest_up_to
with-117 = refl

pub with-128 : most_pieces 16 128 ≡ 57
unfolding most_pieces largest_up_to
with-128 = refl
