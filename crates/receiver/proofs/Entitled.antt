-- The programs that are listed at opening are those that the receiver is entitled to.
use mathlib.Core.Path.{◌≡◌, refl, sym, ◌∙◌, ap}
use mathlib.Core.Bool.{Bool, true, false, not, ◌&&◌, ◌||◌, cond, true≢false}
use mathlib.Core.List.{List, [], ◌∷◌}
use Prim.Native.Nat.{ℕ, zero, suc, ◌+◌, ◌*◌, ◌/◌, ◌%◌, ◌<◌, ◌≤◌}
use native.Mathlib.Omega.{arith}
use lib.Dec.{eqb, leb}
use borrow.Author.Tests.{eq-eqb, ne_eqb, leb-true, leb-false}
use Rattle.receiver.specs.Entitling.{is_listed, allowed_programs, power, mask_of, entitles}

one-or-none : (b : Bool) → cond b 1 0 ≤ 1
one-or-none true = omega arith
one-or-none false = omega arith

weighed : (b : Bool) (w : ℕ) → cond b w 0 ≡ w * cond b 1 0
weighed true w = omega arith
weighed false w = omega arith

digit : (n : ℕ) (b : Bool) → n ≡ cond b 1 0 → eqb n 1 ≡ b
digit n true e = eq-eqb n 1 e
digit n false e = ne_eqb n 1 (λ q. omega (arith, e, q))

-- the mask's digits
module _ (f : ℕ → Bool) where
  abbrev x : ℕ → ℕ
  x p = cond (f p) 1 0

  abbrev sum : ℕ
  sum = x 0 + 2 * x 1 + 4 * x 2 + 8 * x 3 + 16 * x 4 + 32 * x 5 + 64 * x 6 + 128 * x 7

  module _ (mask : ℕ) (e : mask ≡ sum) where
    -- digits 0 to 7 are 0 or 1
    few : (x 0 ≤ 1) × (x 1 ≤ 1) × (x 2 ≤ 1) × (x 3 ≤ 1) × (x 4 ≤ 1) × (x 5 ≤ 1) × (x 6 ≤ 1) × (x 7 ≤ 1)
    few = (one-or-none (f 0), one-or-none (f 1), one-or-none (f 2), one-or-none (f 3), one-or-none (f 4), one-or-none (f 5), one-or-none (f 6), one-or-none (f 7))

    bit-of : (p : ℕ) → p ≤ 7 → entitles mask p ≡ f p
    unfolding entitles
    bit-of zero h = digit (mask / 1 % 2) (f 0) (omega (arith, e, few))
    bit-of (suc zero) h = digit (mask / 2 % 2) (f 1) (omega (arith, e, few))
    bit-of (suc (suc zero)) h = digit (mask / 4 % 2) (f 2) (omega (arith, e, few))
    bit-of (suc (suc (suc zero))) h = digit (mask / 8 % 2) (f 3) (omega (arith, e, few))
    bit-of (suc (suc (suc (suc zero)))) h = digit (mask / 16 % 2) (f 4) (omega (arith, e, few))
    bit-of (suc (suc (suc (suc (suc zero))))) h = digit (mask / 32 % 2) (f 5) (omega (arith, e, few))
    bit-of (suc (suc (suc (suc (suc (suc zero)))))) h = digit (mask / 64 % 2) (f 6) (omega (arith, e, few))
    bit-of (suc (suc (suc (suc (suc (suc (suc zero))))))) h = digit (mask / 128 % 2) (f 7) (omega (arith, e, few))
    bit-of (suc (suc (suc (suc (suc (suc (suc (suc p)))))))) h = absurd (omega (arith, h))

mask_is : (programs : List ℕ) → mask_of programs ≡ sum (is_listed programs)
unfolding mask_of
mask_is programs =
    let f : ℕ → Bool = is_listed programs in
    omega (arith, weighed (f 1) 2, weighed (f 2) 4, weighed (f 3) 8, weighed (f 4) 16, weighed (f 5) 32, weighed (f 6) 64, weighed (f 7) 128)

-- no number over 7 is listed
unlisted : (programs : List ℕ) (p : ℕ) → allowed_programs programs ≡ true → 7 < p → is_listed programs p ≡ false
unfolding allowed_programs
unlisted [] p a h = refl
unlisted (q ∷ ps) p a h = go (leb q 7) (not (is_listed ps q)) (allowed_programs ps) refl refl a (λ s. unlisted ps p s h)
  where
    go : (l n r : Bool) → leb q 7 ≡ l → allowed_programs ps ≡ r → (l && (n && r)) ≡ true → (allowed_programs ps ≡ true → is_listed ps p ≡ false) → is_listed (q ∷ ps) p ≡ false
    go true true true e s t i =
        let d : eqb q p ≡ false = ne_eqb q p (λ z. omega (arith, leb-true q 7 e, z, h)) in
        ap (λ (b : Bool). b || is_listed ps p) d ∙ i s
    go true true false e s t i = absurd (true≢false (sym t))
    go true false r e s t i = absurd (true≢false (sym t))
    go false n r e s t i = absurd (true≢false (sym t))

-- of a list that is allowed
pub entitled-programs : (programs : List ℕ) → allowed_programs programs ≡ true → (p : ℕ) → entitles (mask_of programs) p ≡ is_listed programs p
unfolding entitles
entitled-programs programs a p = go (leb p 7) refl
  where
    go : (b : Bool) → leb p 7 ≡ b → entitles (mask_of programs) p ≡ is_listed programs p
    go true e = bit-of (is_listed programs) (mask_of programs) (mask_is programs) p (leb-true p 7 e)
    go false e =
        let over : 7 < p = leb-false p 7 e in
        ap (λ (b : Bool). b && eqb (mask_of programs / power p % 2) 1) e ∙ sym (unlisted programs p a over)
