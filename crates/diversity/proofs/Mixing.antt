-- Bytes of two lists of one length, mixed by a test of their places.
use mathlib.Core.Path.{◌≡◌, refl, sym, ap, ap₂, ◌∙◌}
use mathlib.Core.Bool.{Bool, true, false, cond}
use mathlib.Core.List.{List, [], ◌∷◌}
use Prim.Native.Nat.{ℕ, zero, suc, ◌+◌, ◌-◌, ◌<◌, ◌≤◌}
use native.Mathlib.Nat.{zero-add}
use native.Mathlib.Omega.{arith}
use lib.ListN.{length, get_or, set, take, drop, length-drop}
use Rattle.diversity.specs.Steps.{mixed, exactly_one}

pub mixed-length : (t : ℕ → Bool) (y z : List ℕ) → length (mixed t y z) ≡ length y
unfolding mixed
mixed-length t [] z = refl
mixed-length t (a ∷ y) [] = refl
mixed-length t (a ∷ y) (b ∷ z) = ap suc (mixed-length (λ i. t (suc i)) y z)

pub mixed-long : (t : ℕ → Bool) (y z l : List ℕ) → l ≡ mixed t y z → length l ≡ length y
mixed-long t y z l e = ap length e ∙ mixed-length t y z

-- tests that agree
pub mixed-same : (t u : ℕ → Bool) (y z : List ℕ) → ((i : ℕ) → t i ≡ u i) → mixed t y z ≡ mixed u y z
unfolding mixed
mixed-same t u [] z e = refl
mixed-same t u (a ∷ y) [] e = refl
mixed-same t u (a ∷ y) (b ∷ z) e = ap₂ (λ (x : Bool) (l : List ℕ). cond x b a ∷ l) (e 0) (mixed-same (λ i. t (suc i)) (λ i. u (suc i)) y z (λ i. e (suc i)))

pub mixed-none : (t : ℕ → Bool) (y z : List ℕ) → ((i : ℕ) → t i ≡ false) → mixed t y z ≡ y
unfolding mixed
mixed-none t [] z e = refl
mixed-none t (a ∷ y) [] e = refl
mixed-none t (a ∷ y) (b ∷ z) e = ap₂ (λ (x : Bool) (l : List ℕ). cond x b a ∷ l) (e 0) (mixed-none (λ i. t (suc i)) y z (λ i. e (suc i)))

-- one exchange after another
pub mixed-twice : (s t : ℕ → Bool) (y z : List ℕ) → mixed s (mixed t y z) (mixed t z y) ≡ mixed (λ i. exactly_one (s i) (t i)) y z
unfolding mixed
mixed-twice s t [] [] = refl
mixed-twice s t [] (b ∷ z) = refl
mixed-twice s t (a ∷ y) [] = refl
mixed-twice s t (a ∷ y) (b ∷ z) = ap₂ ◌∷◌ (go (s 0) (t 0)) (mixed-twice (λ i. s (suc i)) (λ i. t (suc i)) y z)
  where
    go : (u v : Bool) → cond u (cond v a b) (cond v b a) ≡ cond (exactly_one u v) b a
    go true true = refl
    go true false = refl
    go false v = refl

-- the same exchange twice
pub mixed-back : (t : ℕ → Bool) (y z : List ℕ) → mixed t (mixed t y z) (mixed t z y) ≡ y
mixed-back t y z = mixed-twice t t y z ∙ mixed-none (λ i. exactly_one (t i) (t i)) y z (λ i. go (t i))
  where
    go : (u : Bool) → exactly_one u u ≡ false
    go true = refl
    go false = refl

-- ---- a byte

pub mixed-at : (t : ℕ → Bool) (i : ℕ) (y z : List ℕ) → t i ≡ false → get_or (mixed t y z) i 0 ≡ get_or y i 0
unfolding mixed
mixed-at t i [] z e = refl
mixed-at t i (a ∷ y) [] e = refl
mixed-at t zero (a ∷ y) (b ∷ z) e = rw e
mixed-at t (suc i) (a ∷ y) (b ∷ z) e = mixed-at (λ j. t (suc j)) i y z e

-- one byte more: of two tests that differ at place i alone
pub mixed-more : (t u : ℕ → Bool) (i : ℕ) (y z : List ℕ) → i < length y → i < length z → u i ≡ true → ((j : ℕ) → ¬ (j ≡ i) → t j ≡ u j) → set (mixed t y z) i (get_or z i 0) ≡ mixed u y z
unfolding mixed
mixed-more t u i [] z h g e f = absurd (omega arith)
mixed-more t u i (a ∷ y) [] h g e f = absurd (omega arith)
mixed-more t u zero (a ∷ y) (b ∷ z) h g e f = rw e (ap (λ (l : List ℕ). b ∷ l) (mixed-same (λ j. t (suc j)) (λ j. u (suc j)) y z (λ j. f (suc j) (λ q. absurd (omega arith)))))
mixed-more t u (suc i) (a ∷ y) (b ∷ z) h g e f =
    ap₂ (λ (x : Bool) (l : List ℕ). cond x b a ∷ l) (f 0 (λ q. absurd (omega arith)))
    (mixed-more (λ j. t (suc j)) (λ j. u (suc j)) i y z (omega arith) (omega arith) e (λ j n. f (suc j) (λ q. n (omega arith))))

-- ---- a part

mixed-nil : (t : ℕ → Bool) (y : List ℕ) → mixed t y [] ≡ y
unfolding mixed
mixed-nil t [] = refl
mixed-nil t (a ∷ y) = refl

mixed-drop : (t : ℕ → Bool) (k : ℕ) (y z : List ℕ) → drop k (mixed t y z) ≡ mixed (λ i. t (k + i)) (drop k y) (drop k z)
unfolding mixed
mixed-drop t zero y z = mixed-same t (λ i. t (0 + i)) y z (λ i. ap t (sym (zero-add i)))
mixed-drop t (suc k) [] z = refl
mixed-drop t (suc k) (a ∷ y) [] = sym (mixed-nil (λ i. t (suc k + i)) (drop k y))
mixed-drop t (suc k) (a ∷ y) (b ∷ z) =
    mixed-drop (λ i. t (suc i)) k y z
    ∙ mixed-same (λ i. t (suc (k + i))) (λ i. t (suc k + i)) (drop k y) (drop k z) (λ i. let e : suc (k + i) ≡ suc k + i = omega arith in ap t e)

first_of : (t : ℕ → Bool) (n : ℕ) (y z : List ℕ) → ((i : ℕ) → i < n → t i ≡ false) → take n (mixed t y z) ≡ take n y
unfolding mixed
first_of t zero y z e = refl
first_of t (suc n) [] z e = refl
first_of t (suc n) (a ∷ y) [] e = refl
first_of t (suc n) (a ∷ y) (b ∷ z) e =
    ap₂ (λ (x : Bool) (l : List ℕ). cond x b a ∷ l) (e 0 (omega arith)) (first_of (λ i. t (suc i)) n y z (λ i h. e (suc i) (omega arith)))

second-of : (t : ℕ → Bool) (n : ℕ) (y z : List ℕ) → length y ≡ length z → ((i : ℕ) → i < n → t i ≡ true) → take n (mixed t y z) ≡ take n z
unfolding mixed
second-of t zero y z l e = refl
second-of t (suc n) [] [] l e = refl
second-of t (suc n) [] (b ∷ z) l e = absurd (omega arith)
second-of t (suc n) (a ∷ y) [] l e = absurd (omega arith)
second-of t (suc n) (a ∷ y) (b ∷ z) l e =
    ap₂ (λ (x : Bool) (m : List ℕ). cond x b a ∷ m) (e 0 (omega arith)) (second-of (λ i. t (suc i)) n y z (omega arith) (λ i h. e (suc i) (omega arith)))

-- n bytes from place k on, all of the one or all of the other
pub part-first : (t : ℕ → Bool) (k n : ℕ) (y z : List ℕ) → ((i : ℕ) → k ≤ i → i < k + n → t i ≡ false) → take n (drop k (mixed t y z)) ≡ take n (drop k y)
part-first t k n y z e = ap (take n) (mixed-drop t k y z) ∙ first_of (λ i. t (k + i)) n (drop k y) (drop k z) (λ i h. e (k + i) (omega arith) (omega arith))

pub part-second : (t : ℕ → Bool) (k n : ℕ) (y z : List ℕ) → length y ≡ length z → ((i : ℕ) → k ≤ i → i < k + n → t i ≡ true) → take n (drop k (mixed t y z)) ≡ take n (drop k z)
part-second t k n y z l e =
    ap (take n) (mixed-drop t k y z)
    ∙ second-of (λ i. t (k + i)) n (drop k y) (drop k z) (length-drop k y ∙ ap (λ (m : ℕ). m - k) l ∙ sym (length-drop k z)) (λ i h. e (k + i) (omega arith) (omega arith))
