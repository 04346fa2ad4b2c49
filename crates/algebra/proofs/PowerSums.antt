-- Weighted places and their power sums. A place i stands for the point X i of the field.
use mathlib.Core.Path.{◌≡◌, refl, sym, ◌∙◌}
use mathlib.Core.List.{List, [], ◌∷◌}
use Prim.Native.Nat.{ℕ, zero, suc, ◌<◌}
use native.Mathlib.Omega.{arith}
use lib.ListN.{length}
use Rattle.algebra.specs.Places.{All}
use Rattle.algebra.proofs.Places.{all_both}
use Rattle.algebra.proofs.Field.{Field, ring, cancel}

module _ (𝓕 : Field) where
  infixl 65 ◌⊕◌
  infixl 70 ◌⊗◌
  open 𝓕 use {F, 𝟘, 𝟙, add as ◌⊕◌, mul as ◌⊗◌, inv}

  abbrev pub pow : F → ℕ → F
  pow x zero = 𝟙
  pow x (suc n) = x ⊗ pow x n

  -- One step of each sum below, in the field alone.
  raise-step : (a x p t s : F) → t ≡ s → ((a ⊗ x) ⊗ p) ⊕ t ≡ (a ⊗ (x ⊗ p)) ⊕ s
  raise-step a x p t s e = rw e (simp ring)

  filter-step : (a x r p t s u : F) → t ≡ s ⊕ (r ⊗ u) → ((a ⊗ (x ⊕ r)) ⊗ p) ⊕ t ≡ ((a ⊗ (x ⊗ p)) ⊕ s) ⊕ (r ⊗ ((a ⊗ p) ⊕ u))
  filter-step a x r p t s u e = rw e (simp ring)

  filter-nil : (r : F) → 𝟘 ≡ 𝟘 ⊕ (r ⊗ 𝟘)
  filter-nil r = simp ring

  none-step : (a p t : F) → a ≡ 𝟘 → t ≡ 𝟘 → (a ⊗ p) ⊕ t ≡ 𝟘
  none-step a p t e f = rw (e, f) (simp ring)

  head_step : (a t : F) → t ≡ 𝟘 → (a ⊗ 𝟙) ⊕ t ≡ 𝟘 → a ≡ 𝟘
  head_step a t e h = sym (simp (e, ring)) ∙ h

  gone-step : (a x p q s u : F) → ((a ⊗ (x ⊗ p)) ⊕ s) ≡ 𝟘 → ((a ⊗ p) ⊕ u) ≡ 𝟘 → q ≡ s ⊕ (x ⊗ u) → q ≡ 𝟘
  gone-step a x p q s u e f g =
      g ∙ (let w : s ⊕ (x ⊗ u) ≡ ((a ⊗ (x ⊗ p)) ⊕ s) ⊕ (x ⊗ ((a ⊗ p) ⊕ u)) = simp ring in w) ∙ (rw (e, f) (simp ring))

  module _ (X : ℕ → F) where
    -- The sum of y i times (X i) to the j over the places of a list.
    abbrev pub power_sum : List ℕ → (ℕ → F) → ℕ → F
    power_sum [] y j = 𝟘
    power_sum (i ∷ is) y j = (y i ⊗ pow (X i) j) ⊕ power_sum is y j

    -- The places stand for distinct points.
    abbrev pub Distinct : List ℕ → Type 0
    Distinct [] = Unit {0}
    Distinct (i ∷ is) = All (λ k. ¬ (X k ≡ X i)) is × Distinct is

    pub sum-raise : (is : List ℕ) (y : ℕ → F) (j : ℕ) → power_sum is (λ k. y k ⊗ X k) j ≡ power_sum is y (suc j)
    sum-raise [] y j = refl
    sum-raise (i ∷ is) y j = raise-step (y i) (X i) (pow (X i) j) _ _ (sum-raise is y j)

    -- The sums, filtered by one point r: that point's weight is gone.
    pub sum-filter : (r : F) (is : List ℕ) (y : ℕ → F) (j : ℕ)
        → power_sum is (λ k. y k ⊗ (X k ⊕ r)) j ≡ power_sum is y (suc j) ⊕ (r ⊗ power_sum is y j)
    sum-filter r [] y j = filter-nil r
    sum-filter r (i ∷ is) y j = filter-step (y i) (X i) r (pow (X i) j) _ _ _ (sum-filter r is y j)

    pub sum-none : (is : List ℕ) (y : ℕ → F) (j : ℕ) → All (λ i. y i ≡ 𝟘) is → power_sum is y j ≡ 𝟘
    sum-none [] y j a = refl
    sum-none (i ∷ is) y j a = none-step (y i) (pow (X i) j) _ a.0 (sum-none is y j a.1)

    -- As many zero sums as places: every weight is zero.
    pub vanish : (is : List ℕ) (y : ℕ → F) → Distinct is → ((j : ℕ) → j < length is → power_sum is y j ≡ 𝟘) → All (λ i. y i ≡ 𝟘) is
    vanish [] y d h = tt
    vanish (i ∷ is) y d h =
        let below : (j : ℕ) → j < length is → power_sum is (λ k. y k ⊗ (X k ⊕ X i)) j ≡ 𝟘 =
        λ j l. gone-step (y i) (X i) (pow (X i) j) _ _ _ (h (suc j) (omega arith)) (h j (omega arith)) (sum-filter (X i) is y j) in
        let rest : All (λ k. y k ⊗ (X k ⊕ X i) ≡ 𝟘) is = vanish is (λ k. y k ⊗ (X k ⊕ X i)) d.1 below in
        let zeros : All (λ k. y k ≡ 𝟘) is = all_both _ _ _ (λ k e n. cancel 𝓕 (y k) (X k) (X i) n e) is rest d.0 in
        (head_step (y i) _ (sum-none is y 0 zeros) (h 0 (omega arith)), zeros)
