-- Monic polynomials as the list of their lower coefficients, constant first, and what they do to power sums.
use mathlib.Core.Path.{◌≡◌, refl, sym, ◌∙◌, ap}
use mathlib.Core.List.{List, [], ◌∷◌}
use Prim.Native.Nat.{ℕ, suc, ◌+◌, ◌≤◌, ◌<◌}
use native.Mathlib.Omega.{arith}
use lib.ListN.{length}
use Rattle.algebra.specs.Places.{All}
use Rattle.algebra.proofs.Places.{all_both}
use Rattle.algebra.proofs.Field.{Field, ring, cancel, mul_inv_cancel}
use Rattle.algebra.proofs.PowerSums.{pow, power_sum, Distinct, vanish, sum-raise}

module _ (𝓕 : Field) where
  infixl 65 ◌⊕◌
  infixl 70 ◌⊗◌
  open 𝓕 use {F, 𝟘, 𝟙, add as ◌⊕◌, mul as ◌⊗◌, inv, one-ne}

  -- c0 + c1 x + .. + x^(length c).
  abbrev pub monic : List F → F → F
  monic [] x = 𝟙
  monic (c ∷ cs) x = c ⊕ (x ⊗ monic cs x)

  -- The same combination of a sequence, from j on.
  abbrev pub combine : List F → (ℕ → F) → ℕ → F
  combine [] t j = t j
  combine (c ∷ cs) t j = (c ⊗ t j) ⊕ combine cs t (suc j)

  one-step : (a p t s : F) → t ≡ s → ((a ⊗ 𝟙) ⊗ p) ⊕ t ≡ (a ⊗ p) ⊕ s
  one-step a p t s e = rw e (simp ring)

  combine-step : (a c x m p t u s : F) → t ≡ (c ⊗ u) ⊕ s
      → ((a ⊗ (c ⊕ (x ⊗ m))) ⊗ p) ⊕ t ≡ (c ⊗ ((a ⊗ p) ⊕ u)) ⊕ (((a ⊗ m) ⊗ (x ⊗ p)) ⊕ s)
  combine-step a c x m p t u s e = rw e (simp ring)

  combine-nil : (c : F) → 𝟘 ≡ (c ⊗ 𝟘) ⊕ 𝟘
  combine-nil c = simp ring

  -- Division by x - r: the quotient of c0 + x cs is again monic.
  abbrev pub quotient : F → List F → List F
  quotient r [] = []
  quotient r (c ∷ cs) = monic (c ∷ cs) r ∷ quotient r cs

  pub length-quotient : (r : F) (cs : List F) → length (quotient r cs) ≡ length cs
  length-quotient r [] = refl
  length-quotient r (c ∷ cs) = ap suc (length-quotient r cs)

  divide-nil : (c x r : F) → c ⊕ (x ⊗ 𝟙) ≡ ((x ⊕ r) ⊗ 𝟙) ⊕ (c ⊕ (r ⊗ 𝟙))
  divide-nil c x r = simp ring

  divide-step : (c x r m q n : F) → m ≡ ((x ⊕ r) ⊗ q) ⊕ n → c ⊕ (x ⊗ m) ≡ ((x ⊕ r) ⊗ (n ⊕ (x ⊗ q))) ⊕ (c ⊕ (r ⊗ n))
  divide-step c x r m q n e = rw e (simp ring)

  pub divide : (x r c : F) (cs : List F) → monic (c ∷ cs) x ≡ ((x ⊕ r) ⊗ monic (quotient r cs) x) ⊕ monic (c ∷ cs) r
  divide x r c [] = divide-nil c x r
  divide x r c (c1 ∷ cs) = divide-step c x r _ _ _ (divide x r c1 cs)

  root-step : (m x r q n : F) → m ≡ ((x ⊕ r) ⊗ q) ⊕ n → n ≡ 𝟘 → m ≡ 𝟘 → q ⊗ (x ⊕ r) ≡ 𝟘
  root-step m x r q n e f g = let w : q ⊗ (x ⊕ r) ≡ ((x ⊕ r) ⊗ q) ⊕ 𝟘 = simp ring in w ∙ ap (λ (t : F). ((x ⊕ r) ⊗ q) ⊕ t) (sym f) ∙ sym e ∙ g

  module _ (X : ℕ → F) where
    sum_one : (is : List ℕ) (y : ℕ → F) (j : ℕ) → power_sum 𝓕 X is (λ i. y i ⊗ 𝟙) j ≡ power_sum 𝓕 X is y j
    sum_one [] y j = refl
    sum_one (i ∷ is) y j = one-step (y i) (pow 𝓕 (X i) j) _ _ (sum_one is y j)

    sum-cons : (c : F) (g : F → F) (is : List ℕ) (y : ℕ → F) (j : ℕ)
        → power_sum 𝓕 X is (λ i. y i ⊗ (c ⊕ (X i ⊗ g (X i)))) j ≡ (c ⊗ power_sum 𝓕 X is y j) ⊕ power_sum 𝓕 X is (λ i. y i ⊗ g (X i)) (suc j)
    sum-cons c g [] y j = combine-nil c
    sum-cons c g (i ∷ is) y j = combine-step (y i) c (X i) (g (X i)) (pow 𝓕 (X i) j) _ _ _ (sum-cons c g is y j)

    -- (F) The sums combined by a polynomial's coefficients are the sums of the weights times its values.
    pub sum-combine : (c : List F) (is : List ℕ) (y : ℕ → F) (j : ℕ)
        → power_sum 𝓕 X is (λ i. y i ⊗ monic c (X i)) j ≡ combine c (power_sum 𝓕 X is y) j
    sum-combine [] is y j = sum_one is y j
    sum-combine (c ∷ cs) is y j = sum-cons c (monic cs) is y j ∙ ap (λ (t : F). (c ⊗ power_sum 𝓕 X is y j) ⊕ t) (sum-combine cs is y (suc j))

    -- (K) A polynomial that kills as many sums, from the first on, as there are places kills each weight.
    pub key : (c : List F) (is : List ℕ) (y : ℕ → F) → Distinct 𝓕 X is → All (λ i. ¬ (X i ≡ 𝟘)) is
        → ((j : ℕ) → j < length is → combine c (power_sum 𝓕 X is y) (suc j) ≡ 𝟘)
        → All (λ i. y i ⊗ monic c (X i) ≡ 𝟘) is
    key c is y d n h =
        let w : ℕ → F = λ i. (y i ⊗ monic c (X i)) ⊗ X i in
        let zeros : All (λ i. (y i ⊗ monic c (X i)) ⊗ X i ≡ 𝟘) is =
        vanish 𝓕 X is (λ i. (y i ⊗ monic c (X i)) ⊗ X i) d (λ j l. sum-raise 𝓕 X is (λ i. y i ⊗ monic c (X i)) j ∙ sum-combine c is y (suc j) ∙ h j l) in
        all_both _ _ _ (λ i e m. mul_inv_cancel 𝓕 (y i ⊗ monic c (X i)) (X i) m e) is zeros n

    -- (R) A monic polynomial has no more distinct roots than its degree.
    pub roots : (c : List F) (is : List ℕ) → Distinct 𝓕 X is → All (λ i. monic c (X i) ≡ 𝟘) is → length is ≤ length c
    roots c [] d r = omega arith
    roots [] (i ∷ is) d r = absurd (one-ne r.0)
    roots (c ∷ cs) (i ∷ is) d r =
        let rest : All (λ k. monic (quotient (X i) cs) (X k) ≡ 𝟘) is =
        all_both _ _ _ (λ k e n. cancel 𝓕 (monic (quotient (X i) cs) (X k)) (X k) (X i) n (root-step _ _ _ _ _ (divide (X k) (X i) c cs) r.0 e)) is r.1 d.0 in
        let l : length is ≤ length (quotient (X i) cs) = roots (quotient (X i) cs) is d.1 rest in
        let q : length (quotient (X i) cs) ≡ length cs = length-quotient (X i) cs in
        omega arith
