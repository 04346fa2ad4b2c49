-- The weight at one of several known places, from the power sums: the sums filtered by the other places.
use mathlib.Core.Path.{◌≡◌, sym, ◌∙◌, ap}
use mathlib.Core.List.{List, [], ◌∷◌, ◌++◌}
use Prim.Native.Nat.{ℕ, zero, suc, ◌+◌, ◌<◌}
use native.Mathlib.Omega.{arith}
use lib.ListN.{length}
use Rattle.algebra.specs.Places.{All}
use Rattle.algebra.proofs.Places.{all_map, all_back}
use Rattle.algebra.proofs.Field.{Field, ring, cancel, mul_inv_cancel, law-mul-comm, mul-zero, mul-one}
use Rattle.algebra.proofs.PowerSums.{pow, power_sum, Distinct, sum-filter, sum-none}

module _ (𝓕 : Field) where
  infixl 65 ◌⊕◌
  infixl 70 ◌⊗◌
  open 𝓕 use {F, 𝟘, 𝟙, add as ◌⊕◌, mul as ◌⊗◌, inv, one-ne, inv-mul, dec, zero-add}

  weight-step : (a x k f : F) → (a ⊗ (x ⊕ k)) ⊗ f ≡ a ⊗ ((x ⊕ k) ⊗ f)
  weight-step a x k f = simp ring

  self-step : (x f : F) → (x ⊕ x) ⊗ f ≡ 𝟘
  self-step x f = simp ring

  skip-sum : (a p s t : F) → a ≡ 𝟘 → s ≡ t → (a ⊗ p) ⊕ s ≡ t
  skip-sum a p s t e q = rw (e, q) (simp ring)

  last_sum : (a p s : F) → s ≡ 𝟘 → (a ⊗ p) ⊕ s ≡ a ⊗ p
  last_sum a p s e = rw e (simp ring)

  solve-step : (a x f t : F) → ¬ (x ⊗ f ≡ 𝟘) → t ≡ (a ⊗ f) ⊗ (x ⊗ 𝟙) → t ⊗ inv (x ⊗ f) ≡ a
  solve-step a x f t n e =
      ap (λ (u : F). u ⊗ inv (x ⊗ f)) e
      ∙ (let w : ((a ⊗ f) ⊗ (x ⊗ 𝟙)) ⊗ inv (x ⊗ f) ≡ a ⊗ (inv (x ⊗ f) ⊗ (x ⊗ f)) = simp ring in w)
      ∙ ap (λ (u : F). a ⊗ u) (inv-mul (x ⊗ f) n) ∙ mul-one 𝓕 a

  module _ (X : ℕ → F) where
    -- The sequence filtered by the places' points, one after another.
    abbrev pub strip : List ℕ → (ℕ → F) → ℕ → F
    strip [] t j = t j
    strip (k ∷ ks) t j = strip ks (λ i. t (suc i) ⊕ (X k ⊗ t i)) j

    -- The weights after the same.
    abbrev pub weigh : List ℕ → (ℕ → F) → ℕ → F
    weigh [] y i = y i
    weigh (k ∷ ks) y i = weigh ks (λ i. y i ⊗ (X i ⊕ X k)) i

    abbrev pub factor : List ℕ → ℕ → F
    factor [] i = 𝟙
    factor (k ∷ ks) i = (X i ⊕ X k) ⊗ factor ks i

    pub weigh-factor : (ks : List ℕ) (y : ℕ → F) (i : ℕ) → weigh ks y i ≡ y i ⊗ factor ks i
    weigh-factor [] y i = sym (mul-one 𝓕 (y i))
    weigh-factor (k ∷ ks) y i = weigh-factor ks (λ i. y i ⊗ (X i ⊕ X k)) i ∙ weight-step (y i) (X i) (X k) (factor ks i)

    pub strip-sum : (ks is : List ℕ) (t y : ℕ → F) (m : ℕ) → ((j : ℕ) → j < m → t (suc j) ≡ power_sum 𝓕 X is y (suc j))
        → (j : ℕ) → j + length ks < m → strip ks t (suc j) ≡ power_sum 𝓕 X is (weigh ks y) (suc j)
    strip-sum [] is t y m e j l = e j (omega arith)
    strip-sum (k ∷ ks) is t y zero e j l = absurd (omega arith)
    strip-sum (k ∷ ks) is t y (suc m) e j l =
        strip-sum ks is (λ i. t (suc i) ⊕ (X k ⊗ t i)) (λ i. y i ⊗ (X i ⊕ X k)) m
        (λ i b. (let p : t (suc (suc i)) ≡ power_sum 𝓕 X is y (suc (suc i)) = e (suc i) (omega arith) in
        let q : t (suc i) ≡ power_sum 𝓕 X is y (suc i) = e i (omega arith) in
        rw (p, q) (sym (sum-filter 𝓕 X (X k) is y (suc i)))))
        j (omega arith)

    pub sum-only : (pre post : List ℕ) (i : ℕ) (z : ℕ → F) (j : ℕ) → All (λ k. z k ≡ 𝟘) (pre ++ post)
        → power_sum 𝓕 X (pre ++ i ∷ post) z j ≡ z i ⊗ pow 𝓕 (X i) j
    sum-only [] post i z j a = last_sum _ _ _ (sum-none 𝓕 X post z j a)
    sum-only (k ∷ pre) post i z j a = skip-sum _ _ _ _ a.0 (sum-only pre post i z j a.1)

    pub factor-at : (ks : List ℕ) → All (λ k. factor ks k ≡ 𝟘) ks
    factor-at [] = tt
    factor-at (k ∷ ks) = (self-step (X k) (factor ks k), all_map _ _ (λ i e. ap (λ (u : F). (X i ⊕ X k) ⊗ u) e ∙ mul-zero 𝓕 (X i ⊕ X k)) ks (factor-at ks))

    pub factor-off : (ks : List ℕ) (i : ℕ) → All (λ k. ¬ (X k ≡ X i)) ks → ¬ (factor ks i ≡ 𝟘)
    factor-off [] i a e = one-ne e
    factor-off (k ∷ ks) i a e = factor-off ks i a.1 (cancel 𝓕 (factor ks i) (X i) (X k) (λ q. a.0 (sym q)) (law-mul-comm 𝓕 _ _ ∙ e))

    pub others_apart : (pre post : List ℕ) (i : ℕ) → Distinct 𝓕 X (pre ++ i ∷ post) → All (λ k. ¬ (X k ≡ X i)) (pre ++ post)
    others_apart [] post i d = d.0
    others_apart (k ∷ pre) post i d = ((λ e. (all_back _ pre (i ∷ post) d.0).0 (sym e)), others_apart pre post i d.1)

    -- (V) The weight at place i, one of at most m places, from the sums 1 to m.
    pub value : (pre post : List ℕ) (i : ℕ) (t y : ℕ → F) (m : ℕ) → Distinct 𝓕 X (pre ++ i ∷ post) → ¬ (X i ≡ 𝟘)
        → length (pre ++ post) < m → ((j : ℕ) → j < m → t (suc j) ≡ power_sum 𝓕 X (pre ++ i ∷ post) y (suc j))
        → strip (pre ++ post) t 1 ⊗ inv (X i ⊗ factor (pre ++ post) i) ≡ y i
    value pre post i t y m d n l e =
        let ks : List ℕ = pre ++ post in
        let f : ¬ (factor (pre ++ post) i ≡ 𝟘) = factor-off (pre ++ post) i (others_apart pre post i d) in
        let g : ¬ (X i ⊗ factor (pre ++ post) i ≡ 𝟘) = λ q. n (mul_inv_cancel 𝓕 (X i) (factor (pre ++ post) i) f q) in
        let z : All (λ k. weigh (pre ++ post) y k ≡ 𝟘) (pre ++ post) =
        all_map _ _ (λ k q. weigh-factor (pre ++ post) y k ∙ ap (λ (u : F). y k ⊗ u) q ∙ mul-zero 𝓕 (y k)) (pre ++ post) (factor-at (pre ++ post)) in
        solve-step (y i) (X i) (factor (pre ++ post) i) (strip (pre ++ post) t 1) g
        (strip-sum (pre ++ post) (pre ++ i ∷ post) t y m e 0 (omega arith)
        ∙ sum-only pre post i (weigh (pre ++ post) y) 1 z
        ∙ ap (λ (u : F). u ⊗ (X i ⊗ 𝟙)) (weigh-factor (pre ++ post) y i))
