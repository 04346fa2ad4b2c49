-- Marked places: the sums filtered by them locate the other errors, and the marked places' factors join the locator.
use mathlib.Core.Path.{◌≡◌, refl, sym, ◌∙◌, ap}
use mathlib.Core.List.{List, [], ◌∷◌}
use mathlib.Core.Bool.{not}
use Prim.Native.Nat.{ℕ, zero, suc, ◌+◌, ◌≤◌, ◌<◌}
use native.Mathlib.Omega.{arith}
use lib.ListN.{length}
use Rattle.algebra.specs.Places.{below, keep}
use Rattle.algebra.proofs.Field.{Field, ring, law-mul-assoc}
use Rattle.algebra.proofs.Polynomials.{monic, combine}
use Rattle.algebra.proofs.ErrorValues.{strip, weigh, weigh-factor, factor, strip-sum}
use Rattle.algebra.proofs.Codes.{zero?, CodeWord, sum_at, located, error-sum}

module _ (𝓕 : Field) where
  infixl 65 ◌⊕◌
  infixl 70 ◌⊗◌
  open 𝓕 use {F, 𝟘, 𝟙, add as ◌⊕◌, mul as ◌⊗◌, inv, zero-add}

  -- p plus (x - r) times the polynomial.
  abbrev pub times_from : F → F → List F → List F
  times_from p r [] = (p ⊕ r) ∷ []
  times_from p r (c ∷ cs) = (p ⊕ (r ⊗ c)) ∷ times_from c r cs

  times-nil : (p r x : F) → (p ⊕ r) ⊕ (x ⊗ 𝟙) ≡ p ⊕ ((x ⊕ r) ⊗ 𝟙)
  times-nil p r x = simp ring

  times-step : (p r x c m t : F) → t ≡ c ⊕ ((x ⊕ r) ⊗ m) → (p ⊕ (r ⊗ c)) ⊕ (x ⊗ t) ≡ p ⊕ ((x ⊕ r) ⊗ (c ⊕ (x ⊗ m)))
  times-step p r x c m t e = rw e (simp ring)

  pub times-monic : (p r x : F) (cs : List F) → monic 𝓕 (times_from p r cs) x ≡ p ⊕ ((x ⊕ r) ⊗ monic 𝓕 cs x)
  times-monic p r x [] = times-nil p r x
  times-monic p r x (c ∷ cs) = times-step p r x c (monic 𝓕 cs x) _ (times-monic c r x cs)

  pub times-length : (p r : F) (cs : List F) → length (times_from p r cs) ≡ suc (length cs)
  times-length p r [] = refl
  times-length p r (c ∷ cs) = ap suc (times-length c r cs)

  module _ (X : ℕ → F) where
    abbrev pub with_marks : List ℕ → List F → List F
    with_marks [] c = c
    with_marks (k ∷ ks) c = times_from 𝟘 (X k) (with_marks ks c)

    pub marks-length : (ks : List ℕ) (c : List F) → length (with_marks ks c) ≡ length ks + length c
    marks-length [] c = omega arith
    marks-length (k ∷ ks) c = let a : length (times_from 𝟘 (X k) (with_marks ks c)) ≡ suc (length (with_marks ks c)) = times-length 𝟘 (X k) (with_marks ks c) in
        let b : length (with_marks ks c) ≡ length ks + length c = marks-length ks c in omega arith

    pub marks-monic : (ks : List ℕ) (c : List F) (i : ℕ) → monic 𝓕 (with_marks ks c) (X i) ≡ factor 𝓕 X ks i ⊗ monic 𝓕 c (X i)
    marks-monic [] c i = sym (Field.one-mul 𝓕 (monic 𝓕 c (X i)))
    marks-monic (k ∷ ks) c i =
        times-monic 𝟘 (X k) (X i) (with_marks ks c) ∙ zero-add _
        ∙ ap (λ (t : F). (X i ⊕ X k) ⊗ t) (marks-monic ks c i) ∙ sym (law-mul-assoc 𝓕 _ _ _)

    module _ (n : ℕ) (apart : (i k : ℕ) → i < n → k < i → ¬ (X k ≡ X i)) (points : (i : ℕ) → i < n → ¬ (X i ≡ 𝟘)) where
      -- s marked places and at most h further errors, 2 h + s at most 8: the locator with the marks is zero at every error.
      pub marked : (ks : List ℕ) (w v : ℕ → F) → CodeWord 𝓕 X n apart points v → (h m : ℕ) → m + length ks ≡ 8 → h + h ≤ m
          → length (keep (λ i. not (zero? 𝓕 (weigh 𝓕 X ks (λ i. w i ⊕ v i) i))) (below n)) ≤ h
          → (c : List F) → length c ≤ h → ((j : ℕ) → j < h → combine 𝓕 c (strip 𝓕 X ks (sum_at 𝓕 X n apart points w)) (suc j) ≡ 𝟘)
          → (i : ℕ) → i < n → (w i ⊕ v i) ⊗ monic 𝓕 (with_marks ks c) (X i) ≡ 𝟘
      marked ks w v cv h m e hm few c small kills i l =
          ap (λ (t : F). (w i ⊕ v i) ⊗ t) (marks-monic ks c i)
          ∙ sym (law-mul-assoc 𝓕 _ _ _)
          ∙ ap (λ (t : F). t ⊗ monic 𝓕 c (X i)) (sym (weigh-factor 𝓕 X ks (λ i. w i ⊕ v i) i))
          ∙ located 𝓕 X n apart points (strip 𝓕 X ks (sum_at 𝓕 X n apart points w)) (weigh 𝓕 X ks (λ i. w i ⊕ v i)) h m
          (λ j b. strip-sum 𝓕 X ks (below n) (sum_at 𝓕 X n apart points w) (λ i. w i ⊕ v i) 8 (error-sum 𝓕 X n apart points w v cv) j (omega arith))
          hm few c small kills i l
