-- Words over n places, code words, their distance; that the code word near a word is unique, and how it is found.
use mathlib.Core.Path.{◌≡◌, refl, sym, ◌∙◌, ap}
use mathlib.Core.List.{List, [], ◌∷◌, ◌++◌}
use mathlib.Core.Bool.{Bool, true, false, not}
use Prim.Native.Nat.{ℕ, zero, suc, ◌+◌, ◌≤◌, ◌<◌}
use native.Mathlib.Omega.{arith}
use lib.ListN.{length, length-append}
use Rattle.algebra.specs.Places.{All, below, cons_if, keep}
use Rattle.algebra.proofs.Places.{all_map, all_both, all-below, below_all, keep_all, kept}
use Rattle.algebra.proofs.Field.{Field, ring, mul_inv_cancel, sum-zero}
use Rattle.algebra.proofs.PowerSums.{pow, power_sum, Distinct, vanish, sum-raise}
use Rattle.algebra.proofs.Polynomials.{monic, combine, key, roots}
use Rattle.algebra.proofs.Elimination.{combine-agree}
use Rattle.algebra.proofs.ErrorValues.{strip, factor, value}

module _ (𝓕 : Field) where
  infixl 65 ◌⊕◌
  infixl 70 ◌⊗◌
  open 𝓕 use {F, 𝟘, 𝟙, add as ◌⊕◌, mul as ◌⊗◌, inv, one-ne, inv-mul, dec, zero-add}

  abbrev pub is_yes : {P : Type 0} → Dec P → Bool
  is_yes (yes p) = true
  is_yes (no p) = false

  pub zero? : F → Bool
  zero? x = is_yes (dec x 𝟘)

  pub zero-true : (x : F) → zero? x ≡ true → x ≡ 𝟘
  unfolding zero?
  zero-true x = go (dec x 𝟘)
    where
      go : (d : Dec (x ≡ 𝟘)) → is_yes d ≡ true → x ≡ 𝟘
      go (yes p) e = p
      go (no p) e = let z : ◌≡◌ {A = ℕ} 0 1 = cc in absurd (omega arith)

  pub true-zero : (x : F) → x ≡ 𝟘 → zero? x ≡ true
  unfolding zero?
  true-zero x h = go (dec x 𝟘)
    where
      go : (d : Dec (x ≡ 𝟘)) → is_yes d ≡ true
      go (yes p) = refl
      go (no p) = absurd (p h)

  pub not-false : (x : F) → not (zero? x) ≡ false → x ≡ 𝟘
  not-false x = go (zero? x) refl
    where
      go : (b : Bool) → zero? x ≡ b → not b ≡ false → x ≡ 𝟘
      go true q e = zero-true x q
      go false q e = let z : ◌≡◌ {A = ℕ} 0 1 = cc in absurd (omega arith)

  add_step : (a b p t u v : F) → t ≡ u ⊕ v → ((a ⊕ b) ⊗ p) ⊕ t ≡ ((a ⊗ p) ⊕ u) ⊕ ((b ⊗ p) ⊕ v)
  add_step a b p t u v e = rw e (simp ring)

  drop-step : (a p t : F) → a ≡ 𝟘 → t ≡ (a ⊗ p) ⊕ t
  drop-step a p t e = rw e (simp ring)

  module _ (X : ℕ → F) where
    pub sum-add : (is : List ℕ) (u v : ℕ → F) (j : ℕ) → power_sum 𝓕 X is (λ i. u i ⊕ v i) j ≡ power_sum 𝓕 X is u j ⊕ power_sum 𝓕 X is v j
    sum-add [] u v j = sym (zero-add 𝟘)
    sum-add (i ∷ is) u v j = add_step (u i) (v i) (pow 𝓕 (X i) j) _ _ _ (sum-add is u v j)

    -- Places of no weight may be left out.
    pub sum-keep : (t : ℕ → Bool) (is : List ℕ) (y : ℕ → F) (j : ℕ) → All (λ i. t i ≡ false → y i ≡ 𝟘) is
        → power_sum 𝓕 X (keep t is) y j ≡ power_sum 𝓕 X is y j
    sum-keep t [] y j a = refl
    sum-keep t (i ∷ is) y j a = go (t i) refl (sum-keep t is y j a.1)
      where
        go : (b : Bool) → t i ≡ b → power_sum 𝓕 X (keep t is) y j ≡ power_sum 𝓕 X is y j
            → power_sum 𝓕 X (cons_if b i (keep t is)) y j ≡ power_sum 𝓕 X (i ∷ is) y j
        go true e r = ap (λ (s : F). (y i ⊗ pow 𝓕 (X i) j) ⊕ s) r
        go false e r = r ∙ drop-step (y i) (pow 𝓕 (X i) j) _ (a.0 e)

    pub keep-distinct : (t : ℕ → Bool) (is : List ℕ) → Distinct 𝓕 X is → Distinct 𝓕 X (keep t is)
    keep-distinct t [] d = tt
    keep-distinct t (i ∷ is) d = go (t i) (keep-distinct t is d.1)
      where
        go : (b : Bool) → Distinct 𝓕 X (keep t is) → Distinct 𝓕 X (cons_if b i (keep t is))
        go true r = (keep_all t _ is d.0, r)
        go false r = r

    module _ (n : ℕ) (apart : (i k : ℕ) → i < n → k < i → ¬ (X k ≡ X i)) (points : (i : ℕ) → i < n → ¬ (X i ≡ 𝟘)) where
      distinct-below : (m : ℕ) → m ≤ n → Distinct 𝓕 X (below m)
      distinct-below zero l = tt
      distinct-below (suc m) l = (all-below _ m (λ k b. apart m k (omega arith) b), distinct-below m (omega arith))

      -- The sum of byte i times (X i) to the j, over all places.
      abbrev pub sum_at : (ℕ → F) → ℕ → F
      sum_at w j = power_sum 𝓕 X (below n) w j

      abbrev pub CodeWord : (ℕ → F) → Type 0
      CodeWord w = (j : ℕ) → j < 8 → sum_at w (suc j) ≡ 𝟘

      abbrev pub wrong : (ℕ → F) → (ℕ → F) → List ℕ
      wrong u v = keep (λ i. not (zero? (u i ⊕ v i))) (below n)

      unfoldable pub distance : (ℕ → F) → (ℕ → F) → ℕ
      distance u v = length (wrong u v)

      -- From the places kept, and those not kept, to all.
      pub unkeep : (P : ℕ → Type 0) (t : ℕ → Bool) (is : List ℕ) → All P (keep t is) → All (λ i. t i ≡ false → P i) is → All P is
      unkeep P t [] a b = tt
      unkeep P t (i ∷ is) a b = go (t i) refl a (λ r. unkeep P t is r b.1)
        where
          go : (c : Bool) → t i ≡ c → All P (cons_if c i (keep t is)) → (All P (keep t is) → All P is) → P i × All P is
          go true e r f = (r.0, f r.1)
          go false e r f = (b.0 e, f r)

      add_none : (a b : F) → b ≡ 𝟘 → a ⊕ b ≡ a
      add_none a b e = rw e (simp ring)

      -- The sums of a word are those of the wrong places alone, whichever code word it came from.
      pub wrong-sum : (w v : ℕ → F) → CodeWord v → (j : ℕ) → j < 8 → power_sum 𝓕 X (wrong w v) (λ i. w i ⊕ v i) (suc j) ≡ sum_at w (suc j)
      wrong-sum w v cv j l =
          sum-keep (λ i. not (zero? (w i ⊕ v i))) (below n) (λ i. w i ⊕ v i) (suc j) (all-below _ n (λ i b e. not-false (w i ⊕ v i) e))
          ∙ sum-add (below n) w v (suc j) ∙ add_none _ _ (cv j l)

      wrong-distinct : (w v : ℕ → F) → Distinct 𝓕 X (wrong w v)
      wrong-distinct w v = keep-distinct _ (below n) (distinct-below n (omega arith))

      wrong-points : (w v : ℕ → F) → All (λ i. ¬ (X i ≡ 𝟘)) (wrong w v)
      wrong-points w v = keep_all _ _ (below n) (all-below _ n points)

      -- (U) Two code words that differ in at most eight places are one.
      pub unique : (u v : ℕ → F) → CodeWord u → CodeWord v → distance u v ≤ 8 → (i : ℕ) → i < n → u i ≡ v i
      unfolding distance
      unique u v cu cv d =
          let y : ℕ → F = λ i. u i ⊕ v i in
          let zeros : All (λ i. (u i ⊕ v i) ⊗ X i ≡ 𝟘) (wrong u v) =
          vanish 𝓕 X (wrong u v) (λ i. (u i ⊕ v i) ⊗ X i) (wrong-distinct u v)
          (λ j l. sum-raise 𝓕 X (wrong u v) (λ i. u i ⊕ v i) j ∙ wrong-sum u v cv j (omega arith) ∙ cu j (omega arith)) in
          let same : All (λ i. u i ≡ v i) (wrong u v) =
          all_both _ _ _ (λ i e m. sum-zero 𝓕 (u i) (v i) (mul_inv_cancel 𝓕 (u i ⊕ v i) (X i) m e)) (wrong u v) zeros (wrong-points u v) in
          below_all _ n (unkeep _ (λ i. not (zero? (u i ⊕ v i))) (below n) same (all-below _ n (λ i b e. sum-zero 𝓕 _ _ (not-false _ e))))

      -- The sums of a word are those of its errors, whichever code word it came from.
      pub error-sum : (w v : ℕ → F) → CodeWord v → (j : ℕ) → j < 8 → sum_at w (suc j) ≡ power_sum 𝓕 X (below n) (λ i. w i ⊕ v i) (suc j)
      error-sum w v cv j l = sym (sum-add (below n) w v (suc j) ∙ add_none _ _ (cv j l))

      -- A polynomial that kills h sums of weights, of which at most h are not zero, is zero at each of those.
      -- With marked places, t is the word's sums filtered by them, and y the errors times the same factors.
      pub located : (t y : ℕ → F) (h m : ℕ) → ((j : ℕ) → j < m → t (suc j) ≡ power_sum 𝓕 X (below n) y (suc j)) → h + h ≤ m
          → length (keep (λ i. not (zero? (y i))) (below n)) ≤ h
          → (c : List F) → length c ≤ h → ((j : ℕ) → j < h → combine 𝓕 c t (suc j) ≡ 𝟘)
          → (i : ℕ) → i < n → y i ⊗ monic 𝓕 c (X i) ≡ 𝟘
      located t y h m e hm few c small kills =
          below_all _ n (unkeep _ (λ i. not (zero? (y i))) (below n)
          (key 𝓕 X c (keep (λ i. not (zero? (y i))) (below n)) y (keep-distinct _ (below n) (distinct-below n (omega arith))) (keep_all _ _ (below n) (all-below _ n points))
          (λ j l. combine-agree 𝓕 c (power_sum 𝓕 X (keep (λ i. not (zero? (y i))) (below n)) y) t (suc j)
          (λ i b. (let q : suc j + i ≡ suc (j + i) = omega arith in
          rw q (sum-keep (λ i. not (zero? (y i))) (below n) y (suc (j + i)) (all-below _ n (λ i b e. not-false (y i) e)) ∙ sym (e (j + i) (omega arith)))))
          ∙ kills j (omega arith)))
          (all-below _ n (λ i b e. ap (λ (t : F). t ⊗ monic 𝓕 c (X i)) (not-false _ e) ∙ Field.zero-mul 𝓕 _)))

      -- The places among the n at which the polynomial is zero: no more than its degree.
      abbrev pub zeros : List F → List ℕ
      zeros c = keep (λ i. zero? (monic 𝓕 c (X i))) (below n)

      pub few-zeros : (c : List F) → length (zeros c) ≤ length c
      few-zeros c = roots 𝓕 X c (zeros c) (keep-distinct _ (below n) (distinct-below n (omega arith)))
          (all_map _ _ (λ i e. zero-true _ e) (zeros c) (kept _ (below n)))

      -- A polynomial of degree at most eight that is zero at every wrong place gives the code word.
      module _ (w v : ℕ → F) (cv : CodeWord v) (c : List F) (small : length c ≤ 8)
          (locates : (i : ℕ) → i < n → (w i ⊕ v i) ⊗ monic 𝓕 c (X i) ≡ 𝟘) where
        unfound : (i : ℕ) → i < n → zero? (monic 𝓕 c (X i)) ≡ false → w i ⊕ v i ≡ 𝟘
        unfound i b e =
            mul_inv_cancel 𝓕 (w i ⊕ v i) (monic 𝓕 c (X i))
            (λ z. (let q : zero? (monic 𝓕 c (X i)) ≡ true = true-zero _ z in let f : true ≡ false = sym q ∙ e in let y : ◌≡◌ {A = ℕ} 0 1 = cc in omega arith))
            (locates i b)

        -- Where the polynomial is not zero, the word is right.
        pub right-elsewhere : (i : ℕ) → i < n → zero? (monic 𝓕 c (X i)) ≡ false → w i ≡ v i
        right-elsewhere i b e = sum-zero 𝓕 _ _ (unfound i b e)

        zeros-sum : (j : ℕ) → j < 8 → sum_at w (suc j) ≡ power_sum 𝓕 X (zeros c) (λ i. w i ⊕ v i) (suc j)
        zeros-sum j l =
            sym (sum-keep (λ i. zero? (monic 𝓕 c (X i))) (below n) (λ i. w i ⊕ v i) (suc j) (all-below _ n unfound)
            ∙ sum-add (below n) w v (suc j) ∙ add_none _ _ (cv j l))

        -- Where it is zero, the formula gives what is to be added.
        pub right-value : (pre post : List ℕ) (i : ℕ) → i < n → zeros c ≡ pre ++ i ∷ post
            → strip 𝓕 X (pre ++ post) (sum_at w) 1 ⊗ inv (X i ⊗ factor 𝓕 X (pre ++ post) i) ≡ w i ⊕ v i
        right-value pre post i b e =
            let d : Distinct 𝓕 X (pre ++ i ∷ post) = rw e at (keep-distinct (λ i. zero? (monic 𝓕 c (X i))) (below n) (distinct-below n (omega arith))) in
            let l : length (zeros c) ≤ length c = few-zeros c in
            let a : length (zeros c) ≡ length pre + suc (length post) = ap length e ∙ length-append pre (i ∷ post) in
            let o : length (pre ++ post) ≡ length pre + length post = length-append pre post in
            value 𝓕 X pre post i (sum_at w) (λ i. w i ⊕ v i) 8 d (points i b) (omega arith)
            (λ j m. (let z : sum_at w (suc j) ≡ power_sum 𝓕 X (zeros c) (λ i. w i ⊕ v i) (suc j) = zeros-sum j m in z ∙ ap (λ (is : List ℕ). power_sum 𝓕 X is (λ i. w i ⊕ v i) (suc j)) e))
