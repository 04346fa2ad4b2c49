-- Elimination, as far as the first column with no pivot. A row is a sequence; a monic polynomial kills it when its
-- combination at 0 is zero. What kills the reduced rows kills the rows they came from: nothing else is asked of the steps.
use mathlib.Core.Path.{◌≡◌, refl, sym, ◌∙◌, ap}
use mathlib.Core.List.{List, [], ◌∷◌}
use Prim.Native.Nat.{ℕ, zero, suc, ◌+◌, ◌≤◌, ◌<◌}
use native.Mathlib.Omega.{arith}
use native.Mathlib.Nat.{add-zero as nat-add-zero}
use native.Mathlib.Decide.{ℕ_discrete, dec_lt}
use lib.ListN.{length}
use Rattle.algebra.proofs.Field.{Field, ring, mul_inv_cancel, law-mul-comm, mul-zero}
use Rattle.algebra.proofs.Polynomials.{combine}

module _ (𝓕 : Field) where
  infixl 65 ◌⊕◌
  infixl 70 ◌⊗◌
  open 𝓕 use {F, 𝟘, 𝟙, add as ◌⊕◌, mul as ◌⊗◌, inv, one-ne, inv-mul}

  linear-step : (c r m p u v : F) → (c ⊗ (r ⊕ (m ⊗ p))) ⊕ (u ⊕ (m ⊗ v)) ≡ ((c ⊗ r) ⊕ u) ⊕ (m ⊗ ((c ⊗ p) ⊕ v))
  linear-step c r m p u v = simp ring

  scale-step : (c m p v : F) → (c ⊗ (m ⊗ p)) ⊕ (m ⊗ v) ≡ m ⊗ ((c ⊗ p) ⊕ v)
  scale-step c m p v = simp ring

  pub combine-add : (c : List F) (m : F) (r p : ℕ → F) (j : ℕ) → combine 𝓕 c (λ i. r i ⊕ (m ⊗ p i)) j ≡ combine 𝓕 c r j ⊕ (m ⊗ combine 𝓕 c p j)
  combine-add [] m r p j = refl
  combine-add (c ∷ cs) m r p j =
      ap (λ (t : F). (c ⊗ (r j ⊕ (m ⊗ p j))) ⊕ t) (combine-add cs m r p (suc j)) ∙ linear-step c (r j) m (p j) _ _

  pub combine-scale : (c : List F) (m : F) (p : ℕ → F) (j : ℕ) → combine 𝓕 c (λ i. m ⊗ p i) j ≡ m ⊗ combine 𝓕 c p j
  combine-scale [] m p j = refl
  combine-scale (c ∷ cs) m p j =
      ap (λ (t : F). (c ⊗ (m ⊗ p j)) ⊕ t) (combine-scale cs m p (suc j)) ∙ scale-step c m (p j) _

  -- Two sequences that agree where the combination looks.
  pub combine-agree : (c : List F) (t s : ℕ → F) (j : ℕ) → ((i : ℕ) → i ≤ length c → t (j + i) ≡ s (j + i)) → combine 𝓕 c t j ≡ combine 𝓕 c s j
  combine-agree [] t s j e = rw nat-add-zero at (e 0 (omega arith))
  combine-agree (c ∷ cs) t s j e =
      let head : t j ≡ s j = rw nat-add-zero at (e 0 (omega arith)) in
      let rest : combine 𝓕 cs t (suc j) ≡ combine 𝓕 cs s (suc j) =
      combine-agree cs t s (suc j) (λ i l. (let q : suc j + i ≡ j + suc i = omega arith in rw q (e (suc i) (omega arith)))) in
      cc

  pub combine-shift : (c : List F) (t : ℕ → F) (k j : ℕ) → combine 𝓕 c (λ i. t (k + i)) j ≡ combine 𝓕 c t (k + j)
  combine-shift [] t k j = refl
  combine-shift (c ∷ cs) t k j =
      ap (λ (u : F). (c ⊗ t (k + j)) ⊕ u) (combine-shift cs t k (suc j) ∙ ap (λ (q : ℕ). combine 𝓕 cs t q) (omega arith))

  -- The polynomial kills the row.
  abbrev pub Kills : List F → (ℕ → F) → Type 0
  Kills c r = combine 𝓕 c r 0 ≡ 𝟘

  unscale-step : (a b m : F) → ¬ (b ≡ 𝟘) → a ≡ inv b ⊗ m → a ≡ 𝟘 → m ≡ 𝟘
  unscale-step a b m n e z = mul_inv_cancel 𝓕 m (inv b) (λ i. one-ne (sym (inv-mul b n) ∙ ap (λ (t : F). t ⊗ b) i ∙ Field.zero-mul 𝓕 b)) (law-mul-comm 𝓕 m (inv b) ∙ sym e ∙ z)

  unadd-step : (a b m p : F) → a ≡ b ⊕ (m ⊗ p) → a ≡ 𝟘 → p ≡ 𝟘 → b ≡ 𝟘
  unadd-step a b m p e z q = let w : b ≡ b ⊕ (m ⊗ 𝟘) = simp ring in w ∙ ap (λ (t : F). b ⊕ (m ⊗ t)) (sym q) ∙ sym e ∙ z

  -- The row scaled by the inverse of b.
  abbrev pub scaled : F → (ℕ → F) → ℕ → F
  scaled b p i = inv b ⊗ p i

  -- The row with the pivot row's multiple added that clears column k.
  abbrev pub cleared : ℕ → (ℕ → F) → (ℕ → F) → ℕ → F
  cleared k p r i = r i ⊕ (r k ⊗ p i)

  pub kills-scaled : (c : List F) (b : F) (p : ℕ → F) → ¬ (b ≡ 𝟘) → Kills c (scaled b p) → Kills c p
  kills-scaled c b p n z = unscale-step (combine 𝓕 c (scaled b p) 0) b (combine 𝓕 c p 0) n (combine-scale c (inv b) p 0) z

  pub kills-cleared : (c : List F) (k : ℕ) (p r : ℕ → F) → Kills c p → Kills c (cleared k p r) → Kills c r
  kills-cleared c k p r q z = unadd-step (combine 𝓕 c (cleared k p r) 0) (combine 𝓕 c r 0) (r k) (combine 𝓕 c p 0) (combine-add c (r k) r p 0) z q

  -- h rows, the first k columns of which are those of the identity.
  pub record Reduced (h k : ℕ) (M : ℕ → ℕ → F) : Type 0 where
    pub diagonal : (c : ℕ) → c < k → M c c ≡ 𝟙
    pub elsewhere : (r c : ℕ) → r < h → c < k → ¬ (r ≡ c) → M r c ≡ 𝟘

  -- One column: M' comes from M by exchanging rows as s says, scaling row k, and clearing column k of the others.
  -- Entries are compared in the first w columns only.
  pub record Step (h w k : ℕ) (M M' : ℕ → ℕ → F) : Type 0 where
    pub s : ℕ → ℕ
    pub back : (r : ℕ) → s (s r) ≡ r
    pub inside : (r : ℕ) → r < h → s r < h
    pub fixed : (r : ℕ) → r < k → s r ≡ r
    pub column-inside : k < w
    pub row_inside : k < h
    pub pivot : ¬ (M (s k) k ≡ 𝟘)
    pub scales : (i : ℕ) → i < w → M' k i ≡ scaled (M (s k) k) (M (s k)) i
    pub clears : (r i : ℕ) → r < h → ¬ (r ≡ k) → i < w → M' r i ≡ cleared k (M' k) (M (s r)) i

  pub start : (h : ℕ) (M : ℕ → ℕ → F) → Reduced h 0 M
  start h M = record { diagonal = λ c l. absurd (omega arith); elsewhere = λ r c l m n. absurd (omega arith) }

  module _ (h w k : ℕ) (M M' : ℕ → ℕ → F) (e : Step h w k M M') where
    at-or-above : (r : ℕ) → k ≤ r → k ≤ e.s r
    at-or-above r l = go (dec_lt (e.s r) k)
      where
        go : Dec (e.s r < k) → k ≤ e.s r
        go (yes b) = let f : e.s (e.s r) ≡ e.s r = e.fixed (e.s r) b in
            let g : e.s (e.s r) ≡ r = e.back r in absurd (omega arith)
        go (no b) = omega arith

    pub kills-step : (c : List F) → length c < w → ((r : ℕ) → r < h → Kills c (M' r)) → (r : ℕ) → r < h → Kills c (M r)
    kills-step c l z r b = go (ℕ_discrete (e.s r) k)
      where
        pivot-row : Kills c (M (e.s k))
        pivot-row = kills-scaled c (M (e.s k) k) (M (e.s k)) e.pivot (sym (combine-agree c (M' k) (scaled (M (e.s k) k) (M (e.s k))) 0 (λ i m. e.scales (0 + i) (omega arith))) ∙ z k e.row_inside)

        go : Dec (e.s r ≡ k) → Kills c (M r)
        go (yes q) = let t : e.s k ≡ r = ap e.s (sym q) ∙ e.back r in rw t at pivot-row
        go (no q) =
            let t : Kills c (M (e.s (e.s r))) =
            kills-cleared c k (M' k) (M (e.s (e.s r))) (z k e.row_inside)
            (sym (combine-agree c (M' (e.s r)) (cleared k (M' k) (M (e.s (e.s r)))) 0 (λ i m. e.clears (e.s r) (0 + i) (e.inside r b) q (omega arith))) ∙ z (e.s r) (e.inside r b)) in
            rw (e.back r) at t

    one_entry : M' k k ≡ 𝟙
    one_entry = e.scales k e.column-inside ∙ inv-mul (M (e.s k) k) e.pivot

    clear-one : (a p : F) → p ≡ 𝟙 → a ⊕ (a ⊗ p) ≡ 𝟘
    clear-one a p q = rw q (simp ring)

    clear_none : (a m p : F) → p ≡ 𝟘 → a ⊕ (m ⊗ p) ≡ a
    clear_none a m p q = rw q (simp ring)

    pub reduced-step : k < h → h < w → Reduced h k M → Reduced h (suc k) M'
    reduced-step kh hw R = record {
      diagonal = λ c l. diag c l (ℕ_discrete c k);
      elsewhere = λ r c b l n. rest r c b l n (ℕ_discrete c k) (ℕ_discrete r k);
    }
      where
        pivot-left : (c : ℕ) → c < k → M' k c ≡ 𝟘
        pivot-left c l =
            let a : k ≤ e.s k = at-or-above k (omega arith) in
            e.scales c (omega arith) ∙ ap (λ (t : F). inv (M (e.s k) k) ⊗ t) (R.elsewhere (e.s k) c (e.inside k kh) l (λ q. omega arith)) ∙ mul-zero 𝓕 _

        left : (r c : ℕ) → r < h → c < k → ¬ (r ≡ k) → M' r c ≡ M (e.s r) c
        left r c b l n = e.clears r c b n (omega arith) ∙ clear_none _ _ _ (pivot-left c l)

        diag : (c : ℕ) → c < suc k → Dec (c ≡ k) → M' c c ≡ 𝟙
        diag c l (yes q) = rw q one_entry
        diag c l (no q) = left c c (omega arith) (omega arith) q ∙ (let f : e.s c ≡ c = e.fixed c (omega arith) in rw f (R.diagonal c (omega arith)))

        rest : (r c : ℕ) → r < h → c < suc k → ¬ (r ≡ c) → Dec (c ≡ k) → Dec (r ≡ k) → M' r c ≡ 𝟘
        rest r c b l n (yes q) (yes p) = absurd (n (p ∙ sym q))
        rest r c b l n (yes q) (no p) = rw q (e.clears r k b p e.column-inside ∙ clear-one _ _ one_entry)
        rest r c b l n (no q) (yes p) = rw p (pivot-left c (omega arith))
        rest r c b l n (no q) (no p) =
            left r c b (omega arith) p ∙ R.elsewhere (e.s r) c (e.inside r b) (omega arith)
            (λ z. n (sym (e.back r) ∙ ap e.s z ∙ e.fixed c (omega arith)))

  -- The end: column f has no pivot. The entries above it are the polynomial.
  abbrev pub column : (ℕ → ℕ → F) → ℕ → ℕ → ℕ → List F
  column M f k zero = []
  column M f k (suc n) = M k f ∷ column M f (suc k) n

  pub length-column : (M : ℕ → ℕ → F) (f k n : ℕ) → length (column M f k n) ≡ n
  length-column M f k zero = refl
  length-column M f k (suc n) = ap suc (length-column M f (suc k) n)

  skip_step : (a b u v : F) → b ≡ 𝟘 → u ≡ v → (a ⊗ b) ⊕ u ≡ v
  skip_step a b u v e q = rw (e, q) (simp ring)

  meet-step : (a b u : F) → b ≡ 𝟙 → u ≡ a → (a ⊗ b) ⊕ u ≡ 𝟘
  meet-step a b u e q = rw (e, q) (simp ring)

  outside : (M : ℕ → ℕ → F) (r f k n : ℕ) → k + n ≡ f → ((i : ℕ) → k ≤ i → i < f → M r i ≡ 𝟘) → combine 𝓕 (column M f k n) (M r) k ≡ M r f
  outside M r f k zero q z = ap (M r) (omega arith)
  outside M r f k (suc n) q z = skip_step _ _ _ _ (z k (omega arith) (omega arith)) (outside M r f (suc k) n (omega arith) (λ i l b. z i (omega arith) b))

  within : (M : ℕ → ℕ → F) (h r f k n : ℕ) → Reduced h f M → k + n ≡ f → k ≤ r → r < f → r < h → combine 𝓕 (column M f k n) (M r) k ≡ 𝟘
  within M h r f k zero R q l b c = absurd (omega arith)
  within M h r f k (suc n) R q l b c = go (ℕ_discrete k r) (λ a. within M h r f (suc k) n R (omega arith) a b c)
    where
      go : Dec (k ≡ r) → (suc k ≤ r → combine 𝓕 (column M f (suc k) n) (M r) (suc k) ≡ 𝟘) → combine 𝓕 (column M f k (suc n)) (M r) k ≡ 𝟘
      go (yes p) rec = meet-step (M k f) (M r k) _ (rw p (R.diagonal r b)) (outside M r f (suc k) n (omega arith) (λ i u v. R.elsewhere r i c v (λ t. omega arith)) ∙ rw p)
      go (no p) rec = skip_step (M k f) (M r k) _ _ (R.elsewhere r k c (omega arith) (λ t. p (sym t))) (rec (omega arith))

  pub kills-end : (M : ℕ → ℕ → F) (h f : ℕ) → Reduced h f M → ((r : ℕ) → f ≤ r → r < h → M r f ≡ 𝟘) → (r : ℕ) → r < h → Kills (column M f 0 f) (M r)
  kills-end M h f R z r b = go (dec_lt r f)
    where
      go : Dec (r < f) → Kills (column M f 0 f) (M r)
      go (yes l) = within M h r f 0 f R (omega arith) (omega arith) l b
      go (no l) = outside M r f 0 f (omega arith) (λ i u v. R.elsewhere r i b v (λ t. omega arith)) ∙ z r (omega arith) b
