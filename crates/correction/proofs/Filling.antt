-- Eight marks always leave a code word within reach: whatever stands elsewhere, the marked bytes can be filled in.
use mathlib.Core.Path.{◌≡◌, refl, sym, ◌∙◌, ap, ap₂, subst}
use mathlib.Core.Bool.{Bool, true, false, not, ◌||◌, true≢false, cond}
use mathlib.Core.List.{List, [], ◌∷◌}
use Prim.Native.Nat.{ℕ, zero, suc, ◌+◌, ◌<◌, ◌≤◌}
use native.Mathlib.Omega.{arith}
use native.Mathlib.Decide.{ℕ_discrete, dec_lt}
use lib.Dec.{eqb, lit<}
use lib.ListN.{length, get_or, get_or-eq_default}
use borrow.Author.Tests.{eqb-true, eq-eqb, ne_eqb}
use Rattle.algebra.specs.Places.{All, below, keep}
use Rattle.algebra.proofs.Places.{one, all_map, all-below, keep_all, kept}
use Rattle.algebra.proofs.Field.{Field, ring, sum-zero, mul-one, mul_left_comm, law-mul-assoc, law-add-self, add-zero}
use Rattle.algebra.proofs.PowerSums.{pow, power_sum, Distinct, sum-filter}
use Rattle.algebra.proofs.Codes.{sum-add, sum-keep, keep-distinct}
use Rattle.algebra.proofs.Gf256.{GF, Byte, plus, el, el-byte, el-one-one, point}
use Rattle.header.specs.Header.{syndrome, is_code_word}
use Rattle.header.proofs.CodeWords.{Bytes, zero-code-word}
use Rattle.header.proofs.Unique.{word, apart, points, syndrome-power, all-bytes, bytes-all}
use Rattle.correction.specs.Marks.{is_marked, allowed_marks, unmarked_distance, Within}
use Rattle.correction.proofs.Counting.{keep-add, keep-none, one-cons}
use Rattle.elimination.proofs.Solving.{el-zero-only}
use Rattle.correction.proofs.MarkLists.{marks-distinct}
use Rattle.correction.proofs.Candidates.{syndrome-lt}

-- ---- weights at given places with given sums, as many as places

module _ (𝓕 : Field) where
  infixl 65 ◌⊕◌
  infixl 70 ◌⊗◌
  open 𝓕 use {F, 𝟘, 𝟙, add as ◌⊕◌, mul as ◌⊗◌, inv, inv-mul}

  choose : {P : Type 0} → Dec P → F → F → F
  choose (yes p) a b = a
  choose (no p) a b = b

  choose_yes : {P : Type 0} (d : Dec P) (a b : F) → P → choose d a b ≡ a
  unfolding choose
  choose_yes (yes p) a b q = refl
  choose_yes (no p) a b q = absurd (p q)

  choose_no : {P : Type 0} (d : Dec P) (a b : F) → ¬ P → choose d a b ≡ b
  unfolding choose
  choose_no (yes p) a b q = absurd (q p)
  choose_no (no p) a b q = refl

  next-step : (t u x p q : F) → p ⊕ (x ⊗ q) ≡ t ⊕ (x ⊗ u) → t ⊕ p ≡ x ⊗ (u ⊕ q)
  next-step t u x p q e =
      let a : t ⊕ p ≡ (t ⊕ (p ⊕ (x ⊗ q))) ⊕ (x ⊗ q) = simp ring in
      let b : (t ⊕ (t ⊕ (x ⊗ u))) ⊕ (x ⊗ q) ≡ x ⊗ (u ⊕ q) = simp ring in
      a ∙ ap (λ (v : F). (t ⊕ v) ⊕ (x ⊗ q)) e ∙ b

  geometric : (a x : F) (D : ℕ → F) (n : ℕ) → a ⊗ x ≡ D 1 → ((j : ℕ) → j < n → D (suc (suc j)) ≡ x ⊗ D (suc j))
      → (j : ℕ) → j ≤ n → a ⊗ pow 𝓕 x (suc j) ≡ D (suc j)
  geometric a x D n e h zero l = ap (λ (u : F). a ⊗ u) (mul-one 𝓕 x) ∙ e
  geometric a x D n e h (suc j) l =
      mul_left_comm 𝓕 a x (pow 𝓕 x (suc j)) ∙ ap (λ (u : F). x ⊗ u) (geometric a x D n e h j (omega arith)) ∙ sym (h j (omega arith))

  undo : (a s : F) → ¬ (s ≡ 𝟘) → (a ⊗ inv s) ⊗ s ≡ a
  undo a s n = law-mul-assoc 𝓕 a (inv s) s ∙ ap (λ (u : F). a ⊗ u) (inv-mul s n) ∙ mul-one 𝓕 a

  rest-step : (t p : F) → (t ⊕ p) ⊕ p ≡ t
  rest-step t p = simp ring

  module _ (X : ℕ → F) where
    pub sum_same : (is : List ℕ) (u v : ℕ → F) (j : ℕ) → All (λ i. u i ≡ v i) is → power_sum 𝓕 X is u j ≡ power_sum 𝓕 X is v j
    sum_same [] u v j a = refl
    sum_same (i ∷ is) u v j a = ap₂ (λ (x s : F). (x ⊗ pow 𝓕 (X i) j) ⊕ s) a.0 (sum_same is u v j a.1)

    pub record Weights (is : List ℕ) (t : ℕ → F) : Type 0 where
      pub weight : ℕ → F
      pub sums : (j : ℕ) → j < length is → power_sum 𝓕 X is weight (suc j) ≡ t (suc j)

    -- one place more
    module _ (k : ℕ) (is : List ℕ) (t : ℕ → F) (d : All (λ i. ¬ (X i ≡ X k)) is) (n : ¬ (X k ≡ 𝟘)) (y : ℕ → F)
        (s : (j : ℕ) → j < length is → power_sum 𝓕 X is y (suc j) ≡ t (suc (suc j)) ⊕ (X k ⊗ t (suc j))) where
      abbrev z : ℕ → F
      z i = y i ⊗ inv (X i ⊕ X k)

      back : (j : ℕ) → power_sum 𝓕 X is z (suc j) ⊕ (X k ⊗ power_sum 𝓕 X is z j) ≡ power_sum 𝓕 X is y j
      back j =
          sym (sum-filter 𝓕 X (X k) is z j)
          ∙ sum_same is (λ i. z i ⊗ (X i ⊕ X k)) y j (all_map _ _ (λ i ne. undo (y i) (X i ⊕ X k) (λ q. ne (sum-zero 𝓕 (X i) (X k) q))) is d)

      -- what is left for the new place
      abbrev left : ℕ → F
      left j = t j ⊕ power_sum 𝓕 X is z j

      abbrev first : F
      first = left 1 ⊗ inv (X k)

      alone : (j : ℕ) → j ≤ length is → first ⊗ pow 𝓕 (X k) (suc j) ≡ left (suc j)
      alone = geometric first (X k) left (length is) (undo (left 1) (X k) n) (λ j l. next-step _ _ _ _ _ (back (suc j) ∙ s j l))

      abbrev all : ℕ → F
      all i = choose (ℕ_discrete i k) first (z i)

      extend : (j : ℕ) → j < suc (length is) → power_sum 𝓕 X (k ∷ is) all (suc j) ≡ t (suc j)
      extend j l =
          ap₂ (λ (u v : F). (u ⊗ pow 𝓕 (X k) (suc j)) ⊕ v) (choose_yes (ℕ_discrete k k) first (z k) refl)
          (sum_same is all z (suc j) (all_map _ _ (λ i ne. choose_no (ℕ_discrete i k) first (z i) (λ q. ne (ap X q))) is d))
          ∙ ap (λ (u : F). u ⊕ power_sum 𝓕 X is z (suc j)) (alone j (omega arith)) ∙ rest-step _ _

    pub solve : (is : List ℕ) (t : ℕ → F) → Distinct 𝓕 X is → All (λ i. ¬ (X i ≡ 𝟘)) is → Weights is t
    solve [] t d n = record { weight = λ i. 𝟘; sums = λ j l. absurd (omega arith) }
    solve (k ∷ is) t d n =
        let g : Weights is (λ i. t (suc i) ⊕ (X k ⊗ t i)) = solve is (λ i. t (suc i) ⊕ (X k ⊗ t i)) d.1 n.1 in
        record { weight = all k is t d.0 n.0 g.weight g.sums; sums = extend k is t d.0 n.0 g.weight g.sums }

distinct-below : (n : ℕ) → n ≤ 96 → Distinct GF point (below n)
distinct-below zero l = tt
distinct-below (suc n) l = (all-below _ n (λ k b. apart n k (omega arith) b), distinct-below n (omega arith))

-- ---- as many places as marks

one_kept : (k n : ℕ) → k < n → length (keep (eqb k) (below n)) ≡ 1
one_kept k zero h = absurd (omega arith)
one_kept k (suc n) h = one-cons (eqb k n) n (keep (eqb k) (below n)) ∙ go (ℕ_discrete k n) (λ l. one_kept k n l)
  where
    go : Dec (k ≡ n) → (k < n → length (keep (eqb k) (below n)) ≡ 1) → one (eqb k n) + length (keep (eqb k) (below n)) ≡ 1
    go (yes q) r =
        let e : eqb k n ≡ true = eq-eqb k n q in
        let z : length (keep (eqb k) (below n)) ≡ 0 = keep-none (eqb k) n (λ i l. ne_eqb k i (λ p. omega arith)) in
        rw (e, z)
    go (no q) r =
        let e : eqb k n ≡ false = ne_eqb k n q in
        let z : length (keep (eqb k) (below n)) ≡ 1 = r (omega arith) in
        rw (e, z)

pub marks-kept : (marks : List ℕ) → allowed_marks marks ≡ true → length (keep (is_marked marks) (below 96)) ≡ length marks
marks-kept [] e = keep-none (is_marked []) 96 (λ i l. refl)
marks-kept (k ∷ marks) e =
    let d : (k < 96) × (is_marked marks k ≡ false) × (allowed_marks marks ≡ true) = marks-distinct k marks e in
    let s : length (keep (is_marked (k ∷ marks)) (below 96)) ≡ length (keep (eqb k) (below 96)) + length (keep (is_marked marks) (below 96))
    = keep-add (is_marked (k ∷ marks)) (eqb k) (is_marked marks) 96 (λ i l. at i (eqb k i) refl (is_marked marks i) refl d.1) in
    let o : length (keep (eqb k) (below 96)) ≡ 1 = one_kept k 96 d.0 in
    let r : length (keep (is_marked marks) (below 96)) ≡ length marks = marks-kept marks d.2 in
    omega arith
  where
    at : (i : ℕ) (b : Bool) → eqb k i ≡ b → (m : Bool) → is_marked marks i ≡ m → is_marked marks k ≡ false → one (b || m) ≡ one b + one m
    at i true p true q f = absurd (true≢false (sym q ∙ ap (is_marked marks) (sym (eqb-true k i p)) ∙ f))
    at i true p false q f = refl
    at i false p true q f = refl
    at i false p false q f = refl

-- ---- a list of given bytes

abbrev listed : (ℕ → ℕ) → ℕ → List ℕ
listed f zero = []
listed f (suc n) = f 0 ∷ listed (λ i. f (suc i)) n

listed-length : (f : ℕ → ℕ) (n : ℕ) → length (listed f n) ≡ n
listed-length f zero = refl
listed-length f (suc n) = ap suc (listed-length (λ i. f (suc i)) n)

listed_at : (f : ℕ → ℕ) (n i : ℕ) → i < n → get_or (listed f n) i 0 ≡ f i
listed_at f zero i h = absurd (omega arith)
listed_at f (suc n) zero h = refl
listed_at f (suc n) (suc i) h = listed_at (λ i. f (suc i)) n i (omega arith)

-- ---- the code word

pub record Filled (marks w : List ℕ) : Type 0 where
  pub word : List ℕ
  pub within : Within marks w word

module _ (marks w : List ℕ) (eight : length marks ≡ 8) (ok : allowed_marks marks ≡ true) (lw : length w ≡ 96) (aw : All (λ x. x < 256) w) where
  places : List ℕ
  places = keep (is_marked marks) (below 96)

  sums : ℕ → Byte
  sums = power_sum GF point (below 96) (word w)

  solution : Weights GF point places sums
  unfolding places
  solution =
      solve GF point (keep (is_marked marks) (below 96)) sums
      (keep-distinct GF point (is_marked marks) (below 96) (distinct-below 96 (omega arith)))
      (keep_all (is_marked marks) _ (below 96) (all-below _ 96 points))

  -- what is to be added at each place
  fill : ℕ → Byte
  fill i = cond (is_marked marks i) (solution.weight i) (Field.𝟘 GF)

  fill-off : (i : ℕ) → is_marked marks i ≡ false → fill i ≡ Field.𝟘 GF
  unfolding fill
  fill-off i e = ap (λ (b : Bool). cond b (solution.weight i) (Field.𝟘 GF)) e

  fill_on : (i : ℕ) → is_marked marks i ≡ true → fill i ≡ solution.weight i
  unfolding fill
  fill_on i e = ap (λ (b : Bool). cond b (solution.weight i) (Field.𝟘 GF)) e

  fill-sum : (j : ℕ) → j < 8 → power_sum GF point (below 96) fill (suc j) ≡ sums (suc j)
  unfolding places
  fill-sum j h =
      sym (sum-keep GF point (is_marked marks) (below 96) fill (suc j) (all-below (λ i. is_marked marks i ≡ false → fill i ≡ Field.𝟘 GF) 96 (λ i l. fill-off i)))
      ∙ sum_same GF point (keep (is_marked marks) (below 96)) fill solution.weight (suc j) (all_map _ _ (λ i e. fill_on i e) (keep (is_marked marks) (below 96)) (kept (is_marked marks) (below 96)))
      ∙ solution.sums j (omega (arith, marks-kept marks ok))

  filled : ℕ → Byte
  filled i = plus (word w i) (fill i)

  filled-sum : (j : ℕ) → j < 8 → power_sum GF point (below 96) filled (suc j) ≡ Field.𝟘 GF
  unfolding filled sums
  filled-sum j h = sum-add GF point (below 96) (word w) fill (suc j) ∙ ap (λ (u : Byte). plus (power_sum GF point (below 96) (word w) (suc j)) u) (fill-sum j h) ∙ law-add-self GF (power_sum GF point (below 96) (word w) (suc j))

  code : List ℕ
  code = listed (λ i. (filled i).0) 96

  code-length : length code ≡ 96
  unfolding code
  code-length = listed-length (λ i. (filled i).0) 96

  code_at : (i : ℕ) → i < 96 → get_or code i 0 ≡ (filled i).0
  unfolding code
  code_at i h = listed_at (λ i. (filled i).0) 96 i h

  code-word-at : (i : ℕ) → i < 96 → word code i ≡ filled i
  code-word-at i h = ap el (code_at i h) ∙ el-byte (filled i).0 (filled i).1

  code-bytes : Bytes code
  code-bytes i = go (dec_lt i 96)
    where
      go : Dec (i < 96) → get_or code i 0 < 256
      go (yes h) = subst (λ (x : ℕ). x < 256) (sym (code_at i h)) (filled i).1
      go (no h) = subst (λ (x : ℕ). x < 256) (sym (get_or-eq_default code 0 (omega (arith, code-length)))) (lit< tt)

  code-right : is_code_word code ≡ true
  code-right =
      zero-code-word code (λ j h. el-zero-only (syndrome (suc j) code) (syndrome-lt code code-bytes (suc j))
      (syndrome-power code (suc j) ∙ sum_same GF point (below 96) (word code) filled (suc j) (all-below _ 96 (λ i l. code-word-at i l)) ∙ filled-sum j h))

  code-unmarked : (i : ℕ) → i < 96 → is_marked marks i ≡ false → get_or w i 0 ≡ get_or code i 0
  unfolding filled
  code-unmarked i h e =
      el-one-one (get_or w i 0) (get_or code i 0) (all-bytes w aw i) (code-bytes i)
      (sym (code-word-at i h ∙ ap (plus (word w i)) (fill-off i e) ∙ add-zero GF (word w i)))

  none_differ : unmarked_distance marks w code ≡ 0
  unfolding unmarked_distance
  none_differ = rw lw (keep-none (λ i. not (is_marked marks i || eqb (get_or w i 0) (get_or code i 0))) 96 (λ i h. at i h (is_marked marks i) refl))
    where
      at : (i : ℕ) → i < 96 → (m : Bool) → is_marked marks i ≡ m → not (m || eqb (get_or w i 0) (get_or code i 0)) ≡ false
      at i h true e = refl
      at i h false e = ap not (eq-eqb _ _ (code-unmarked i h e))

  -- the marked bytes can be filled in
  pub eight-filled : Filled marks w
  eight-filled = record {
    word = code;
    within = record { right = code-right; close = omega (arith, none_differ); long = code-length ∙ sym lw; bytes = bytes-all code code-bytes };
  }
