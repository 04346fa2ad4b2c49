-- What locator, marks and error values give is the code word within reach, if there is one.
use mathlib.Core.Path.{◌≡◌, refl, sym, ◌∙◌, ap, ap₂, subst}
use mathlib.Core.Bool.{Bool, true, false, true≢false, cond}
use mathlib.Core.List.{List, [], ◌∷◌, ◌++◌, map, append-nil}
use Prim.Native.Nat.{ℕ, zero, suc, ◌+◌, ◌-◌, ◌*◌, ◌/◌, ◌<◌, ◌≤◌}
use native.Mathlib.Nat.{add-zero}
use native.Mathlib.Decide.{dec_lt}
use native.Mathlib.Omega.{arith}
use lib.Bits.{bit_xor, xor_lt}
use lib.Dec.{lit<, ltb}
use lib.ListN.{length, get_or, take, length-append, get_or-eq_default}
use lib.Seq.{ext_get_or, get_or-take, take-length, length-take-le}
use borrow.Author.Tests.{lt-ltb, le-ltb}
use Rattle.field.specs.Field.{mul, inverse, pow}
use Rattle.field.proofs.Laws.{mul-lt, pow-lt}
use Rattle.algebra.specs.Places.{All, below, keep}
use Rattle.algebra.proofs.Places.{kept, kept-below, kept-fall, all_get_d, Split, split}
use Rattle.algebra.proofs.Field.{Field, add-self-left}
use Rattle.algebra.proofs.Polynomials.{monic, combine}
use Rattle.algebra.proofs.ErrorValues.{strip, factor}
use Rattle.algebra.proofs.Erasures.{with_marks, marks-length, marked}
use Rattle.algebra.proofs.Codes.{zero?, CodeWord, sum_at, zeros, few-zeros, right-elsewhere, right-value}
use Rattle.algebra.proofs.Gf256.{GF, Byte, plus, times, el, el-add, el-one-one, point}
use Rattle.header.specs.Header.{sum_up, term, syndrome, syndromes}
use Rattle.header.proofs.CodeWords.{Bytes, syndromes-at, syndromes-length}
use Rattle.header.proofs.Unique.{word, apart, points, syndrome-power, code-word-sound, all-bytes, bytes-all}
use Rattle.correction.specs.Marks.{unmarked_distance, Within, CandidateWith, spare}
use Rattle.elimination.specs.Elimination.{Solved, system_row, system_of, unknowns, right_side, beside_row, beside, entry}
use Rattle.correction.specs.ErrorPlaces.{located, Search}
use Rattle.correction.specs.ErrorValues.{entries, stripped, product, others, points_of, value_at, DistinctPlaces, Repaired, Stripped}
use Rattle.correction.proofs.Filtering.{others-split}
use Rattle.elimination.proofs.Solving as solving
use Rattle.correction.proofs.Locating.{locator_from, locator-length, locator-kills, places-zeros, few-weights, strip-el, value-el, error-value-lt}

-- ---- the system of the syndromes

sum_lt : (w : List ℕ) (j n : ℕ) → Bytes w → sum_up (term j w) n < 256
unfolding sum_up term
sum_lt w j zero b = lit< tt
sum_lt w j (suc n) b =
    xor_lt 8 (sum_up (term j w) n) (term j w n) (sum_lt w j n b) (mul-lt (get_or w n 0) (pow (n * j)) (b n) (pow-lt (n * j)))

pub syndrome-lt : (w : List ℕ) → Bytes w → (j : ℕ) → syndrome j w < 256
unfolding syndrome
syndrome-lt w b j = sum_lt w j 96 b

syndromes-lt : (w : List ℕ) → Bytes w → (k : ℕ) → get_or (syndromes w) k 0 < 256
syndromes-lt w b k = go (dec_lt k 8)
  where
    go : Dec (k < 8) → get_or (syndromes w) k 0 < 256
    go (yes h) = subst (λ (x : ℕ). x < 256) (sym (syndromes-at w k h)) (syndrome-lt w b (suc k))
    go (no h) = subst (λ (x : ℕ). x < 256) (sym (get_or-eq_default (syndromes w) 0 (omega (arith, syndromes-length w)))) (lit< tt)

-- a row of the system is its four coefficients with its right side beside them
row_back : (b : Bool) (x₀ x₁ x₂ x₃ x₄ : ℕ)
    → let r : List ℕ = cond b (x₀ ∷ x₁ ∷ x₂ ∷ x₃ ∷ x₄ ∷ []) (0 ∷ 0 ∷ 0 ∷ 0 ∷ 0 ∷ []) in beside_row (take 4 r) (get_or r 4 0) ≡ r
row_back true x₀ x₁ x₂ x₃ x₄ = refl
row_back false x₀ x₁ x₂ x₃ x₄ = refl

pub system-back : (t : List ℕ) (h : ℕ) → beside (unknowns (system_of t h)) (right_side (system_of t h)) ≡ system_of t h
system-back t h = ap₂ ◌∷◌ (at 0) (ap₂ ◌∷◌ (at 1) (ap₂ ◌∷◌ (at 2) (ap₂ ◌∷◌ (at 3) refl)))
  where
    at : (r : ℕ) → beside_row (take 4 (system_row t h r)) (get_or (system_row t h r) 4 0) ≡ system_row t h r
    at r = row_back (ltb r h) (get_or t r 0) (get_or t (r + 1) 0) (get_or t (r + 2) 0) (get_or t (r + 3) 0) (get_or t (r + 4) 0)

row_at : (t : List ℕ) (h r : ℕ) → r < 4 → get_or (system_of t h) r [] ≡ system_row t h r
row_at t h zero b = refl
row_at t h (suc zero) b = refl
row_at t h (suc (suc zero)) b = refl
row_at t h (suc (suc (suc zero))) b = refl
row_at t h (suc (suc (suc (suc r)))) b = absurd (omega arith)

column-at : (t : List ℕ) (r i : ℕ) → i < 5 → get_or (get_or t r 0 ∷ get_or t (r + 1) 0 ∷ get_or t (r + 2) 0 ∷ get_or t (r + 3) 0 ∷ get_or t (r + 4) 0 ∷ []) i 0 ≡ get_or t (r + i) 0
column-at t r zero h = ap (λ (k : ℕ). get_or t k 0) (sym (add-zero r))
column-at t r (suc zero) h = refl
column-at t r (suc (suc zero)) h = refl
column-at t r (suc (suc (suc zero))) h = refl
column-at t r (suc (suc (suc (suc zero)))) h = refl
column-at t r (suc (suc (suc (suc (suc i))))) h = absurd (omega arith)

zero-at : (i : ℕ) → i < 5 → ◌≡◌ {A = ℕ} (get_or (0 ∷ 0 ∷ 0 ∷ 0 ∷ 0 ∷ []) i 0) 0
zero-at zero h = refl
zero-at (suc zero) h = refl
zero-at (suc (suc zero)) h = refl
zero-at (suc (suc (suc zero))) h = refl
zero-at (suc (suc (suc (suc zero)))) h = refl
zero-at (suc (suc (suc (suc (suc i))))) h = absurd (omega arith)

system-at : (t : List ℕ) (h r i : ℕ) → r < h → r < 4 → i < 5 → entry (system_of t h) r i ≡ get_or t (r + i) 0
system-at t h r i a b c =
    let e : ltb r h ≡ true = lt-ltb r h a in
    ap (λ (l : List ℕ). get_or l i 0) (row_at t h r b ∙ ap (λ (x : Bool). cond x (get_or t r 0 ∷ get_or t (r + 1) 0 ∷ get_or t (r + 2) 0 ∷ get_or t (r + 3) 0 ∷ get_or t (r + 4) 0 ∷ []) (0 ∷ 0 ∷ 0 ∷ 0 ∷ 0 ∷ [])) e)
    ∙ column-at t r i c

system-zero : (t : List ℕ) (h r i : ℕ) → h ≤ r → r < 4 → i < 5 → entry (system_of t h) r i ≡ 0
system-zero t h r i a b c =
    let e : ltb r h ≡ false = le-ltb r h a in
    ap (λ (l : List ℕ). get_or l i 0) (row_at t h r b ∙ ap (λ (x : Bool). cond x (get_or t r 0 ∷ get_or t (r + 1) 0 ∷ get_or t (r + 2) 0 ∷ get_or t (r + 3) 0 ∷ get_or t (r + 4) 0 ∷ []) (0 ∷ 0 ∷ 0 ∷ 0 ∷ 0 ∷ [])) e)
    ∙ zero-at i c

points-at : (places : List ℕ) (q : ℕ) → q < 8 → get_or (points_of places) q 0 ≡ pow (get_or places q 0)
points-at p zero h = refl
points-at p (suc zero) h = refl
points-at p (suc (suc zero)) h = refl
points-at p (suc (suc (suc zero))) h = refl
points-at p (suc (suc (suc (suc zero)))) h = refl
points-at p (suc (suc (suc (suc (suc zero))))) h = refl
points-at p (suc (suc (suc (suc (suc (suc zero)))))) h = refl
points-at p (suc (suc (suc (suc (suc (suc (suc zero))))))) h = refl
points-at p (suc (suc (suc (suc (suc (suc (suc (suc q)))))))) h = absurd (omega arith)

append_at : (u v : List ℕ) (x : ℕ) → get_or (u ++ x ∷ v) (length u) 0 ≡ x
append_at [] v x = refl
append_at (y ∷ u) v x = append_at u v x

module _ (marks w s t cs : List ℕ) (degree : ℕ) (eight : length marks ≤ 8) (inside-marks : All (λ k. k < 96) marks)
    (lw : length w ≡ 96) (aw : All (λ x. x < 256) w) (es : s ≡ syndromes w) (st : Stripped s marks (length marks) t)
    (so : Solved (system_of t (spare marks)) degree cs) where
  s-lt : (k : ℕ) → get_or s k 0 < 256
  s-lt k = subst (λ (l : List ℕ). get_or l k 0 < 256) (sym es) (syndromes-lt w (all-bytes w aw) k)

  -- the sums in the field
  abbrev sums : ℕ → Byte
  sums = sum_at GF point 96 apart points (word w)

  s-sum : (j : ℕ) → j < 8 → el (get_or s j 0) ≡ sums (suc j)
  s-sum j h = ap (λ (l : List ℕ). el (get_or l j 0)) es ∙ ap el (syndromes-at w j h) ∙ syndrome-power w (suc j)

  -- the filtered sums in the field
  t-sum : (j : ℕ) → j + length marks < 8 → el (get_or t j 0) ≡ strip GF point marks sums (suc j)
  t-sum j h =
      ap el (st.window j h ∙ ap (λ (ms : List ℕ). stripped (map pow ms) (entries s) j) (take-length marks))
      ∙ strip-el marks (entries s) sums 8 s-sum j h

  system-bytes : solving.Bytes (system_of t (spare marks))
  system-bytes r i b c = go (dec_lt r (spare marks))
    where
      go : Dec (r < spare marks) → entry (system_of t (spare marks)) r i < 256
      go (yes h) = subst (λ (x : ℕ). x < 256) (sym (system-at t (spare marks) r i h b c)) (st.bytes s-lt (r + i))
      go (no h) = subst (λ (x : ℕ). x < 256) (sym (system-zero t (spare marks) r i (omega arith) b c)) (lit< tt)

  -- no more errors than the marks leave room for
  degree-spare : degree ≤ spare marks
  degree-spare = (solving.low (system_of t (spare marks)) (spare marks) degree so.rows (λ r i a b c. system-zero t (spare marks) r i a b c) so.chain).small

  cs-lt : (i : ℕ) → i < degree → get_or cs i 0 < 256
  cs-lt i h =
      let d : degree ≤ 4 = so.small in
      subst (λ (x : ℕ). x < 256) (sym (so.taken i h))
      ((solving.links (system_of t (spare marks)) degree so.rows system-bytes so.chain).bytes i degree (omega arith) (omega arith))

  -- the locator of the errors, and with the marks
  errors : List Byte
  errors = locator_from cs 0 degree

  locator : List Byte
  locator = with_marks GF point marks errors

  errors-small : length errors ≤ spare marks
  unfolding errors
  errors-small = let n : length (locator_from cs 0 degree) ≡ degree = locator-length cs 0 degree in let d : degree ≤ (8 - length marks) / 2 = degree-spare in omega arith

  kills : (j : ℕ) → j < spare marks → combine GF errors (strip GF point marks sums) (suc j) ≡ Field.𝟘 GF
  unfolding errors
  kills =
      locator-kills (strip GF point marks sums) (system_of t (spare marks)) (spare marks) degree cs system-bytes (omega arith) degree-spare
      (λ r i b c. ap el (system-at t (spare marks) r i b (omega arith) (omega arith)) ∙ t-sum (r + i) (omega arith)) so

  found-zeros : keep (located marks cs degree) (below 96) ≡ zeros GF point 96 apart points locator
  unfolding locator errors
  found-zeros = places-zeros marks cs degree inside-marks cs-lt

  locator-small : length locator ≤ 8
  unfolding locator
  locator-small =
      let n : length (with_marks GF point marks errors) ≡ length marks + length errors = marks-length GF point marks errors in
      let d : length errors ≤ (8 - length marks) / 2 = errors-small in
      omega arith

  -- no more places than the degree
  pub few-places : length (keep (located marks cs degree) (below 96)) ≤ 8
  few-places =
      let a : length (zeros GF point 96 apart points locator) ≤ length locator = few-zeros GF point 96 apart points locator in
      let b : length locator ≤ 8 = locator-small in
      subst (λ (l : List ℕ). length l ≤ 8) (sym found-zeros) (omega arith)

  module _ (places : List ℕ) (m : ℕ) (se : Search (located marks cs degree) 0 m places) where
    listed : take m places ≡ keep (located marks cs degree) (below 96)
    listed = sym (append-nil (take m places)) ∙ se.all

    m-long : length (keep (located marks cs degree) (below 96)) ≡ m
    m-long =
        let l : length places ≡ 8 = se.long in
        let f : m ≤ 8 = se.few in
        ap length (sym listed) ∙ length-take-le m places (omega arith)

    place_at : (k : ℕ) → k < m → get_or places k 0 ≡ get_or (keep (located marks cs degree) (below 96)) k 0
    place_at k h = sym (get_or-take m places k 0 h) ∙ ap (λ (l : List ℕ). get_or l k 0) listed

    pub distinct-places : DistinctPlaces places m
    distinct-places = record {
      inside = λ k h. subst (λ (x : ℕ). x < 96) (sym (place_at k h)) (kept-below (located marks cs degree) 96 k (omega (arith, m-long)));
      apart = λ j k h b e.
          (let f : get_or (keep (located marks cs degree) (below 96)) k 0 < get_or (keep (located marks cs degree) (below 96)) j 0 = kept-fall (located marks cs degree) 96 j k h (omega (arith, m-long)) in
          let q : get_or (keep (located marks cs degree) (below 96)) j 0 ≡ get_or (keep (located marks cs degree) (below 96)) k 0 = sym (place_at j (omega arith)) ∙ e ∙ place_at k b in
          omega arith);
    }

    module _ (r : List ℕ) (re : Repaired w s places m m r) where
      -- where the locator is not zero, nothing is changed
      other : (i : ℕ) → i < 96 → zero? GF (monic GF locator (point i)) ≡ false → get_or r i 0 ≡ get_or w i 0
      other i l e = re.kept i (λ k h q. true≢false (sym (zero-here k h) ∙ ap (λ (x : ℕ). zero? GF (monic GF locator (point x))) (sym q) ∙ e))
        where
          zero-here : (k : ℕ) → k < m → zero? GF (monic GF locator (point (get_or places k 0))) ≡ true
          zero-here k h =
              subst (λ (x : ℕ). zero? GF (monic GF locator (point x)) ≡ true)
              (ap (λ (u : List ℕ). get_or u k 0) (sym (listed ∙ found-zeros)) ∙ get_or-take m places k 0 h)
              (all_get_d (λ x. zero? GF (monic GF locator (point x)) ≡ true) (zeros GF point 96 apart points locator)
              (kept (λ x. zero? GF (monic GF locator (point x))) (below 96)) k
              (omega (arith, ap length (sym found-zeros), m-long)))

      -- where it is, the formula's value is added
      module _ (pre post : List ℕ) (i : ℕ) (l : i < 96) (e : zeros GF point 96 apart points locator ≡ pre ++ i ∷ post) where
        here : take m places ≡ pre ++ i ∷ post
        here = listed ∙ found-zeros ∙ e

        inside : length pre + suc (length post) ≡ m
        inside = sym (length-append pre (i ∷ post)) ∙ sym (ap length (found-zeros ∙ e)) ∙ m-long

        at_i : get_or places (length pre) 0 ≡ i
        at_i = sym (get_or-take m places (length pre) 0 (omega (arith, inside))) ∙ ap (λ (u : List ℕ). get_or u (length pre) 0) here ∙ append_at pre post i

        rest : others (points_of places) (length pre) m ≡ map pow (pre ++ post)
        rest =
            let f : m ≤ 8 = se.few in
            let g : length places ≡ 8 = se.long in
            others-split (points_of places) places pre post i m (omega arith) here (λ q b. points-at places q (omega arith))

        point-i : get_or (points_of places) (length pre) 0 ≡ pow i
        point-i = let f : m ≤ 8 = se.few in points-at places (length pre) (omega (arith, inside)) ∙ ap pow at_i

        value-i : ℕ
        value-i = mul (stripped (map pow (pre ++ post)) (entries s) 0) (inverse (product (map pow (pre ++ post)) (pow i) (pow i)))

        value_same : value_at s (points_of places) m (length pre) ≡ value-i
        unfolding value-i
        value_same = rw (rest, point-i)

        byte-i : get_or r i 0 ≡ bit_xor (get_or w i 0) value-i
        byte-i =
            ap (λ (k : ℕ). get_or r k 0) (sym at_i) ∙ re.changed (length pre) (omega (arith, inside))
            ∙ ap₂ (λ (k v : ℕ). bit_xor (get_or w k 0) v) at_i value_same

        changed-lt : get_or r i 0 < 256
        unfolding value-i
        changed-lt = subst (λ (x : ℕ). x < 256) (sym byte-i) (xor_lt 8 (get_or w i 0) value-i (all-bytes w aw i) (error-value-lt (pre ++ post) i (entries s) s-lt))

        changed : el (get_or r i 0) ≡ plus (word w i) (times (strip GF point (pre ++ post) sums 1) (Field.inv GF (times (point i) (factor GF point (pre ++ post) i))))
        unfolding value-i
        changed =
            let o : length (pre ++ post) ≡ length pre + length post = length-append pre post in
            let f : m ≤ 8 = se.few in
            ap el byte-i ∙ el-add (get_or w i 0) value-i
            ∙ ap (plus (word w i)) (value-el (pre ++ post) i (entries s) sums s-sum (omega (arith, inside)))

      -- whatever code word is within reach of w, r is it
      only-within : (v : List ℕ) → Within marks w v → r ≡ v
      unfolding locator
      only-within v nv = ext_get_or 0 r v (re.long ∙ sym lv) (λ i l. at i (omega (arith, re.long)) (zero? GF (monic GF locator (point i))) refl)
        where
          lv : length v ≡ 96
          lv = nv.long ∙ lw

          cv : CodeWord GF point 96 apart points (word v)
          cv = code-word-sound v nv.right

          close-enough : unmarked_distance marks w v ≤ spare marks
          close-enough = omega (arith, nv.close)

          locates : (i : ℕ) → i < 96 → times (plus (word w i) (word v i)) (monic GF locator (point i)) ≡ Field.𝟘 GF
          locates =
              marked GF point 96 apart points marks (word w) (word v) cv (spare marks) (8 - length marks) (omega arith) (omega arith)
              (few-weights marks w v (spare marks) lw close-enough) errors errors-small kills

          byte-v : (i : ℕ) → get_or v i 0 < 256
          byte-v = all-bytes v nv.bytes

          at : (i : ℕ) → i < 96 → (b : Bool) → zero? GF (monic GF locator (point i)) ≡ b → get_or r i 0 ≡ get_or v i 0
          at i l false e =
              other i l e
              ∙ el-one-one _ _ (all-bytes w aw i) (byte-v i)
              (right-elsewhere GF point 96 apart points (word w) (word v) cv locator (omega (arith, locator-small)) locates i l e)
          at i l true e =
              let p : Split (zeros GF point 96 apart points locator) i = split (λ x. zero? GF (monic GF locator (point x))) 96 i l e in
              el-one-one _ _ (changed-lt p.pre p.post i l p.whole) (byte-v i)
              (changed p.pre p.post i l p.whole
              ∙ ap (plus (word w i)) (right-value GF point 96 apart points (word w) (word v) cv locator (omega (arith, locator-small)) locates p.pre p.post i l p.whole)
              ∙ add-self-left GF (word w i) (word v i))

      byte-r : (i : ℕ) → get_or r i 0 < 256
      byte-r i = go (dec_lt i 96)
        where
          at : i < 96 → (b : Bool) → zero? GF (monic GF locator (point i)) ≡ b → get_or r i 0 < 256
          at l false e = subst (λ (x : ℕ). x < 256) (sym (other i l e)) (all-bytes w aw i)
          at l true e =
              let p : Split (zeros GF point 96 apart points locator) i = split (λ x. zero? GF (monic GF locator (point x))) 96 i l e in
              changed-lt p.pre p.post i l p.whole

          go : Dec (i < 96) → get_or r i 0 < 256
          go (yes l) = at l (zero? GF (monic GF locator (point i))) refl
          go (no l) = subst (λ (x : ℕ). x < 256) (sym (get_or-eq_default r 0 (omega (arith, re.long)))) (lit< tt)

      pub candidate-word : CandidateWith marks w r
      candidate-word = record { long = re.long; bytes = bytes-all r byte-r; only = only-within }
