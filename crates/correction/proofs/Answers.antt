-- The answer, and the header or PDU after the call, by what the candidate is.
use mathlib.Core.Path.{◌≡◌, refl, sym, ◌∙◌, ap, ap₂, subst}
use mathlib.Core.Bool.{Bool, true, false, true≢false, cond}
use mathlib.Core.List.{List, [], ◌++◌}
use mathlib.Core.Option.{Option, none, some}
use Prim.Native.Nat.{ℕ, ◌+◌, ◌<◌, ◌≤◌}
use native.Mathlib.Decide.{dec_lt, ℕ_discrete}
use native.Mathlib.Omega.{arith}
use lib.Dec.{eqb}
use borrow.Author.Tests.{ne_eqb}
use lib.ListN.{length, get_or, take, drop, length-append, take-append-drop}
use lib.Seq.{length-take-le, drop_at}
use Rattle.algebra.specs.Places.{All}
use Rattle.header.specs.Header.{length_refusal, is_code_word, distance, header_of, front_replaced}
use Rattle.header.proofs.Distances.{distance_self}
use Rattle.header.proofs.Unique.{all_take}
use Rattle.header.proofs.Lengths.{short-refused, long-refused, length-allowed, header-of-long, front_fits}
use Rattle.correction.specs.Correction.{corrected, answer_for, header_after, correction_of, corrected_pdu}
use Rattle.correction.specs.Marks.{marks_refusal, CandidateWith, adopted, unmarked_distance, spare, corrected_with, correction_with, corrected_pdu_with}
use Rattle.correction.proofs.MarkLists.{allowed-marks}
use Rattle.correction.proofs.Decoding.{no-marks}
use Rattle.correction.proofs.Marking.{with-within, with-self, candidate-some, candidate-none, unmarked-adopted}
use Rattle.correction.specs.declared.Correction.{Correction}
use Rattle.correction.specs.declared.Correction.TheVariants.{Corrected, Refused}

-- what is promised of the answer r for a header w with marks, and of the header v after the call
abbrev pub Answered : List ℕ → List ℕ → Correction → List ℕ → Type 0
Answered marks w r v = (r ≡ answer_for w (corrected_with marks w)) × (v ≡ header_after w (corrected_with marks w))

module _ (marks w : List ℕ) (few : length marks ≤ 8) (l : length w ≡ 96) (a : All (λ x. x < 256) w) where
  refusal : corrected_with marks w ≡ none → Answered marks w (Refused 4) w
  refusal e = (rw e, rw e)

  -- a code word
  pub answer-clean : is_code_word w ≡ true → Answered marks w (Corrected 0) w
  answer-clean g =
      let e : corrected_with marks w ≡ some w = with-self marks few w l a g in
      let d : Corrected 0 ≡ answer_for w (some w) = ap Corrected (sym (distance_self w)) in
      (d ∙ ap (answer_for w) (sym e), ap (header_after w) (sym e))

  module _ (c u : List ℕ) (k : CandidateWith marks w c) (eu : u ≡ adopted marks w c) (n : ℕ) (en : n ≡ distance u c) (h : ℕ) (eh : h ≡ spare marks) where
    unmarked : n ≡ unmarked_distance marks w c
    unmarked = en ∙ ap (λ (v : List ℕ). distance v c) eu ∙ sym (unmarked-adopted marks w c (k.long ∙ sym l))

    -- a candidate too far away
    pub answer-far : h < n → Answered marks w (Refused 4) w
    answer-far o = refusal (candidate-none marks few w l a c k (λ g d. (omega (arith, unmarked))))

    -- a candidate that is no code word
    pub answer-wrong : is_code_word c ≡ false → Answered marks w (Refused 4) w
    answer-wrong f = refusal (candidate-none marks few w l a c k (λ g d. true≢false (sym g ∙ f)))

    -- a candidate that is the code word
    pub answer-corrected : (m : ℕ) → m ≡ distance w c → n ≤ h → is_code_word c ≡ true → Answered marks w (Corrected m) c
    answer-corrected m em o g =
        let e : corrected_with marks w ≡ some c = candidate-some marks few w l a c k g (omega (arith, unmarked)) in
        let d : Corrected m ≡ answer_for w (some c) = ap Corrected em in
        (d ∙ ap (answer_for w) (sym e), ap (header_after w) (sym e))

  after-length : (o : Option (List ℕ)) → corrected_with marks w ≡ o → length (header_after w o) ≡ 96
  after-length (some c) e = (with-within marks few w l a c e).long ∙ l
  after-length none e = l

  pub header-with-length : length (header_after w (corrected_with marks w)) ≡ 96
  header-with-length = after-length (corrected_with marks w) refl

pub header-after-length : (w : List ℕ) → length w ≡ 96 → All (λ x. x < 256) w → length (header_after w (corrected w)) ≡ 96
header-after-length w l a = ap (λ (o : Option (List ℕ)). length (header_after w o)) (sym (no-marks w)) ∙ header-with-length [] w (omega arith) l a

-- what is promised of the answer r with marks and of the PDU q after the call
abbrev pub Promised : List ℕ → List ℕ → Correction → List ℕ → Type 0
Promised marks p r q = (r ≡ correction_with marks p) × (q ≡ corrected_pdu_with marks p)

pub length-refused : (marks p : List ℕ) → length_refusal (length p) ≡ 3 → Promised marks p (Refused 3) p
unfolding correction_with corrected_pdu_with
length-refused marks p e = (rw e, rw e)

pub marks-refused : (marks p : List ℕ) → 96 ≤ length p → length p ≤ 20480 → ¬ (marks_refusal marks ≡ 0) → Promised marks p (Refused 19) p
unfolding correction_with corrected_pdu_with
marks-refused marks p lo hi n =
    let e : length_refusal (length p) ≡ 0 = length-allowed (length p) lo hi in
    let f : eqb (marks_refusal marks) 0 ≡ false = ne_eqb _ _ n in
    (rw (e, f), rw (e, f))

-- no marks: the answers and PDUs of document 01
pub no-marks-answer : (p : List ℕ) → correction_with [] p ≡ correction_of p
unfolding correction_with correction_of marks_refusal corrected_with corrected
no-marks-answer p = refl

pub no-marks-pdu : (p : List ℕ) → corrected_pdu_with [] p ≡ corrected_pdu p
unfolding corrected_pdu_with corrected_pdu marks_refusal corrected_with corrected
no-marks-pdu p = refl

-- an allowed PDU p, and its header w as the call took it
module _ (marks p w : List ℕ) (lo : 96 ≤ length p) (hi : length p ≤ 20480) (b : (i : ℕ) → get_or p i 0 < 256) (ew : w ≡ header_of p) where
  first : w ≡ take 96 p
  first = ew ∙ header-of-long p lo

  pub header-all-bytes : All (λ x. x < 256) w
  header-all-bytes = subst (All (λ x. x < 256)) (sym first) (all_take 96 p b)

  pub pdu-answered : (r : Correction) (v q : List ℕ) → marks_refusal marks ≡ 0 → length marks ≤ 8 → Answered marks w r v → q ≡ front_replaced p v → Promised marks p r q
  unfolding correction_with corrected_pdu_with
  pdu-answered r v q ok few s f =
      let e : length_refusal (length p) ≡ 0 = length-allowed (length p) lo hi in
      let m : length v ≡ 96 = ap length s.1 ∙ header-with-length marks w few (ap length first ∙ length-take-le 96 p lo) header-all-bytes in (
        s.0 ∙ rw (e, ok, first),
        f ∙ front_fits p v (omega arith) ∙ ap (λ (k : ℕ). v ++ drop k p) m ∙ ap (λ (u : List ℕ). u ++ drop 96 p) s.1 ∙ rw (e, ok, first),
      )

-- a refused PDU is left as it was
is_refused : Correction → Bool
is_refused (Corrected n) = false
is_refused (Refused n) = true

pub refused-unchanged-with : (marks p : List ℕ) (n : ℕ) → correction_with marks p ≡ Refused n → corrected_pdu_with marks p ≡ p
unfolding correction_with corrected_pdu_with is_refused
refused-unchanged-with marks p n e = go (eqb (length_refusal (length p)) 0) (eqb (marks_refusal marks) 0) (corrected_with marks (take 96 p)) (ap is_refused e)
  where
    go : (b m : Bool) (o : Option (List ℕ)) → is_refused (cond b (cond m (answer_for (take 96 p) o) (Refused 19)) (Refused 3)) ≡ true
        → cond b (cond m (header_after (take 96 p) o ++ drop 96 p) p) p ≡ p
    go true true (some c) q = absurd (true≢false (sym q))
    go true true none q = take-append-drop 96 p
    go true false o q = refl
    go false m o q = refl

pub refused-unchanged : (p : List ℕ) (n : ℕ) → correction_of p ≡ Refused n → corrected_pdu p ≡ p
refused-unchanged p n e = sym (no-marks-pdu p) ∙ refused-unchanged-with [] p n (no-marks-answer p ∙ e)

-- a PDU that is corrected has an allowed length, and its marks are allowed
pub corrected-allowed-with : (marks p : List ℕ) (n : ℕ) → correction_with marks p ≡ Corrected n → (96 ≤ length p) × (length p ≤ 20480) × (marks_refusal marks ≡ 0)
unfolding is_refused
corrected-allowed-with marks p n e = (lo, hi, no-refusal (ℕ_discrete (marks_refusal marks) 0))
  where
    not-refused : length_refusal (length p) ≡ 3 → ⊥
    not-refused r = true≢false (ap is_refused ((length-refused marks p r).0 ∙ e))

    low : Dec (length p < 96) → 96 ≤ length p
    low (yes h) = absurd (not-refused (short-refused (length p) h))
    low (no h) = omega arith

    high : Dec (20480 < length p) → length p ≤ 20480
    high (yes h) = absurd (not-refused (long-refused (length p) h))
    high (no h) = omega arith

    lo : 96 ≤ length p
    lo = low (dec_lt (length p) 96)

    hi : length p ≤ 20480
    hi = high (dec_lt 20480 (length p))

    no-refusal : Dec (marks_refusal marks ≡ 0) → marks_refusal marks ≡ 0
    no-refusal (yes h) = h
    no-refusal (no h) = absurd (true≢false (ap is_refused ((marks-refused marks p lo hi h).0 ∙ e)))

pub corrected-allowed : (p : List ℕ) (n : ℕ) → correction_of p ≡ Corrected n → (96 ≤ length p) × (length p ≤ 20480)
corrected-allowed p n e = let a = corrected-allowed-with [] p n (no-marks-answer p ∙ e) in (a.0, a.1)

-- the PDU after the call is as long
pub corrected-pdu : (marks p : List ℕ) → 96 ≤ length p → length p ≤ 20480 → marks_refusal marks ≡ 0 → corrected_pdu_with marks p ≡ header_after (take 96 p) (corrected_with marks (take 96 p)) ++ drop 96 p
unfolding corrected_pdu_with
corrected-pdu marks p lo hi ok = let e : length_refusal (length p) ≡ 0 = length-allowed (length p) lo hi in rw (e, ok)

-- putting its former header back undoes the correction of an allowed PDU
pub header-put-back-with : (marks p : List ℕ) → 96 ≤ length p → length p ≤ 20480 → ((i : ℕ) → get_or p i 0 < 256) → marks_refusal marks ≡ 0
    → front_replaced (corrected_pdu_with marks p) (header_of p) ≡ p
header-put-back-with marks p lo hi b ok =
    let w : List ℕ = take 96 p in
    let h : List ℕ = header_after w (corrected_with marks w) in
    let lw : length w ≡ 96 = length-take-le 96 p lo in
    let lh : length h ≡ 96 = header-with-length marks w (allowed-marks marks ok).0 lw (all_take 96 p b) in
    let n : length (h ++ drop 96 p) ≡ length h + length (drop 96 p) = length-append h (drop 96 p) in
    ap₂ front_replaced (corrected-pdu marks p lo hi ok) (header-of-long p lo)
    ∙ front_fits (h ++ drop 96 p) w (omega arith)
    ∙ ap (λ (k : ℕ). w ++ drop k (h ++ drop 96 p)) lw
    ∙ ap (λ (u : List ℕ). w ++ u) (drop_at h (drop 96 p) 96 lh)
    ∙ take-append-drop 96 p

no-marks-allowed : marks_refusal [] ≡ 0
unfolding marks_refusal
no-marks-allowed = refl

pub header-put-back : (p : List ℕ) → 96 ≤ length p → length p ≤ 20480 → ((i : ℕ) → get_or p i 0 < 256) → front_replaced (corrected_pdu p) (header_of p) ≡ p
header-put-back p lo hi b = ap (λ (u : List ℕ). front_replaced u (header_of p)) (sym (no-marks-pdu p)) ∙ header-put-back-with [] p lo hi b no-marks-allowed
