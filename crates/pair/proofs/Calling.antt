-- A pair's call as a whole.
use mathlib.Core.Path.{◌≡◌, refl, sym, ap, ap₂, subst, ◌∙◌}
use mathlib.Core.Bool.{Bool, true, false, ◌&&◌, cond, true≢false}
use mathlib.Core.List.{List, [], ◌∷◌, ◌++◌}
use Prim.Native.Nat.{ℕ, ◌<◌, ◌≤◌}
use native.Mathlib.Omega.{arith}
use lib.Dec.{eqb}
use lib.ListN.{length, get_or, drop}
use borrow.Author.Tests.{ne_eqb, ltb-false}
use Rattle.refusal.specs.Refusal.{first_of, any_of}
use Rattle.refusal.proofs.Rows.{past, row-off, never}
use Rattle.modes.specs.Modes.{listing}
use Rattle.modes.specs.declared.Mode.{Mode}
use Rattle.modes.specs.declared.Listing.{Listing}
use Rattle.modes.specs.declared.Listing.TheVariants.{Listed, Refused as Unlisted}
use Rattle.header.specs.Header.{header_of, front_replaced}
use Rattle.correction.specs.Correction.{correction_of, corrected_pdu}
use Rattle.correction.specs.declared.Correction.{Correction}
use Rattle.correction.specs.declared.Correction.TheVariants.{Corrected, Refused}
use Rattle.correction.proofs.Answers.{no-marks-answer, no-marks-pdu, refused-unchanged, corrected-allowed, header-put-back}
use Rattle.pdu.specs.Reading.{mode_in}
use Rattle.buffer.specs.Buffer.{put_at}
use Rattle.reassembly.specs.Run.{partial_bytes}
use Rattle.receiver.specs.Receiving.{remembering, mode_of, wrong_fields, wrong_state, refused_answer, receive_tests, receive_number}
use Rattle.receiver.specs.Steps.{state_tests, Usable, corrected_number}
use Rattle.receiver.specs.declared.Receiver.{Receiver}
use Rattle.receiver.specs.declared.Received.{Received}
use Rattle.receiver.proofs.Calling.{Corrects, Promised as Alone, turned_down, corrected-call}
use Rattle.receiver.proofs.Rows.{first_on, state-listed, state-unlisted, usable}
use Rattle.diversity.specs.Diversity.{correctable, PairResult, unchanged_pair, first_alone, second_alone, pair_outcome, wrong_in_pair, pair_tests, pair_number, together, received_by, pair_received}
use Rattle.diversity.proofs.AfterPair.{pair_words, pair_memory, pair_services, pair_tally}
use Rattle.pair.specs.Steps.{both_number, Paired}

-- ---- which can be corrected

-- b says whether both are
pub both_true : (s t b : Bool) → b ≡ true → b ≡ (s && t) → (s ≡ true) × (t ≡ true)
both_true true t b h e = (refl, sym e ∙ h)
both_true false t b h e = absurd (true≢false (sym h ∙ e))

pub not-both : (s t b : Bool) → b ≡ false → b ≡ (s && t) → s ≡ true → t ≡ false
not-both true t b h e q = sym e ∙ h
not-both false t b h e q = absurd (true≢false (sym q))

pub corrected-is : (x : Correction) → correctable x ≡ true → (n : ℕ) × (x ≡ Corrected n)
corrected-is (Corrected n) e = (n, refl)
corrected-is (Refused n) e = absurd (true≢false (sym e))

refused-is : (x : Correction) → correctable x ≡ false → (n : ℕ) × (x ≡ Refused n)
refused-is (Corrected n) e = absurd (true≢false e)
refused-is (Refused n) e = (n, refl)

-- a is what correction answers, and b whether it corrects
module _ (p : List ℕ) (a : Correction) (b : Bool) (ea : a ≡ correction_of p) (eb : b ≡ correctable a) where
  by : (t : Bool) → b ≡ t → correctable (correction_of p) ≡ t
  by t e = sym (eb ∙ ap correctable ea) ∙ e

  pub size : b ≡ true → (96 ≤ length p) × (length p ≤ 20480)
  size e = let n = corrected-is (correction_of p) (by true e) in corrected-allowed p n.0 n.1

  -- one that is not corrected is as it was
  pub stays : (y : List ℕ) → b ≡ false → y ≡ corrected_pdu p → y ≡ p
  stays y e ey = let n = refused-is (correction_of p) (by false e) in ey ∙ refused-unchanged p n.0 n.1

-- ---- the answer and the buffers after the call

-- both accepted
abbrev accepted : List ℕ → List ℕ → List ℕ → List ℕ → Receiver → PairResult
accepted carry p q log r = record {
  answer = record { refusal = 0; wrong = 0; words = length (pair_words carry p q log r); receiver = remembering r (pair_memory carry p q log r) (pair_services carry p q log r) (pair_tally carry p q log r) };
  carry = put_at carry 0 (partial_bytes (pair_outcome carry p q log r).partial);
  first = corrected_pdu p;
  second = corrected_pdu q;
  log = put_at log 0 (pair_words carry p q log r);
}

-- a result that is one of two
result_by : (b : Bool) (x u v : PairResult) (a : Received) (carry_end first_end second_end log_end : List ℕ) → v ≡ cond b x u
    → a ≡ cond b x.answer u.answer → carry_end ≡ cond b x.carry u.carry → first_end ≡ cond b x.first u.first → second_end ≡ cond b x.second u.second → log_end ≡ cond b x.log u.log
    → (a ≡ v.answer) × ((carry_end ≡ v.carry) × ((first_end ≡ v.first) × ((second_end ≡ v.second) × (log_end ≡ v.log))))
result_by b x u v a carry_end first_end second_end log_end e ea ec ef es el = (
  ea ∙ field b (λ z. z.answer) ∙ ap (λ (z : PairResult). z.answer) (sym e),
  (
    ec ∙ field b (λ z. z.carry) ∙ ap (λ (z : PairResult). z.carry) (sym e),
    (
      ef ∙ field b (λ z. z.first) ∙ ap (λ (z : PairResult). z.first) (sym e),
      (es ∙ field b (λ z. z.second) ∙ ap (λ (z : PairResult). z.second) (sym e), el ∙ field b (λ z. z.log) ∙ ap (λ (z : PairResult). z.log) (sym e)),
    ),
  ),
)
  where
    field : {A : Type 0} (t : Bool) (f : PairResult → A) → cond t (f x) (f u) ≡ f (cond t x u)
    field true f = refl
    field false f = refl

module _ (carry p q log : List ℕ) (r : Receiver) where
  -- what is promised of the answer a, and of the carry buffer, the PDUs and the log after the call
  abbrev pub Promised : Received → List ℕ → List ℕ → List ℕ → List ℕ → Type 0
  Promised a carry_end first_end second_end log_end =
      (a ≡ (pair_received carry p q log r).answer)
      × ((carry_end ≡ (pair_received carry p q log r).carry)
      × ((first_end ≡ (pair_received carry p q log r).first) × ((second_end ≡ (pair_received carry p q log r).second) × (log_end ≡ (pair_received carry p q log r).log))))

  -- by what can be corrected
  by_both : (s t : Bool) → correctable (correction_of p) ≡ s → correctable (correction_of q) ≡ t → pair_received carry p q log r ≡ received_by carry p q log r s t
  unfolding pair_received
  by_both s t es et = ap₂ (received_by carry p q log r) es et

  given : (x : PairResult) (a : Received) (carry_end first_end second_end log_end : List ℕ) → pair_received carry p q log r ≡ x → a ≡ x.answer → carry_end ≡ x.carry → first_end ≡ x.first → second_end ≡ x.second → log_end ≡ x.log
      → Promised a carry_end first_end second_end log_end
  given x a carry_end first_end second_end log_end e ea ec ef es el = (
    ea ∙ ap (λ (z : PairResult). z.answer) (sym e),
    (ec ∙ ap (λ (z : PairResult). z.carry) (sym e), (ef ∙ ap (λ (z : PairResult). z.first) (sym e), (es ∙ ap (λ (z : PairResult). z.second) (sym e), el ∙ ap (λ (z : PairResult). z.log) (sym e)))),
  )

  -- ---- 1 and 2

  module _ (n : ℕ) (some : ¬ (n ≡ 0)) (en : n ≡ first_of (state_tests r (length carry))) where
    none : ¬ (first_of (state_tests r (length carry)) ≡ 0)
    none z = some (en ∙ z)

    other : ¬ (n ≡ 11)
    other h = never 11 (state_tests r (length carry)) refl refl (sym en ∙ h)

    early-both : together carry p q log r ≡ unchanged_pair carry p q log r n 0
    unfolding together pair_number wrong_in_pair
    early-both =
        let e : pair_number carry p q log r ≡ n = first_on (state_tests r (length carry)) (drop 2 (pair_tests carry p q log r)) none ∙ sym en in
        let z : eqb n 0 ≡ false = ne_eqb n 0 some in
        let d : eqb n 11 ≡ false = ne_eqb n 11 other in
        rw (e, z, d)

    alone : (l : List ℕ) → Alone [] carry l log r (refused_answer r n 0) carry l log
    unfolding receive_number
    alone l =
        let e : receive_number [] carry l log r ≡ n = first_on (state_tests r (length carry)) (drop 2 (receive_tests [] carry l log r)) none ∙ sym en in
        turned_down [] carry l log r n (refused_answer r n 0) e some other refl

    early-by : (s t : Bool) → received_by carry p q log r s t ≡ unchanged_pair carry p q log r n 0
    early-by true true = early-both
    early-by true false = let a = alone p in λ i. record { answer = sym a.0 i; carry = sym a.1.0 i; first = sym a.1.1.0 i; second = q; log = sym a.1.1.1 i }
    early-by false true = let a = alone q in λ i. record { answer = sym a.0 i; carry = sym a.1.0 i; first = p; second = sym a.1.1.0 i; log = sym a.1.1.1 i }
    early-by false false = ap (λ (m : ℕ). unchanged_pair carry p q log r m 0) (first_on (state_tests r (length carry)) ((true, 4) ∷ []) none ∙ sym en)

    pub early-call : (a : Received) → a ≡ refused_answer r n 0 → Promised a carry p q log
    unfolding pair_received
    early-call a e = given (unchanged_pair carry p q log r n 0) a carry p q log (early-by (correctable (correction_of p)) (correctable (correction_of q))) e refl refl refl refl

  -- 1, for a mode and stream that the table has not
  pub unlisted-call : (l : Listing) (n : ℕ) (a : Received) → l ≡ listing r.mode r.stream → l ≡ Unlisted n → a ≡ refused_answer r 1 0 → Promised a carry p q log
  unlisted-call l n a e f q = early-call 1 (λ z. absurd (omega arith)) (let t : any_of (wrong_state r) ≡ true = state-unlisted r n (sym e ∙ f) in sym (rw t)) a q

-- ---- 1 and 2 do not apply, and correction was tried on both

-- xp and xq are what it answers, s and t whether it corrects, y and z the PDUs after it, w and v the headers before it
pub record Known (carry p q : List ℕ) (r : Receiver) (m : Mode) (xp xq : Correction) (s t : Bool) (y z w v : List ℕ) : Type 0 where
  pub listed : listing r.mode r.stream ≡ Listed m
  pub free : first_of (state_tests r (length carry)) ≡ 0
  pub answer : xp ≡ correction_of p
  pub answer' : xq ≡ correction_of q
  pub is : s ≡ correctable xp
  pub is' : t ≡ correctable xq
  pub after : y ≡ corrected_pdu p
  pub after' : z ≡ corrected_pdu q
  pub long : length y ≡ length p
  pub long' : length z ≡ length q
  pub before : w ≡ header_of p
  pub before' : v ≡ header_of q
  pub bytes : (i : ℕ) → get_or p i 0 < 256
  pub bytes' : (i : ℕ) → get_or q i 0 < 256

module _ {carry p q : List ℕ} {r : Receiver} {m : Mode} {xp xq : Correction} {s t : Bool} {y z w v : List ℕ} (k : Known carry p q r m xp xq s t y z w v) where
  right : any_of (wrong_fields m r) ≡ false
  right = sym (state-listed r m k.listed) ∙ row-off (state_tests r (length carry)) 0 refl k.free

  room : 4096 ≤ length carry
  room = ltb-false (length carry) 4096 (row-off (state_tests r (length carry)) 1 refl k.free)

  pub fine : Usable r carry
  fine = usable r m carry k.listed right room

  pub first-long : s ≡ true → length y ≤ 20480
  first-long e = let n = (size p xp s k.answer k.is e).1 in let l = k.long in omega (arith, n, l)

  pub second-long : t ≡ true → length z ≤ 20480
  second-long e = let n = (size q xq t k.answer' k.is' e).1 in let l = k.long' in omega (arith, n, l)

  module _ (log : List ℕ) where
    by-these : (e f : Bool) → s ≡ e → t ≡ f → pair_received carry p q log r ≡ received_by carry p q log r e f
    by-these e f es et = by_both carry p q log r e f (by p xp s k.answer k.is e es) (by q xq t k.answer' k.is' f et)

    -- both received, by the number that applies
    together-is : together carry p q log r
        ≡ cond (eqb (both_number (mode_of r) r carry (corrected_pdu p) (corrected_pdu q) log) 0) (accepted carry p q log r)
        (unchanged_pair carry p q log r (both_number (mode_of r) r carry (corrected_pdu p) (corrected_pdu q) log) (wrong_in_pair (corrected_pdu p) (corrected_pdu q) (both_number (mode_of r) r carry (corrected_pdu p) (corrected_pdu q) log)))
    unfolding together pair_number both_number
    together-is =
        let e : pair_number carry p q log r ≡ both_number (mode_of r) r carry (corrected_pdu p) (corrected_pdu q) log = past (state_tests r (length carry)) (drop 2 (pair_tests carry p q log r)) refl k.free in
        ap (λ (n : ℕ). cond (eqb n 0) (accepted carry p q log r) (unchanged_pair carry p q log r n (wrong_in_pair (corrected_pdu p) (corrected_pdu q) n))) e

    -- 4
    pub neither-call : (a : Received) → s ≡ false → t ≡ false → a ≡ refused_answer r 4 0 → Promised carry p q log r a carry y z log
    neither-call a fs ft e =
        given carry p q log r (unchanged_pair carry p q log r (first_of (state_tests r (length carry) ++ (true, 4) ∷ [])) 0) a carry y z log (by-these false false fs ft)
        (e ∙ ap (λ (n : ℕ). refused_answer r n 0) (sym (past (state_tests r (length carry)) ((true, 4) ∷ []) refl k.free))) refl (stays p xp s k.answer k.is y fs k.after) (stays q xq t k.answer' k.is' z ft k.after') refl

    -- one alone: x, corrected l, whose header was h
    received-alone : (x : List ℕ) (c : Correction) (u : Bool) → c ≡ correction_of x → u ≡ correctable c → u ≡ true → (a : Received) (l h carry_end end log_end : List ℕ) → ((i : ℕ) → get_or x i 0 < 256) → h ≡ header_of x → l ≡ corrected_pdu x
        → Corrects m r carry l log a carry_end log_end → end ≡ cond (eqb (corrected_number m r carry l log) 0) l (front_replaced l h)
        → Alone [] carry x log r a carry_end end log_end
    received-alone x c u ec eu on a l h carry_end end log_end bytes eh el corrects ee =
        let n = corrected-is (correction_of x) (by x c u ec eu true on) in
        corrected-call [] carry x log r m k.listed (any_of (wrong_fields m r)) refl right room n.0 a l h carry_end end log_end bytes (no-marks-answer x ∙ n.1) eh (el ∙ sym (no-marks-pdu x)) corrects ee

    pub first-call : (a : Received) (carry_end first_end log_end : List ℕ) → s ≡ true → t ≡ false → Corrects m r carry y log a carry_end log_end → first_end ≡ cond (eqb (corrected_number m r carry y log) 0) y (front_replaced y w)
        → Promised carry p q log r a carry_end first_end z log_end
    first-call a carry_end first_end log_end ts ft h ee =
        let x = received-alone p xp s k.answer k.is ts a y w carry_end first_end log_end k.bytes k.before k.after h ee in
        given carry p q log r (first_alone carry p q log r) a carry_end first_end z log_end (by-these true false ts ft) x.0 x.1.0 x.1.1.0 (stays q xq t k.answer' k.is' z ft k.after') x.1.1.1

    pub second_call : (a : Received) (carry_end second_end log_end : List ℕ) → s ≡ false → t ≡ true → Corrects m r carry z log a carry_end log_end → second_end ≡ cond (eqb (corrected_number m r carry z log) 0) z (front_replaced z v)
        → Promised carry p q log r a carry_end y second_end log_end
    second_call a carry_end second_end log_end fs ts h ee =
        let x = received-alone q xq t k.answer' k.is' ts a z v carry_end second_end log_end k.bytes' k.before' k.after' h ee in
        given carry p q log r (second_alone carry p q log r) a carry_end y second_end log_end (by-these false true fs ts) x.0 x.1.0 (stays p xp s k.answer k.is y fs k.after) x.1.1.0 x.1.1.1

    pub both-call : (a : Received) (carry_end first_end second_end log_end : List ℕ) → (s ≡ true) × (t ≡ true) → Paired m r carry y z log a carry_end log_end
        → first_end ≡ cond (eqb (both_number m r carry y z log) 0) y (front_replaced y w) → second_end ≡ cond (eqb (both_number m r carry y z log) 0) z (front_replaced z v)
        → Promised carry p q log r a carry_end first_end second_end log_end
    both-call a carry_end first_end second_end log_end on h ef eg =
        let mode : m ≡ mode_of r = sym (ap mode_in k.listed) in
        let sp = size p xp s k.answer k.is on.0 in
        let sq = size q xq t k.answer' k.is' on.1 in
        let ey = k.after in
        let ez = k.after' in
        let n = both_number (mode_of r) r carry (corrected_pdu p) (corrected_pdu q) log in
        let number : both_number m r carry y z log ≡ n = λ i. both_number (mode i) r carry (ey i) (ez i) log in
        let bp : front_replaced y w ≡ p = ap₂ front_replaced ey k.before ∙ header-put-back p sp.0 sp.1 k.bytes in
        let bq : front_replaced z v ≡ q = ap₂ front_replaced ez k.before' ∙ header-put-back q sq.0 sq.1 k.bytes' in
        let h' : Paired (mode_of r) r carry (corrected_pdu p) (corrected_pdu q) log a carry_end log_end = subst (λ (x : Mode × (List ℕ × List ℕ)). Paired x.0 r carry x.1.0 x.1.1 log a carry_end log_end) (λ i. (mode i, (ey i, ez i))) h in
        let ef' : first_end ≡ cond (eqb n 0) (corrected_pdu p) p = ef ∙ (λ i. cond (eqb (number i) 0) (ey i) (bp i)) in
        let eg' : second_end ≡ cond (eqb n 0) (corrected_pdu q) q = eg ∙ (λ i. cond (eqb (number i) 0) (ez i) (bq i)) in
        let x = result_by (eqb n 0) (accepted carry p q log r) (unchanged_pair carry p q log r n (wrong_in_pair (corrected_pdu p) (corrected_pdu q) n)) (together carry p q log r) a carry_end first_end second_end log_end together-is h'.answer h'.held ef' eg' h'.logged in
        given carry p q log r (together carry p q log r) a carry_end first_end second_end log_end (by-these true true on.0 on.1) x.0 x.1.0 x.1.1.0 x.1.1.1.0 x.1.1.1.1
