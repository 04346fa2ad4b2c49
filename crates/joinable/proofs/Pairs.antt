-- The log of a pair is a log, and the carry stays one of bytes (document 02, Ask 5).
use mathlib.Core.Path.{◌≡◌, refl, sym, ap, subst, ◌∙◌}
use mathlib.Core.Bool.{Bool, true, false, not, true≢false}
use mathlib.Core.List.{List, [], ◌∷◌, ◌++◌}
use Prim.Native.Nat.{ℕ, ◌+◌, ◌≤◌}
use native.Mathlib.Omega.{arith}
use lib.Dec.{eqb}
use borrow.Author.Tests.{eqb-true, eq-eqb}
use lib.ListN.{length, take, drop}
use Rattle.refusal.specs.Refusal.{first_of}
use Rattle.refusal.proofs.Rows.{passed, row-off, rest-off}
use Rattle.modes.specs.declared.Listing.{Listing}
use Rattle.buffer.proofs.Laws.{take_put}
use Rattle.header.proofs.Unique.{all-bytes}
use Rattle.layout.specs.Control.{control_at}
use Rattle.correction.specs.Correction.{correction_of, corrected_pdu}
use Rattle.correction.specs.Marks.{marks_refusal}
use Rattle.correction.proofs.Answers.{no-marks-pdu, corrected-allowed}
use Rattle.pdu.specs.Reading.{reader_tests, listing_of, mode_in}
use Rattle.reassembly.proofs.Fitting.{SanePartial, SaneSaid}
use Rattle.receiver.specs.Receiving.{memory_of, mode_of}
use Rattle.receiver.specs.Steps.{state_tests, stream_tests}
use Rattle.receiver.specs.declared.Receiver.{Receiver}
use Rattle.receiver.proofs.Enough.{corrected-length}
use Rattle.receiver.proofs.Rows.{same-listing}
use Rattle.diversity.specs.Diversity.{correctable, pair_said, pair_come, copy_number, lower, differ, PairResult, pair_tests, pair_number, together, received_by, pair_received}
use Rattle.pair.proofs.Calling.{corrected-is}
use Rattle.pair.proofs.Lowest.{lower-is-zero}
use Rattle.join.specs.Join.{is_log}
use Rattle.writer.specs.RoundTrip.{Bytes}
use Rattle.delivery.proofs.Accepted.{corrected-bytes, sane-pair}
use Rattle.diversity.proofs.AfterPair.{pair_told, pair_words}
use Rattle.joinable.proofs.Saying.{held-sane, under-sane}
use Rattle.joinable.proofs.Calls.{no_words, entries-log, partial-put, received-log, carry-bytes}

-- ---- rows

-- none of the rows applies: not the one of the copies, nor one of those after it
none-lower : (n : ℕ) (ts : List (Bool × ℕ)) → first_of ((not (eqb n 0), n) ∷ ts) ≡ 0 → (n ≡ 0) × (first_of ts ≡ 0)
none-lower n ts = go (eqb n 0) refl
  where
    go : (t : Bool) → eqb n 0 ≡ t → first_of ((not t, n) ∷ ts) ≡ 0 → (n ≡ 0) × (first_of ts ≡ 0)
    go true h e = (eqb-true n 0 h, e)
    go false h e = absurd (true≢false (sym (eq-eqb n 0 e) ∙ h))

-- a corrected copy is of bytes, and no longer than a PDU
copy-bytes : (p : List ℕ) → correctable (correction_of p) ≡ true → Bytes p → Bytes (corrected_pdu p) × (length (corrected_pdu p) ≤ 20480)
unfolding marks_refusal
copy-bytes p e b =
    let n = corrected-is (correction_of p) e in
    let s = corrected-allowed p n.0 n.1 in
    let l : length (corrected_pdu p) ≡ length p = ap length (sym (no-marks-pdu p)) ∙ corrected-length [] p s.0 s.1 (all-bytes p b) refl in
    (subst Bytes (no-marks-pdu p) (corrected-bytes [] p s.0 s.1 b refl), omega (arith, l, s.1))

-- rows 7 to 12 do not apply to a copy of the receiver's mode
copy-right : (r : Receiver) (y : List ℕ) → copy_number r y ≡ 0 → first_of (reader_tests (mode_of r) (control_at y) y) ≡ 0
unfolding copy_number
copy-right r y e =
    let c = control_at y in
    let rows = stream_tests r c ++ reader_tests (mode_in (listing_of c)) c y in
    ap (λ (x : Listing). first_of (reader_tests (mode_in x) c y)) (sym (same-listing r c (row-off rows 1 refl e))) ∙ rest-off rows 2 refl e

-- ---- a pair received

-- the words that count are a log, and the carry is of bytes
abbrev Right : PairResult → Type 0
Right x = (is_log (take x.answer.words x.log) ≡ true) × Bytes x.carry

module _ (carry first second log : List ℕ) (r : Receiver) (bc : Bytes carry) (bf : Bytes first) (bs : Bytes second) where
  abbrev y : List ℕ
  y = corrected_pdu first

  abbrev z : List ℕ
  z = corrected_pdu second

  module _ (cf : correctable (correction_of first) ≡ true) (cs : correctable (correction_of second) ≡ true) (e : pair_number carry first second log r ≡ 0) where
    rows : (first_of (state_tests r (length carry)) ≡ 0) × (copy_number r y ≡ 0) × (differ y z ≡ false)
    unfolding pair_number
    rows =
        let tests = pair_tests carry first second log r in
        let a = passed 0 (state_tests r (length carry)) (drop 2 tests) refl e in
        let b = none-lower (lower (copy_number r y) (copy_number r z)) (drop 3 tests) a.1 in
        (a.0, (lower-is-zero (copy_number r y) (copy_number r z) b.0).0, row-off (drop 3 tests) 0 refl b.1)

    held : SanePartial (memory_of r carry).partial
    held = held-sane carry r bc (row-off (state_tests r (length carry)) 0 refl rows.0) (row-off (state_tests r (length carry)) 1 refl rows.0)

    says : SaneSaid (pair_told carry first second log r)
    unfolding pair_come
    says =
        let f = copy-bytes first cf bf in
        let c = control_at y in
        under-sane (pair_told carry first second log r).withheld (pair_said r.register (mode_of r).width c y z)
        (sane-pair r.register (mode_of r) y z f.0 (copy-bytes second cs bs).0 (copy-right r y rows.1) rows.2 f.1)

  both : correctable (correction_of first) ≡ true → correctable (correction_of second) ≡ true → Right (together carry first second log r)
  unfolding together
  both cf cs = go (eqb (pair_number carry first second log r) 0) refl
    where
      go : (t : Bool) → eqb (pair_number carry first second log r) 0 ≡ t → Right (together carry first second log r)
      go true e =
          let n = eqb-true (pair_number carry first second log r) 0 e in
          let range = (mode_of r).sequences in
          let d = pair_told carry first second log r in
          rw e (
            subst (λ (ws : List ℕ). is_log ws ≡ true) (sym (take_put log (pair_words carry first second log r))) (entries-log range (memory_of r carry) d (held cf cs n) (says cf cs n)),
            partial-put range (memory_of r carry) d (held cf cs n) (says cf cs n) carry bc,
          )
      go false e = rw e (no_words, bc)

  pub pair-log : Right (pair_received carry first second log r)
  unfolding pair_received
  pair-log = go (correctable (correction_of first)) (correctable (correction_of second)) refl refl
    where
      go : (s t : Bool) → correctable (correction_of first) ≡ s → correctable (correction_of second) ≡ t → Right (received_by carry first second log r s t)
      go true true es et = both es et
      go true false es et = (received-log [] carry first log r bc bf, carry-bytes [] carry first log r bc bf)
      go false true es et = (received-log [] carry second log r bc bs, carry-bytes [] carry second log r bc bs)
      go false false es et = (no_words, bc)
