-- A pair that no row but 13 turns down: it is accepted where the log has room, and 8,400 words are room enough.
use mathlib.Core.Path.{◌≡◌, refl, sym, ap, ap₂, ◌∙◌}
use mathlib.Core.Bool.{Bool, true, false, cond}
use mathlib.Core.List.{List, [], ◌++◌}
use Prim.Native.Nat.{ℕ, zero, suc, ◌+◌, ◌-◌, ◌<◌, ◌≤◌}
use native.Mathlib.Omega.{arith}
use lib.Dec.{eqb, ltb}
use lib.ListN.{length, get_or, drop}
use borrow.Author.Tests.{eq-eqb, le-ltb, ltb-false}
use Rattle.refusal.specs.Refusal.{first_of}
use Rattle.refusal.proofs.Rows.{past, row-off, rest-off, none-at}
use Rattle.modes.specs.declared.Mode.{Mode}
use Rattle.modes.specs.declared.Listing.{Listing}
use Rattle.buffer.specs.Buffer.{put_at}
use Rattle.layout.specs.Control.{control_at}
use Rattle.layout.specs.declared.ControlWord.{ControlWord}
use Rattle.layout.specs.Locators.{locator_at}
use Rattle.packet_log.specs.Log.{log_words}
use Rattle.correction.specs.Correction.{correction_of, corrected_pdu}
use Rattle.correction.specs.Marks.{marks_refusal}
use Rattle.correction.proofs.Answers.{corrected-allowed, no-marks-pdu}
use Rattle.pdu.specs.Reading.{mark_at, start_at, length_at, psd_of, reader_tests, mode_in, listing_of}
use Rattle.pdu.proofs.Assembling.{nop-small}
use Rattle.pdu.proofs.Sizes.{lengths_from, sized}
use Rattle.reassembly.specs.Reassembly.{received}
use Rattle.reassembly.specs.Rights.{under}
use Rattle.reassembly.specs.Run.{partial_bytes}
use Rattle.reassembly.specs.Tally.{Countable, passes_limit}
use Rattle.reassembly.proofs.Tallies.{not-passed}
use Rattle.reassembly.proofs.Bound.{piece_bytes, bound}
use Rattle.receiver.specs.Receiving.{piece_in, said_by, memory_of, remembering, mode_of, wrong_state}
use Rattle.receiver.specs.Steps.{state_tests, stream_tests}
use Rattle.receiver.specs.declared.Receiver.{Receiver}
use Rattle.receiver.proofs.Enough.{taken-few, held-few, corrected-length}
use Rattle.receiver.proofs.Rows.{same-listing}
use Rattle.diversity.specs.Diversity.{correctable, pair_piece, pair_pieces, pair_said, pair_come, copy_number, differ, PairResult, pair_outcome, pair_tests, pair_number, together, received_by, pair_received}
use Rattle.diversity.proofs.Alike.{locators-same, pair-bytes}
use Rattle.diversity.proofs.AfterPair.{pair_told, pair_words, pair_memory, pair_services, pair_tally}
use Rattle.pair.proofs.Calling.{corrected-is}

-- ---- the words of two copies

module _ (register width : ℕ) (c : ControlWord) (y z : List ℕ) (same : (k : ℕ) → k < c.nop → locator_at width y k ≡ locator_at width z k) where
  mark-is : (k : ℕ) → k ≤ c.nop → mark_at width c z k ≡ mark_at width c y k
  mark-is zero h = refl
  mark-is (suc k) h = sym (same k h)

  length-is : (k : ℕ) → k < c.nop → length_at width c z k ≡ length_at width c y k
  length-is k h = ap₂ (λ (a b : ℕ). a - (b + 1)) (sym (same k h)) (mark-is k (omega arith))

  piece-few : (k : ℕ) → k < c.nop → length (pair_piece (piece_in register width c y k) (piece_in register width c z k)).bytes ≤ length_at width c y k
  piece-few k h = rw (pair-bytes (piece_in register width c y k) (piece_in register width c z k)) (go (eqb (piece_in register width c y k).cause 0))
    where
      go : (b : Bool) → length (cond b (piece_in register width c y k).bytes (piece_in register width c z k).bytes) ≤ length_at width c y k
      go true = taken-few (length_at width c y k) (start_at width c y k) y
      go false = let t = taken-few (length_at width c z k) (start_at width c z k) z in let e = length-is k h in omega (arith, t, e)

  pieces-few : (n k : ℕ) → k + n ≤ c.nop → (length (pair_pieces register width c y z k n) ≡ n) × (piece_bytes (pair_pieces register width c y z k n) ≤ lengths_from width c y k n)
  unfolding pair_pieces lengths_from
  pieces-few zero k h = (refl, omega arith)
  pieces-few (suc n) k h =
      let i = pieces-few n (suc k) (omega arith) in
      let t = piece-few k (omega arith) in
      (ap suc i.0, omega (arith, i.1, t))

-- of which none of the rows 7 to 12, and not 20, applies
pub words-most : (w : Bool) (range : ℕ) (m : Mode) (r : Receiver) (carry y z : List ℕ) → r.held ≤ 4096 → length y ≤ 20480 → first_of (reader_tests m (control_at y) y) ≡ 0 → differ y z ≡ false
    → length (log_words (received range (memory_of r carry) (under w (pair_said r.register m.width (control_at y) y z))).entries) ≤ 8400
unfolding said_by pair_said memory_of
words-most w range m r carry y z held size right e =
    let c = control_at y in
    let s = sized m c y right in
    let p = pieces-few r.register m.width c y z (locators-same y z e m.width c refl s.la s.after) c.nop 0 (omega arith) in
    let q = taken-few (psd_of m.width c y).length (psd_of m.width c y).start y in
    let l = s.lengths 0 c.nop (omega arith) in
    let n = nop-small y in
    bound range _ _ (held-few r.held r.number carry held) (omega (arith, p.0, n)) (omega (arith, q, p.1, l, size))

-- ---- a pair that no row turns down

module _ (carry p q log : List ℕ) (r : Receiver) where
  -- rows 1, 2, 5 to 12 and 20 do not apply
  pub record Passes : Type 0 where
    pub first : correctable (correction_of p) ≡ true
    pub second : correctable (correction_of q) ≡ true
    pub state : first_of (state_tests r (length carry)) ≡ 0
    pub first_rows : copy_number r (corrected_pdu p) ≡ 0
    pub second_rows : copy_number r (corrected_pdu q) ≡ 0
    pub same : differ (corrected_pdu p) (corrected_pdu q) ≡ false

  -- what is answered and left, both received
  abbrev pub taken : PairResult
  taken = record {
    answer = record { refusal = 0; wrong = 0; words = length (pair_words carry p q log r); receiver = remembering r (pair_memory carry p q log r) (pair_services carry p q log r) (pair_tally carry p q log r) };
    carry = put_at carry 0 (partial_bytes (pair_outcome carry p q log r).partial);
    first = corrected_pdu p;
    second = corrected_pdu q;
    log = put_at log 0 (pair_words carry p q log r);
  }

  module _ (h : Passes) where
    number_is : pair_number carry p q log r ≡ cond (ltb (length log) (length (pair_words carry p q log r))) 13 (cond (passes_limit (pair_tally carry p q log r)) 27 0)
    unfolding pair_number
    number_is =
        let s = h.same in
        past (state_tests r (length carry)) (drop 2 (pair_tests carry p q log r)) refl h.state
        ∙ rw (h.first_rows, h.second_rows, s)

    pub passes-taken : length (pair_words carry p q log r) ≤ length log → Countable (pair_tally carry p q log r) → pair_received carry p q log r ≡ taken
    unfolding pair_received together
    passes-taken room few =
        let t : ltb (length log) (length (pair_words carry p q log r)) ≡ false = le-ltb (length log) (length (pair_words carry p q log r)) room in
        let u : passes_limit (pair_tally carry p q log r) ≡ false = not-passed (pair_tally carry p q log r) few in
        let z : pair_number carry p q log r ≡ 0 = number_is ∙ ap₂ (λ (b d : Bool). cond b 13 (cond d 27 0)) t u in
        let e : eqb (pair_number carry p q log r) 0 ≡ true = eq-eqb (pair_number carry p q log r) 0 z in
        ap₂ (received_by carry p q log r) h.first h.second ∙ rw e

    held-most : r.held ≤ 4096
    held-most = ltb-false 4096 r.held (none-at (wrong_state r) 3 (row-off (state_tests r (length carry)) 0 refl h.state))

    first-long : ((i : ℕ) → get_or p i 0 < 256) → length (corrected_pdu p) ≤ 20480
    unfolding marks_refusal
    first-long bytes =
        let n = corrected-is (correction_of p) h.first in
        let s = corrected-allowed p n.0 n.1 in
        let e : length (corrected_pdu p) ≡ length p = ap length (sym (no-marks-pdu p)) ∙ corrected-length [] p s.0 s.1 bytes refl in
        let m = s.1 in
        omega (arith, e, m)

    first-right : first_of (reader_tests (mode_of r) (control_at (corrected_pdu p)) (corrected_pdu p)) ≡ 0
    unfolding copy_number
    first-right =
        let c = control_at (corrected_pdu p) in
        let rows = stream_tests r c ++ reader_tests (mode_in (listing_of c)) c (corrected_pdu p) in
        ap (λ (x : Listing). first_of (reader_tests (mode_in x) c (corrected_pdu p))) (sym (same-listing r c (row-off rows 1 refl h.first_rows))) ∙ rest-off rows 2 refl h.first_rows

    -- a log of 8,400 words suffices
    pub passes-most : ((i : ℕ) → get_or p i 0 < 256) → length (pair_words carry p q log r) ≤ 8400
    unfolding pair_come
    passes-most bytes = words-most (pair_told carry p q log r).withheld (mode_of r).sequences (mode_of r) r carry (corrected_pdu p) (corrected_pdu q) held-most (first-long bytes) first-right h.same
