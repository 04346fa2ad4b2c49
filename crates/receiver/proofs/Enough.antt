-- Document 01, "Receiver": a log of 8,400 words and a carry of 4,096 bytes always suffice.
use mathlib.Core.Path.{◌≡◌, refl, sym, ap, ◌∙◌}
use mathlib.Core.Bool.{Bool, false, not, ◌&&◌, cond}
use mathlib.Core.List.{List, [], ◌∷◌, ◌++◌}
use Prim.Native.Nat.{ℕ, zero, suc, ◌+◌, ◌<◌, ◌≤◌}
use native.Mathlib.Omega.{arith}
use lib.Dec.{eqb, ltb, leb}
use borrow.Author.Tests.{ltb-true, ltb-false, leb-true, le-ltb, eqb-true, not-false}
use lib.ListN.{length, get_or, take, drop, length-append, length-take, length-drop}
use lib.Seq.{length-take-le}
use Rattle.refusal.specs.Refusal.{first_of, any_of}
use Rattle.refusal.proofs.Rows.{passed, row-off, rest-off, never, row_on, last_on, none-at}
use Rattle.modes.specs.Modes.{listing_number}
use Rattle.modes.specs.declared.Mode.{Mode}
use Rattle.header.proofs.Unique.{all_take}
use Rattle.layout.specs.Control.{control_at}
use Rattle.layout.specs.declared.ControlWord.{ControlWord}
use Rattle.packet_log.specs.Log.{log_words, entry_words}
use Rattle.correction.specs.Correction.{header_after}
use Rattle.correction.specs.Marks.{marks_refusal, corrected_with, corrected_pdu_with}
use Rattle.correction.proofs.MarkLists.{allowed-marks}
use Rattle.correction.proofs.Answers.{header-with-length, corrected-pdu}
use Rattle.pdu.specs.Reading.{start_at, length_at, psd_of, reader_tests, listing_of, mode_in, uncorrectable}
use Rattle.pdu.proofs.Assembling.{nop-small}
use Rattle.pdu.proofs.Sizes.{lengths_from, sized}
use Rattle.reassembly.specs.Reassembly.{received}
use Rattle.reassembly.specs.Rights.{under}
use Rattle.reassembly.specs.Run.{partial_bytes, partial_of}
use Rattle.reassembly.proofs.Bound.{piece_bytes, bound}
use Rattle.receiver.proofs.AfterReceiving.{received_words}
use Rattle.receiver.specs.Receiving.{pieces_in, said_by, come_by, said, memory_of, mode_of, wrong_state, receive_tests, receive_number, lost_number}
use Rattle.receiver.specs.declared.Receiver.{Receiver}
use Rattle.receiver.proofs.Rows.{both-on, same-listing}

-- ---- what a PDU says comes from its bytes

pub taken-few : (n k : ℕ) (y : List ℕ) → length (take n (drop k y)) ≤ n
taken-few n k y = let e = length-take n (drop k y) in omega (arith, e)

pieces-few : (register width : ℕ) (c : ControlWord) (y : List ℕ) (k n : ℕ) → (length (pieces_in register width c y k n) ≡ n) × (piece_bytes (pieces_in register width c y k n) ≤ lengths_from width c y k n)
unfolding pieces_in lengths_from
pieces-few register width c y k zero = (refl, omega arith)
pieces-few register width c y k (suc n) =
    let h = pieces-few register width c y (suc k) n in
    let t = taken-few (length_at width c y k) (start_at width c y k) y in
    (ap suc h.0, omega (arith, h.1, t))

pub held-few : (held number : ℕ) (c : List ℕ) → held ≤ 4096 → length (partial_bytes (partial_of held number c)) ≤ 4096
held-few zero number c h = omega arith
held-few (suc x) number c h = let e = length-take (suc x) c in omega (arith, e, h)

-- the words that a PDU of at most 20,480 bytes takes, where none of the rows 7 to 12 applies
pub words-most : (w : Bool) (range : ℕ) (m : Mode) (r : Receiver) (carry : List ℕ) (c : ControlWord) (y : List ℕ) → r.held ≤ 4096 → length y ≤ 20480 → c.nop < 64 → first_of (reader_tests m c y) ≡ 0
    → length (log_words (received range (memory_of r carry) (under w (said_by r.register m.width c y))).entries) ≤ 8400
unfolding said_by memory_of
words-most w range m r carry c y held size few e =
    let z = sized m c y e in
    let p = pieces-few r.register m.width c y 0 c.nop in
    let q = taken-few (psd_of m.width c y).length (psd_of m.width c y).start y in
    let l = z.lengths 0 c.nop (omega arith) in
    bound range _ _ (held-few r.held r.number carry held) (omega (arith, p.0)) (omega (arith, q, p.1, l, size))

-- ---- the rows before 13

pub corrected-length : (marks p : List ℕ) → 96 ≤ length p → length p ≤ 20480 → ((i : ℕ) → get_or p i 0 < 256) → marks_refusal marks ≡ 0 → length (corrected_pdu_with marks p) ≡ length p
corrected-length marks p lo hi b ok =
    let w : List ℕ = take 96 p in
    let h : List ℕ = header_after w (corrected_with marks w) in
    let lh : length h ≡ 96 = header-with-length marks w (allowed-marks marks ok).0 (length-take-le 96 p lo) (all_take 96 p b) in
    let n : length (h ++ drop 96 p) ≡ length h + length (drop 96 p) = length-append h (drop 96 p) in
    let d = length-drop 96 p in
    ap length (corrected-pdu marks p lo hi ok) ∙ omega (arith, n, lh, d, lo)

module _ (marks carry pdu log : List ℕ) (r : Receiver) where
  abbrev y : List ℕ
  y = corrected_pdu_with marks pdu

  abbrev c : ControlWord
  c = control_at y

  -- rows 1 to 12, and 19
  abbrev pub first_twelve : List (Bool × ℕ)
  first_twelve =
      (any_of (wrong_state r), 1)
      ∷ (ltb (length carry) 4096, 2)
      ∷ (not (leb 96 (length pdu) && leb (length pdu) 20480), 3)
      ∷ (not (eqb (marks_refusal marks) 0), 19)
      ∷ (uncorrectable (corrected_with marks (take 96 pdu)), 4)
      ∷ (not (eqb (listing_number (listing_of c)) 0), 5)
      ∷ (not (eqb c.mode r.mode && eqb c.stream r.stream), 6)
      ∷ reader_tests (mode_in (listing_of c)) c y

  -- where none of these rows applies, the words are at most 8,400
  pub most : ((i : ℕ) → get_or pdu i 0 < 256) → first_of first_twelve ≡ 0 → length (received_words marks carry pdu log r) ≤ 8400
  unfolding come_by
  most b e =
      let off : (k : ℕ) → (get_or first_twelve k (false, 0)).0 ≡ false = λ k. row-off first_twelve k refl e in
      let size = both-on (leb 96 (length pdu)) (leb (length pdu) 20480) (off 2) in
      let lo = leb-true 96 (length pdu) size.0 in
      let hi = leb-true (length pdu) 20480 size.1 in
      let ok : marks_refusal marks ≡ 0 = eqb-true (marks_refusal marks) 0 (not-false (eqb (marks_refusal marks) 0) (off 3)) in
      let m : mode_in (listing_of c) ≡ mode_of r = ap mode_in (same-listing r c (off 6)) in
      let held = ltb-false 4096 r.held (none-at (wrong_state r) 3 (off 0)) in
      words-most (said marks carry pdu log r).withheld (mode_of r).sequences (mode_of r) r carry c y held (omega (arith, corrected-length marks pdu lo hi b ok, hi)) (nop-small y) (ap (λ (k : Mode). first_of (reader_tests k c y)) (sym m) ∙ rest-off first_twelve 7 refl e)

  -- a carry of 4,096 bytes and a log of 8,400 words: never refused with 2 or 13
  pub enough-carry : 4096 ≤ length carry → ¬ (receive_number marks carry pdu log r ≡ 2)
  unfolding receive_number
  enough-carry big e =
      let t = passed 2 ((any_of (wrong_state r), 1) ∷ []) (drop 1 (receive_tests marks carry pdu log r)) refl e in
      let z : ltb (length carry) 4096 ≡ false = le-ltb (length carry) 4096 big in
      never 2 (drop 2 (receive_tests marks carry pdu log r)) refl refl (sym (ap (λ (b : Bool). cond b 2 (first_of (drop 2 (receive_tests marks carry pdu log r)))) z) ∙ t.1)

  pub enough-log : ((i : ℕ) → get_or pdu i 0 < 256) → 8400 ≤ length log → ¬ (receive_number marks carry pdu log r ≡ 13)
  unfolding receive_number
  enough-log b big e =
      let t = passed 13 first_twelve (drop 13 (receive_tests marks carry pdu log r)) refl e in
      let on = ltb-true (length log) (length (received_words marks carry pdu log r)) (row_on (ltb (length log) (length (received_words marks carry pdu log r))) 13 [] (drop 14 (receive_tests marks carry pdu log r)) refl refl refl t.1) in
      let h = most b t.0 in
      absurd (omega (arith, on, h, big))

pub lost-enough : (log : List ℕ) (r : Receiver) → 1 ≤ length log → ¬ (lost_number log r ≡ 13)
unfolding lost_number log_words entry_words
lost-enough log r big e =
    let t = passed 13 ((any_of (wrong_state r), 1) ∷ []) ((ltb (length log) 1, 13) ∷ []) refl e in
    let on = ltb-true (length log) 1 (last_on (ltb (length log) 1) 13 refl t.1) in
    absurd (omega (arith, on, big))
