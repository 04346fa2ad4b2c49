-- Document 02, Ask 5: a pair's call on a receiver and its carry. A refused one leaves them; one for two copies of a PDU logs what both say together.
use mathlib.Core.Path.{◌≡◌, refl, sym, ap, ap₂, subst, ◌∙◌}
use mathlib.Core.Bool.{Bool, true, false, not, ◌&&◌}
use mathlib.Core.List.{List, [], ◌++◌}
use mathlib.Core.Option.{Option, none, some}
use Prim.Native.Nat.{ℕ, ◌+◌, ◌-◌, ◌<◌, ◌≤◌}
use native.Mathlib.Omega.{arith}
use lib.Dec.{eqb, ltb, leb}
use borrow.Author.Tests.{eq-eqb, le-ltb}
use lib.ListN.{length, get_or, take, drop}
use Rattle.refusal.specs.Refusal.{first_of}
use Rattle.refusal.proofs.Rows.{row-off, rest-off}
use Rattle.modes.specs.Modes.{listing, listing_number}
use Rattle.modes.specs.declared.Mode.{Mode}
use Rattle.modes.specs.declared.Listing.TheVariants.{Listed}
use Rattle.buffer.proofs.Laws.{take_put}
use Rattle.header.specs.Header.{length_refusal}
use Rattle.layout.specs.Control.{control_at}
use Rattle.layout.specs.declared.ControlWord.{ControlWord}
use Rattle.packet_log.specs.Log.{log_words, same_list}
use Rattle.correction.specs.Correction.{corrected, answer_for, correction_of, corrected_pdu}
use Rattle.correction.specs.Marks.{corrected_with, corrected_pdu_with}
use Rattle.correction.proofs.Decoding.{no-marks}
use Rattle.correction.proofs.Answers.{no-marks-pdu}
use Rattle.pdu.specs.Reading.{mode_in, listing_of, corrected_tests, reader_tests, judged, uncorrectable}
use Rattle.reassembly.specs.Reassembly.{Outcome, received}
use Rattle.reassembly.specs.Tally.{Countable}
use Rattle.reassembly.specs.Holder.{Come, Holder, said_to}
use Rattle.reassembly.proofs.Fitting.{SaneSaid}
use Rattle.receiver.specs.Receiving.{label_in}
use Rattle.receiver.specs.Steps.{state_tests, stream_tests}
use Rattle.receiver.specs.declared.Receiver.{Receiver}
use Rattle.batch.proofs.Single.{kept}
use Rattle.diversity.specs.Diversity.{correctable, pair_said, pair_come, front_of, copy_number, differ, PairResult, pair_as, pair_number, together, received_by, pair_received}
use Rattle.pair.proofs.Enough.{Passes, taken, passes-taken, passes-most}
use Rattle.packet_log.proofs.Same.{same-itself}
use Rattle.runs.proofs.Events.{came, holder_for}
use Rattle.diversity.proofs.AfterPair.{pair_words, pair_tally}
use Rattle.delivery.proofs.Parts.{answer_of}
use Rattle.delivery.specs.Delivery.{Station, of_one, station_after, logged_by, defined, paired, receive}
use Rattle.delivery.proofs.Copies.{same-slice}
use Rattle.delivery.proofs.Made.{Heard}
use Rattle.delivery.proofs.Serving.{rights_by, Shows, mode-is, taking, outcome-is, tally-is, taking-shows, logged_alone}

-- ---- a refused pair leaves receiver and carry

abbrev Keeps : List ℕ → Receiver → PairResult → Type 0
Keeps carry r x = ¬ (x.answer.refusal ≡ 0) → (x.answer.receiver ≡ r) × (x.carry ≡ carry)

module _ (carry p q log : List ℕ) (r : Receiver) where
  together-keeps : Keeps carry r (together carry p q log r)
  unfolding together
  together-keeps h = go (eqb (pair_number carry p q log r) 0) refl
    where
      go : (b : Bool) → eqb (pair_number carry p q log r) 0 ≡ b → ((together carry p q log r).answer.receiver ≡ r) × ((together carry p q log r).carry ≡ carry)
      go true e = absurd (h (rw e refl))
      go false e = (rw e refl, rw e refl)

  keeps-by : (s t : Bool) → Keeps carry r (received_by carry p q log r s t)
  keeps-by true true = together-keeps
  keeps-by true false = λ h. (let k = kept [] carry p log r h in (k.receiver, k.carry'))
  keeps-by false true = λ h. (let k = kept [] carry q log r h in (k.receiver, k.carry'))
  keeps-by false false = λ h. (refl, refl)

  pub pair-kept : Keeps carry r (pair_received carry p q log r)
  unfolding pair_received
  pair-kept = keeps-by (correctable (correction_of p)) (correctable (correction_of q))

-- ---- two copies pass the rows

-- a copy that can be corrected
correctable-is : (p : List ℕ) → (leb 96 (length p) && leb (length p) 20480) ≡ true → uncorrectable (corrected_with [] (take 96 p)) ≡ false → correctable (correction_of p) ≡ true
unfolding correction_of length_refusal
correctable-is p s u = rw s (go (corrected (take 96 p)) (ap uncorrectable (sym (no-marks (take 96 p))) ∙ u))
  where
    go : (o : Option (List ℕ)) → uncorrectable o ≡ false → correctable (answer_for (take 96 p) o) ≡ true
    go (some c) e = refl
    go none e = sym e

-- what a pair says, and its label, as it comes
pub pair-said-in : (register width : ℕ) (c : ControlWord) (y z : List ℕ) → (pair_come register width c y z).said ≡ pair_said register width c y z
unfolding pair_come
pair-said-in register width c y z = refl

pub pair-label-in : (register width : ℕ) (c : ControlWord) (y z : List ℕ) → (pair_come register width c y z).label ≡ label_in width c y
unfolding pair_come
pair-label-in register width c y z = refl

module _ (mode stream register entitled : ℕ) (m : Mode) (l : listing mode stream ≡ Listed m) (range : 0 < m.sequences) where
  module _ (x : Station) (y : Holder) (v : Shows mode stream register entitled m l range x y) where
    -- rows 5 to 12 of a copy that is heard
    rows_pass : (p : List ℕ) (d : Come) → Heard mode stream register m.width [] p d → copy_number x.receiver (corrected_pdu p) ≡ 0
    unfolding copy_number judged
    rows_pass p d h =
        subst (λ (z : List ℕ). first_of (stream_tests x.receiver (control_at z) ++ reader_tests (mode_in (listing_of (control_at z))) (control_at z) z) ≡ 0) (no-marks-pdu p)
        (let z = corrected_pdu_with [] p in
        let c = control_at z in
        let e5 : not (eqb (listing_number (listing_of c)) 0) ≡ false = row-off (corrected_tests c z) 0 refl h.reads in
        let em : eqb c.mode x.receiver.mode ≡ true = eq-eqb c.mode x.receiver.mode (h.same_mode ∙ sym v.same_mode) in
        let es : eqb c.stream x.receiver.stream ≡ true = eq-eqb c.stream x.receiver.stream (h.same_stream ∙ sym v.same_stream) in
        rw (e5, em, es) (rest-off (corrected_tests c z) 1 refl h.reads))

    state-passes : first_of (state_tests x.receiver (length x.carry)) ≡ 0
    state-passes = let e : ltb (length x.carry) 4096 ≡ false = le-ltb (length x.carry) 4096 v.room in rw (v.right, e)

    -- two that are alike up to La, by one control word
    alike : (c : ControlWord) (a b : List ℕ) → control_at a ≡ c → control_at b ≡ c → length a ≡ length b → take (c.la + 1) a ≡ take (c.la + 1) b → differ a b ≡ false
    unfolding differ
    alike c a b ea eb long front =
        let t : eqb (length a) (length b) ≡ true = eq-eqb (length a) (length b) long in
        let fa : front_of a ≡ take (c.la + 1 - 8) (drop 8 a) = ap (λ (k : ControlWord). take (k.la + 1 - 8) (drop 8 a)) ea in
        let fb : front_of b ≡ take (c.la + 1 - 8) (drop 8 b) = ap (λ (k : ControlWord). take (k.la + 1 - 8) (drop 8 b)) eb in
        let f : front_of b ≡ front_of a = fb ∙ sym (same-slice 8 (c.la + 1) a b front) ∙ sym fa in
        let s : same_list (front_of a) (front_of b) ≡ true = ap (same_list (front_of a)) f ∙ same-itself (front_of a) in
        rw (t, s)

    pub pair-passes : (c : ControlWord) (p q log : List ℕ) (d e : Come) → Heard mode stream register m.width [] p d → Heard mode stream register m.width [] q e
        → control_at (corrected_pdu p) ≡ c → control_at (corrected_pdu q) ≡ c → length (corrected_pdu p) ≡ length (corrected_pdu q) → take (c.la + 1) (corrected_pdu p) ≡ take (c.la + 1) (corrected_pdu q)
        → Passes x.carry p q log x.receiver
    pair-passes c p q log d e hp hq ep eq long front = record {
      first = correctable-is p hp.size hp.correctable;
      second = correctable-is q hq.size hq.correctable;
      state = state-passes;
      first_rows = rows_pass p d hp;
      second_rows = rows_pass q e hq;
      same = alike c (corrected_pdu p) (corrected_pdu q) ep eq long front;
    }

    -- ---- the call

    module _ (p q log : List ℕ) (d : Come) (h : Passes x.carry p q log x.receiver)
        (comes : pair_come register m.width (control_at (corrected_pdu p)) (corrected_pdu p) (corrected_pdu q) ≡ d) (s : SaneSaid d.said) (below : d.said.sequence < m.sequences)
        (narrow : d.label.services < 8) (bytes : (i : ℕ) → get_or p i 0 < 256) (big : 8400 ≤ length log) (within : Countable (holder_for (rights_by entitled stream m) m.sequences y (came d)).tally) where
      abbrev r : Receiver
      r = x.receiver

      abbrev carry : List ℕ
      carry = x.carry

      come-is : pair_as carry p q log r ≡ d
      come-is = ap₂ (λ (i : ℕ) (t : Mode). pair_come i t.width (control_at (corrected_pdu p)) (corrected_pdu p) (corrected_pdu q)) v.same_register (ap mode_in (mode-is mode stream register entitled m l range r v.same_mode v.same_stream)) ∙ comes

      not-over : Countable (pair_tally carry p q log r)
      not-over = subst Countable (sym (tally-is mode stream register entitled m l range x y v (pair_as carry p q log r) d come-is)) within

      all-taken : pair_received carry p q log r ≡ taken carry p q log r
      all-taken = passes-taken carry p q log r h (let n = passes-most carry p q log r h bytes in omega (arith, n, big)) not-over

      pub pair-accepted : (answer_of x (receive (paired p q) log)).refusal ≡ 0
      pair-accepted = ap (λ (z : PairResult). z.answer.refusal) all-taken

      pub pair-logged : logged_by defined x (receive (paired p q) log) ≡ log_words (received m.sequences y.memory (said_to (rights_by entitled stream m) m.sequences y d)).entries
      pair-logged =
          ap (λ (z : PairResult). logged_alone (of_one z.answer) z.log) all-taken
          ∙ take_put log (pair_words carry p q log r)
          ∙ ap (λ (o : Outcome). log_words o.entries) (outcome-is mode stream register entitled m l range x y v (pair_as carry p q log r) d come-is)

      pub pair-shows : Shows mode stream register entitled m l range (station_after defined x (receive (paired p q) log)) (holder_for (rights_by entitled stream m) m.sequences y (came d))
      pair-shows =
          let e : station_after defined x (receive (paired p q) log) ≡ taking mode stream register entitled m l range x (pair_as carry p q log r) = ap (λ (u : PairResult). record { receiver = u.answer.receiver; carry = u.carry }) all-taken in
          subst (λ (t : Station). Shows mode stream register entitled m l range t (holder_for (rights_by entitled stream m) m.sequences y (came d))) (sym e)
          (taking-shows mode stream register entitled m l range x y v (pair_as carry p q log r) d come-is s below narrow)
