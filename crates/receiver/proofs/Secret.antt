-- Document 02, Ask 10: nothing of a withheld PDU but its front reaches the log, the carry or the receiver (specs/Secrecy.antt).
use mathlib.Core.Path.{◌≡◌, refl, sym, ap, ap₂, ◌∙◌}
use mathlib.Core.Bool.{true, false}
use mathlib.Core.List.{List}
use mathlib.Core.Option.{Option, some}
use Prim.Native.Nat.{ℕ}
use native.Mathlib.Omega.{arith}
use lib.Dec.{eqb}
use lib.ListN.{length, get_or}
use borrow.Author.Tests.{eq-eqb, not-false}
use Rattle.refusal.proofs.Rows.{row-off}
use Rattle.buffer.specs.Buffer.{put_at}
use Rattle.modes.specs.declared.Listing.{Listing}
use Rattle.layout.specs.Control.{control_at}
use Rattle.layout.specs.declared.ControlWord.{ControlWord}
use Rattle.packet_log.specs.Log.{log_words}
use Rattle.correction.specs.Marks.{corrected_pdu_with}
use Rattle.expansion.specs.declared.Interpreted.{Interpreted}
use Rattle.pdu.specs.Reading.{fields_of, mode_in, listing_of}
use Rattle.pdu.proofs.Ignored.{control-same}
use Rattle.reassembly.specs.Reassembly.{Said, nothing, Outcome, beginning_step, sequence_step, received, remembered}
use Rattle.reassembly.specs.Rights.{Label, forgetting, in_force, kept_after, withheld_by}
use Rattle.reassembly.specs.Holder.{Come}
use Rattle.reassembly.specs.Run.{partial_bytes}
use Rattle.reassembly.specs.Tally.{tallied}
use Rattle.reassembly.proofs.Withheld.{begun-held, nothing-shown}
use Rattle.receiver.specs.Entitling.{entitles}
use Rattle.receiver.specs.Receiving.{label_in, come_by, said_by, memory_of, kept_of, tally_of, keeps_services, in_force_at, shown, kept_by, remembering, mode_of, come, said, receive_tests, receive_number, receive_answer, carry_after, log_after}
use Rattle.receiver.specs.Secrecy.{Withheld, SameFront, still_held, Same, Secrecy}
use Rattle.receiver.specs.declared.Receiver.{Receiver}
use Rattle.receiver.specs.declared.Received.{Received}
use Rattle.receiver.proofs.Front.{fields-same}
use Rattle.receiver.proofs.Rows.{same-listing}

-- ---- by what two PDUs say

module _ (range : ℕ) (r : Receiver) (carry : List ℕ) (d e : Come) (q : d.said.sequence ≡ e.said.sequence) (p : d.said.pfirst ≡ e.said.pfirst) (s : d.said.start ≡ e.said.start) (l : d.label ≡ e.label)
    (w : (shown range r carry d).withheld ≡ true)
    (n : (beginning_step d.said.pfirst d.said.start (sequence_step range (memory_of r carry).last d.said.sequence (memory_of r carry).partial).partial).partial ≡ nothing) where
  value_same : in_force_at range r carry d ≡ in_force_at range r carry e
  value_same = ap₂ (λ (a : ℕ) (b : Label). in_force (keeps_services range r) a b.services (forgetting range (memory_of r carry).last a (kept_of r))) q l

  withheld-too : (shown range r carry e).withheld ≡ true
  withheld-too = ap₂ (λ (b : Label) (v : Option ℕ). withheld_by (entitles r.entitled) b.program v) (sym l) (sym value_same) ∙ w

  outcome-same : received range (memory_of r carry) (shown range r carry d) ≡ received range (memory_of r carry) (shown range r carry e)
  outcome-same = nothing-shown range (memory_of r carry) (shown range r carry d) (shown range r carry e) w withheld-too q p s n

  kept_same : kept_by range r carry d ≡ kept_by range r carry e
  kept_same = ap (kept_after (keeps_services range r)) value_same

  -- the answer of an accepted call
  abbrev answer_with : Outcome → ℕ → Option ℕ → Received
  answer_with o sequence kept = record { refusal = 0; wrong = 0; words = length (log_words o.entries); receiver = remembering r (record { last = some sequence; partial = o.partial }) kept (tallied (tally_of r) o.entries) }

  answer-same : answer_with (received range (memory_of r carry) (shown range r carry d)) d.said.sequence (kept_by range r carry d) ≡ answer_with (received range (memory_of r carry) (shown range r carry e)) e.said.sequence (kept_by range r carry e)
  answer-same = λ i. answer_with (outcome-same i) (q i) (kept_same i)

-- ---- by their bytes

module _ (carry log : List ℕ) (r : Receiver) where
  -- the expansion of an accepted PDU breaks no rule
  fields-right : (marks pdu : List ℕ) → receive_number marks carry pdu log r ≡ 0 → (fields_of (mode_of r).width (control_at (corrected_pdu_with marks pdu)) (corrected_pdu_with marks pdu)).right ≡ true
  unfolding receive_number
  fields-right marks pdu e =
      let y : List ℕ = corrected_pdu_with marks pdu in
      let c : ControlWord = control_at y in
      let off : (k : ℕ) → (get_or (receive_tests marks carry pdu log r) k (false, 0)).0 ≡ false = λ k. row-off (receive_tests marks carry pdu log r) k refl e in
      ap (λ (x : Listing). (fields_of (mode_in x).width c y).right) (sym (same-listing r c (off 6))) ∙ not-false (fields_of (mode_in (listing_of c)).width c y).right (off 10)

  module _ (marks other pdu second : List ℕ) (a : Withheld carry log r marks pdu) (b : Withheld carry log r other second)
      (f : SameFront carry log r (corrected_pdu_with marks pdu) (corrected_pdu_with other second)) (n : still_held carry log r (said marks carry pdu log r) ≡ nothing) where
    abbrev y : List ℕ
    y = corrected_pdu_with marks pdu

    abbrev z : List ℕ
    z = corrected_pdu_with other second

    control : control_at y ≡ control_at z
    control = control-same y z (λ i g h. f.bytes i g (omega (arith, h)))

    label : label_in (mode_of r).width (control_at y) y ≡ label_in (mode_of r).width (control_at z) z
    label =
        let g = fields-same (mode_of r).width (control_at y) y z f.long (fields-right marks pdu a.accepted) (λ i u v. f.bytes i (omega (arith, u)) v) in
        ap (λ (x : Interpreted). record { program = x.program; services = x.services }) g ∙ ap (λ (c : ControlWord). label_in (mode_of r).width c z) control

    abbrev first : Come
    first = come marks carry pdu log r

    abbrev next : Come
    next = come other carry second log r

    sequence : first.said.sequence ≡ next.said.sequence
    unfolding come_by said_by
    sequence = ap (λ (c : ControlWord). c.sequence) control

    pfirst : first.said.pfirst ≡ next.said.pfirst
    unfolding come_by said_by
    pfirst = ap (λ (c : ControlWord). c.pfirst) control

    start : first.said.start ≡ next.said.start
    unfolding come_by said_by
    start = ap (λ (c : ControlWord). c.start) control

    labels-same : first.label ≡ next.label
    unfolding come_by
    labels-same = label

    outcomes : received (mode_of r).sequences (memory_of r carry) (said marks carry pdu log r) ≡ received (mode_of r).sequences (memory_of r carry) (said other carry second log r)
    outcomes = outcome-same (mode_of r).sequences r carry first next sequence pfirst start labels-same a.withheld n

    one : eqb (receive_number marks carry pdu log r) 0 ≡ true
    one = eq-eqb (receive_number marks carry pdu log r) 0 a.accepted

    two : eqb (receive_number other carry second log r) 0 ≡ true
    two = eq-eqb (receive_number other carry second log r) 0 b.accepted

    pub same : Same carry log r marks other pdu second
    unfolding receive_answer carry_after log_after remembered
    same = record {
      answer = rw (one, two) (answer-same (mode_of r).sequences r carry first next sequence pfirst start labels-same a.withheld n);
      held = rw (one, two) (ap (λ (o : Outcome). put_at carry 0 (partial_bytes o.partial)) outcomes);
      logged = rw (one, two) (ap (λ (o : Outcome). put_at log 0 (log_words o.entries)) outcomes);
    }

pub secret : Secrecy
secret carry log r marks other pdu second a b f n = same carry log r marks other pdu second a b f n

-- with Pfirst clear, nothing is held after steps 1 and 2
pub not-continued : (carry log : List ℕ) (r : Receiver) (d : Said) → d.pfirst ≡ false → still_held carry log r d ≡ nothing
not-continued carry log r d e = begun-held d.pfirst d.start (sequence_step (mode_of r).sequences (memory_of r carry).last d.sequence (memory_of r carry).partial).partial e
