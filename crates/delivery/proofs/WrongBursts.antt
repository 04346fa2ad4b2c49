-- Document 02, Ask 12: the promise over bursts is false of a receiver that logs a PDU as if the CRC of each piece were right. The run is the first PDU of
-- BurstRuns.antt, whose second piece was hit.
use mathlib.Core.Path.{◌≡◌, refl, sym, ap, subst, ◌∙◌}
use mathlib.Core.Bool.{Bool, true, false, not, ◌||◌, cond}
use mathlib.Core.List.{List, [], ◌∷◌, ◌++◌, append-nil}
use Prim.Native.Nat.{ℕ, ◌<◌}
use native.Mathlib.Omega.{arith}
use lib.Dec.{eqb}
use lib.ListN.{length, take, replicate}
use borrow.Author.Tests.{eq-eqb}
use Rattle.algebra.proofs.Places.{all_join}
use Rattle.modes.specs.Modes.{listing}
use Rattle.buffer.specs.Buffer.{put_at}
use Rattle.buffer.proofs.Laws.{take_put}
use Rattle.layout.specs.Control.{control_of, control_at}
use Rattle.layout.specs.Locators.{locator16}
use Rattle.correction.specs.Marks.{corrected_pdu_with}
use Rattle.packet_log.specs.Log.{packet, data_words, entry_words, log_words, packet_words, packets_of}
use Rattle.packet_log.proofs.Packets.{FitAll, packet-words}
use Rattle.reassembly.specs.Reassembly.{received, sequence_step, beginning_step, contents_step, psd_entries, pieces_step, piece_step, joined, finished}
use Rattle.receiver.specs.Entitling.{all_programs, allowed_programs, mask_of, entitles}
use Rattle.receiver.specs.Receiving.{opening_number, opened_for, pieces_in, said_by, come_by, memory_of, shown}
use Rattle.runs.proofs.Model.{whole_packets}
use Rattle.runs.proofs.Promise.{arrived_by}
use Rattle.runs.specs.Transmissions.{here}
use Rattle.batch.specs.declared.Batch.{Batch}
use Rattle.delivery.specs.Delivery.{Behaviour, receive, Step, receives, alone, logged_by, run_of, Through, Holds}
use Rattle.delivery.proofs.Parts.{fresh_station, made, due_entries, run_with, answer_of}
use Rattle.delivery.specs.Entitlement.{rights_for, for_programs}
use Rattle.delivery.specs.Bursts.{Hit}
use Rattle.delivery.specs.Copies.{as_sent, ways_from, Damaged}
use Rattle.delivery.proofs.FaultyReceivers.{with_words, all_taken, trusted_entries, trusted_words, trusting}
use Rattle.delivery.proofs.Copies.{corrected-back}
use Rattle.delivery.proofs.Serving.{logged_alone}
use Rattle.delivery.proofs.Claimed.{Logged, entitled-says}
use Rattle.delivery.proofs.Entitling.{all-allowed}
use Rattle.delivery.proofs.Possible.{words, log-room}
use Rattle.delivery.proofs.SmallRuns.{bytes_same, opens, carry, carry-room}
use Rattle.delivery.proofs.PairRuns.{packets, few, two, right, in_order, spans-are, pdu, sent, made-is, usable, second, second-bytes, restored-is, first_two}
use Rattle.delivery.proofs.BurstRuns.{comes, causes, second-struck, fresh, labels-are}

abbrev call : List Step
call = receives (alone [] second) words ∷ []

-- the claim for this PDU
module _ (b : Behaviour) (claim : Holds (for_programs (Damaged Hit)) b) where
  claimed : Logged b (fresh_station b 0 0 0 all_programs carry) call (due_entries 0 0 all_programs packets two 0 (ways_from (as_sent 16) (run_of 0 1 (made 0 0 0 two)) call))
  unfolding listing
  claimed =
      entitled-says (Damaged Hit) b claim (run_with 0 0 0 all_programs packets two 0 1 carry call) few all-allowed
      (record {
        opens = opens;
        sized = right;
        offered = in_order;
        room = carry-room;
        through = subst (λ (ps : List (List ℕ)). Through b (Damaged Hit 0 16) (fresh_station b 0 0 0 all_programs carry) (run_of 0 1 ps) call) (sym made-is) (comes, log-room, tt);
      })

-- one packet is asked for
one-due : due_entries 0 0 all_programs packets two 0 (here (first_two 0 2 causes) ∷ []) ≡ packet 0 (replicate 100 1) ∷ []
unfolding listing whole_packets
one-due = (λ i. arrived_by (rights_for 0 0 all_programs) 2 0 packets (spans-are i) (labels-are i) (here (first_two 0 2 causes) ∷ [])) ∙ refl

-- and two are logged, the second as it came
abbrev struck : List ℕ
struck = replicate 39 2 ++ (9 ∷ [])

read_back : corrected_pdu_with [] second ≡ pdu 1 9
read_back = corrected-back sent [] second usable.3 usable.1 usable.2 usable.0 comes.header ∙ restored-is 1 9 second-bytes

both-logged : trusted_entries fresh [] second words ≡ packet 0 (replicate 100 1) ∷ packet 1 struck ∷ []
unfolding opened_for opening_number allowed_programs mask_of entitles listing control_of locator16 come_by said_by pieces_in memory_of received sequence_step beginning_step contents_step psd_entries pieces_step piece_step joined finished
both-logged =
    ap (λ (y : List ℕ). (received 2 (memory_of fresh.receiver carry) (shown 2 fresh.receiver carry (all_taken (come_by 0 16 (control_at y) y)))).entries) read_back
    ∙ refl

both-fit : FitAll (packet 0 (replicate 100 1) ∷ packet 1 struck ∷ [])
both-fit = (
  (omega arith, omega arith, bytes_same 100 1 (omega arith)),
  ((omega arith, omega arith, all_join (λ n. n < 256) (replicate 39 2) (9 ∷ []) (bytes_same 39 2 (omega arith)) (omega arith, tt)), tt),
)

-- what is logged of a call that is not refused
all-logged : (a : Batch) (w : List ℕ) → eqb a.refusal 0 ≡ true
    → logged_alone (with_words (cond (eqb a.refusal 0) (length w) 0) a) (cond (eqb a.refusal 0) (put_at words 0 w) words) ++ [] ≡ w
all-logged a w t =
    ap (λ (b : Bool). cond (b || not (eqb (cond b 1 0) 0)) (take (cond b (length w) 0) (cond b (put_at words 0 w) words)) [] ++ []) t
    ∙ append-nil (take (length w) (put_at words 0 w))
    ∙ take_put words w

pub trusting-wrong : ¬ Holds (for_programs (Damaged Hit)) trusting
unfolding log_words entry_words data_words packets_of
trusting-wrong claim =
    let a : Batch = answer_of fresh (receive (alone [] second) words) in
    let asked : packet_words (logged_by trusting fresh (receive (alone [] second) words) ++ []) ≡ log_words (packet 0 (replicate 100 1) ∷ []) =
    (claimed trusting claim).log
    ∙ ap (λ (ps : List (List ℕ)). log_words (due_entries 0 0 all_programs packets two 0 (ways_from (as_sent 16) (run_of 0 1 ps) call))) made-is
    ∙ ap (λ (f : ℕ → ℕ). log_words (due_entries 0 0 all_programs packets two 0 (here f ∷ []))) second-struck
    ∙ ap log_words one-due in
    let found : logged_by trusting fresh (receive (alone [] second) words) ++ [] ≡ log_words (packet 0 (replicate 100 1) ∷ packet 1 struck ∷ []) =
    all-logged a (trusted_words fresh [] second words) (eq-eqb a.refusal 0 (claimed trusting claim).accepted.0) ∙ ap log_words both-logged in
    let h : ◌≡◌ {A = ℕ} 50 35 = ap length (sym (packet-words false (packet 0 (replicate 100 1) ∷ packet 1 struck ∷ []) both-fit) ∙ sym (ap packet_words found) ∙ asked) in
    absurd (omega (arith, h))
