-- Document 02, Ask 12: a run with a burst, computed. Of the first PDU bytes 0, 13, 50 and 95 are altered, the last of them a byte of its first piece, and three bits
-- of its second piece, whose last byte comes as 9 in place of 2. The second PDU comes as sent. And the same run, the first PDU as a pair whose other copy is as sent.
use mathlib.Core.Path.{◌≡◌, refl, sym, ap, ap₂, subst, ◌∙◌}
use mathlib.Core.Bool.{Bool, true, false, ◌||◌, cond}
use mathlib.Core.List.{List, [], ◌∷◌, ◌++◌, map}
use Prim.Native.Nat.{ℕ, zero, suc, ◌<◌}
use native.Mathlib.Omega.{arith}
use lib.ListN.{take, drop, replicate}
use Rattle.burst.specs.Burst.{InEight}
use Rattle.burst.proofs.Strings.{unaltered, one_byte}
use Rattle.modes.specs.Modes.{listing}
use Rattle.crc.specs.Crc.{crc_bit, crc_bits, crc_byte, crc_from}
use Rattle.layout.specs.Control.{control_of, control_at}
use Rattle.layout.specs.Locators.{locator16}
use Rattle.settings.specs.Settings.{fields_for}
use Rattle.expansion.specs.Expansion.{chained}
use Rattle.expansion.specs.Writing.{expansion_bytes}
use Rattle.packing.specs.Packing.{largest_up_to, most_pieces, fit, wholes_from, part_after, part_from}
use Rattle.pieces.specs.Pieces.{total}
use Rattle.packet_log.specs.Log.{Entry, packet, log_words, packet_words, same_list}
use Rattle.reassembly.specs.Rights.{Label}
use Rattle.writer.specs.Writing.{write_answer}
use Rattle.receiver.specs.Entitling.{all_programs}
use Rattle.runs.proofs.Model.{whole_packets}
use Rattle.runs.proofs.Promise.{arrived_by}
use Rattle.runs.specs.Transmissions.{Way, here}
use Rattle.delivery.specs.Delivery.{Station, defined, Step, receives, alone, paired, call_of, run_of, HeaderAltered, Through}
use Rattle.delivery.proofs.Parts.{fresh_station, logs_from, due_entries, run_with}
use Rattle.delivery.specs.Entitlement.{labels_from, rights_for}
use Rattle.delivery.specs.Copies.{sealed_piece, as_sent, ways_from, Damaged}
use Rattle.delivery.proofs.SoundSteps.{causes_for}
use Rattle.delivery.specs.Bursts.{Hit}
use Rattle.delivery.proofs.Entitling.{all-allowed}
use Rattle.delivery.proofs.Possible.{words, log-room, as-sent}
use Rattle.delivery.proofs.Claimed.{entitled-says}
use Rattle.delivery.proofs.SmallRuns.{opens, carry, carry-room, altered, alter_at}
use Rattle.delivery.proofs.PairRuns.{packets, few, two, two_spans, right, in_order, spans-are, other-usable, pdu, sent, other, made-is, usable, restored-is, within, second, second-bytes, first_two, two-are}
use Rattle.delivery.proofs.Damages.{drop-taken, all_sound, no-damage, bursts-deliver}
use Rattle.delivery.proofs.Theorem.{none-hit}

-- ---- the first PDU

burst-pieces : (k : ℕ) → k < (control_at sent).nop → InEight (sealed_piece 16 sent sent k) (sealed_piece 16 sent (pdu 1 9) k)
unfolding control_of locator16
burst-pieces zero h = unaltered (replicate 100 1 ++ (crc_from 0 (replicate 100 1) ∷ []))
burst-pieces (suc zero) h = one_byte (replicate 39 2) (crc_from 0 (replicate 40 2) ∷ []) 2 9
burst-pieces (suc (suc k)) h = absurd (omega (arith, h))

pub comes : Damaged Hit 0 16 [] sent second
unfolding control_of
comes = record {
  header = within 1 9 second-bytes;
  front = drop-taken 96 18 second ∙ sym (drop-taken 96 18 sent);
  pieces = λ k h e. subst (λ (y : List ℕ). InEight (sealed_piece 16 sent sent k) (sealed_piece 16 sent y k)) (sym (restored-is 1 9 second-bytes)) (burst-pieces k h);
}

-- the first piece was not hit, and the second was
pub one_hit : (as_sent 16 sent second 0 ≡ true) × (as_sent 16 sent second 1 ≡ false)
unfolding control_of locator16 same_list altered alter_at crc_from crc_byte crc_bits crc_bit
one_hit = (refl, refl)

-- byte 95 is altered: if it counted, the first piece would be hit, whose packet is logged
pub last-of-header : same_list (sealed_piece 16 sent (take 95 sent ++ drop 95 second) 0) (sealed_piece 16 sent sent 0) ≡ false
unfolding control_of locator16 same_list altered alter_at
last-of-header = refl

-- ---- the run

abbrev pub causes : ℕ → ℕ
causes = causes_for (as_sent 16 sent second)

pub second-struck : causes ≡ first_two 0 2 causes
second-struck = two-are 0 2 causes (ap (λ (s : Bool). cond s 0 2) one_hit.0) (ap (λ (s : Bool). cond s 0 2) one_hit.1)

other-as-sent : HeaderAltered [] other other
other-as-sent = as-sent other other-usable

abbrev pub fresh : Station
fresh = fresh_station defined 0 0 0 all_programs carry

abbrev plain : Label
plain = record { program = 0; services = 0 }

pub labels-are : labels_from 0 0 packets 0 two ≡ plain ∷ plain ∷ []
unfolding labels_from write_answer listing fields_for expansion_bytes chained total largest_up_to most_pieces fit wholes_from part_after part_from
labels-are = refl

-- the packets that are due where the two PDUs come so
abbrev due_for : List Way → List Entry
due_for ws = arrived_by (rights_for 0 0 all_programs) 2 0 packets two_spans (plain ∷ plain ∷ []) ws

-- what is logged of calls that go through them
logged : (steps : List Step) → Through defined (Damaged Hit 0 16) fresh (sent ∷ other ∷ []) steps → packet_words (logs_from defined fresh (map call_of steps)) ≡ log_words (due_for (ways_from (as_sent 16) (sent ∷ other ∷ []) steps))
unfolding listing
logged steps t =
    (entitled-says (Damaged Hit) defined bursts-deliver (run_with 0 0 0 all_programs packets two 0 2 carry steps) few all-allowed (record {
      opens = opens;
      sized = right;
      offered = in_order;
      room = carry-room;
      through = subst (λ (ps : List (List ℕ)). Through defined (Damaged Hit 0 16) fresh (run_of 0 2 ps) steps) (sym made-is) t;
    })).log
    ∙ ap (λ (ps : List (List ℕ)). log_words (due_entries 0 0 all_programs packets two 0 (ways_from (as_sent 16) (run_of 0 2 ps) steps))) made-is
    ∙ (λ i. log_words (arrived_by (rights_for 0 0 all_programs) 2 0 packets (spans-are i) (labels-are i) (ways_from (as_sent 16) (sent ∷ other ∷ []) steps)))

none-hit-in-other : causes_for (as_sent 16 other other) ≡ (λ k. 0)
none-hit-in-other = none-hit 16 [] other other other-as-sent

abbrev pub burst_calls : List Step
burst_calls = receives (alone [] second) words ∷ receives (alone [] other) words ∷ []

-- of the three packets, the second has the piece that was hit
pub burst-run : packet_words (logs_from defined fresh (map call_of burst_calls)) ≡ log_words (packet 0 (replicate 100 1) ∷ packet 2 (replicate 50 3) ∷ [])
unfolding whole_packets
burst-run =
    logged burst_calls (comes, log-room, (no-damage 0 16 [] other other other-as-sent Hit, log-room, tt))
    ∙ ap₂ (λ (f g : ℕ → ℕ). log_words (due_for (here f ∷ here g ∷ []))) second-struck none-hit-in-other
    ∙ refl

-- ---- the first PDU as a pair, hit in one copy

abbrev pub paired_calls : List Step
paired_calls = receives (paired second sent) words ∷ receives (alone [] other) words ∷ []

abbrev either_cause : ℕ → ℕ
either_cause = causes_for (λ k. as_sent 16 sent second k || as_sent 16 sent sent k)

sent-as-sent : HeaderAltered [] sent sent
sent-as-sent = as-sent sent usable

either-taken : either_cause ≡ first_two 0 0 either_cause
either-taken = two-are 0 0 either_cause
    (ap (λ (s : Bool). cond (s || as_sent 16 sent sent 0) 0 2) one_hit.0)
    (ap₂ (λ (s t : Bool). cond (s || t) 0 2) one_hit.1 (all_sound 0 16 [] sent sent sent-as-sent 1))

-- every packet is delivered
pub paired-run : packet_words (logs_from defined fresh (map call_of paired_calls)) ≡ log_words (packet 0 (replicate 100 1) ∷ packet 1 (replicate 40 2) ∷ packet 2 (replicate 50 3) ∷ [])
unfolding whole_packets
paired-run =
    logged paired_calls ((comes, no-damage 0 16 [] sent sent sent-as-sent Hit), log-room, (no-damage 0 16 [] other other other-as-sent Hit, log-room, tt))
    ∙ ap₂ (λ (f g : ℕ → ℕ). log_words (due_for (here f ∷ here g ∷ []))) either-taken none-hit-in-other
    ∙ refl
