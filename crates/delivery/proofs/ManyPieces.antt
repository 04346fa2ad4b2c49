-- Document 02, Ask 9: a run of two PDUs of mode 0, the first of which has 63 pieces, so that its locators go on past byte 95, where the header code ends.
-- Four bytes of each header are altered, and bytes from 96 on come as sent.
use mathlib.Core.Path.{◌≡◌, refl, sym, ap, ◌∙◌}
use mathlib.Core.Bool.{Bool, true, false}
use mathlib.Core.List.{List, [], ◌∷◌, map}
use Prim.Native.Nat.{ℕ, zero, suc, ◌%◌}
use native.Mathlib.Omega.{arith}
use lib.ListN.{length, drop, replicate, length-take}
use Rattle.modes.specs.Modes.{listing}
use Rattle.settings.specs.Settings.{fields_for}
use Rattle.expansion.specs.Expansion.{chained}
use Rattle.expansion.specs.Writing.{expansion_bytes}
use Rattle.packing.specs.Packing.{largest_up_to, most_pieces, fit, wholes_from, part_after, part_from}
use Rattle.pieces.specs.Pieces.{total}
use Rattle.packet_log.specs.Log.{Entry, packet, log_words, packet_words}
use Rattle.writer.specs.Writing.{write_answer}
use Rattle.receiver.specs.Entitling.{all_programs}
use Rattle.runs.specs.Spans.{Span, every}
use Rattle.delivery.specs.Delivery.{Packets, Writing, spans_from, InOrder, defined, Step, call_of, in_received, run_of}
use Rattle.delivery.proofs.Parts.{fresh_station, logs_from, made, spans, Asked}
use Rattle.runs.proofs.Model.{whole_packets}
use Rattle.delivery.proofs.Channel.{made-right}
use Rattle.delivery.proofs.Possible.{steps_for, told-receptions, goes_through, run-usable}
use Rattle.delivery.proofs.SmallRuns.{offering, opens, carry, carry-room, altered, headers-altered}
use Rattle.delivery.proofs.Claimed.{demand3-says}
use Rattle.delivery.proofs.Theorem.{delivers}

-- 70 packets of one byte, and two calls, each for a PDU of 300 bytes
abbrev pub seventy : List (List ℕ)
seventy = replicate 70 (5 ∷ [])

abbrev pub two : List Writing
two = offering 300 seventy ∷ offering 300 (drop 63 seventy) ∷ []

-- 63 packets go with the first PDU, seven with the second
abbrev pub two_spans : List Span
two_spans = record { from = 0; count = 63 } ∷ record { from = 63; count = 7 } ∷ []

pub spans-are : spans 0 0 seventy two ≡ two_spans
unfolding spans_from write_answer listing fields_for expansion_bytes chained total largest_up_to most_pieces fit wholes_from part_after part_from
spans-are = refl

right : (n : ℕ) → Packets (replicate n (5 ∷ []))
right zero = tt
right (suc n) = (omega arith, omega arith, (omega arith, tt), right n)

in_order : InOrder 0 0 seventy 0 two
unfolding write_answer listing fields_for expansion_bytes chained total largest_up_to most_pieces fit wholes_from part_after part_from
in_order = ((70, refl, refl), ((7, refl, refl), tt))

-- the PDUs with four bytes of each header altered, or lost where these say so
abbrev pub calls : List Bool → List Step
calls bs = steps_for [] altered [] (run_of 0 2 (made 0 0 0 two)) bs

both-made : length (run_of 0 2 (made 0 0 0 two)) ≡ 2
both-made =
    let e : length two_spans ≡ length (made 0 0 0 two) = sym (ap length spans-are) ∙ (made-right 0 0 0 seventy two opens (right 70) in_order).as_many in
    let t = length-take 2 (made 0 0 0 two) in
    omega (arith, e, t)

logged-is : (bs : List Bool) (es : List Entry) → length bs ≡ 2 → whole_packets (every (in_received two_spans bs)) 0 0 seventy ≡ es
    → packet_words (logs_from defined (fresh_station defined 0 0 0 all_programs carry) (map call_of (calls bs))) ≡ log_words es
logged-is bs es n e =
    let asked : Asked defined 0 0 0 all_programs seventy two 0 2 carry (calls bs) = record {
      opens = opens;
      sized = right 70;
      offered = in_order;
      room = carry-room;
      through = goes_through [] altered defined headers-altered [] (run_of 0 2 (made 0 0 0 two)) bs _ (λ y. tt) (run-usable 0 0 0 seventy two opens (right 70) in_order 0 2);
    } in
    (demand3-says defined delivers 0 0 0 seventy two 0 2 carry (calls bs) (let n : length seventy ≡ 70 = refl in omega (arith, n)) asked).log
    ∙ ap (λ (rs : List Bool). log_words (whole_packets (every (in_received (run_of 0 2 (spans 0 0 seventy two)) rs)) 0 0 seventy)) (told-receptions [] altered [] (run_of 0 2 (made 0 0 0 two)) bs refl (n ∙ sym both-made))
    ∙ ap (λ (l : List Span). log_words (whole_packets (every (in_received (run_of 0 2 l) bs)) 0 0 seventy)) spans-are
    ∙ ap log_words e

-- n of the packets from packet i on
unfoldable pub packets_from : ℕ → ℕ → List Entry
packets_from i zero = []
packets_from i (suc n) = packet (i % 64) (5 ∷ []) ∷ packets_from (suc i) n

-- both received: all 70 are delivered
pub both-received : packet_words (logs_from defined (fresh_station defined 0 0 0 all_programs carry) (map call_of (calls (true ∷ true ∷ [])))) ≡ log_words (packets_from 0 70)
unfolding whole_packets packets_from
both-received = logged-is (true ∷ true ∷ []) (packets_from 0 70) refl refl

-- the PDU with 63 pieces lost: the last seven, with the numbers 63 and 0 to 5
pub second-received : packet_words (logs_from defined (fresh_station defined 0 0 0 all_programs carry) (map call_of (calls (false ∷ true ∷ [])))) ≡ log_words (packets_from 63 7)
unfolding whole_packets packets_from
second-received = logged-is (false ∷ true ∷ []) (packets_from 63 7) refl refl
