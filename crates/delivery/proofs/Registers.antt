-- Demand 3 is false of a receiver that opens with register 0, whatever is asked for: a PDU written with register 255 is to it a PDU whose piece has a wrong
-- CRC.
use mathlib.Core.Path.{◌≡◌, refl, sym, ap, subst, ◌∙◌}
use mathlib.Core.Bool.{true, false, true≢false}
use mathlib.Core.List.{List, [], ◌∷◌, ◌++◌, map}
use Prim.Native.Nat.{ℕ, zero, suc, ◌<◌, ◌≤◌}
use native.Mathlib.Omega.{arith}
use lib.ListN.{length, get_or, take, drop, replicate}
use Rattle.algebra.specs.Places.{All}
use Rattle.modes.specs.Modes.{listing}
use Rattle.crc.specs.Crc.{crc_bit, crc_bits, crc_byte, crc_from}
use Rattle.header.specs.Header.{parity_of, length_refusal, with_parity}
use Rattle.header.proofs.Division.{parity-length}
use Rattle.header.proofs.Lengths.{parity-written}
use Rattle.layout.specs.Control.{control_bytes, control_of, control_at}
use Rattle.layout.specs.Locators.{bytes16, locator16}
use Rattle.settings.specs.Settings.{fields_for}
use Rattle.expansion.specs.Expansion.{chained}
use Rattle.expansion.specs.Writing.{expansion_bytes}
use Rattle.packing.specs.Packing.{largest_up_to, most_pieces, fit, wholes_from, part_after, part_from}
use Rattle.pieces.specs.Pieces.{cut_by, piece_bytes, locators_from, total}
use Rattle.correction.specs.Marks.{marks_refusal}
use Rattle.correction.proofs.Marking.{unmarked-self}
use Rattle.packet_log.specs.Log.{packet, data_words, entry_words, log_words, packet_words}
use Rattle.writer.specs.Writing.{writer_opened, pdu_of, write_answer, written_pdu}
use Rattle.receiver.specs.Entitling.{all_programs}
use Rattle.runs.proofs.Calls.{plain_fate}
use Rattle.runs.specs.Spans.{Span, lies, Mark, every, due_at}
use Rattle.runs.proofs.Model.{whole_packets}
use Rattle.delivery.specs.Delivery.{Packets, Writing, pdus_from, spans_from, InOrder, receive, defined, receives, alone, in_received, run_of, Demand3For}
use Rattle.delivery.proofs.Parts.{EntriesFit, due_entries, fresh_station, logs_from, made, spans, Asked}
use Rattle.delivery.proofs.SoundSteps.{wrong, PieceDamage, Copy, receives as takes, ways, Through}
use Rattle.delivery.specs.Copies.{restored}
use Rattle.delivery.proofs.FaultyReceivers.{zeroed}
use Rattle.delivery.proofs.Counted.{packets-fit}
use Rattle.delivery.proofs.Claimed.{demand3-says}
use Rattle.delivery.proofs.Channel.{Usable, made-right, sound-delivers}
use Rattle.delivery.proofs.Entitling.{all-allowed}
use Rattle.delivery.proofs.Entitled.{all-marks}
use Rattle.delivery.proofs.Possible.{words, log-room, verbatim, steps_for, possible}
use Rattle.delivery.proofs.SmallRuns.{offering, bytes_same, carry, carry-room}

-- a packet of 100 bytes, and a call for a PDU of 200 bytes, which has room for it
abbrev one : List (List ℕ)
one = replicate 100 2 ∷ []

abbrev once : List Writing
once = offering 200 one ∷ []

one_right : Packets one
one_right = (omega arith, omega arith, bytes_same 100 2 (omega arith), tt)

in_order : InOrder 0 0 one 0 once
unfolding write_answer listing fields_for expansion_bytes chained total largest_up_to most_pieces fit wholes_from part_after part_from
in_order = ((1, refl, refl), tt)

opens : (register : ℕ) → (writer_opened 0 0 register).refusal ≡ 0
unfolding writer_opened listing
opens register = refl

spans-are : spans 0 0 one once ≡ record { from = 0; count = 100 } ∷ []
unfolding spans_from write_answer listing fields_for expansion_bytes chained total largest_up_to most_pieces fit wholes_from part_after part_from
spans-are = refl

-- ---- the PDU by a register: control word, locator 116, the packet, its CRC, zeros

abbrev rest : ℕ → List ℕ
rest crc = 0 ∷ 0 ∷ 0 ∷ 0 ∷ 2 ∷ 15 ∷ 116 ∷ 0 ∷ (replicate 100 2 ++ (crc ∷ replicate 83 0))

abbrev crc_by : ℕ → ℕ
crc_by register = crc_from register (replicate 100 2)

-- before its parity is written
abbrev base : ℕ → List ℕ
base register = replicate 8 0 ++ rest (crc_by register)

-- a list by its places
abbrev pub gets : ℕ → List ℕ → List ℕ
gets zero l = []
gets (suc n) l = get_or l 0 0 ∷ gets n (drop 1 l)

pub gets-all : (n : ℕ) (l : List ℕ) → length l ≡ n → l ≡ gets n l
gets-all zero [] e = refl
gets-all zero (x ∷ l) e = absurd (omega (arith, e))
gets-all (suc n) [] e = absurd (omega (arith, e))
gets-all (suc n) (x ∷ l) e = ap (λ (k : List ℕ). x ∷ k) (gets-all n l (omega (arith, e)))

-- the CRC stands after the header, and no register changes the parity
abbrev pdu : ℕ → List ℕ
pdu register = gets 8 (parity_of (base 0)) ++ rest (crc_by register)

same-parity : (register : ℕ) → parity_of (base register) ≡ parity_of (base 0)
unfolding parity_of
same-parity register = refl

pdu-is : (register : ℕ) → with_parity (base register) ≡ pdu register
pdu-is register =
    parity-written (base register) (unfold length_refusal in refl)
    ∙ ap (λ (l : List ℕ). l ++ rest (crc_by register)) (same-parity register ∙ gets-all 8 (parity_of (base 0)) (parity-length (base 0)))

written_is : (register : ℕ) → made 0 0 register once ≡ with_parity (base register) ∷ []
unfolding pdus_from writer_opened write_answer written_pdu pdu_of listing fields_for expansion_bytes chained total largest_up_to most_pieces fit wholes_from part_after part_from cut_by piece_bytes locators_from control_bytes bytes16
written_is register = refl

made-is : (register : ℕ) → made 0 0 register once ≡ pdu register ∷ []
made-is register = written_is register ∙ ap (λ (p : List ℕ). p ∷ []) (pdu-is register)

-- ---- to a receiver with register 0, the PDU by 255 is the one by 0 with a wrong CRC

differ : ¬ (crc_by 0 ≡ crc_by 255)
unfolding crc_from crc_byte crc_bits crc_bit
differ e = absurd (omega (arith, e))

damaged : (k : ℕ) → k < (control_at (pdu 0)).nop → PieceDamage 0 16 (pdu 0) (restored (pdu 0) (pdu 255)) k
unfolding control_of locator16
damaged zero h = wrong (λ e. differ e)
damaged (suc k) h = absurd (omega (arith, h))

copy : Copy 0 16 (pdu 0) [] (pdu 255) (λ k. false)
unfolding control_of locator16 marks_refusal
copy = record {
  header = record {
    allowed = refl;
    bytes = (subst (All Usable) (made-is 255) (made-right 0 0 255 one once (opens 255) one_right in_order).usable).0.0;
    long = refl;
    few = omega (arith, unmarked-self [] (take 96 (pdu 0)));
  };
  front = refl;
  whole = λ k h e. absurd (true≢false (sym e));
  found = λ k h e. damaged k h;
}

one-few : length one ≤ 4294967295
one-few = let n : length one ≡ 1 = refl in omega (arith, n)

abbrev logged : List ℕ
logged = packet_words (logs_from defined (fresh_station defined 0 0 0 all_programs carry) (receive (alone [] (pdu 255)) words ∷ []))

due-fit : EntriesFit (due_entries 0 0 all_programs one once 0 (ways (takes [] (pdu 255) words (λ k. false) ∷ [])))
due-fit = packets-fit _ one one-few

-- no packet is logged
none-logged : logged ≡ []
unfolding listing whole_packets log_words
none-logged =
    (sound-delivers 0 0 0 all_programs one once 0 1 carry (takes [] (pdu 255) words (λ k. false) ∷ [])
    (record {
      opens = opens 0;
      allowed = all-allowed;
      sized = one_right;
      offered = in_order;
      room = carry-room;
      through = subst (λ (ps : List (List ℕ)). Through 0 16 (fresh_station defined 0 0 0 all_programs carry) (run_of 0 1 ps) (takes [] (pdu 255) words (λ k. false) ∷ [])) (sym (made-is 0)) (copy, log-room, tt);
      countable = due-fit;
    })).log
    ∙ ap (λ (f : ℕ → Mark). log_words (whole_packets (due_at f) 0 0 one)) (all-marks 0 0 0 one once 0 (ways (takes [] (pdu 255) words (λ k. false) ∷ [])) (made-right 0 0 0 one once (opens 0) one_right in_order))
    ∙ ap (λ (l : List Span). log_words (whole_packets (due_at (lies one l (map plain_fate (ways (takes [] (pdu 255) words (λ k. false) ∷ []))))) 0 0 one)) spans-are

-- and one is asked for
pub zeroed-wrong : ¬ Demand3For zeroed
unfolding steps_for whole_packets log_words entry_words data_words
zeroed-wrong claim =
    let asked : Asked zeroed 0 0 255 all_programs one once 0 1 carry (receives (alone [] (pdu 255)) words ∷ []) =
    subst (λ (ps : List (List ℕ)). Asked zeroed 0 0 255 all_programs one once 0 1 carry (steps_for [] verbatim [] (run_of 0 1 ps) (true ∷ []))) (made-is 255) (possible 0 0 255 one once (opens 255) one_right in_order zeroed all_programs 0 1 carry (true ∷ []) carry-room) in
    let found : logged ≡ log_words (packet 0 (replicate 100 2) ∷ []) =
    (demand3-says zeroed claim 0 0 255 one once 0 1 carry (receives (alone [] (pdu 255)) words ∷ []) one-few asked).log
    ∙ ap (λ (l : List Span). log_words (whole_packets (every (in_received (run_of 0 1 l) (true ∷ []))) 0 0 one)) spans-are in
    let h : ◌≡◌ {A = ℕ} 0 35 = ap length (sym none-logged ∙ found) in
    absurd (omega (arith, h))
