-- Document 01, "Receiver": opening, receiving a PDU, and marking one lost; document 02, Ask 10: with entitled programs; Ask 14: delivered and missing.
use Rattle.std.specs.Prelude.{Bool, true, false, not, ◌&&◌, cond, List, [], ◌∷◌, ◌++◌, ℕ, zero, suc, eqb, ltb, leb, length, get_or, take, drop}
use Rattle.std.proofs.Math.Option.{Option, none, some}
use Rattle.refusal.specs.Refusal.{first_of, any_of}
use Rattle.modes.specs.Modes.{listing, listing_number}
use Rattle.modes.specs.declared.Mode.{Mode}
use Rattle.buffer.specs.Buffer.{put_at}
use Rattle.crc.specs.Crc.{crc_from}
use Rattle.layout.specs.Control.{control_at}
use Rattle.layout.specs.declared.ControlWord.{ControlWord}
use Rattle.layout.specs.Locators.{locator_at}
use Rattle.packet_log.specs.Log.{log_words}
use Rattle.header.specs.Header.{allowed_length}
use Rattle.correction.specs.Marks.{marks_refusal, corrected_with, corrected_pdu_with}
use Rattle.pdu.specs.Reading.{start_at, length_at, fields_of, psd_of, reader_tests, listing_of, mode_in, uncorrectable, wrong_of}
use Rattle.reassembly.specs.Reassembly.{Piece, Said, Memory, Outcome, received, remembered, lost_entries, forgotten}
use Rattle.reassembly.specs.Rights.{Rights, Label, kept_after}
use Rattle.reassembly.specs.Tally.{Tally, tallied, passes_limit}
use Rattle.reassembly.specs.Holder.{Come, Holder, value_for, said_to}
use Rattle.reassembly.specs.Run.{partial_bytes, partial_number, partial_of, last_of}
use Rattle.receiver.specs.Entitling.{allowed_programs, mask_of, all_programs, entitles}
use Rattle.receiver.specs.declared.Receiver.{Receiver}
use Rattle.receiver.specs.declared.Opened.{Opened}
use Rattle.receiver.specs.declared.Received.{Received}

-- ---- opening

-- what a refused opening hands back: a mode that the table has not, so that number 1 turns it down
abbrev pub no_receiver : Receiver
no_receiver = record { mode = 255; stream = 0; register = 0; entitled = 0; known = false; sequence = 0; held = 0; number = 0; serviced = false; services = 0; delivered = 0; missing = 0; last = 0 }

-- a receiver that knows no sequence, holds nothing, knows of no applied services and has delivered nothing; the entitled programs are a mask
abbrev pub fresh : ℕ → ℕ → ℕ → ℕ → Receiver
fresh mode stream register entitled =
    record { mode = mode; stream = stream; register = register; entitled = entitled; known = false; sequence = 0; held = 0; number = 0; serviced = false; services = 0; delivered = 0; missing = 0; last = 0 }

-- 5, mode and stream not in the table; then 22, a program number over 7 or repeated
abbrev pub opening_tests : ℕ → ℕ → List ℕ → List (Bool × ℕ)
opening_tests mode stream programs = (not (eqb (listing_number (listing mode stream)) 0), 5) ∷ (not (allowed_programs programs), 22) ∷ []

unfoldable pub opening_number : ℕ → ℕ → List ℕ → ℕ
opening_number mode stream programs = first_of (opening_tests mode stream programs)

abbrev pub opened_by : ℕ → Receiver → Opened
opened_by number r = record { refusal = number; receiver = cond (eqb number 0) r no_receiver }

-- for a mode, a stream, the register that CRCs start with (document 02, Ask 2) and the entitled programs (Ask 10)
unfoldable pub opened_for : ℕ → ℕ → ℕ → List ℕ → Opened
opened_for mode stream register programs = opened_by (opening_number mode stream programs) (fresh mode stream register (mask_of programs))

-- a receiver that is told no programs is entitled to all
unfoldable pub receiver_opened : ℕ → ℕ → ℕ → Opened
receiver_opened mode stream register = opened_for mode stream register all_programs

-- ---- what a corrected PDU y says, by the register that CRCs start with, its control word c and locators of a width

-- piece k: taken where the byte at its locator is its CRC; a wrong CRC is note 2
abbrev pub piece_in : ℕ → ℕ → ControlWord → List ℕ → ℕ → Piece
piece_in register width c y k =
    let bytes = take (length_at width c y k) (drop (start_at width c y k) y) in
    record { cause = cond (eqb (crc_from register bytes) (get_or y (locator_at width y k) 0)) 0 2; bytes = bytes }

-- n pieces from piece k on
unfoldable pub pieces_in : ℕ → ℕ → ControlWord → List ℕ → ℕ → ℕ → List Piece
pieces_in register width c y k zero = []
pieces_in register width c y k (suc n) = piece_in register width c y k ∷ pieces_in register width c y (suc k) n

unfoldable pub said_by : ℕ → ℕ → ControlWord → List ℕ → Said
said_by register width c y = record {
  sequence = c.sequence;
  pfirst = c.pfirst;
  plast = c.plast;
  start = c.start;
  psd_bytes = take (psd_of width c y).length (drop (psd_of width c y).start y);
  pieces = pieces_in register width c y 0 c.nop;
  withheld = false;
}

-- its program and applied services, each 0 where not sent or not interpreted
abbrev pub label_in : ℕ → ControlWord → List ℕ → Label
label_in width c y = record { program = (fields_of width c y).program; services = (fields_of width c y).services }

-- the PDU as it comes: whether it is withheld is the receiver's to say
unfoldable pub come_by : ℕ → ℕ → ControlWord → List ℕ → Come
come_by register width c y = record { said = said_by register width c y; label = label_in width c y }

-- ---- what a receiver remembers; the held bytes are the first ones of the carry

unfoldable pub memory_of : Receiver → List ℕ → Memory
memory_of r carry = record { last = last_of r.known r.sequence; partial = partial_of r.held r.number carry }

-- the applied services in force, if known
abbrev pub kept_of : Receiver → Option ℕ
kept_of r = last_of r.serviced r.services

-- delivered, missing and the last delivered number
abbrev pub tally_of : Receiver → Tally
tally_of r = record { delivered = r.delivered; missing = r.missing; last = r.last }

-- as reassembly/specs/Holder.antt has it
abbrev pub holder_of : Receiver → List ℕ → Holder
holder_of r carry = record { memory = memory_of r carry; kept = kept_of r; tally = tally_of r }

abbrev pub is_known : Option ℕ → Bool
is_known none = false
is_known (some q) = true

abbrev pub or_zero : Option ℕ → ℕ
or_zero none = 0
or_zero (some q) = q

-- a field not known or not held is set to 0; held length 0 means nothing held
unfoldable pub remembering : Receiver → Memory → Option ℕ → Tally → Receiver
remembering r x kept tally = record {
  mode = r.mode;
  stream = r.stream;
  register = r.register;
  entitled = r.entitled;
  known = is_known x.last;
  sequence = or_zero x.last;
  held = length (partial_bytes x.partial);
  number = partial_number x.partial;
  serviced = is_known kept;
  services = or_zero kept;
  delivered = tally.delivered;
  missing = tally.missing;
  last = tally.last;
}

-- ---- document 02, Ask 10: what is withheld from a receiver (reassembly/specs/Rights.antt)

-- core of so many sequences keeps the value sent with sequence 0, if these are 0-7
abbrev pub keeps_services : ℕ → Receiver → Bool
keeps_services range r = eqb r.stream 0 && eqb range 8

-- its programs, and whether it keeps a value
abbrev pub rights_of : ℕ → Receiver → Rights
rights_of range r = record { entitled = entitles r.entitled; keeps = keeps_services range r }

-- the applied services in force at a PDU, what it says to this receiver, and what is kept after it
abbrev pub in_force_at : ℕ → Receiver → List ℕ → Come → Option ℕ
in_force_at range r carry d = value_for (rights_of range r) range (holder_of r carry) d

abbrev pub shown : ℕ → Receiver → List ℕ → Come → Said
shown range r carry d = said_to (rights_of range r) range (holder_of r carry) d

abbrev pub kept_by : ℕ → Receiver → List ℕ → Come → Option ℕ
kept_by range r carry d = kept_after (keeps_services range r) (in_force_at range r carry d)

-- ---- what is turned down

-- the table's line for a receiver's mode and stream. Where it has none, 1 applies, so any mode does for the other rows
abbrev pub mode_of : Receiver → Mode
mode_of r = mode_in (listing r.mode r.stream)

-- applied services over 7, not 0 while unknown, or known for any mode and stream that keeps none
abbrev pub wrong_services : Mode → Receiver → List Bool
wrong_services m r =
    ltb 7 r.services
    ∷ (not r.serviced && not (eqb r.services 0))
    ∷ (r.serviced && not (keeps_services m.sequences r))
    ∷ []

-- the last number over 63; with delivered 0 the other two not 0
abbrev pub wrong_counts : Receiver → List Bool
wrong_counts r =
    ltb 63 r.last
    ∷ (eqb r.delivered 0 && not (eqb r.missing 0))
    ∷ (eqb r.delivered 0 && not (eqb r.last 0))
    ∷ []

-- sequence, held, number, applied services and counts outside their ranges for a mode; not 0 where not known, not held or nothing delivered
abbrev pub wrong_fields : Mode → Receiver → List Bool
wrong_fields m r =
    leb m.sequences r.sequence
    ∷ (not r.known && not (eqb r.sequence 0))
    ∷ ltb 4096 r.held
    ∷ ltb 63 r.number
    ∷ (eqb r.held 0 && not (eqb r.number 0))
    ∷ (wrong_services m r ++ wrong_counts r)

-- 1: mode and stream not in the table, or a field outside its range
abbrev pub wrong_state : Receiver → List Bool
wrong_state r = not (eqb (listing_number (listing r.mode r.stream)) 0) ∷ wrong_fields (mode_of r) r

-- a refusal leaves the receiver as it was; k is 0 but with 11
abbrev pub refused_answer : Receiver → ℕ → ℕ → Received
refused_answer r number k = record { refusal = number; wrong = k; words = 0; receiver = r }

-- ---- a PDU as it comes, of a stream of so many sequences, to a receiver

module _ (range : ℕ) (come : Come) (r : Receiver) (carry log : List ℕ) where
  -- what is logged and held
  abbrev pub outcome_in : Outcome
  outcome_in = received range (memory_of r carry) (shown range r carry come)

  abbrev pub log_too_short : Bool
  log_too_short = ltb (length log) (length (log_words outcome_in.entries))

  -- delivered, missing and the last delivered number after it
  abbrev pub tally_by : Tally
  tally_by = tallied (tally_of r) outcome_in.entries

  -- 13: log shorter than the words; 27: a count would pass 4,294,967,295
  abbrev pub last_tests : List (Bool × ℕ)
  last_tests = (log_too_short, 13) ∷ (passes_limit tally_by, 27) ∷ []

  -- the answer where it is accepted, with what is remembered
  abbrev pub taken_answer : Received
  taken_answer = record {
    refusal = 0;
    wrong = 0;
    words = length (log_words outcome_in.entries);
    receiver = remembering r (remembered range (memory_of r carry) (shown range r carry come)) (kept_by range r carry come) tally_by;
  }

-- ---- receiving a PDU

-- the PDU's marked places, the lent carry, PDU and log before the call, and the receiver
module _ (marks carry pdu log : List ℕ) (r : Receiver) where
  -- the corrected PDU as it comes, what it says to the receiver, and what is logged and held
  abbrev pub come : Come
  come = come_by r.register (mode_of r).width (control_at (corrected_pdu_with marks pdu)) (corrected_pdu_with marks pdu)

  abbrev pub said : Said
  said = shown (mode_of r).sequences r carry come

  abbrev pub outcome : Outcome
  outcome = outcome_in (mode_of r).sequences come r carry log

  -- rows 1 to 13, in the table's order, 19 directly after 3, and 27 after 13
  abbrev pub receive_tests : List (Bool × ℕ)
  receive_tests =
      let y = corrected_pdu_with marks pdu in
      let c = control_at y in
      (any_of (wrong_state r), 1)
      ∷ (ltb (length carry) 4096, 2)  -- carry under 4,096 bytes
      ∷ (not (allowed_length (length pdu)), 3)
      ∷ (not (eqb (marks_refusal marks) 0), 19)  -- more than eight marks, one over 95, or one repeated
      ∷ (uncorrectable (corrected_with marks (take 96 pdu)), 4)  -- the paper's beyond mending
      ∷ (not (eqb (listing_number (listing_of c)) 0), 5)  -- mode and stream not in the table
      ∷ (not (eqb c.mode r.mode && eqb c.stream r.stream), 6)  -- not those opened
      ∷ (reader_tests (mode_in (listing_of c)) c y  -- 7 to 12
      ++ last_tests (mode_of r).sequences come r carry log)  -- 13 and 27

  -- the number of the first row that applies, 0 where the PDU is accepted
  unfoldable pub receive_number : ℕ
  receive_number = first_of receive_tests

  -- the answer
  unfoldable pub receive_answer : Received
  receive_answer =
      cond (eqb receive_number 0) (taken_answer (mode_of r).sequences come r carry log)
      (refused_answer r receive_number (wrong_of (corrected_pdu_with marks pdu) receive_number))

  -- the buffers after the call: what is held stands first in the carry, the PDU is corrected, the words stand in the log from its first
  -- word on; all other bytes and words are as they were
  unfoldable pub carry_after : List ℕ
  carry_after = cond (eqb receive_number 0) (put_at carry 0 (partial_bytes outcome.partial)) carry

  unfoldable pub pdu_after : List ℕ
  pdu_after = cond (eqb receive_number 0) (corrected_pdu_with marks pdu) pdu

  unfoldable pub log_after : List ℕ
  log_after = cond (eqb receive_number 0) (put_at log 0 (log_words outcome.entries)) log

-- ---- marking a PDU lost, which takes no PDU and no carry: all that is remembered is forgotten, but the counts and the last delivered number stay

module _ (log : List ℕ) (r : Receiver) where
  abbrev pub lost_tests : List (Bool × ℕ)
  lost_tests = (any_of (wrong_state r), 1) ∷ (ltb (length log) (length (log_words lost_entries)), 13) ∷ []

  unfoldable pub lost_number : ℕ
  lost_number = first_of lost_tests

  unfoldable pub lost_answer : Received
  lost_answer =
      cond (eqb lost_number 0) (record { refusal = 0; wrong = 0; words = length (log_words lost_entries); receiver = remembering r forgotten none (tally_of r) }) (refused_answer r lost_number 0)

  unfoldable pub log_after_lost : List ℕ
  log_after_lost = cond (eqb lost_number 0) (put_at log 0 (log_words lost_entries)) log
