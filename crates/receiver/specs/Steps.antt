-- What the parts of a receiving call promise.
use Rattle.std.specs.Prelude.{Bool, true, false, not, ◌&&◌, cond, List, [], ◌∷◌, ◌++◌, ◌≡◌, ℕ, ◌+◌, ◌≤◌, ◌<◌, eqb, ltb, length, get_or}
use Rattle.std.proofs.Math.Option.{Option}
use Rattle.buffer.specs.Buffer.{put_at}
use Rattle.crc.specs.Crc.{crc_from}
use Rattle.refusal.specs.Refusal.{first_of, any_of}
use Rattle.modes.specs.Modes.{listing_number}
use Rattle.modes.specs.declared.Mode.{Mode}
use Rattle.layout.specs.Control.{control_at}
use Rattle.layout.specs.declared.ControlWord.{ControlWord}
use Rattle.packet_log.specs.Log.{log_words}
use Rattle.pdu.specs.Reading.{after_locators, expansion_count, fields_of, mark_at, mode_in, listing_of, reader_tests}
use Rattle.reassembly.specs.Holder.{Come}
use Rattle.reassembly.specs.Tally.{Tally}
use Rattle.reassembly.specs.Run.{partial_bytes, piece_at, said_of}
use Rattle.reassembly.specs.declared.Head.{Head}
use Rattle.reassembly.specs.declared.Run.{Run}
use Rattle.reassembly.specs.declared.State.{State}
use Rattle.receiver.specs.Receiving.{come_by, is_known, or_zero, wrong_state, refused_answer, outcome_in, last_tests, taken_answer}
use Rattle.receiver.specs.declared.Receiver.{Receiver}
use Rattle.receiver.specs.declared.Received.{Received}
use Rattle.receiver.specs.declared.Services.{Services}

-- ---- what reassembly takes

-- La and then each locator
abbrev pub MarksOf : ℕ → ControlWord → List ℕ → List ℕ → Type 0
MarksOf width c y marks = (k : ℕ) → k ≤ c.nop → get_or marks k 0 ≡ mark_at width c y k

-- 0 where the byte at its locator is the CRC of piece k by the register that it starts with, 2 where it is not
unfoldable pub cause_at : ℕ → List ℕ → List ℕ → ℕ → ℕ
cause_at register y marks k = cond (eqb (crc_from register (piece_at y marks k)) (get_or y (get_or marks (k + 1) 0) 0)) 0 2

abbrev pub CausesOf : ℕ → List ℕ → List ℕ → ℕ → List ℕ → Type 0
CausesOf register y marks nop causes = (k : ℕ) → k < nop → get_or causes k 0 ≡ cause_at register y marks k

abbrev pub head_of : ℕ → ControlWord → List ℕ → Head
head_of width c y = record { sequence = c.sequence; pfirst = c.pfirst; plast = c.plast; start = c.start; psd = after_locators width c + expansion_count width c y; nop = c.nop; program = (fields_of width c y).program; services = (fields_of width c y).services }

-- a PDU as it comes, by its header, marks and causes
abbrev pub come_of : Head → List ℕ → List ℕ → List ℕ → Come
come_of head marks causes y = record { said = said_of head marks causes y; label = record { program = head.program; services = head.services } }

abbrev pub state_of : Receiver → State
state_of r = record { known = r.known; last = r.sequence; held = r.held; number = r.number }

-- rows 1 and 2, which are judged before a PDU is looked at, for a carry of so many bytes
abbrev pub state_tests : Receiver → ℕ → List (Bool × ℕ)
state_tests r room = (any_of (wrong_state r), 1) ∷ (ltb room 4096, 2) ∷ []

-- a receiver's fields in their ranges, and a carry buffer that is long enough
pub record Usable (r : Receiver) (carry : List ℕ) : Type 0 where
  pub sequence : r.sequence < 255
  pub held : r.held ≤ 4096
  pub number : r.held ≡ 0 → r.number ≡ 0
  pub services : r.serviced ≡ false → r.services ≡ 0
  pub last : r.last ≤ 63
  pub room : 4096 ≤ length carry

-- applied services in force, 0 where not known
abbrev pub services_of : Option ℕ → Services
services_of kept = record { known = is_known kept; value = or_zero kept }

-- the answer after a run, with these applied services kept and this tally
abbrev pub accepted_after : Receiver → ℕ → Services → Run → Tally → Received
accepted_after r sequence kept run tally = record {
  refusal = 0;
  wrong = 0;
  words = run.at;
  receiver = record {
    mode = r.mode;
    stream = r.stream;
    register = r.register;
    entitled = r.entitled;
    known = true;
    sequence = sequence;
    held = run.held;
    number = run.number;
    serviced = kept.known;
    services = kept.value;
    delivered = tally.delivered;
    missing = tally.missing;
    last = tally.last;
  };
}

-- the answer after marking a PDU lost: the counts and the last delivered number stay
abbrev pub forgetful : Receiver → ℕ → Received
forgetful r words = record {
  refusal = 0;
  wrong = 0;
  words = words;
  receiver = record {
    mode = r.mode;
    stream = r.stream;
    register = r.register;
    entitled = r.entitled;
    known = false;
    sequence = 0;
    held = 0;
    number = 0;
    serviced = false;
    services = 0;
    delivered = r.delivered;
    missing = r.missing;
    last = r.last;
  };
}

-- ---- the answer and the buffers after a step, by the lowest number that applies, 0 where there is none, and the k that comes with it

module _ (range : ℕ) (come : Come) (r : Receiver) (carry log : List ℕ) where
  pub record Answered (n k : ℕ) (a : Received) (carry_after log_after : List ℕ) : Type 0 where
    pub answer : a ≡ cond (eqb n 0) (taken_answer range come r carry log) (refused_answer r n k)
    pub held : carry_after ≡ cond (eqb n 0) (put_at carry 0 (partial_bytes (outcome_in range come r carry log).partial)) carry
    pub logged : log_after ≡ cond (eqb n 0) (put_at log 0 (log_words (outcome_in range come r carry log).entries)) log

-- 13 or 27, or accepted
abbrev pub Takes : ℕ → Come → Receiver → List ℕ → List ℕ → Received → List ℕ → List ℕ → Type 0
Takes range come r carry log a carry_after log_after = Answered range come r carry log (first_of (last_tests range come r carry log)) 0 a carry_after log_after

-- ---- rows 5 to 13, and 27, of a corrected PDU

-- mode and stream not in the table, or not those opened
abbrev pub stream_tests : Receiver → ControlWord → List (Bool × ℕ)
stream_tests r c = (not (eqb (listing_number (listing_of c)) 0), 5) ∷ (not (eqb c.mode r.mode && eqb c.stream r.stream), 6) ∷ []

-- the number of the first row from 5 on that applies, for a receiver of a mode
unfoldable pub corrected_number : Mode → Receiver → List ℕ → List ℕ → List ℕ → ℕ
corrected_number m r carry y log =
    let c = control_at y in
    first_of (stream_tests r c ++ (reader_tests (mode_in (listing_of c)) c y ++ last_tests m.sequences (come_by r.register m.width c y) r carry log))
