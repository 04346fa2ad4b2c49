-- Document 02, Ask 5: two receivers on one signal give a pair of PDUs, two copies of what was sent. Which copy is the better one, and what receiving the pair
-- as one PDU answers and leaves.
use Rattle.std.specs.Prelude.{◌≡◌, Bool, true, false, not, ◌&&◌, ◌||◌, cond, List, [], ◌∷◌, ◌++◌, ℕ, zero, suc, ◌+◌, ◌-◌, eqb, ltb, leb, length, take, drop}
use Rattle.std.specs.Borrow.{Bor}
use Rattle.refusal.specs.Refusal.{first_of}
use Rattle.buffer.specs.Buffer.{put_at}
use Rattle.layout.specs.Control.{control_at}
use Rattle.layout.specs.declared.ControlWord.{ControlWord}
use Rattle.packet_log.specs.Log.{log_words, same_list}
use Rattle.correction.specs.Correction.{correction_of, corrected_pdu}
use Rattle.correction.specs.declared.Correction.{Correction}
use Rattle.correction.specs.declared.Correction.TheVariants.{Corrected, Refused}
use Rattle.pdu.specs.Reading.{wrong_locator, lowest_below, reader_tests, mode_in, listing_of, width_of}
use Rattle.reassembly.specs.Reassembly.{Piece, Said, Outcome}
use Rattle.reassembly.specs.Holder.{Come}
use Rattle.reassembly.specs.Run.{partial_bytes}
use Rattle.receiver.specs.Receiving.{piece_in, said_by, label_in, mode_of, refused_answer, outcome_in, last_tests, taken_answer, receive_answer, carry_after, pdu_after, log_after}
use Rattle.receiver.specs.Steps.{state_tests, stream_tests}
use Rattle.receiver.specs.declared.Receiver.{Receiver}
use Rattle.receiver.specs.declared.Received.{Received}

-- ---- the better copy

-- the paper's mends. A length that is refused with 3 counts as one that can't be corrected
abbrev pub correctable : Correction → Bool
correctable (Corrected n) = true
correctable (Refused n) = false

pub data Choice : Type 0 where
  neither : Choice
  the_first : Choice
  the_second : Choice

-- the one with fewer corrected bytes, the first if equal; the other where one can't be corrected
abbrev pub better : Correction → Correction → Choice
better (Corrected m) (Corrected n) = cond (leb m n) the_first the_second
better (Corrected m) (Refused n) = the_first
better (Refused m) (Corrected n) = the_second
better (Refused m) (Refused n) = neither

unfoldable pub choice_of : List ℕ → List ℕ → Choice
choice_of first second = better (correction_of first) (correction_of second)

-- as a number, for C
abbrev pub choice_number : Choice → ℕ
choice_number neither = 0
choice_number the_first = 1
choice_number the_second = 2

-- what is handed back: the chosen buffer itself, whole, with its place; or an empty part of the first, at its place
abbrev pub Chosen : Choice → Bor (List ℕ) → Bor (List ℕ) → Bor (List ℕ) → Type 0
Chosen the_first first second r = r ≡ first
Chosen the_second first second r = r ≡ second
Chosen neither first second r = (r.ref_ptr ≡ first.ref_ptr) × (r.now ≡ [])

-- ---- what two copies say together, both corrected and alike in bytes 8 to La, by the register that CRCs start with

-- the first's bytes if only its CRC is right, the second's likewise, either if both are right and agree; both wrong: a wrong CRC; both right and
-- different: note 7 in place of note 2
abbrev pub pair_piece : Piece → Piece → Piece
pair_piece a b = cond (eqb a.cause 0) (cond (eqb b.cause 0) (cond (same_list a.bytes b.bytes) a (record { cause = 7; bytes = a.bytes })) a) b

-- n pieces from piece k on
unfoldable pub pair_pieces : ℕ → ℕ → ControlWord → List ℕ → List ℕ → ℕ → ℕ → List Piece
pair_pieces register width c y z k zero = []
pair_pieces register width c y z k (suc n) = pair_piece (piece_in register width c y k) (piece_in register width c z k) ∷ pair_pieces register width c y z (suc k) n

-- all else as one of them says it, here the first
unfoldable pub pair_said : ℕ → ℕ → ControlWord → List ℕ → List ℕ → Said
pair_said register width c y z =
    let d = said_by register width c y in
    record { sequence = d.sequence; pfirst = d.pfirst; plast = d.plast; start = d.start; psd_bytes = d.psd_bytes; pieces = pair_pieces register width c y z 0 c.nop; withheld = d.withheld }

-- the pair as it comes, with its program and applied services
unfoldable pub pair_come : ℕ → ℕ → ControlWord → List ℕ → List ℕ → Come
pair_come register width c y z = record { said = pair_said register width c y z; label = label_in width c y }

-- ---- what is turned down, of two corrected copies

-- the lowest number from 5 to 12 that applies to a copy, 0 for none
unfoldable pub copy_number : Receiver → List ℕ → ℕ
copy_number r y = let c = control_at y in first_of (stream_tests r c ++ reader_tests (mode_in (listing_of c)) c y)

-- the lower of two numbers, where 0 is none
abbrev pub lower : ℕ → ℕ → ℕ
lower a b = cond (eqb a 0) b (cond (eqb b 0 || leb a b) a b)

-- locator k is wrong
abbrev pub wrong_in : List ℕ → ℕ → Bool
wrong_in y k = ltb k (control_at y).nop && wrong_locator (width_of y) (control_at y) y k

-- the k that comes with a number: with 11 the smallest whose locator is wrong in either copy (Ask 6), else 0
unfoldable pub wrong_in_pair : List ℕ → List ℕ → ℕ → ℕ
wrong_in_pair y z number = cond (eqb number 11) (lowest_below 64 (λ k. wrong_in y k || wrong_in z k)) 0

-- bytes 8 to La
abbrev pub front_of : List ℕ → List ℕ
front_of y = take ((control_at y).la + 1 - 8) (drop 8 y)

-- 20: lengths or corrected bytes 8 to La differ
unfoldable pub differ : List ℕ → List ℕ → Bool
differ y z = not (eqb (length y) (length z) && same_list (front_of y) (front_of z))

-- ---- receiving a pair

-- the answer, and the lent buffers after the call
pub record PairResult : Type 0 where
  pub answer : Received
  pub carry : List ℕ
  pub first : List ℕ
  pub second : List ℕ
  pub log : List ℕ

-- the lent carry, the two PDUs and the log before the call, and the receiver
module _ (carry first second log : List ℕ) (r : Receiver) where
  -- a refusal: all is as it was
  abbrev pub unchanged_pair : ℕ → ℕ → PairResult
  unchanged_pair number k = record { answer = refused_answer r number k; carry = carry; first = first; second = second; log = log }

  -- one PDU received by itself; the first and the second are then these
  abbrev pub received_alone : List ℕ → List ℕ → List ℕ → PairResult
  received_alone pdu p q = record { answer = receive_answer [] carry pdu log r; carry = carry_after [] carry pdu log r; first = p; second = q; log = log_after [] carry pdu log r }

  -- where only one can be corrected, that one is received alone, and the other is as it was
  abbrev pub first_alone : PairResult
  first_alone = received_alone first (pdu_after [] carry first log r) second

  abbrev pub second_alone : PairResult
  second_alone = received_alone second first (pdu_after [] carry second log r)

  -- both together as they come, and what is logged and held
  abbrev pub pair_as : Come
  pair_as = let y = corrected_pdu first in pair_come r.register (mode_of r).width (control_at y) y (corrected_pdu second)

  abbrev pub pair_outcome : Outcome
  pair_outcome = outcome_in (mode_of r).sequences pair_as r carry log

  -- rows 1 and 2, then 5 to 12, the lowest over both, then 20, then 13, then 27
  abbrev pub pair_tests : List (Bool × ℕ)
  pair_tests =
      let y = corrected_pdu first in
      let z = corrected_pdu second in
      let n = lower (copy_number r y) (copy_number r z) in
      state_tests r (length carry)
      ++ (not (eqb n 0), n)
      ∷ (differ y z, 20)
      ∷ last_tests (mode_of r).sequences pair_as r carry log

  unfoldable pub pair_number : ℕ
  pair_number = first_of pair_tests

  -- both corrected, what is held first in the carry, the words in the log from its first word on; or a refusal
  unfoldable pub together : PairResult
  together =
      let y = corrected_pdu first in
      let z = corrected_pdu second in
      cond (eqb pair_number 0)
      (record {
        answer = taken_answer (mode_of r).sequences pair_as r carry log;
        carry = put_at carry 0 (partial_bytes pair_outcome.partial);
        first = y;
        second = z;
        log = put_at log 0 (log_words pair_outcome.entries);
      })
      (unchanged_pair pair_number (wrong_in_pair y z pair_number))

  -- by whether the first and the second can be corrected; where neither can, 4 after 1 and 2
  abbrev pub received_by : Bool → Bool → PairResult
  received_by true true = together
  received_by true false = first_alone
  received_by false true = second_alone
  received_by false false = unchanged_pair (first_of (state_tests r (length carry) ++ (true, 4) ∷ [])) 0

  unfoldable pub pair_received : PairResult
  pair_received = received_by (correctable (correction_of first)) (correctable (correction_of second))
