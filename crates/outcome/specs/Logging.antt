-- What comes of a record of the file of PDUs, by the logger's rule over document 01, "Receiver": an empty record is a PDU marked lost, whatever places
-- are marked; a PDU that is refused is reported and then marked lost, so that nothing is joined across it; one that is accepted is logged.
use Rattle.std.specs.Prelude.{Bool, not, ◌&&◌, cond, List, ℕ, eqb, length}
use Rattle.header.specs.Header.{header_of, distance}
use Rattle.correction.specs.Marks.{corrected_pdu_with}
use Rattle.pdu.specs.Reading.{wrong_of}
use Rattle.receiver.specs.Receiving.{receive_number, receive_answer, carry_after, pdu_after, log_after, lost_number, lost_answer, log_after_lost}
use Rattle.receiver.specs.declared.Receiver.{Receiver}
use Rattle.receiver.specs.declared.Received.{Received}
use Rattle.outcome.specs.declared.Outcome.{Outcome}

-- a kind (0 received, 1 lost, 2 refused), a number with its k, and the PDU's length; words and receiver are those of a call's answer
abbrev pub outcome_of : ℕ → ℕ → ℕ → ℕ → Received → Outcome
outcome_of kind number k n a = record { kind = kind; number = number; wrong = k; length = n; words = a.words; receiver = a.receiver }

-- the marked places, the carry, the record and the log before it is taken, and the receiver
module _ (marks carry pdu log : List ℕ) (r : Receiver) where
  abbrev pub empty : Bool
  empty = eqb (length pdu) 0

  -- the refusal of what is asked of the receiver, 0 for none: to mark a PDU lost where the record is empty, to receive it where it is not
  unfoldable pub record_number : ℕ
  record_number = cond empty (lost_number log r) (receive_number marks carry pdu log r)

  abbrev pub is_accepted : Bool
  is_accepted = eqb record_number 0

  -- how many header bytes were corrected
  abbrev pub corrected_bytes : ℕ
  corrected_bytes = distance (header_of pdu) (header_of (pdu_after marks carry pdu log r))

  abbrev pub lost_outcome : Outcome
  lost_outcome = outcome_of 1 0 0 0 (lost_answer log r)

  abbrev pub received_outcome : Outcome
  received_outcome = outcome_of 0 corrected_bytes 0 (length pdu) (receive_answer marks carry pdu log r)

  -- reported with its number and k, and marked lost; where that is refused too, no word is logged and the receiver is as it was
  abbrev pub refused_outcome : Outcome
  refused_outcome = outcome_of 2 record_number (wrong_of (corrected_pdu_with marks pdu) record_number) (length pdu) (lost_answer log r)

  unfoldable pub record_outcome : Outcome
  record_outcome = cond is_accepted (cond empty lost_outcome received_outcome) refused_outcome

  -- the log after it: all but an accepted PDU is marked lost
  unfoldable pub record_log : List ℕ
  record_log = cond (is_accepted && not empty) (log_after marks carry pdu log r) (log_after_lost log r)

  -- the carry and the record after it
  unfoldable pub record_carry : List ℕ
  record_carry = cond empty carry (carry_after marks carry pdu log r)

  unfoldable pub record_pdu : List ℕ
  record_pdu = cond empty pdu (pdu_after marks carry pdu log r)
