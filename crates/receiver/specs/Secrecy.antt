-- Document 02, Ask 10: two withheld PDUs that are equal up to the end of their expansion leave the same. Nothing else of a withheld PDU, with nothing to
-- continue, reaches the log, the carry or the receiver.
use Rattle.std.specs.Prelude.{◌≡◌, true, List, ℕ, ◌<◌, ◌≤◌, length, get_or}
use Rattle.layout.specs.Control.{control_at}
use Rattle.correction.specs.Marks.{corrected_pdu_with}
use Rattle.pdu.specs.Reading.{psd_of}
use Rattle.reassembly.specs.Reassembly.{Said, Partial, nothing, sequence_step, beginning_step}
use Rattle.receiver.specs.Receiving.{memory_of, mode_of, said, receive_number, receive_answer, carry_after, log_after}
use Rattle.receiver.specs.declared.Receiver.{Receiver}

-- a lent carry and log, and a receiver
module _ (carry log : List ℕ) (r : Receiver) where
  -- a PDU with marked places is accepted and withheld
  pub record Withheld (marks pdu : List ℕ) : Type 0 where
    pub accepted : receive_number marks carry pdu log r ≡ 0
    pub withheld : (said marks carry pdu log r).withheld ≡ true

  -- two corrected PDUs are of one length, and equal in bytes 8 to the end of expansion, or of the locators if there is none
  pub record SameFront (y z : List ℕ) : Type 0 where
    pub long : length y ≡ length z
    pub bytes : (i : ℕ) → 8 ≤ i → i < (psd_of (mode_of r).width (control_at y) y).start → get_or y i 0 ≡ get_or z i 0

  -- what is held after steps 1 and 2. Where Pfirst is clear, no packet continues, and it is nothing
  abbrev pub still_held : Said → Partial
  still_held d = (beginning_step d.pfirst d.start (sequence_step (mode_of r).sequences (memory_of r carry).last d.sequence (memory_of r carry).partial).partial).partial

  -- the answers, with the next receiver in them, the carries and the logs are the same
  pub record Same (marks other pdu second : List ℕ) : Type 0 where
    pub answer : receive_answer marks carry pdu log r ≡ receive_answer other carry second log r
    pub held : carry_after marks carry pdu log r ≡ carry_after other carry second log r
    pub logged : log_after marks carry pdu log r ≡ log_after other carry second log r

abbrev pub Secrecy : Type 0
Secrecy =
    (carry log : List ℕ) (r : Receiver) (marks other pdu second : List ℕ) → Withheld carry log r marks pdu → Withheld carry log r other second
    → SameFront carry log r (corrected_pdu_with marks pdu) (corrected_pdu_with other second)
    → still_held carry log r (said marks carry pdu log r) ≡ nothing
    → Same carry log r marks other pdu second
