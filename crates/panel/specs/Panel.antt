-- Document 01, "After that, for the panel": the caller lends a list of pieces to be filled with start, length and CRC verdict; and the panel's
-- receiver is stepped in place.
use Rattle.std.specs.Prelude.{Bool, cond, List, [], ◌∷◌, ◌++◌, ℕ, zero, suc, eqb, ltb, length, get_or, take, drop}
use Rattle.refusal.specs.Refusal.{first_of}
use Rattle.crc.specs.Crc.{crc_from}
use Rattle.layout.specs.Control.{control_at}
use Rattle.layout.specs.Locators.{locator_at}
use Rattle.correction.specs.Correction.{corrected_pdu}
use Rattle.pdu.specs.Reading.{start_at, length_at, read_tests, width_of, reading_by}
use Rattle.pdu.specs.declared.Reading.{Reading}
use Rattle.receiver.specs.declared.Received.{Received}
use Rattle.panel.specs.declared.Piece.{Piece}
use Rattle.panel.specs.declared.Stepped.{Stepped}

-- ---- the list of pieces

-- of a PDU and a list of so many entries: reading without a receiver, and then 13 for a list under NOP entries
abbrev pub list_tests : List ℕ → ℕ → List (Bool × ℕ)
list_tests p room = read_tests p ++ (ltb room (control_at (corrected_pdu p)).nop, 13) ∷ []

unfoldable pub list_number : List ℕ → ℕ → ℕ
list_number p room = first_of (list_tests p room)

-- the answer, as that of reading without a receiver
abbrev pub list_reading : List ℕ → ℕ → Reading
list_reading p room = reading_by (corrected_pdu p) (list_number p room)

-- the PDU after the call: corrected, or as it was
unfoldable pub listed_pdu : List ℕ → ℕ → List ℕ
listed_pdu p room = cond (eqb (list_number p room) 0) (corrected_pdu p) p

-- entry k, of a corrected PDU y, by the register that CRCs start with (document 02, Ask 2): a wrong CRC is a verdict and no refusal
abbrev pub entry_at : ℕ → List ℕ → ℕ → Piece
entry_at register y k =
    let width = width_of y in
    let c = control_at y in
    record {
      start = start_at width c y k;
      length = length_at width c y k;
      right = eqb (crc_from register (take (length_at width c y k) (drop (start_at width c y k) y))) (get_or y (locator_at width y k) 0);
    }

-- n entries from entry k on
unfoldable pub entries_from : ℕ → List ℕ → ℕ → ℕ → List Piece
entries_from register y k zero = []
entries_from register y k (suc n) = entry_at register y k ∷ entries_from register y (suc k) n

-- the list after the call: entries past NOP keep what they held
unfoldable pub list_after : ℕ → List Piece → List ℕ → List Piece
list_after register l p =
    let y = corrected_pdu p in
    let nop = (control_at y).nop in
    cond (eqb (list_number p (length l)) 0) (entries_from register y 0 nop ++ drop nop l) l

-- ---- the receiver in place

-- the answer of the step by value, without the receiver, which stands where it stood
abbrev pub stepped_of : Received → Stepped
stepped_of a = record { refusal = a.refusal; wrong = a.wrong; words = a.words }
