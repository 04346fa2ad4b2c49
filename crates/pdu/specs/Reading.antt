-- Document 01, "Reading without a receiver": a corrected PDU's control word, expansion fields, PSD and pieces, and
-- refusals 3 to 5 and 7 to 12 in the table's order.
use Rattle.std.specs.Prelude.{Bool, true, false, not, ◌&&◌, ◌||◌, cond, List, [], ◌∷◌, ℕ, zero, suc, ◌+◌, ◌-◌, eqb, ltb, leb, length, take, replicate}
use Rattle.std.proofs.Math.Option.{Option, none, some}
use Rattle.refusal.specs.Refusal.{first_of, any_of}
use Rattle.modes.specs.Modes.{listing, listing_number}
use Rattle.modes.specs.declared.Mode.{Mode}
use Rattle.modes.specs.declared.Listing.{Listing}
use Rattle.modes.specs.declared.Listing.TheVariants.{Listed, Refused}
use Rattle.layout.specs.Control.{control_at}
use Rattle.layout.specs.declared.ControlWord.{ControlWord}
use Rattle.layout.specs.Locators.{locator_size, locator_at}
use Rattle.expansion.specs.Expansion.{nothing, expansion_length, expansion_at}
use Rattle.expansion.specs.declared.Interpreted.{Interpreted}
use Rattle.header.specs.Header.{allowed_length}
use Rattle.correction.specs.Correction.{corrected, corrected_pdu}
use Rattle.pdu.specs.declared.ExpansionFields.{ExpansionFields}
use Rattle.pdu.specs.declared.Part.{Part}
use Rattle.pdu.specs.declared.Reading.{Reading}

-- ---- the parts of a corrected PDU y with the control word c and locators of a width

-- the place after the locators
abbrev pub after_locators : ℕ → ControlWord → ℕ
after_locators width c = 14 + locator_size width c.nop

-- how many expansion bytes follow the locators, and what they say
abbrev pub expansion_count : ℕ → ControlWord → List ℕ → ℕ
expansion_count width c y = cond c.flag (expansion_length y (after_locators width c) c.la) 0

abbrev pub fields_of : ℕ → ControlWord → List ℕ → Interpreted
fields_of width c y = cond c.flag (expansion_at y (after_locators width c) c.la) (nothing true)

-- the place before piece k: La, or the previous locator
abbrev pub mark_at : ℕ → ControlWord → List ℕ → ℕ → ℕ
mark_at width c y zero = c.la
mark_at width c y (suc k) = locator_at width y k

-- piece k starts after La or the previous locator and ends before its locator
abbrev pub start_at : ℕ → ControlWord → List ℕ → ℕ → ℕ
start_at width c y k = mark_at width c y k + 1

abbrev pub length_at : ℕ → ControlWord → List ℕ → ℕ → ℕ
length_at width c y k = locator_at width y k - start_at width c y k

-- locator k is under its piece's start plus 1, or not below the length
unfoldable pub wrong_locator : ℕ → ControlWord → List ℕ → ℕ → Bool
wrong_locator width c y k = ltb (locator_at width y k) (start_at width c y k + 1) || leb (length y) (locator_at width y k)

unfoldable pub any_below : ℕ → (ℕ → Bool) → Bool
any_below zero t = false
any_below (suc n) t = any_below n t || t n

-- the smallest number below n that passes a test, n where none does
unfoldable pub lowest_below : ℕ → (ℕ → Bool) → ℕ
lowest_below zero t = 0
lowest_below (suc n) t = cond (t 0) 0 (suc (lowest_below n (λ k. t (suc k))))

-- the smallest k whose locator is wrong (document 02, Ask 6)
abbrev pub lowest_wrong : ℕ → ControlWord → List ℕ → ℕ
lowest_wrong width c y = lowest_below c.nop (wrong_locator width c y)

-- ---- what is turned down, 7 to 12

-- Pfirst or Plast with NOP 0; any count of pieces is taken (document 02, Ask 9)
abbrev pub wrong_flags : ControlWord → Bool
wrong_flags c = any_of ((eqb c.nop 0 && c.pfirst) ∷ (eqb c.nop 0 && c.plast) ∷ [])

-- La before the last locator byte, or not below the length
abbrev pub wrong_la : ℕ → ControlWord → List ℕ → Bool
wrong_la width c y = any_of (ltb (c.la + 1) (after_locators width c) ∷ leb (length y) c.la ∷ [])

-- displacement before the last piece's end (La if none), or not below the length
abbrev pub wrong_displacement : ℕ → ControlWord → List ℕ → Interpreted → Bool
wrong_displacement width c y x = x.displaced && (ltb x.displacement (mark_at width c y c.nop) || leb (length y) x.displacement)

abbrev pub reader_tests : Mode → ControlWord → List ℕ → List (Bool × ℕ)
reader_tests m c y =
    (leb m.sequences c.sequence, 7)
    ∷ (wrong_flags c, 8)
    ∷ (wrong_la m.width c y, 9)
    ∷ (not (fields_of m.width c y).right, 10)
    ∷ (any_below c.nop (wrong_locator m.width c y), 11)
    ∷ (wrong_displacement m.width c y (fields_of m.width c y), 12)
    ∷ []

-- ---- the whole table, 3 to 5 and 7 to 12

-- the mode that rows 7 to 12 take. Where the table has no line for a PDU's mode and stream, 5 applies and is lower than these
-- rows' numbers, so any mode does: one of zeros
abbrev pub mode_in : Listing → Mode
mode_in (Listed m) = m
mode_in (Refused n) = record { width = 0; sequences = 0; limit = 0; psd = false }

abbrev pub listing_of : ControlWord → Listing
listing_of c = listing c.mode c.stream

-- rows 5 and 7 to 12, of a corrected PDU y with the control word c
abbrev pub corrected_tests : ControlWord → List ℕ → List (Bool × ℕ)
corrected_tests c y = (not (eqb (listing_number (listing_of c)) 0), 5) ∷ reader_tests (mode_in (listing_of c)) c y

-- correction found no code word
abbrev pub uncorrectable : Option (List ℕ) → Bool
uncorrectable none = true
uncorrectable (some c) = false

-- the rows that reading asks of a PDU, in the table's order
abbrev pub read_tests : List ℕ → List (Bool × ℕ)
read_tests p =
    (not (allowed_length (length p)), 3)
    ∷ (uncorrectable (corrected (take 96 p)), 4)  -- the paper's beyond mending
    ∷ corrected_tests (control_at (corrected_pdu p)) (corrected_pdu p)

-- the k that comes with a number: with 11 the smallest whose locator is wrong, else 0
abbrev pub wrong_with : ℕ → ControlWord → List ℕ → ℕ → ℕ
wrong_with width c y number = cond (eqb number 11) (lowest_wrong width c y) 0

-- ---- the answer

-- 64 entries: f below n, 0 from there on
abbrev pub filled_from : ℕ → ℕ → ℕ → (ℕ → ℕ) → List ℕ
filled_from zero k n f = []
filled_from (suc m) k n f = cond (ltb k n) (f k) 0 ∷ filled_from m (suc k) n f

abbrev pub filled_to : ℕ → (ℕ → ℕ) → List ℕ
filled_to n f = filled_from 64 0 n f

abbrev pub answered : Interpreted → ExpansionFields
answered x = record { class = x.class; program = x.program; displacement = x.displacement; access = x.access; ptype = x.ptype; services = x.services; marker = x.marker }

-- PSD runs from the expansion's end to La
abbrev pub psd_of : ℕ → ControlWord → List ℕ → Part
psd_of width c y = record {
  start = after_locators width c + expansion_count width c y;
  length = c.la + 1 - (after_locators width c + expansion_count width c y);
}

unfoldable pub accepted : ℕ → ControlWord → List ℕ → Reading
accepted width c y = record {
  refusal = 0;
  wrong = 0;
  control = c;
  fields = answered (fields_of width c y);
  psd = psd_of width c y;
  starts = filled_to c.nop (start_at width c y);
  lengths = filled_to c.nop (length_at width c y);
}

abbrev pub no_control : ControlWord
no_control = record { mode = 0; stream = 0; sequence = 0; blend = 0; gain = 0; common = 0; latency = 0; pfirst = false; plast = false; start = 0; nop = 0; flag = false; la = 0 }

-- a refusal with its number, and k where it is 11
unfoldable pub refused : ℕ → ℕ → Reading
refused number k = record {
  refusal = number;
  wrong = k;
  control = no_control;
  fields = answered (nothing true);
  psd = record { start = 0; length = 0 };
  starts = replicate 64 0;
  lengths = replicate 64 0;
}

-- the answer for a mode
unfoldable pub listed_reading : Mode → ControlWord → List ℕ → Reading
listed_reading m c y =
    let number = first_of (reader_tests m c y) in
    cond (eqb number 0) (accepted m.width c y) (refused number (wrong_with m.width c y number))

-- the lowest number from 5 to 12 that applies to a corrected PDU, 0 where it is accepted
unfoldable pub judged : List ℕ → ℕ
judged y = first_of (corrected_tests (control_at y) y)

-- the locator width of a PDU's mode and stream
unfoldable pub width_of : List ℕ → ℕ
width_of y = (mode_in (listing_of (control_at y))).width

-- the k that comes with a number for a corrected PDU
unfoldable pub wrong_of : List ℕ → ℕ → ℕ
wrong_of y number = wrong_with (width_of y) (control_at y) y number

-- the answer for a corrected PDU, by the lowest number that applies, 0 where none does
unfoldable pub reading_by : List ℕ → ℕ → Reading
reading_by y number = cond (eqb number 0) (accepted (width_of y) (control_at y) y) (refused number (wrong_of y number))

-- the lowest number that applies to a PDU, 0 where it is accepted
unfoldable pub read_number : List ℕ → ℕ
read_number p = first_of (read_tests p)

-- the answer
abbrev pub reading_of : List ℕ → Reading
reading_of p = reading_by (corrected_pdu p) (read_number p)

-- the PDU after the call: corrected, or as it was
unfoldable pub read_pdu : List ℕ → List ℕ
read_pdu p = cond (eqb (read_number p) 0) (corrected_pdu p) p
