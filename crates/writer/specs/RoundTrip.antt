-- Document 00, demand 2, in two parts. "A header is mended to the one code word that differs in at most four bytes, and is refused as beyond mending
-- exactly when there is none": correction/specs/Corrects.antt, where document 02's Ask 3 has the same with marked places. "Reading a written PDU gives its fields, PSD and pieces": below, also with at most
-- four of its first 96 bytes altered. That writer and reader follow document 01's rules for parity, layouts, CRC and pieces is what the contracts
-- say, which give their results by the definitions of these rules.
use Rattle.std.specs.Prelude.{◌≡◌, true, List, [], ℕ, ◌+◌, ◌<◌, ◌≤◌, length, get_or, take, drop}
use Rattle.algebra.specs.Places.{All}
use Rattle.modes.specs.Modes.{listing}
use Rattle.modes.specs.declared.Mode.{Mode}
use Rattle.modes.specs.declared.Listing.TheVariants.{Listed}
use Rattle.header.specs.Header.{is_code_word, distance}
use Rattle.correction.specs.Corrects.{Corrects, CorrectsWith}
use Rattle.correction.specs.Marks.{marks_refusal}
use Rattle.layout.specs.Locators.{locator_size}
use Rattle.expansion.specs.Writing.{interpreted_of}
use Rattle.settings.specs.Settings.{fields_for}
use Rattle.settings.specs.declared.Settings.{Settings}
use Rattle.refusal.specs.Refusal.{first_of}
use Rattle.pieces.specs.Pieces.{total}
use Rattle.pdu.specs.Reading.{read_number, reading_of, read_pdu, accepted, answered}
use Rattle.pdu.specs.PieceRead.{PieceRead}
use Rattle.writer.specs.Writing.{expansion_of, pieces_of, placed_lengths, control_for, writer_tests, write_answer, written_pdu}
use Rattle.writer.specs.declared.Writer.{Writer}

abbrev pub Bytes : List ℕ → Type 0
Bytes = All (λ x. x < 256)

-- q is p with at most four of the first 96 bytes altered, to anything
pub record Altered (p q : List ℕ) : Type 0 where
  pub bytes : Bytes q
  pub long : length q ≡ length p
  pub few : distance (take 96 q) (take 96 p) ≤ 4
  pub rest : drop 96 q ≡ drop 96 p

-- a writing call's arguments: settings, PSD, lengths and joined bytes of the packets offered, the PDU length R, and the writer
module _ (settings : Settings) (psd lengths bytes : List ℕ) (size : ℕ) (w : Writer) where
  -- p, the PDU that the call wrote, is read from q as it was written: the PDU is accepted and left as p, and the answer has the control word,
  -- the expansion fields, the PSD's place and each piece's, whose CRC is the one by the writer's register
  pub record ReadBack (m : Mode) (p q : List ℕ) : Type 0 where
    pub number : read_number q ≡ 0
    pub pdu : read_pdu q ≡ p
    pub answer : reading_of q ≡ accepted m.width (control_for settings psd lengths bytes size m w) p
    pub fields : (accepted m.width (control_for settings psd lengths bytes size m w) p).fields ≡ answered (interpreted_of (fields_for settings size))
    pub place : (accepted m.width (control_for settings psd lengths bytes size m w) p).psd
        ≡ record { start = 14 + locator_size m.width (length (pieces_of settings psd lengths bytes size m w)) + length (expansion_of settings psd lengths bytes size); length = length psd }
    pub psd-read : take (length psd) (drop (14 + locator_size m.width (length (pieces_of settings psd lengths bytes size m w)) + length (expansion_of settings psd lengths bytes size)) p) ≡ psd
    pub pieces : (k : ℕ) → k < length (pieces_of settings psd lengths bytes size m w)
        → PieceRead w.register m.width (control_for settings psd lengths bytes size m w) p k (get_or (pieces_of settings psd lengths bytes size m w) k [])

  -- p has R bytes, its header is a code word, and it is read back, also with header bytes altered
  pub record RoundTrip (p : List ℕ) : Type 0 where
    pub mode : Mode
    pub listed : listing w.mode w.stream ≡ Listed mode
    pub long : length p ≡ size
    pub header : is_code_word (take 96 p) ≡ true
    pub back : (q : List ℕ) → Altered p q → ReadBack mode p q

-- demand 2: for every PDU of a length that is not refused with 3, and for every accepted writing call, whatever its buffer held
pub record Demand2 : Type 0 where
  pub corrects : (p : List ℕ) → 96 ≤ length p → length p ≤ 20480 → Bytes p → Corrects p
  -- document 02, Ask 3: and for every list of marks that is not refused with 19
  pub corrects-with : (marks p : List ℕ) → marks_refusal marks ≡ 0 → 96 ≤ length p → length p ≤ 20480 → Bytes p → CorrectsWith marks p
  -- a call is refused by a row of the table (`writer_tests`) or not at all, so a writer that always refuses, or answers 17 early, is none; and with packets offered
  -- an accepted call sends at least one byte
  pub accepts : (settings : Settings) (psd lengths bytes : List ℕ) (size : ℕ) (w : Writer) (m : Mode) → listing w.mode w.stream ≡ Listed m
      → first_of (writer_tests settings psd lengths bytes size m w) ≡ 0 → (write_answer settings psd lengths bytes size w).refusal ≡ 0
  pub sends : (settings : Settings) (psd lengths bytes : List ℕ) (size : ℕ) (w : Writer) (m : Mode) → listing w.mode w.stream ≡ Listed m
      → (write_answer settings psd lengths bytes size w).refusal ≡ 0 → 0 < length lengths → 0 < total (placed_lengths settings psd lengths bytes size m w)
  pub reads : (settings : Settings) (psd lengths bytes : List ℕ) (size : ℕ) (w : Writer) (before : List ℕ) → Bytes psd → Bytes bytes
      → (write_answer settings psd lengths bytes size w).refusal ≡ 0 → RoundTrip settings psd lengths bytes size w (written_pdu settings psd lengths bytes size w before)
