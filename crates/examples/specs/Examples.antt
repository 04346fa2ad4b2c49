-- The bracketed letters of document 01's "Examples", as one table.
use Rattle.std.specs.Prelude.{◌≡◌, Bool, true, false, List, [], ◌∷◌, ◌++◌, map, ℕ, suc, length, replicate}
use Rattle.std.proofs.Math.Option.{some}
use Rattle.layout.specs.declared.ControlWord.{ControlWord}
use Rattle.layout.specs.Control.{control_bytes}
use Rattle.layout.specs.Locators.{locator_bytes}
use Rattle.modes.specs.Modes.{listing}
use Rattle.modes.specs.declared.Mode.{Mode}
use Rattle.modes.specs.declared.Listing.TheVariants.{Listed}
use Rattle.settings.specs.declared.Settings.{Settings}
use Rattle.pieces.specs.Pieces.{total}
use Rattle.contents.specs.Contents.{locators_of}
use Rattle.writer.specs.Writing.{writer_opened, expansion_of, pieces_of, control_for, write_answer}
use Rattle.writer.specs.declared.Writer.{Writer}
use Rattle.writer.specs.declared.Written.{Written}
use Rattle.field.specs.Field.{pow}
use Rattle.crc.specs.Crc.{crc_from}
use Rattle.header.specs.Header.{exponents, is_code_word, length_refusal}
use Rattle.correction.specs.Correction.{corrected}
use Rattle.packet_log.specs.Log.{packet, entry_words}

-- the generator's coefficients in bytes 0 to 8, the rest zero
unfoldable pub generator_word : List ℕ
generator_word = map pow exponents ++ replicate 87 0

-- a word with the chosen ones of its first bytes zeroed
abbrev pub zeroing : List Bool → List ℕ → List ℕ
zeroing (true ∷ choice) (x ∷ w) = 0 ∷ zeroing choice w
zeroing (false ∷ choice) (x ∷ w) = x ∷ zeroing choice w
zeroing [] w = w
zeroing (b ∷ choice) [] = []

-- how many are chosen
abbrev pub chosen : List Bool → ℕ
chosen (true ∷ choice) = suc (chosen choice)
chosen (false ∷ choice) = chosen choice
chosen [] = 0

-- mode 0, core, sequence 1, blend 2, gain 0, common delay 5, latency 4, Pfirst, start 33, NOP 2, La 17
abbrev pub control_example : ControlWord
control_example = record { mode = 0; stream = 0; sequence = 1; blend = 2; gain = 0; common = 5; latency = 4; pfirst = true; plast = false; start = 33; nop = 2; flag = false; la = 17 }

-- a writer for mode 0, core, its register starting at 0, and a call with PDUs of 96 bytes, no settings, a PSD of n bytes and packets of these lengths
abbrev pub mode0 : Mode
mode0 = record { width = 16; sequences = 2; limit = 128; psd = true }

abbrev pub no_settings : Settings
no_settings = record { blend = 0; gain = 0; common = 0; latency = 0; classed = false; class = 0; programmed = false; program = 0; displaced = false; typed = false; access = 0; ptype = 0; serviced = false; services = 0; marker = 0 }

abbrev pub example_answer : ℕ → List ℕ → Writer → Written
example_answer n lengths w = write_answer no_settings (replicate n 0) lengths (replicate (total lengths) 0) 96 w

abbrev pub locators : List ℕ → Writer → List ℕ
locators lengths w = locators_of 16 (expansion_of no_settings [] lengths (replicate (total lengths) 0) 96) [] (pieces_of no_settings [] lengths (replicate (total lengths) 0) 96 mode0 w)

abbrev pub control : List ℕ → Writer → ControlWord
control lengths w = control_for no_settings [] lengths (replicate (total lengths) 0) 96 mode0 w

-- the writer that (j) leaves
abbrev pub next : Writer
next = record { mode = 0; stream = 0; register = 0; sequence = 1; number = 0; sent = 79 }

pub record Examples : Type 0 where
  -- the control word above: 40 04 05 0B 05 11
  pub a : control_bytes control_example ≡ 0x40 ∷ 0x04 ∷ 0x05 ∷ 0x0B ∷ 0x05 ∷ 0x11 ∷ []
  -- 300, 700 in 16 bits: 2C 01 BC 02
  pub b : locator_bytes 16 (300 ∷ 700 ∷ []) ≡ 0x2C ∷ 0x01 ∷ 0xBC ∷ 0x02 ∷ []
  -- in 12 bits: 2C C1 2B
  pub c : locator_bytes 12 (300 ∷ 700 ∷ []) ≡ 0x2C ∷ 0xC1 ∷ 0x2B ∷ []
  -- CRC of 01 is 0x31
  pub d : crc_from 0 (0x01 ∷ []) ≡ 0x31
  -- of 80: 0x7A
  pub e : crc_from 0 (0x80 ∷ []) ≡ 0x7A
  -- of 01 00: 0xF4
  pub f : crc_from 0 (0x01 ∷ 0x00 ∷ []) ≡ 0xF4
  -- the generator's coefficients in bytes 0 to 8, the rest zero, are a code word
  pub g : is_code_word generator_word ≡ true
  -- with four of the nine zeroed it is corrected to itself
  pub h : (choice : List Bool) → length choice ≡ 9 → chosen choice ≡ 4 → corrected (zeroing choice generator_word) ≡ some generator_word
  -- with five to all zero
  pub i : (choice : List Bool) → length choice ≡ 9 → chosen choice ≡ 5 → corrected (zeroing choice generator_word) ≡ some (replicate 96 0)
  -- mode 0, 96 bytes, packet of 100: 79 sent, locator 95, Plast
  pub j : example_answer 0 (100 ∷ []) (writer_opened 0 0 0).writer ≡ record { refusal = 0; ended = 0; writer = next }
  pub j-mode : listing 0 0 ≡ Listed mode0
  pub j-locators : locators (100 ∷ []) (writer_opened 0 0 0).writer ≡ 95 ∷ []
  pub j-plast : (control (100 ∷ []) (writer_opened 0 0 0).writer).plast ≡ true
  -- next, with one of 50: locators 39 and 90, start 1
  pub k : (example_answer 0 (100 ∷ 50 ∷ []) next).refusal ≡ 0
  pub k-locators : locators (100 ∷ 50 ∷ []) next ≡ 39 ∷ 90 ∷ []
  pub k_start : (control (100 ∷ 50 ∷ []) next).start ≡ 1
  -- with 56 instead, 55 of it sent
  pub l : example_answer 0 (100 ∷ 56 ∷ []) next ≡ record { refusal = 0; ended = 1; writer = record { mode = 0; stream = 0; register = 0; sequence = 0; number = 1; sent = 55 } }
  -- mode 0, 96 bytes, packets offered: PSD 78 fits, 79 is 17
  pub m-fits : (example_answer 78 (100 ∷ []) (writer_opened 0 0 0).writer).refusal ≡ 0
  pub m-not : (example_answer 79 (100 ∷ []) (writer_opened 0 0 0).writer).refusal ≡ 17
  -- packet 5, bytes 11 22 33 44: 0x00050004 0x43112233 0x41440000; length 95: 3
  pub n : entry_words (packet 5 (0x11 ∷ 0x22 ∷ 0x33 ∷ 0x44 ∷ [])) ≡ 0x00050004 ∷ 0x43112233 ∷ 0x41440000 ∷ []
  pub n-length : length_refusal 95 ≡ 3
