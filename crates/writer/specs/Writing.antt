-- Document 01, "Writer": opening a writer, and writing a PDU.
use Rattle.std.specs.Prelude.{Bool, true, false, not, ◌&&◌, ◌||◌, cond, List, [], ◌∷◌, ◌++◌, ℕ, zero, suc, ◌+◌, ◌-◌, ◌%◌, eqb, ltb, leb, length, drop, replicate}
use Rattle.refusal.specs.Refusal.{first_of, any_of}
use Rattle.modes.specs.Modes.{listing}
use Rattle.modes.specs.declared.Mode.{Mode}
use Rattle.modes.specs.declared.Listing.{Listing}
use Rattle.modes.specs.declared.Listing.TheVariants.{Listed, Refused}
use Rattle.layout.specs.Control.{bit, control_bytes}
use Rattle.layout.specs.declared.ControlWord.{ControlWord}
use Rattle.expansion.specs.Writing.{expansion_bytes}
use Rattle.settings.specs.Settings.{broken_rules, wrong_values, fields_for}
use Rattle.settings.specs.declared.Settings.{Settings}
use Rattle.pieces.specs.Pieces.{cut_by, total}
use Rattle.packing.specs.Packing.{overhead, wholes, part, piece_lengths}
use Rattle.contents.specs.Contents.{first_piece, contents}
use Rattle.header.specs.Header.{with_parity}
use Rattle.writer.specs.declared.Writer.{Writer}
use Rattle.writer.specs.declared.Opened.{Opened}
use Rattle.writer.specs.declared.Written.{Written}

-- ---- opening

-- what a refused opening hands back: a mode that the table has not, so that number 1 turns it down
abbrev pub no_writer : Writer
no_writer = record { mode = 255; stream = 0; register = 0; sequence = 0; number = 0; sent = 0 }

abbrev pub opened_as : Listing → ℕ → ℕ → ℕ → Opened
opened_as (Refused n) mode stream register = record { refusal = n; writer = no_writer }
opened_as (Listed m) mode stream register = record { refusal = 0; writer = record { mode = mode; stream = stream; register = register; sequence = 0; number = 0; sent = 0 } }

-- for a mode, a stream and the register that CRCs start with (document 02, Ask 2): refusal 5, or a writer that remembers PDU sequence 0, packet number 0
-- and no byte sent
unfoldable pub writer_opened : ℕ → ℕ → ℕ → Opened
writer_opened mode stream register = opened_as (listing mode stream) mode stream register

-- ---- what is turned down

-- packet length 0 or over 4,096
abbrev pub wrong_lengths : List ℕ → Bool
wrong_lengths [] = false
wrong_lengths (n ∷ ns) = eqb n 0 || (ltb 4096 n || wrong_lengths ns)

-- sent above 0 and the unfinished packet absent or not longer than sent
abbrev pub wrong_unfinished : ℕ → List ℕ → Bool
wrong_unfinished s [] = ltb 0 s
wrong_unfinished s (n ∷ ns) = ltb 0 s && leb n s

-- 1: sequence, number and sent outside their ranges
abbrev pub wrong_writer : Mode → Writer → List Bool
wrong_writer m w = leb m.sequences w.sequence ∷ ltb 63 w.number ∷ ltb 4095 w.sent ∷ []

-- 3: length not 96 to 20,480; over 4,096 with 12-bit locators
abbrev pub wrong_size : Mode → ℕ → List Bool
wrong_size m size = ltb size 96 ∷ ltb 20480 size ∷ (eqb m.width 12 && ltb 4096 size) ∷ []

-- 15; lengths that don't sum to the bytes
abbrev pub wrong_packets : ℕ → List ℕ → ℕ → List Bool
wrong_packets sent lengths count = (wrong_lengths lengths || not (eqb (total lengths) count)) ∷ wrong_unfinished sent lengths ∷ []

-- 16: PSD plus expansion past the mode's column, or any PSD where it says no PSD
abbrev pub wrong_extra : Mode → ℕ → ℕ → List Bool
wrong_extra m expansion psd = ltb m.limit (expansion + psd) ∷ (not m.psd && ltb 0 psd) ∷ []

-- 17: overhead for one piece plus 2 over R; with none offered, overhead over R
abbrev pub no_room : Mode → ℕ → ℕ → List ℕ → Bool
no_room m extra size [] = ltb size (overhead m.width extra 0)
no_room m extra size (n ∷ ns) = ltb size (overhead m.width extra 1 + 2)

-- ---- control word and next state

-- with a part of so many bytes at the end, so many pieces, expansion bytes or none, and La; the starting number is that of the first
-- packet not continued
abbrev pub control_with : Writer → Settings → ℕ → ℕ → Bool → ℕ → ControlWord
control_with w settings part nop flag la = record {
  mode = w.mode;
  stream = w.stream;
  sequence = w.sequence;
  blend = settings.blend;
  gain = settings.gain;
  common = settings.common;
  latency = settings.latency;
  pfirst = ltb 0 w.sent;
  plast = ltb 0 part;
  start = (w.number + bit (ltb 0 w.sent)) % 64;
  nop = nop;
  flag = flag;
  la = la;
}

-- when so many packets ended, and so many bytes of the next are sent: sequence (modulo its range) and numbers (modulo 64) advance
abbrev pub advanced : Mode → Writer → ℕ → ℕ → Writer
advanced m w ended part = record {
  mode = w.mode;
  stream = w.stream;
  register = w.register;
  sequence = (w.sequence + 1) % m.sequences;
  number = (w.number + ended) % 64;
  sent = cond (eqb ended 0) w.sent 0 + part;
}

-- a refusal leaves the writer as it was
abbrev pub refused_write : Writer → ℕ → Written
refused_write w number = record { refusal = number; ended = 0; writer = w }

-- ---- the call

-- a writing call's arguments but the writer: settings, PSD, the packets' lengths and joined bytes, and the PDU's length R
module _ (settings : Settings) (psd lengths bytes : List ℕ) (size : ℕ) where
  abbrev pub expansion_of : List ℕ
  expansion_of = expansion_bytes (fields_for settings size)

  -- expansion and PSD
  abbrev pub extra_of : ℕ
  extra_of = length expansion_of + length psd

  abbrev pub writer_tests : Mode → Writer → List (Bool × ℕ)
  writer_tests m w =
      (any_of (wrong_writer m w), 1)
      ∷ (any_of (wrong_size m size), 3)
      ∷ (any_of (broken_rules settings size), 10)
      ∷ (any_of (wrong_values w.stream settings), 14)
      ∷ (any_of (wrong_packets w.sent lengths (length bytes)), 15)
      ∷ (any_of (wrong_extra m (length expansion_of) (length psd)), 16)
      ∷ (no_room m extra_of size lengths, 17)
      ∷ []

  module _ (m : Mode) (w : Writer) where
    -- ---- what is written

    -- the lengths of the pieces; how many packets end; how many bytes of the next are placed
    abbrev pub placed_lengths : List ℕ
    placed_lengths = piece_lengths m.width extra_of size w.sent lengths

    abbrev pub ended_of : ℕ
    ended_of = length (wholes m.width extra_of size w.sent lengths)

    abbrev pub part_of : ℕ
    part_of = part m.width extra_of size w.sent lengths

    -- the offered packets' bytes from the first unsent one on, cut into pieces
    abbrev pub pieces_of : List (List ℕ)
    pieces_of = cut_by placed_lengths (drop w.sent bytes)

    abbrev pub control_for : ControlWord
    control_for = control_with w settings part_of (length placed_lengths) (ltb 0 (length expansion_of)) (first_piece m.width expansion_of psd pieces_of - 1)

    -- from byte 8 to the last piece's CRC
    abbrev pub written : List ℕ
    written = control_bytes control_for ++ contents w.register m.width expansion_of psd pieces_of

    -- the whole PDU: the rest is zero
    unfoldable pub pdu_of : List ℕ
    pdu_of = with_parity (replicate 8 0 ++ (written ++ replicate (size - (8 + length written)) 0))

    abbrev pub next_of : Writer
    next_of = advanced m w ended_of part_of

    abbrev pub accepted_answer : Written
    accepted_answer = record { refusal = 0; ended = ended_of; writer = next_of }

  -- with what the table says of mode and stream; ones that it has not are a state outside its range
  abbrev pub answer_in : Listing → Writer → Written
  answer_in (Refused n) w = refused_write w 1
  answer_in (Listed m) w =
      cond (eqb (first_of (writer_tests m w)) 0) (accepted_answer m w)
      (refused_write w (first_of (writer_tests m w)))

  unfoldable pub write_answer : Writer → Written
  write_answer w = answer_in (listing w.mode w.stream) w

  abbrev pub pdu_in : Listing → Writer → List ℕ → List ℕ
  pdu_in (Refused n) w before = before
  pdu_in (Listed m) w before = cond (eqb (first_of (writer_tests m w)) 0) (pdu_of m w) before

  -- the PDU after the call, with what it held before
  unfoldable pub written_pdu : Writer → List ℕ → List ℕ
  written_pdu w before = pdu_in (listing w.mode w.stream) w before
