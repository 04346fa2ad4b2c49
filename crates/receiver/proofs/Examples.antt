-- Document 02, Ask 10, case by case: what a withheld PDU logs and leaves held, and which PDUs are withheld; Ask 14: which counts are turned down.
use mathlib.Core.Path.{◌≡◌, refl}
use mathlib.Core.Bool.{Bool, true, false}
use mathlib.Core.List.{List, [], ◌∷◌}
use mathlib.Core.Option.{none, some}
use Prim.Native.Nat.{ℕ}
use Rattle.refusal.specs.Refusal.{any_of}
use Rattle.packet_log.specs.Log.{packet, note}
use Rattle.reassembly.specs.Reassembly.{Piece, Said, nothing, beginning, Memory, sequence_step, beginning_step, finished, joined, piece_step, continuing_step, contents_step, received, forgotten}
use Rattle.reassembly.specs.Holder.{Come}
use Rattle.receiver.specs.Entitling.{entitles, allowed_programs}
use Rattle.receiver.specs.Receiving.{fresh, opening_number, memory_of, shown, kept_by, remembering, wrong_state}
use Rattle.receiver.specs.declared.Receiver.{Receiver}
use Rattle.modes.specs.Modes.{listing}

-- ---- a withheld PDU of sequence 1 and starting number 4, with PSD

abbrev withheld : Bool → Bool → List Piece → Said
withheld pfirst plast pieces = record { sequence = 1; pfirst = pfirst; plast = plast; start = 4; psd_bytes = 9 ∷ []; pieces = pieces; withheld = true }

abbrev right : Piece
right = record { cause = 0; bytes = 7 ∷ [] }

abbrev wrong : Piece
wrong = record { cause = 2; bytes = 7 ∷ [] }

-- after sequence q, packet 3 begun
abbrev holding : ℕ → Memory
holding q = record { last = some q; partial = beginning 3 (1 ∷ []) }

-- nothing held: note 8 alone, also with Pfirst, and with Plast
pub alone : received 8 forgotten (withheld true true (right ∷ [])) ≡ record { entries = note 8 0 ∷ []; partial = nothing }
unfolding received sequence_step beginning_step contents_step continuing_step
alone = refl

-- a piece that continues is delivered, and those after it are not looked at
pub continued : received 8 (holding 0) (withheld true true (right ∷ right ∷ [])) ≡ record { entries = note 8 0 ∷ packet 3 (1 ∷ 7 ∷ []) ∷ []; partial = nothing }
unfolding received sequence_step beginning_step contents_step continuing_step piece_step joined finished
continued = refl

-- its CRC wrong: 8, then 2
pub continued-wrong : received 8 (holding 0) (withheld true false (wrong ∷ [])) ≡ record { entries = note 8 0 ∷ note 2 0 ∷ []; partial = nothing }
unfolding received sequence_step beginning_step contents_step continuing_step piece_step
continued-wrong = refl

-- the only piece, with both flags: it stays held
pub held_on : received 8 (holding 0) (withheld true true (right ∷ [])) ≡ record { entries = note 8 0 ∷ []; partial = beginning 3 (1 ∷ 7 ∷ []) }
unfolding received sequence_step beginning_step contents_step continuing_step piece_step joined finished
held_on = refl

-- steps 1 and 2 run first
pub out-of-sequence : received 8 (holding 5) (withheld true false (right ∷ [])) ≡ record { entries = note 1 0 ∷ note 8 0 ∷ []; partial = nothing }
unfolding received sequence_step beginning_step contents_step continuing_step
out-of-sequence = refl

pub not-continued : received 8 (holding 0) (withheld false false (right ∷ [])) ≡ record { entries = note 4 0 ∷ note 8 0 ∷ []; partial = nothing }
unfolding received sequence_step beginning_step contents_step continuing_step
not-continued = refl

-- ---- which are withheld: receivers that are entitled to program 1 alone

abbrev coming : ℕ → ℕ → ℕ → Come
coming sequence program services =
    record { said = record { sequence = sequence; pfirst = false; plast = false; start = 0; psd_bytes = []; pieces = []; withheld = false }; label = record { program = program; services = services } }

-- just opened, and after sequence 2 with services 0
abbrev core : Receiver
core = fresh 1 0 0 2

abbrev knowing : ℕ → Receiver
knowing value = record { mode = 1; stream = 0; register = 0; entitled = 2; known = true; sequence = 2; held = 0; number = 0; serviced = true; services = value; delivered = 0; missing = 0; last = 0 }

abbrev enhanced : Receiver
enhanced = fresh 10 1 0 2

module _ (carry : List ℕ) where
  -- unknown: every program not listed, also program 0 with services 0
  pub unknown : (shown 8 core carry (coming 3 0 0)).withheld ≡ true
  unfolding entitles memory_of
  unknown = refl

  pub unknown-listed : (shown 8 core carry (coming 3 1 1)).withheld ≡ false
  unfolding entitles memory_of
  unknown-listed = refl

  -- sequence 0 without services: known, and 0
  pub first : ((shown 8 core carry (coming 0 0 0)).withheld ≡ false) × (kept_by 8 core carry (coming 0 0 0) ≡ some 0)
  unfolding entitles memory_of
  first = (refl, refl)

  -- services 2 withhold nothing, and 1 do
  pub two : (shown 8 core carry (coming 0 0 2)).withheld ≡ false
  unfolding entitles memory_of
  two = refl

  pub one : (shown 8 core carry (coming 0 0 1)).withheld ≡ true
  unfolding entitles memory_of
  one = refl

  -- a value sent with sequence 3 is not taken
  pub third : ((shown 8 (knowing 0) carry (coming 3 0 1)).withheld ≡ false) × (kept_by 8 (knowing 0) carry (coming 3 0 1) ≡ some 0)
  unfolding entitles memory_of
  third = (refl, refl)

  -- out of sequence it is forgotten, and then sequence 0 takes its own
  pub gap : ((shown 8 (knowing 0) carry (coming 5 0 0)).withheld ≡ true) × (kept_by 8 (knowing 0) carry (coming 5 0 0) ≡ none)
  unfolding entitles memory_of
  gap = (refl, refl)

  pub gap-first : ((shown 8 (knowing 1) carry (coming 0 0 0)).withheld ≡ false) × (kept_by 8 (knowing 1) carry (coming 0 0 0) ≡ some 0)
  unfolding entitles memory_of
  gap-first = (refl, refl)

  -- mode 10, enhanced, has its own value in each PDU, and keeps none
  pub own : ((shown 8 enhanced carry (coming 3 0 1)).withheld ≡ true) × (kept_by 8 enhanced carry (coming 3 0 1) ≡ none)
  unfolding entitles memory_of
  own = (refl, refl)

-- ---- opening: mode 4 with program 9 is 5; mode 0 with 8, or with 1 twice, 22

pub five-first : opening_number 4 0 (9 ∷ []) ≡ 5
unfolding opening_number listing
five-first = refl

pub over-seven : opening_number 0 0 (8 ∷ []) ≡ 22
unfolding opening_number listing allowed_programs
over-seven = refl

pub twice : opening_number 0 0 (1 ∷ 1 ∷ []) ≡ 22
unfolding opening_number listing allowed_programs
twice = refl

pub empty-list : opening_number 0 0 [] ≡ 0
unfolding opening_number listing allowed_programs
empty-list = refl

-- ---- document 02, Ask 14: counts in the record

-- number 1: with delivered 0 the other two are 0, and the last number is at most 63
abbrev having : ℕ → ℕ → ℕ → Receiver
having delivered missing last = remembering (fresh 0 0 0 255) forgotten none (record { delivered = delivered; missing = missing; last = last })

pub wrong-counts : (any_of (wrong_state (having 0 0 3)) ≡ true) × (any_of (wrong_state (having 0 1 0)) ≡ true) × (any_of (wrong_state (having 1 0 64)) ≡ true)
unfolding remembering listing
wrong-counts = (refl, refl, refl)

pub right-counts : (any_of (wrong_state (having 0 0 0)) ≡ false) × (any_of (wrong_state (having 1 0 63)) ≡ false) × (any_of (wrong_state (having 4294967295 4294967295 0)) ≡ false)
unfolding remembering listing
right-counts = (refl, refl, refl)
