-- Document 01, "Receiver": the steps 1 to 4, on what a PDU says; document 02, Ask 10: a withheld PDU. A held beginning, the paper's word, is a
-- partial packet here.
use Rattle.std.specs.Prelude.{Bool, true, false, not, ◌&&◌, cond, List, [], ◌∷◌, ◌++◌, ℕ, suc, ◌+◌, ◌%◌, eqb, ltb, length}
use Rattle.std.proofs.Math.Option.{Option, none, some}
use Rattle.packet_log.specs.Log.{Entry, packet, psd, note}
use Rattle.layout.specs.Control.{piece_number}

-- ---- what a PDU says, and what a receiver remembers

-- a piece: cause 0 where it is taken, else the note's cause (2: wrong CRC; 7: two copies with right CRCs that differ), and its bytes
pub record Piece : Type 0 where
  pub cause : ℕ
  pub bytes : List ℕ

pub record Said : Type 0 where
  pub sequence : ℕ
  pub pfirst : Bool
  pub plast : Bool
  pub start : ℕ
  pub psd_bytes : List ℕ
  pub pieces : List Piece
  pub withheld : Bool

pub data Partial : Type 0 where
  nothing : Partial
  beginning : ℕ → List ℕ → Partial  -- number, bytes

pub record Memory : Type 0 where
  pub last : Option ℕ  -- the last PDU sequence, if known
  pub partial : Partial

-- entries logged by a step, and what is held after it
pub record Outcome : Type 0 where
  pub entries : List Entry
  pub partial : Partial

abbrev pub dropped : ℕ → ℕ → Outcome
dropped cause k = record { entries = note cause k ∷ []; partial = nothing }

abbrev pub kept : Partial → Outcome
kept h = record { entries = []; partial = h }

-- ---- 1. sequence known and not the next: note 1, beginning dropped

-- 0 follows the last of its range
abbrev pub following : ℕ → ℕ → ℕ
following range q = cond (eqb (suc q) range) 0 (suc q)

abbrev pub in_sequence : ℕ → Option ℕ → ℕ → Bool
in_sequence range none q = true
in_sequence range (some l) q = eqb q (following range l)

unfoldable pub sequence_step : ℕ → Option ℕ → ℕ → Partial → Outcome
sequence_step range last q h = cond (in_sequence range last q) (kept h) (dropped 1 0)

-- ---- 2. beginning held, and Pfirst clear or its number not starting number minus 1, modulo 64: note 4, dropped

unfoldable pub beginning_step : Bool → ℕ → Partial → Outcome
beginning_step pfirst start nothing = kept nothing
beginning_step pfirst start (beginning n b) = cond (pfirst && eqb n ((start + 63) % 64)) (kept (beginning n b)) (dropped 4 0)

-- ---- 3. PSD, if any

unfoldable pub psd_entries : List ℕ → List Entry
psd_entries [] = []
psd_entries (b ∷ bs) = psd (b ∷ bs) ∷ []

-- ---- 4. each piece

-- over 4,096 bytes with what was held, note 5; otherwise delivered if it ends here, held if Plast
unfoldable pub finished : ℕ → ℕ → Bool → List ℕ → Outcome
finished n k ends bytes =
    cond (ltb 4096 (length bytes)) (dropped 5 k) (cond ends (record { entries = packet n bytes ∷ []; partial = nothing }) (kept (beginning n bytes)))

-- a piece that is taken: continuing with nothing held, note 3
unfoldable pub joined : ℕ → ℕ → Bool → Bool → Partial → List ℕ → Outcome
joined n k true ends nothing bytes = dropped 3 k
joined n k true ends (beginning m held) bytes = finished n k ends (held ++ bytes)
joined n k false ends h bytes = finished n k ends bytes

-- piece k, of packet number n: a noted piece leaves nothing held
unfoldable pub piece_step : ℕ → ℕ → Bool → Bool → Partial → Piece → Outcome
piece_step n k continues ends h p = cond (eqb p.cause 0) (joined n k continues ends h p.bytes) (dropped p.cause k)

-- a packet ends with its piece, but for the last piece of a PDU with Plast
abbrev pub ends_here : Bool → List Piece → Bool
ends_here plast [] = not plast
ends_here plast (p ∷ ps) = true

unfoldable pub pieces_step : (ℕ → ℕ) → ℕ → Bool → Bool → Partial → List Piece → Outcome
pieces_step number k continues plast h [] = kept h
pieces_step number k continues plast h (p ∷ ps) =
    let o = piece_step (number k) k continues (ends_here plast ps) h p in
    let u = pieces_step number (suc k) false plast o.partial ps in
    record { entries = o.entries ++ u.entries; partial = u.partial }

-- ---- 3 and 4 of a PDU that is withheld, or not

-- no piece is looked at but one that continues a held beginning; n is its packet's number
unfoldable pub continuing_step : ℕ → Bool → Partial → List Piece → Outcome
continuing_step n plast nothing ps = kept nothing
continuing_step n plast (beginning m held) [] = kept (beginning m held)
continuing_step n plast (beginning m held) (p ∷ ps) = piece_step n 0 true (ends_here plast ps) (beginning m held) p

-- note 8 in place of step 3
unfoldable pub contents_step : Bool → Said → Partial → Outcome
contents_step false d h =
    let c = pieces_step (piece_number d.pfirst d.start) 0 d.pfirst d.plast h d.pieces in
    record { entries = psd_entries d.psd_bytes ++ c.entries; partial = c.partial }
contents_step true d h =
    let c = continuing_step (piece_number d.pfirst d.start 0) d.plast h d.pieces in
    record { entries = note 8 0 ∷ c.entries; partial = c.partial }

-- ---- a call

-- receiving a PDU: what is logged, in log order, and what is remembered
unfoldable pub received : ℕ → Memory → Said → Outcome
received range x d =
    let a = sequence_step range x.last d.sequence x.partial in
    let b = beginning_step d.pfirst d.start a.partial in
    let c = contents_step d.withheld d b.partial in
    record { entries = a.entries ++ (b.entries ++ c.entries); partial = c.partial }

unfoldable pub remembered : ℕ → Memory → Said → Memory
remembered range x d = record { last = some d.sequence; partial = (received range x d).partial }

-- marking lost logs note 6, drops the beginning and forgets the sequence
abbrev pub lost_entries : List Entry
lost_entries = note 6 0 ∷ []

abbrev pub forgotten : Memory
forgotten = record { last = none; partial = nothing }
