-- What a step of document 01, "Receiver", leaves: its entries stand in the log from a place on, and what is held stands first in the carry buffer.
use Rattle.std.specs.Prelude.{Bool, true, false, not, ◌&&◌, ◌||◌, cond, List, [], ◌∷◌, ◌≡◌, ℕ, zero, suc, ◌+◌, ◌-◌, ◌%◌, ◌≤◌, ◌<◌, eqb, length, take, drop, get_or}
use Rattle.std.proofs.Math.Option.{Option, none, some}
use Rattle.buffer.specs.Buffer.{put_at}
use Rattle.packet_log.specs.Log.{note, log_words}
use Rattle.reassembly.specs.Reassembly.{Piece, Said, Partial, nothing, beginning, Memory, Outcome, dropped, kept, in_sequence}
use Rattle.reassembly.specs.declared.Head.{Head}
use Rattle.reassembly.specs.declared.Run.{Run}
use Rattle.reassembly.specs.declared.State.{State}

-- ---- a partial packet as a length, a number and the first bytes of a carry buffer; 0, 0 and none where nothing is held

abbrev pub partial_bytes : Partial → List ℕ
partial_bytes nothing = []
partial_bytes (beginning n b) = b

abbrev pub partial_number : Partial → ℕ
partial_number nothing = 0
partial_number (beginning n b) = n

abbrev pub partial_of : ℕ → ℕ → List ℕ → Partial
partial_of zero n c = nothing
partial_of (suc h) n c = beginning n (take (suc h) c)

-- ---- an outcome put down

unfoldable pub run_after : ℕ → Outcome → Run
run_after at o = record { held = length (partial_bytes o.partial); number = partial_number o.partial; at = at + length (log_words o.entries) }

-- the carry buffer's other bytes stay
unfoldable pub keeps : List ℕ → Outcome → List ℕ
keeps c o = put_at c 0 (partial_bytes o.partial)

unfoldable pub writes : List ℕ → ℕ → Outcome → List ℕ
writes l at o = put_at l at (log_words o.entries)

-- the carry buffer c and the log l become c' and l'; the run after it is r
pub record Did (o : Outcome) (at : ℕ) (c l c' l' : List ℕ) (r : Run) : Type 0 where
  pub run : r ≡ run_after at o
  pub carry : c' ≡ keeps c o
  pub log : l' ≡ writes l at o

-- the log has room for the entries
unfoldable pub Room : Outcome → ℕ → List ℕ → Type 0
Room o at l = at + length (log_words o.entries) ≤ length l

-- ---- pieces by marks: La and then each locator. Piece k stands between marks k and k + 1, its CRC byte at mark k + 1.

abbrev pub place_at : List ℕ → ℕ → ℕ
place_at marks k = get_or marks k 0 + 1

abbrev pub length_by : List ℕ → ℕ → ℕ
length_by marks k = get_or marks (k + 1) 0 - place_at marks k

unfoldable pub piece_at : List ℕ → List ℕ → ℕ → List ℕ
piece_at pdu marks k = take (length_by marks k) (drop (place_at marks k) pdu)

abbrev pub piece_of : ℕ → List ℕ → Piece
piece_of cause bytes = record { cause = cause; bytes = bytes }

-- n pieces from piece k on, each with its cause
unfoldable pub pieces_from : List ℕ → List ℕ → List ℕ → ℕ → ℕ → List Piece
pieces_from pdu marks causes k zero = []
pieces_from pdu marks causes k (suc n) = piece_of (get_or causes k 0) (piece_at pdu marks k) ∷ pieces_from pdu marks causes (k + 1) n

-- whether a piece with so many pieces after it ends its packet
unfoldable pub ends_at : Bool → ℕ → Bool
ends_at plast zero = not plast
ends_at plast (suc n) = true

-- n marks after the first; pieces have at least one byte, all within the PDU
pub record Marked (pdu marks : List ℕ) (n : ℕ) : Type 0 where
  pub few : n ≤ 63
  pub first : get_or marks 0 0 < length pdu
  pub rising : (k : ℕ) → k < n → place_at marks k < get_or marks (k + 1) 0
  pub within : (k : ℕ) → k < n → get_or marks (k + 1) 0 < length pdu

-- ---- a whole PDU

-- PSD runs up to La
unfoldable pub psd_by : Head → List ℕ → List ℕ → List ℕ
psd_by h marks pdu = take (place_at marks 0 - h.psd) (drop h.psd pdu)

pub record Parsed (h : Head) (pdu marks : List ℕ) : Type 0 where
  pub marked : Marked pdu marks h.nop
  pub psd : h.psd ≤ place_at marks 0
  pub size : length pdu ≤ 20480

-- what it says; whether it is withheld is the receiver's to say
unfoldable pub said_of : Head → List ℕ → List ℕ → List ℕ → Said
said_of h marks causes pdu =
    record { sequence = h.sequence; pfirst = h.pfirst; plast = h.plast; start = h.start; psd_bytes = psd_by h marks pdu; pieces = pieces_from pdu marks causes 0 h.nop; withheld = false }

abbrev pub last_of : Bool → ℕ → Option ℕ
last_of known last = cond known (some last) none

unfoldable pub memory_by : State → List ℕ → Memory
memory_by s c = record { last = last_of s.known s.last; partial = partial_of s.held s.number c }

-- ---- the note with which a PDU begins: the steps 1 and 2 give at most one

-- nothing is held, or what is held is continued
abbrev pub continued_by : ℕ → ℕ → Bool → ℕ → Bool
continued_by held number pfirst start = eqb held 0 || (pfirst && eqb number ((start + 63) % 64))

-- 1: out of sequence; 4: not continued; 0: none
unfoldable pub first_cause : State → ℕ → Head → ℕ
first_cause s range h =
    cond (in_sequence range (last_of s.known s.last) h.sequence) (cond (continued_by s.held s.number h.pfirst h.start) 0 4) 1

-- a note drops what is held
unfoldable pub begun : ℕ → Partial → Outcome
begun zero h = kept h
begun (suc n) h = dropped (suc n) 0
