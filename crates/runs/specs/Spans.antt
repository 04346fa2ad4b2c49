-- What a run should deliver, by bytes: the packets joined, counted from 0; where the bytes of each PDU stand among them; and what came of each
-- PDU: whether it came, whether it is withheld, and which of its pieces are taken.
use Rattle.std.specs.Prelude.{Bool, true, false, not, ◌&&◌, cond, List, [], ◌∷◌, ◌++◌, map, ℕ, zero, suc, ◌+◌, ◌-◌, ◌%◌, eqb, ltb, leb, length, get_or}
use Rattle.packet_log.specs.Log.{Entry, packet}

-- ---- what came of a PDU, and of a byte

-- how a PDU comes to the receiver: lost, or withheld or not, with a cause for each of its pieces, 0 where the piece is taken
pub data Fate : Type 0 where
  lose : Fate
  read : (withheld : Bool) (causes : ℕ → ℕ) → Fate

-- what came of a byte
pub record Mark : Type 0 where
  pub taken : Bool  -- it lies in a piece that is taken, of a PDU that came
  pub free : Bool  -- its PDU is not withheld

-- of a lost PDU no piece is taken
abbrev pub verdicts : Fate → ℕ → Mark
verdicts lose k = record { taken = false; free = false }
verdicts (read w f) k = record { taken = eqb (f k) 0; free = not w }

-- ---- by bytes

-- the packet that byte j is of
abbrev pub packet_at : List (List ℕ) → ℕ → ℕ
packet_at [] j = 0
packet_at (p ∷ ps) j = cond (leb (length p) j) (suc (packet_at ps (j - length p))) 0

-- the bytes in a PDU: so many from a place on
pub record Span : Type 0 where
  pub from : ℕ
  pub count : ℕ

abbrev pub covers : Span → ℕ → Bool
covers s j = leb s.from j && ltb j (s.from + s.count)

-- what came of byte j; one that is in none of these PDUs counts as lost. Its piece is the one of its packet: piece 0 is of the packet of the PDU's first byte, piece 1 of the next, and so on
abbrev pub lies : List (List ℕ) → List Span → List Fate → ℕ → Mark
lies ps [] ws j = verdicts lose j
lies ps (s ∷ ss) [] j = verdicts lose j
lies ps (s ∷ ss) (w ∷ ws) j = cond (covers s j) (verdicts w (packet_at ps j - packet_at ps s.from)) (lies ps ss ws j)

-- n bytes from place o on
abbrev pub every : (ℕ → Bool) → ℕ → ℕ → Bool
every f o zero = true
every f o (suc n) = f o && every f (suc o) n

-- they lie in pieces that are taken, and the first in a PDU that is not withheld
abbrev pub due_at : (ℕ → Mark) → ℕ → ℕ → Bool
due_at m o n = (m o).free && every (λ j. (m j).taken) o n

-- the packets of which f holds, by their indices, in list order: f is asked of the place where a packet's bytes begin, and of its length. The first of these is
-- packet i, and its bytes begin at place o
unfoldable pub whole_indices : (ℕ → ℕ → Bool) → ℕ → ℕ → List (List ℕ) → List ℕ
whole_indices f o i [] = []
whole_indices f o i (p ∷ ps) = cond (f o (length p)) (i ∷ []) [] ++ whole_indices f (o + length p) (suc i) ps

-- as they are logged: packet i, from 0, has number i modulo 64
abbrev pub entries_at : List (List ℕ) → List ℕ → List Entry
entries_at packets indices = map (λ (i : ℕ). packet (i % 64) (get_or packets i [])) indices
