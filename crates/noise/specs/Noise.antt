-- Document 02, Ask 12: what a burst does to a PDU's bytes, piece by piece.
use Rattle.std.specs.Prelude.{◌≡◌, List, ℕ, zero, suc, ◌+◌, ◌*◌, ◌/◌, ◌%◌, ◌<◌, ◌≤◌, get_or, set}
use Rattle.std.specs.Int.Bits.{bit_xor}

-- sixteen bits moved down by n
unfoldable pub down : ℕ → ℕ → ℕ
down zero x = x
down (suc n) x = down n (x / 2)

-- bits of the byte at a place flipped; none where the bytes end before it
unfoldable pub flipped_at : List ℕ → ℕ → ℕ → List ℕ
flipped_at l place mask = set l place (bit_xor (get_or l place 0) mask)

-- bits of two neighbouring bytes flipped, the first byte's as the top eight of sixteen
unfoldable pub flipped : List ℕ → ℕ → ℕ → List ℕ
flipped l place mask = flipped_at (flipped_at l place (mask / 256)) (place + 1) (mask % 256)

-- l' is l after a burst in the piece that starts at a place and whose CRC byte stands at its end: the window of eight bits begins `offset` bits into the byte
-- at `place`, top bit first, and ends with the CRC byte at the latest; `bits` has those of its bits that are flipped, one at least, the window's first as the top bit
pub record Struck (start end : ℕ) (l l' : List ℕ) : Type 0 where
  pub place : ℕ
  pub offset : ℕ
  pub bits : ℕ
  pub behind : 96 ≤ place
  pub inside : start ≤ place
  pub into : offset < 8
  pub window : place * 8 + offset + 8 ≤ end * 8 + 8
  pub some : 0 < bits
  pub byte : bits < 256
  pub after : l' ≡ flipped l place (down offset (bits * 256))

-- a piece passed by, or hit: the bytes after, and how many pieces were hit
pub data Passed (start end : ℕ) (l : List ℕ) : List ℕ → ℕ → Type 0 where
  missed : Passed start end l l 0
  struck : (l' : List ℕ) → Struck start end l l' → Passed start end l l' 1

-- k pieces, one after another, each passed by or hit, from bytes l: the bytes after, and how many pieces were hit
pub data Hits (starts lengths l : List ℕ) : ℕ → List ℕ → ℕ → Type 0 where
  begun : Hits starts lengths l 0 l 0
  next : (k hit : ℕ) (m : List ℕ) (more : ℕ) (m' : List ℕ) → Hits starts lengths l k m hit → Passed (get_or starts k 0) (get_or starts k 0 + get_or lengths k 0) m m' more
      → Hits starts lengths l (suc k) m' (hit + more)
