-- Document 02, Ask 12: bits flipped in short runs.
use Rattle.std.specs.Prelude.{◌≡◌, List, [], ◌∷◌, ◌++◌, ℕ, zero, suc, ◌+◌, ◌*◌, ◌/◌, ◌%◌, ◌<◌, ◌≤◌, length, get_or}

-- n bits of the byte b, from its bit 7 down
unfoldable pub top_bits : ℕ → ℕ → List ℕ
top_bits zero b = []
top_bits (suc n) b = b / 128 % 2 ∷ top_bits n (b % 128 * 2)

-- the bits of bytes, top bit of each byte first
unfoldable pub bits_of : List ℕ → List ℕ
bits_of [] = []
bits_of (b ∷ bs) = top_bits 8 b ++ bits_of bs

-- a place of a bit where two lists of bytes differ
abbrev pub DiffersAt : List ℕ → List ℕ → ℕ → Type 0
DiffersAt x y k = ¬ (get_or (bits_of y) k 0 ≡ get_or (bits_of x) k 0)

-- y is x, in which bits may be altered, all inside eight consecutive bits
pub record InEight (x y : List ℕ) : Type 0 where
  pub long : length y ≡ length x
  pub from : ℕ
  pub inside : (k : ℕ) → DiffersAt x y k → (from ≤ k) × (k < from + 8)

-- and one bit at least is altered
pub record Burst (x y : List ℕ) : Type 0 where
  pub within : InEight x y
  pub hit : (k : ℕ) × DiffersAt x y k
