-- A bitmap, in words of 64 bits.
use Rattle.std.specs.Prelude.{ℕ, zero, suc, ◌+◌, ◌-◌, ◌/◌, ◌%◌, ◌^◌, List, get_or}

-- the bit of this index, 0 past the words
abbrev pub bit_at : List ℕ → ℕ → ℕ
bit_at words index = get_or words (index / 64) 0 / 2 ^ (index % 64) % 2

-- how many bits of an index below this are 0
unfoldable pub zeros_below : List ℕ → ℕ → ℕ
zeros_below words zero = 0
zeros_below words (suc index) = zeros_below words index + (1 - bit_at words index)
