-- The packets of a file that was sent, counted from 0.
use Rattle.std.specs.Prelude.{ℕ, ◌+◌, ◌*◌, ◌%◌, List, [], ◌∷◌}

-- a writer numbers its packets from 0 to 63 and from 0 again (document 01, "Writer")
abbrev pub number_at : ℕ → ℕ
number_at index = index % 64

-- the checksum of bytes, after one of those before them
unfoldable pub checksum_from : ℕ → List ℕ → ℕ
checksum_from sum [] = sum
checksum_from sum (byte ∷ bytes) = checksum_from ((sum * 31 + byte) % 251) bytes
