-- Document 01, "Expansion, PSD, pieces": pieces stand one after the other, each followed by its CRC byte, where its locator points.
use Rattle.std.specs.Prelude.{List, [], ◌∷◌, ◌++◌, ℕ, ◌+◌, length, take, drop}
use Rattle.crc.specs.Crc.{crc_from}

-- bytes cut into pieces of these lengths
unfoldable pub cut_by : List ℕ → List ℕ → List (List ℕ)
cut_by [] bytes = []
cut_by (n ∷ ns) bytes = take n bytes ∷ cut_by ns (drop n bytes)

-- a piece and its CRC byte, by the register that the CRC starts with
abbrev pub with_crc : ℕ → List ℕ → List ℕ
with_crc register piece = piece ++ crc_from register piece ∷ []

-- pieces, each with its CRC byte
unfoldable pub piece_bytes : ℕ → List (List ℕ) → List ℕ
piece_bytes register [] = []
piece_bytes register (p ∷ ps) = with_crc register p ++ piece_bytes register ps

-- the places of the CRC bytes of pieces of these lengths, the first of which starts at a place
unfoldable pub locators_from : ℕ → List ℕ → List ℕ
locators_from at [] = []
locators_from at (n ∷ ns) = (at + n) ∷ locators_from (at + n + 1) ns

-- how many bytes pieces of these lengths have together
unfoldable pub total : List ℕ → ℕ
total [] = 0
total (n ∷ ns) = n + total ns
