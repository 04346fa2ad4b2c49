-- Document 01, "Expansion, PSD, pieces": what a PDU holds from byte 14 on: locators, expansion bytes, PSD, and the pieces,
-- each with its CRC byte where its locator points.
use Rattle.std.specs.Prelude.{List, ◌++◌, map, ℕ, ◌+◌, length}
use Rattle.layout.specs.Locators.{locator_bytes, locator_size}
use Rattle.pieces.specs.Pieces.{piece_bytes, locators_from}

-- the place of the first piece: byte La is the last one before it
abbrev pub first_piece : ℕ → List ℕ → List ℕ → List (List ℕ) → ℕ
first_piece width expansion psd pieces = 14 + locator_size width (length pieces) + length expansion + length psd

-- the pieces' locators
abbrev pub locators_of : ℕ → List ℕ → List ℕ → List (List ℕ) → List ℕ
locators_of width expansion psd pieces = locators_from (first_piece width expansion psd pieces) (map length pieces)

-- the contents, by the register that the CRCs start with
abbrev pub contents : ℕ → ℕ → List ℕ → List ℕ → List (List ℕ) → List ℕ
contents register width expansion psd pieces = locator_bytes width (locators_of width expansion psd pieces) ++ (expansion ++ (psd ++ piece_bytes register pieces))
