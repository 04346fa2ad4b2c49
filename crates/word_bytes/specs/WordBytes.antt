-- Words of 32 bits in bytes, four for each, low byte first.
use Rattle.std.specs.Prelude.{Bool, ◌&&◌, cond, List, [], ◌∷◌, ◌++◌, ℕ, ◌+◌, ◌*◌, ◌/◌, ◌%◌, eqb, leb, length}

abbrev pub word_bytes : ℕ → List ℕ
word_bytes w = w % 0x100 ∷ w / 0x100 % 0x100 ∷ w / 0x10000 % 0x100 ∷ w / 0x1000000 ∷ []

abbrev pub word_of : ℕ → ℕ → ℕ → ℕ → ℕ
word_of a b c d = a + 0x100 * (b + 0x100 * (c + 0x100 * d))

unfoldable pub bytes_of : List ℕ → List ℕ
bytes_of [] = []
bytes_of (w ∷ ws) = word_bytes w ++ bytes_of ws

-- what is left over, fewer than four bytes, is no word
unfoldable pub words_of : List ℕ → List ℕ
words_of [] = []
words_of (a ∷ []) = []
words_of (a ∷ b ∷ []) = []
words_of (a ∷ b ∷ c ∷ []) = []
words_of (a ∷ b ∷ c ∷ d ∷ rest) = word_of a b c d ∷ words_of rest

-- the bytes of words for a room of so many, none if it has not enough
unfoldable pub bytes_for : List ℕ → ℕ → List ℕ
bytes_for ws room = cond (leb (4 * length ws) room) (bytes_of ws) []

-- the words of bytes for a room of so many, none if a byte is left over or it has not enough
unfoldable pub words_for : List ℕ → ℕ → List ℕ
words_for bs room = cond (eqb (length bs % 4) 0 && leb (length bs / 4) room) (words_of bs) []
