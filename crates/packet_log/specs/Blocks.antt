-- Twelve bytes at a time, as numbers of eight and of four, the first byte highest.
-- What private steps of `put_data` promise each other; its own promise is in Log.antt alone.
use Rattle.std.specs.Prelude.{List, [], ◌∷◌, ℕ, ◌+◌, ◌*◌, ◌/◌, ◌%◌, get_or}

-- four bytes from a place on
unfoldable pub four_at : List ℕ → ℕ → ℕ
four_at l i = get_or l i 0 * 16777216 + (get_or l (i + 1) 0 * 65536 + (get_or l (i + 2) 0 * 256 + get_or l (i + 3) 0))

-- eight bytes from a place on
unfoldable pub eight_at : List ℕ → ℕ → ℕ
eight_at l i =
    get_or l i 0 * 72057594037927936
    + (get_or l (i + 1) 0 * 281474976710656 + (get_or l (i + 2) 0 * 1099511627776 + (get_or l (i + 3) 0 * 4294967296 + four_at l (i + 4))))

-- the data words of twelve bytes, x the first eight and y the others: each has three bytes
unfoldable pub block_words : ℕ → ℕ → List ℕ
block_words x y =
    (0x43000000 + x / 1099511627776)
    ∷ (0x43000000 + x / 65536 % 16777216)
    ∷ (0x43000000 + (x % 65536 * 256 + y / 16777216))
    ∷ (0x43000000 + y % 16777216)
    ∷ []
