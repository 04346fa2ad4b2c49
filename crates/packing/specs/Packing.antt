-- Document 01, "Writer": the placing rule, which packs packets into a PDU, with the count limit of document 02, Ask 9. Packets are given by their
-- lengths, the unfinished one first and whole; s bytes of it are sent already.
use Rattle.std.specs.Prelude.{Bool, ◌&&◌, cond, List, [], ◌∷◌, ◌++◌, ℕ, zero, suc, ◌+◌, ◌-◌, eqb, leb}
use Rattle.layout.specs.Locators.{locator_size}

-- with k pieces, overhead is 14, plus locator bytes rounded up, plus expansion and PSD
abbrev pub overhead : ℕ → ℕ → ℕ → ℕ
overhead width extra k = 14 + locator_size width k + extra

-- La with k pieces, the place of the last byte before the first piece
abbrev pub la_with : ℕ → ℕ → ℕ → ℕ
la_with width extra k = overhead width extra k - 1

-- the largest number up to n that passes a test, 0 where none from 1 on does
unfoldable pub largest_up_to : ℕ → (ℕ → Bool) → ℕ
largest_up_to zero t = 0
largest_up_to (suc n) t = cond (t (suc n)) (suc n) (largest_up_to n t)

-- the count limit: the largest k up to 63 for which La is at most 255
unfoldable pub most_pieces : ℕ → ℕ → ℕ
most_pieces width extra = largest_up_to 63 (λ k. leb (la_with width extra k) 255)

-- for locators of a width, `extra` bytes of expansion and PSD, and a PDU of `size` bytes
module _ (width extra size : ℕ) where
  -- k is within the count limit, and overhead and k pieces that take `used` bytes with their CRCs fit
  unfoldable pub fit : ℕ → ℕ → Bool
  fit k used = leb k (most_pieces width extra) && leb (overhead width extra k + used) size

  -- whole remainders while they fit, after k pieces that take `used` bytes
  unfoldable pub wholes_from : ℕ → ℕ → ℕ → List ℕ → List ℕ
  wholes_from k used s [] = []
  wholes_from k used s (n ∷ ns) = cond (fit (suc k) (used + (n - s) + 1)) ((n - s) ∷ wholes_from (suc k) (used + (n - s) + 1) 0 ns) []

  -- if k may grow and one byte with CRC fits, a part of the next, as long as fits
  unfoldable pub part_after : ℕ → ℕ → ℕ
  part_after k used = cond (fit (suc k) (used + 2)) (size - (overhead width extra (suc k) + used + 1)) 0

  -- that part's length, 0 where every packet is placed whole
  unfoldable pub part_from : ℕ → ℕ → ℕ → List ℕ → ℕ
  part_from k used s [] = 0
  part_from k used s (n ∷ ns) = cond (fit (suc k) (used + (n - s) + 1)) (part_from (suc k) (used + (n - s) + 1) 0 ns) (part_after k used)

  -- the lengths of the whole remainders that are placed
  abbrev pub wholes : ℕ → List ℕ → List ℕ
  wholes s ns = wholes_from 0 0 s ns

  -- the length of the part after them, 0 for none
  abbrev pub part : ℕ → List ℕ → ℕ
  part s ns = part_from 0 0 s ns

abbrev pub if_any : ℕ → List ℕ
if_any n = cond (eqb n 0) [] (n ∷ [])

-- the lengths of the pieces
abbrev pub piece_lengths : ℕ → ℕ → ℕ → ℕ → List ℕ → List ℕ
piece_lengths width extra size s ns = wholes width extra size s ns ++ if_any (part width extra size s ns)
