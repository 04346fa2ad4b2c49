-- CRC-32 of "123456789" is CBF43926, the check value that catalogues of CRCs give; of nothing it is 0; a word of one byte has that byte.
use mathlib.Core.Path.{◌≡◌, refl}
use mathlib.Core.List.{[], ◌∷◌}
use Rattle.crc32.specs.Crc32.{shift_down, shifts_down, crc32_byte, crc32_from, crc32, entry_bytes, entries_bytes}

of-digits : crc32 (49 ∷ 50 ∷ 51 ∷ 52 ∷ 53 ∷ 54 ∷ 55 ∷ 56 ∷ 57 ∷ []) ≡ 0xCBF43926
unfolding crc32_from crc32_byte shifts_down shift_down
of-digits = refl

of-nothing : crc32 [] ≡ 0
unfolding crc32_from
of-nothing = refl

of_words : entries_bytes (0x43010203 ∷ 0x41040000 ∷ []) ≡ 1 ∷ 2 ∷ 3 ∷ 4 ∷ []
unfolding entries_bytes entry_bytes
of_words = refl
