-- Examples (d), (e) and (f) of document 01.
use mathlib.Core.List.{[], ◌∷◌}
use mathlib.Core.Path.{◌≡◌, refl}
use Rattle.crc.specs.Crc.{crc_bit, crc_bits, crc_byte, crc_from}

pub of-01 : crc_from 0 (0x01 ∷ []) ≡ 0x31
unfolding crc_from crc_byte crc_bits crc_bit
of-01 = refl

pub of-80 : crc_from 0 (0x80 ∷ []) ≡ 0x7A
unfolding crc_from crc_byte crc_bits crc_bit
of-80 = refl

pub of-01-00 : crc_from 0 (0x01 ∷ 0x00 ∷ []) ≡ 0xF4
unfolding crc_from crc_byte crc_bits crc_bit
of-01-00 = refl

-- A register that starts at 255 (document 02, Ask 2).
pub of-01-from-255 : crc_from 255 (0x01 ∷ []) ≡ 0x9D
unfolding crc_from crc_byte crc_bits crc_bit
of-01-from-255 = refl

pub of-80-from-255 : crc_from 255 (0x80 ∷ []) ≡ 0xD6
unfolding crc_from crc_byte crc_bits crc_bit
of-80-from-255 = refl

pub of-01-00-from-255 : crc_from 255 (0x01 ∷ 0x00 ∷ []) ≡ 0x75
unfolding crc_from crc_byte crc_bits crc_bit
of-01-00-from-255 = refl

-- the characters 1 to 9
pub of-digits-from-255 : crc_from 255 (0x31 ∷ 0x32 ∷ 0x33 ∷ 0x34 ∷ 0x35 ∷ 0x36 ∷ 0x37 ∷ 0x38 ∷ 0x39 ∷ []) ≡ 0xF7
unfolding crc_from crc_byte crc_bits crc_bit
of-digits-from-255 = refl
