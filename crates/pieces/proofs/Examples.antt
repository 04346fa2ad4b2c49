-- Document 02, Ask 2: the register stands before the first byte of each piece. The pieces 01 and 80 by 255: a register for the first piece only has 7A in place of
-- D6, one that is added at the end has CE and 85.
use mathlib.Core.List.{[], ◌∷◌}
use mathlib.Core.Path.{◌≡◌, refl}
use Rattle.crc.specs.Crc.{crc_bit, crc_bits, crc_byte, crc_from}
use Rattle.pieces.specs.Pieces.{piece_bytes}

pub each-from-255 : piece_bytes 255 ((0x01 ∷ []) ∷ (0x80 ∷ []) ∷ []) ≡ 0x01 ∷ 0x9D ∷ 0x80 ∷ 0xD6 ∷ []
unfolding piece_bytes crc_from crc_byte crc_bits crc_bit
each-from-255 = refl
