-- Bits and bursts, computed.
use mathlib.Core.Path.{◌≡◌, refl}
use mathlib.Core.List.{List, [], ◌∷◌, ◌++◌}
use Prim.Native.Nat.{ℕ, zero, suc, ◌+◌, ◌/◌, ◌%◌}
use lib.ListN.{replicate}
use Rattle.crc.specs.Crc.{crc_bit, crc_bits, crc_byte, crc_from}
use Rattle.burst.specs.Burst.{top_bits, bits_of}

-- top bit of each byte first
pub top-first : bits_of (0x34 ∷ 0x01 ∷ []) ≡ 0 ∷ 0 ∷ 1 ∷ 1 ∷ 0 ∷ 1 ∷ 0 ∷ 0 ∷ 0 ∷ 0 ∷ 0 ∷ 0 ∷ 0 ∷ 0 ∷ 0 ∷ 1 ∷ []
unfolding bits_of top_bits
top-first = refl

-- n bits of the byte b, from its bit 0 up, and those of bytes
unfoldable pub low_bits : ℕ → ℕ → List ℕ
low_bits zero b = []
low_bits (suc n) b = b % 2 ∷ low_bits n (b / 2)

unfoldable pub low_bits_of : List ℕ → List ℕ
low_bits_of [] = []
low_bits_of (b ∷ bs) = low_bits 8 b ++ low_bits_of bs

-- low bit of each byte first 34 01 would be 00 00 altered inside seven bits, its places 2 to 8
pub low-first-bits :
    (low_bits_of (0x00 ∷ 0x00 ∷ []) ≡ replicate 2 0 ++ (replicate 7 0 ++ replicate 7 0))
    × (low_bits_of (0x34 ∷ 0x01 ∷ []) ≡ replicate 2 0 ++ ((1 ∷ 0 ∷ 1 ∷ 1 ∷ 0 ∷ 0 ∷ 1 ∷ []) ++ replicate 7 0))
unfolding low_bits_of low_bits
low-first-bits = (refl, refl)

-- and its CRC is right
pub low-first-pass : (crc_from 0 (0x00 ∷ []) ≡ 0x00) × (crc_from 0 (0x34 ∷ []) ≡ 0x01)
unfolding crc_from crc_byte crc_bits crc_bit
low-first-pass = (refl, refl)

-- nine bits are too many: 01 31 for 00 00, whose bits 7 to 15 are altered, is right
pub nine-pass : (crc_from 0 (0x00 ∷ []) ≡ 0x00) × (crc_from 0 (0x01 ∷ []) ≡ 0x31)
unfolding crc_from crc_byte crc_bits crc_bit
nine-pass = (refl, refl)

pub nine-bits : bits_of (0x01 ∷ 0x31 ∷ []) ≡ 0 ∷ 0 ∷ 0 ∷ 0 ∷ 0 ∷ 0 ∷ 0 ∷ 1 ∷ 0 ∷ 0 ∷ 1 ∷ 1 ∷ 0 ∷ 0 ∷ 0 ∷ 1 ∷ []
unfolding bits_of top_bits
nine-bits = refl
