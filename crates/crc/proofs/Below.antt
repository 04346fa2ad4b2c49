-- The CRC of at least one byte is a byte, whatever the register starts with.
use Prim.Native.Nat.{ℕ, zero, suc, ◌*◌, ◌/◌, ◌%◌, ◌<◌}
use mathlib.Core.List.{List, [], ◌∷◌}
use lib.ListN.{length}
use native.Mathlib.Omega.{arith}
use lib.Bits.{bit_xor, xor_lt}
use Rattle.crc.specs.Crc.{divisor, crc_bit, crc_bits, crc_byte, crc_from}

bit_below : (r b : ℕ) → crc_bit r b < 256
unfolding crc_bit
bit_below r b = xor_lt 8 (r % 128 * 2) (bit_xor (r / 128) b % 2 * divisor) (omega arith) (omega arith)

bits_below : (n r b : ℕ) → r < 256 → crc_bits n r b < 256
unfolding crc_bits
bits_below zero r b h = h
bits_below (suc n) r b h = bits_below n (crc_bit r (b / 128 % 2)) (b % 128 * 2) (bit_below r (b / 128 % 2))

byte-below : (r b : ℕ) → crc_byte r b < 256
unfolding crc_byte crc_bits
byte-below r b = bits_below 7 (crc_bit r (b / 128 % 2)) (b % 128 * 2) (bit_below r (b / 128 % 2))

from-below : (bytes : List ℕ) (r : ℕ) → r < 256 → crc_from r bytes < 256
unfolding crc_from
from-below [] r h = h
from-below (b ∷ bytes) r h = from-below bytes (crc_byte r b) (byte-below r b)

pub crc-below : (bytes : List ℕ) (r : ℕ) → 0 < length bytes → crc_from r bytes < 256
unfolding crc_from
crc-below [] r h = absurd (omega arith)
crc-below (b ∷ bytes) r h = from-below bytes (crc_byte r b) (byte-below r b)
