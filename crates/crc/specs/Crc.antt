-- CRC-8, document 01 "Expansion, PSD, pieces": the bytes times x^8, divided by x^8 + x^5 + x^4 + 1, top bit of each
-- byte first, from a register of any start.
use Rattle.std.specs.Prelude.{List, [], ◌∷◌, ℕ, zero, suc, ◌*◌, ◌/◌, ◌%◌}
use Rattle.std.specs.Int.Bits.{bit_xor}

-- x^5 + x^4 + 1: the divisor without x^8
abbrev pub divisor : ℕ
divisor = 0b110001

-- one bit b into the register r: r moves up by one, and where the bit that leaves it differs from b, the divisor is
-- taken away
unfoldable pub crc_bit : ℕ → ℕ → ℕ
crc_bit r b = bit_xor (r % 128 * 2) (bit_xor (r / 128) b % 2 * divisor)

-- n bits of the byte b, from its bit 7 down
unfoldable pub crc_bits : ℕ → ℕ → ℕ → ℕ
crc_bits zero r b = r
crc_bits (suc n) r b = crc_bits n (crc_bit r (b / 128 % 2)) (b % 128 * 2)

unfoldable pub crc_byte : ℕ → ℕ → ℕ
crc_byte r b = crc_bits 8 r b

-- the register after all bytes, from the start r
unfoldable pub crc_from : ℕ → List ℕ → ℕ
crc_from r [] = r
crc_from r (b ∷ bs) = crc_from (crc_byte r b) bs
