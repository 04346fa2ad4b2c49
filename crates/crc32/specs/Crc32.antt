-- CRC-32 as zlib and PNG have it (ISO/IEC 15948, annex D): the bytes' bits from the lowest on, a register of 32 ones at the start, and its complement at the end.
use Rattle.std.specs.Prelude.{◌≡◌, cond, List, [], ◌∷◌, ◌++◌, ℕ, zero, suc, ◌+◌, ◌*◌, ◌/◌, ◌%◌, ◌<◌, eqb, get_or}
use Rattle.std.specs.Int.Bits.{bit_xor}

-- the divisor without x^32, x^31 in the lowest bit
abbrev pub divisor32 : ℕ
divisor32 = 0xEDB88320

-- the register moves down by one bit, and where a one leaves it, the divisor is taken away
unfoldable pub shift_down : ℕ → ℕ
shift_down x = bit_xor (x / 2) (x % 2 * divisor32)

unfoldable pub shifts_down : ℕ → ℕ → ℕ
shifts_down zero x = x
shifts_down (suc n) x = shifts_down n (shift_down x)

-- the register after a byte
unfoldable pub crc32_byte : ℕ → ℕ → ℕ
crc32_byte r b = shifts_down 8 (bit_xor r b)

-- the register after bytes
unfoldable pub crc32_from : ℕ → List ℕ → ℕ
crc32_from r [] = r
crc32_from r (b ∷ bs) = crc32_from (crc32_byte r b) bs

abbrev pub crc32 : List ℕ → ℕ
crc32 bs = bit_xor (crc32_from 0xFFFFFFFF bs) 0xFFFFFFFF

-- the bytes of a data word of the packet log: three, two or one, the first in bits 23-16
unfoldable pub entry_bytes : ℕ → List ℕ
entry_bytes w =
    cond (eqb (w / 16777216 % 4) 3) (w / 65536 % 256 ∷ w / 256 % 256 ∷ w % 256 ∷ [])
    (cond (eqb (w / 16777216 % 4) 2) (w / 65536 % 256 ∷ w / 256 % 256 ∷ []) (w / 65536 % 256 ∷ []))

unfoldable pub entries_bytes : List ℕ → List ℕ
entries_bytes [] = []
entries_bytes (w ∷ ws) = entry_bytes w ++ entries_bytes ws

-- tables of what a byte comes to: after 8 shifts, after 16 and after 24
pub record Tables (t : List ℕ) : Type 0 where
  pub eight : (k : ℕ) → k < 256 → get_or t k 0 ≡ shifts_down 8 k
  pub sixteen : (k : ℕ) → k < 256 → get_or t (256 + k) 0 ≡ shifts_down 16 k
  pub twentyfour : (k : ℕ) → k < 256 → get_or t (512 + k) 0 ≡ shifts_down 24 k
