-- Bytes read so far as a polynomial of 128 bits, h above l, modulo x^127 + 1, which the divisor divides.
-- What private steps of `crc8` promise each other; its own promise is in Crc.antt alone.
use Rattle.std.specs.Prelude.{List, [], ◌∷◌, ℕ, zero, suc, ◌+◌, ◌*◌, ◌/◌, ◌%◌, ◌^◌, get_or}
use Rattle.std.specs.Int.Bits.{bit_xor}
use Rattle.crc.specs.Crc.{divisor}

-- 2^56, 2^62, 2^63 and 2^64
abbrev pub two56 : ℕ
two56 = 72057594037927936

abbrev pub two62 : ℕ
two62 = 4611686018427387904

abbrev pub two63 : ℕ
two63 = 9223372036854775808

abbrev pub two64 : ℕ
two64 = 18446744073709551616

-- a byte below
unfoldable pub up : ℕ → ℕ → ℕ
up a b = a % two56 * 256 + b

-- eight bytes from a place on, the first highest
unfoldable pub word_at : List ℕ → ℕ → ℕ
word_at l i =
    up (up (up (up (up (up (up (get_or l i 0) (get_or l (i + 1) 0)) (get_or l (i + 2) 0)) (get_or l (i + 3) 0)) (get_or l (i + 4) 0))
    (get_or l (i + 5) 0)) (get_or l (i + 6) 0)) (get_or l (i + 7) 0)

-- times x^8, plus a byte: what leaves at x^128 comes back at x
unfoldable pub push_high : ℕ → ℕ → ℕ
push_high h l = h % two56 * 256 + l / two56

unfoldable pub push_low : ℕ → ℕ → ℕ → ℕ
push_low h l b = bit_xor (l % two56 * 256 + b) (h / two56 * 2)

-- times x^128, which is x, plus sixteen bytes
unfoldable pub next_high : ℕ → ℕ → ℕ → ℕ
next_high h l a = bit_xor (h % two63 * 2 + l / two63) a

unfoldable pub next_low : ℕ → ℕ → ℕ → ℕ
next_low h l b = bit_xor (bit_xor (l % two63 * 2) (h / two63 * 2)) b

-- times x^256, which is x^2, plus 32 bytes as 128 bits
unfoldable pub far_high : ℕ → ℕ → ℕ → ℕ
far_high h l a = bit_xor (h % two62 * 4 + l / two62) a

unfoldable pub far_low : ℕ → ℕ → ℕ → ℕ
far_low h l b = bit_xor (bit_xor (l % two62 * 4) (h / two62 * 2)) b

-- one bit of zero into the register
unfoldable pub shift_one : ℕ → ℕ
shift_one x = bit_xor (x % 128 * 2) (x / 128 % 2 * divisor)

unfoldable pub shifts : ℕ → ℕ → ℕ
shifts zero x = x
shifts (suc n) x = shifts n (shift_one x)

-- the lowest n bits of a number as a polynomial, modulo the divisor
unfoldable pub red : ℕ → ℕ → ℕ
red zero v = 0
red (suc n) v = bit_xor (v % 2) (shift_one (red n (v / 2)))

-- 128 bits modulo the divisor
unfoldable pub val : ℕ → ℕ → ℕ
val h l = bit_xor (shifts 64 (red 64 h)) (red 64 l)

-- a polynomial and the bytes below it, by Horner's rule, modulo the divisor
unfoldable pub horner : ℕ → List ℕ → ℕ
horner r [] = r
horner r (b ∷ bs) = horner (bit_xor (shifts 8 r) b) bs

-- Folding: h over l, each of n bits, as n bits, by x^n = x^p + x^q + 1. The places are q = n - q' and p = n - p'.

-- what h times x^p + x^q has at x^n and above
unfoldable pub over : ℕ → ℕ → ℕ → ℕ
over q' p' h = bit_xor (h / 2 ^ p') (h / 2 ^ q')

-- the n lowest bits of h times x^p + x^q + 1
unfoldable pub within : ℕ → ℕ → ℕ → ℕ → ℕ → ℕ
within q' q p' p h = bit_xor (bit_xor h (h % 2 ^ q' * 2 ^ q)) (h % 2 ^ p' * 2 ^ p)

unfoldable pub folded : ℕ → ℕ → ℕ → ℕ → ℕ → ℕ → ℕ
folded q' q p' p h l = bit_xor l (within q' q p' p (bit_xor (bit_xor h (over q' p' h)) (over q' p' (over q' p' h))))
