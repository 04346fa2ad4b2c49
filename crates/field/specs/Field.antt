-- GF(256), document 01 "Header code": bytes are polynomials over GF(2) in a, lowest bit the constant, with
-- a^8 = a^4 + a^3 + a^2 + 1 and a = 2. The sum of two elements is `bit_xor`.
use Rattle.std.specs.Prelude.{◌≡◌, Bool, cond, List, ℕ, zero, suc, ◌*◌, ◌/◌, ◌%◌, ◌<◌, eqb, get_or}
use Rattle.std.specs.Int.Bits.{bit_xor}

-- a^8 = a^4 + a^3 + a^2 + 1
abbrev pub a8 : ℕ
a8 = 0b11101

-- x times a: bits 0 to 6 move up by one, and bit 7 becomes a^8
unfoldable pub times_a : ℕ → ℕ
times_a x = bit_xor (x % 128 * 2) (x / 128 % 2 * a8)

-- x times the lowest n bits of y, read as a polynomial in a
unfoldable pub mul_bits : ℕ → ℕ → ℕ → ℕ
mul_bits zero x y = 0
mul_bits (suc n) x y = bit_xor (y % 2 * x) (mul_bits n (times_a x) (y / 2))

-- the product of two bytes
unfoldable pub mul : ℕ → ℕ → ℕ
mul x y = mul_bits 8 x y

-- x times a to the power n
unfoldable pub shift : ℕ → ℕ → ℕ
shift zero x = x
shift (suc n) x = times_a (shift n x)

-- a to the power n
unfoldable pub pow : ℕ → ℕ
pow n = shift n 1

-- the last number below n that passes the test, or 0 where none does
unfoldable pub last_below : (ℕ → Bool) → ℕ → ℕ
last_below t zero = 0
last_below t (suc n) = cond (t n) n (last_below t n)

-- the inverse of x: the one byte y with x times y = 1; 0 where there is none, so for 0
unfoldable pub inverse : ℕ → ℕ
inverse x = last_below (λ y. eqb (mul x y) 1) 256

-- a table of a^0 to a^509
pub record Powers (t : List ℕ) : Type 0 where
  pub entry : (k : ℕ) → k < 510 → get_or t k 0 ≡ pow k

-- a table of the power of a that each nonzero byte is
pub record Logarithms (t : List ℕ) : Type 0 where
  pub small : (x : ℕ) → 0 < x → x < 256 → get_or t x 0 < 255
  pub entry : (x : ℕ) → 0 < x → x < 256 → pow (get_or t x 0) ≡ x
