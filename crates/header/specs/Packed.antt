-- Eight bytes as one number: the register of the division.
-- What the steps of `parity` and `syndromes` promise each other; their own promises are in Header.antt alone.
use Rattle.std.specs.Prelude.{◌≡◌, List, [], ◌∷◌, ◌++◌, map, ℕ, suc, ◌+◌, ◌*◌, ◌/◌, ◌%◌, ◌<◌, take, replicate}
use Rattle.field.specs.Field.{mul, shift, pow}
use Rattle.header.specs.Header.{exponents, remainder}
use Rattle.header.specs.Horner.{value}

-- bytes as the digits of a number, the lowest first
unfoldable pub pack : List ℕ → ℕ
pack [] = 0
pack (x ∷ xs) = pack xs * 256 + x

-- the eight bytes of a packed register
unfoldable pub unpacked : ℕ → List ℕ
unpacked r = map (λ u. r / u % 256) (1 ∷ 256 ∷ 65536 ∷ 16777216 ∷ 4294967296 ∷ 1099511627776 ∷ 281474976710656 ∷ 72057594037927936 ∷ [])

-- the low eight coefficients of the generator, constant first
unfoldable pub low_coefficients : List ℕ
low_coefficients = map pow (take 8 exponents)

-- each byte times n
unfoldable pub times_all : ℕ → List ℕ → List ℕ
times_all n l = map (λ x. mul x n) l

-- X^(8 + k) modulo the generator
unfoldable pub left_of : ℕ → List ℕ
left_of k = remainder (replicate k 0 ++ 1 ∷ [])

-- a packed register with the values of X^8 times m at a to a^8
abbrev pub LeftOver : ℕ → List ℕ → Type 0
LeftOver r m = (j : ℕ) → j < 8 → value (suc j) (unpacked r) ≡ shift (8 * suc j) (value (suc j) m)
