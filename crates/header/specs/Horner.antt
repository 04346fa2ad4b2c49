-- Horner's rule for the eight sums: a sum over the bytes from i on is the one from i + 1 on times its point, plus byte i.
-- What private steps of `syndromes` promise each other; its own promise is in Header.antt alone.
use Rattle.std.specs.Prelude.{List, [], ◌∷◌, map, ℕ, get_or}
use Rattle.std.specs.Int.Bits.{bit_xor}
use Rattle.field.specs.Field.{mul, shift, pow}

-- the points of S1 to S8: a to the powers 1 to 8
unfoldable pub points : List ℕ
points = map pow (1 ∷ 2 ∷ 3 ∷ 4 ∷ 5 ∷ 6 ∷ 7 ∷ 8 ∷ [])

-- entry k of the sums with byte b below
unfoldable pub horner_at : List ℕ → ℕ → ℕ → ℕ
horner_at s b k = bit_xor b (mul (get_or s k 0) (get_or points k 0))

-- the eight sums with byte b below
unfoldable pub horner_step : List ℕ → ℕ → List ℕ
horner_step s b = map (horner_at s b) (0 ∷ 1 ∷ 2 ∷ 3 ∷ 4 ∷ 5 ∷ 6 ∷ 7 ∷ [])

-- the value of a polynomial at a^j
unfoldable pub value : ℕ → List ℕ → ℕ
value j [] = 0
value j (b ∷ w) = bit_xor b (shift j (value j w))

-- the values of a polynomial at a to a^8
unfoldable pub values : List ℕ → List ℕ
values w = map (λ j. value j w) (1 ∷ 2 ∷ 3 ∷ 4 ∷ 5 ∷ 6 ∷ 7 ∷ 8 ∷ [])
