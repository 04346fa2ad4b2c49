-- The places below 96 that are marked, or at whose points the locator is zero.
-- What private steps of the decoder promise each other; the promises of `correct` and `correct_marked` are in Correction.antt and Marks.antt alone.
use Rattle.std.specs.Prelude.{◌≡◌, Bool, ◌||◌, List, ◌++◌, ℕ, zero, suc, ◌≤◌, length, get_or, take, eqb}
use Rattle.std.specs.Int.Bits.{bit_xor}
use Rattle.field.specs.Field.{mul, pow}
use Rattle.algebra.specs.Places.{below, keep}
use Rattle.correction.specs.Marks.{is_marked}

-- Coefficients k and on, n of them, and a leading one, at x.
abbrev pub value_from : List ℕ → ℕ → ℕ → ℕ → ℕ
value_from cs x k zero = 1
value_from cs x k (suc n) = bit_xor (get_or cs k 0) (mul x (value_from cs x (suc k) n))

abbrev pub root : List ℕ → ℕ → ℕ → Bool
root cs degree i = eqb (value_from cs (pow i) 0 degree) 0

-- whether place i is marked, or the locator is zero at it
abbrev pub located : List ℕ → List ℕ → ℕ → ℕ → Bool
located marks cs degree i = is_marked marks i || root cs degree i

-- The places found so far, and those below m still to come, are all that pass the test.
pub record Search (test : ℕ → Bool) (m count : ℕ) (places : List ℕ) : Type 0 where
  pub long : length places ≡ 8
  pub few : count ≤ 8
  pub all : take count places ++ keep test (below m) ≡ keep test (below 96)
