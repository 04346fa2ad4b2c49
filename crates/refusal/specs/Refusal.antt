-- Document 01, "What is turned down": the lowest applying number is returned, but where document 02 gives a number another place.
use Rattle.std.specs.Prelude.{Bool, true, false, ◌||◌, cond, List, [], ◌∷◌, ℕ}

-- the number of the first cause that applies, 0 for none; the list stands in the order of the checks
abbrev pub first_of : List (Bool × ℕ) → ℕ
first_of [] = 0
first_of (t ∷ ts) = cond t.0 t.1 (first_of ts)

abbrev pub any_of : List Bool → Bool
any_of [] = false
any_of (t ∷ []) = t
any_of (t ∷ u ∷ ts) = t || any_of (u ∷ ts)
