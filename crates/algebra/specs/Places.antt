-- Lists of places: a place is a number, the exponent of X in document 01's "Header code".
use Rattle.std.specs.Prelude.{Bool, true, false, List, [], ◌∷◌, ℕ, zero, suc}

-- A property of every entry of a list.
abbrev pub All {ℓ} : {A : Type ℓ} → (A → Type 0) → List A → Type 0
All P [] = Unit {0}
All P (x ∷ xs) = P x × All P xs

-- The places below n.
abbrev pub below : ℕ → List ℕ
below zero = []
below (suc n) = n ∷ below n

-- The entries that pass a test.
abbrev pub cons_if : Bool → ℕ → List ℕ → List ℕ
cons_if true i is = i ∷ is
cons_if false i is = is

abbrev pub keep : (ℕ → Bool) → List ℕ → List ℕ
keep t [] = []
keep t (i ∷ is) = cons_if (t i) i (keep t is)
