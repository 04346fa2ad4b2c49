-- The four by four system of the filtered syndromes for at most h errors with its right side beside it as column 4, and its elimination as far
-- as the first column with no pivot: what each step does, entry by entry.
-- What private steps of the decoder promise each other; the promises of `correct` and `correct_marked` are in Correction.antt and Marks.antt alone.
use Rattle.std.specs.Prelude.{◌≡◌, cond, List, [], ◌∷◌, map, ℕ, suc, ◌+◌, ◌<◌, ◌≤◌, length, take, get_or, set, ltb}
use Rattle.std.specs.Int.Bits.{bit_xor}
use Rattle.field.specs.Field.{mul, inverse}

-- row r of the system for h errors: entries r to r + 4 of the filtered syndromes, or zeros from row h on
abbrev pub system_row : List ℕ → ℕ → ℕ → List ℕ
system_row t h r = cond (ltb r h) (get_or t r 0 ∷ get_or t (r + 1) 0 ∷ get_or t (r + 2) 0 ∷ get_or t (r + 3) 0 ∷ get_or t (r + 4) 0 ∷ []) (0 ∷ 0 ∷ 0 ∷ 0 ∷ 0 ∷ [])

abbrev pub system_of : List ℕ → ℕ → List (List ℕ)
system_of t h = map (system_row t h) (0 ∷ 1 ∷ 2 ∷ 3 ∷ [])

-- the coefficients of the four unknowns, and the right side, of a system of four rows
abbrev pub unknowns : List (List ℕ) → List (List ℕ)
unknowns m = map (take 4) m

abbrev pub right_side : List (List ℕ) → List ℕ
right_side m = map (λ (row : List ℕ). get_or row 4 0) m

-- a row of four with an entry of the right side beside it
abbrev pub beside_row : List ℕ → ℕ → List ℕ
beside_row row x = get_or row 0 0 ∷ get_or row 1 0 ∷ get_or row 2 0 ∷ get_or row 3 0 ∷ x ∷ []

-- four rows of four with the right side beside them
abbrev pub beside : List (List ℕ) → List ℕ → List (List ℕ)
beside m t = map (λ (r : ℕ). beside_row (get_or m r []) (get_or t r 0)) (0 ∷ 1 ∷ 2 ∷ 3 ∷ [])

-- A row of w entries of which the first n are f's.
pub record Row (w : ℕ) (f : ℕ → ℕ) (r : List ℕ) (n : ℕ) : Type 0 where
  pub long : length r ≡ w
  pub entry : (i : ℕ) → i < n → get_or r i 0 ≡ f i

-- the row times the inverse of b
abbrev pub scaled_by : List ℕ → ℕ → ℕ → ℕ
scaled_by row b i = mul (inverse b) (get_or row i 0)

-- the row plus its entry at k times the row p
abbrev pub cleared_by : List ℕ → List ℕ → ℕ → ℕ → ℕ
cleared_by row p k i = bit_xor (get_or row i 0) (mul (get_or row k 0) (get_or p i 0))

-- The first row from k on with a nonzero entry in column k, or 4.
pub record Pivot (m : List (List ℕ)) (k p : ℕ) : Type 0 where
  pub low : k ≤ p
  pub high : p ≤ 4
  pub zeros : (r : ℕ) → k ≤ r → r < p → get_or (get_or m r []) k 0 ≡ 0
  pub here : p < 4 → ¬ (get_or (get_or m p []) k 0 ≡ 0)

-- Column k of the rows m of w entries cleared with the pivot in row p: rows k and p exchanged, row k scaled, the others cleared.
pub record ReduceRows (w : ℕ) (m : List (List ℕ)) (k p : ℕ) (out : List (List ℕ)) : Type 0 where
  pub tall : length out ≡ 4
  pub top : Row w (scaled_by (get_or m p []) (get_or (get_or m p []) k 0)) (get_or out k []) w
  pub rows : (r : ℕ) → r < 4 → ¬ (r ≡ k) → Row w (cleared_by (get_or (set m p (get_or m k [])) r []) (get_or out k []) k) (get_or out r []) w

-- the same of the four rows with their right side beside them
abbrev pub Reduce : List (List ℕ) → ℕ → ℕ → List (List ℕ) → Type 0
Reduce = ReduceRows 5

-- The same of the right side t alone, beside the rows m.
pub record ReduceRight (m : List (List ℕ)) (t : List ℕ) (k p : ℕ) (out : List ℕ) : Type 0 where
  pub long : length out ≡ 4
  pub top : get_or out k 0 ≡ mul (inverse (get_or (get_or m p []) k 0)) (get_or t p 0)
  pub rest : (r : ℕ) → r < 4 → ¬ (r ≡ k)
      → get_or out r 0 ≡ bit_xor (get_or (set t p (get_or t k 0)) r 0) (mul (get_or (get_or (set m p (get_or m k [])) r []) k 0) (get_or out k 0))

-- The first n entries are those of column k.
pub record Column (m : List (List ℕ)) (k : ℕ) (out : List ℕ) (n : ℕ) : Type 0 where
  pub long : length out ≡ 4
  pub taken : (i : ℕ) → i < n → get_or out i 0 ≡ get_or (get_or m i []) k 0

abbrev pub entry : List (List ℕ) → ℕ → ℕ → ℕ
entry m r i = get_or (get_or m r []) i 0

-- k columns done, from m to n.
pub data Chain (m : List (List ℕ)) : ℕ → List (List ℕ) → Type 0 where
  begun : Chain m 0 m
  next : {k : ℕ} {n : List (List ℕ)} (p : ℕ) (n' : List (List ℕ)) → Chain m k n → k < 4 → p < 4 → length n ≡ 4 → Pivot n k p → Reduce n k p n' → Chain m (suc k) n'

-- The polynomial found: of this degree, and with these lower coefficients.
pub record Solved (m : List (List ℕ)) (degree : ℕ) (coefficients : List ℕ) : Type 0 where
  pub rows : List (List ℕ)
  pub chain : Chain m degree rows
  pub small : degree ≤ 4
  pub stop : Pivot rows degree 4
  pub taken : (i : ℕ) → i < degree → get_or coefficients i 0 ≡ entry rows i degree
