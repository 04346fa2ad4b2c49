-- The error value at one of several places, from the syndromes filtered by the points of the others.
-- What private steps of the decoder promise each other; the promises of `correct` and `correct_marked` are in Correction.antt and Marks.antt alone.
use Rattle.std.specs.Prelude.{◌≡◌, List, [], ◌∷◌, ◌++◌, map, ℕ, zero, suc, ◌+◌, ◌<◌, length, get_or, take}
use Rattle.std.proofs.Math.Decide.{ℕ_discrete}
use Rattle.std.specs.Int.Bits.{bit_xor}
use Rattle.field.specs.Field.{mul, inverse, pow}

abbrev pub entries : List ℕ → ℕ → ℕ
entries s i = get_or s i 0

-- A sequence filtered by points, one after another.
abbrev pub stripped : List ℕ → (ℕ → ℕ) → ℕ → ℕ
stripped [] t j = t j
stripped (x ∷ xs) t j = stripped xs (λ i. bit_xor (t (suc i)) (mul x (t i))) j

-- f times the differences of the point from the others.
abbrev pub product : List ℕ → ℕ → ℕ → ℕ
product [] p f = f
product (x ∷ xs) p f = product xs p (mul f (bit_xor p x))

-- x after xs, unless it is the one left out.
abbrev pub unless_same : {P : Type 0} → Dec P → ℕ → List ℕ → List ℕ
unless_same (yes p) x xs = xs
unless_same (no p) x xs = xs ++ (x ∷ [])

-- The first m points of z but the kth.
abbrev pub others : List ℕ → ℕ → ℕ → List ℕ
others z k zero = []
others z k (suc q) = unless_same (ℕ_discrete q k) (get_or z q 0) (others z k q)

pub record Filtered (t : List ℕ) (x : ℕ) (r : List ℕ) (n : ℕ) : Type 0 where
  pub long : length r ≡ 8
  pub last : get_or r 7 0 ≡ 0
  pub entry : (j : ℕ) → j < n → get_or r j 0 ≡ bit_xor (get_or t (suc j) 0) (mul x (get_or t j 0))

-- t is the syndromes s filtered by the points of the first k marks, as far as they reach
pub record Stripped (s marks : List ℕ) (k : ℕ) (t : List ℕ) : Type 0 where
  pub window : (j : ℕ) → j + k < 8 → get_or t j 0 ≡ stripped (map pow (take k marks)) (entries s) j
  pub bytes : ((j : ℕ) → get_or s j 0 < 256) → (j : ℕ) → get_or t j 0 < 256

-- the points of eight places
abbrev pub points_of : List ℕ → List ℕ
points_of places =
    pow (get_or places 0 0) ∷ pow (get_or places 1 0) ∷ pow (get_or places 2 0) ∷ pow (get_or places 3 0)
    ∷ pow (get_or places 4 0) ∷ pow (get_or places 5 0) ∷ pow (get_or places 6 0) ∷ pow (get_or places 7 0) ∷ []

-- the error value at the kth of the first m points of z, from the syndromes s
abbrev pub value_at : List ℕ → List ℕ → ℕ → ℕ → ℕ
value_at s z m k = mul (stripped (others z k m) (entries s) 0) (inverse (product (others z k m) (get_or z k 0) (get_or z k 0)))

-- the first m places are below 96, and no two of them are equal
pub record DistinctPlaces (places : List ℕ) (m : ℕ) : Type 0 where
  pub inside : (k : ℕ) → k < m → get_or places k 0 < 96
  pub apart : (j k : ℕ) → j < k → k < m → ¬ (get_or places j 0 ≡ get_or places k 0)

-- the header w with the error values added at the first n of m places
pub record Repaired (w s places : List ℕ) (m n : ℕ) (r : List ℕ) : Type 0 where
  pub long : length r ≡ 96
  pub changed : (k : ℕ) → k < n → get_or r (get_or places k 0) 0 ≡ bit_xor (get_or w (get_or places k 0) 0) (value_at s (points_of places) m k)
  pub kept : (i : ℕ) → ((k : ℕ) → k < n → ¬ (i ≡ get_or places k 0)) → get_or r i 0 ≡ get_or w i 0
