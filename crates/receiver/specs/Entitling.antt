-- Document 02, Ask 10: the programs that a receiver is entitled to, as they are listed at opening, and as its record keeps them.
use Rattle.std.specs.Prelude.{Bool, true, false, not, ◌&&◌, cond, List, [], ◌∷◌, ℕ, zero, suc, ◌+◌, ◌*◌, ◌/◌, ◌%◌, eqb, leb}
use Rattle.correction.specs.Marks.{is_marked}

-- whether program p is listed, as a place is marked
abbrev pub is_listed : List ℕ → ℕ → Bool
is_listed programs p = is_marked programs p

-- each number at most 7, and none repeated: else 22
unfoldable pub allowed_programs : List ℕ → Bool
allowed_programs [] = true
allowed_programs (p ∷ programs) = leb p 7 && (not (is_listed programs p) && allowed_programs programs)

abbrev pub all_programs : List ℕ
all_programs = 0 ∷ 1 ∷ 2 ∷ 3 ∷ 4 ∷ 5 ∷ 6 ∷ 7 ∷ []

-- ---- as a mask: bit p for program p

abbrev pub power : ℕ → ℕ
power zero = 1
power (suc p) = 2 * power p

-- the bits of these programs that pass a test
abbrev pub program_bits : (ℕ → Bool) → List ℕ → ℕ
program_bits f [] = 0
program_bits f (p ∷ programs) = cond (f p) (power p) 0 + program_bits f programs

unfoldable pub mask_of : List ℕ → ℕ
mask_of programs = program_bits (is_listed programs) all_programs

unfoldable pub entitles : ℕ → ℕ → Bool
entitles mask p = leb p 7 && eqb (mask / power p % 2) 1
