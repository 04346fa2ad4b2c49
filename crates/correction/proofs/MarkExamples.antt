-- Small cases: which marks are refused and in what order, that marked bytes are free and counted, and what is beyond the bound.
use mathlib.Core.Path.{◌≡◌, refl, sym, ◌∙◌, ap, ap₂}
use mathlib.Core.Bool.{true}
use mathlib.Core.List.{List, [], ◌∷◌}
use Prim.Native.Nat.{ℕ, zero, suc, ◌+◌, ◌*◌, ◌<◌}
use native.Mathlib.Omega.{arith}
use lib.Bits.{bit_xor, xor_zero_l}
use lib.Dec.{lit<}
use lib.ListN.{length, get_or, take, replicate}
use Rattle.algebra.specs.Places.{All}
use Rattle.field.specs.Field.{mul, pow}
use Rattle.field.proofs.Laws.{mul-zero-l}
use Rattle.header.specs.Header.{sum_up, term, syndrome, is_code_word, distance, length_refusal}
use Rattle.header.proofs.CodeWords.{zero-code-word}
use Rattle.header.proofs.Unique.{all-bytes}
use Rattle.correction.specs.Marks.{marks_refusal, unmarked_distance, Within, correction_with}
use Rattle.correction.specs.declared.Correction.TheVariants.{Corrected, Refused}
use Rattle.correction.proofs.Marking.{nine-beyond}
use Rattle.correction.proofs.Theorem.{corrects-with}

-- ---- 19

pub twice-refused : marks_refusal (0 ∷ 0 ∷ []) ≡ 19
unfolding marks_refusal
twice-refused = refl

pub outside-refused : marks_refusal (96 ∷ []) ≡ 19
unfolding marks_refusal
outside-refused = refl

pub nine : List ℕ
nine = 0 ∷ 1 ∷ 2 ∷ 3 ∷ 4 ∷ 5 ∷ 6 ∷ 7 ∷ 8 ∷ []

pub nine-refused : marks_refusal nine ≡ 19
unfolding nine marks_refusal
nine-refused = refl

-- the last place, and seven others
pub eight-allowed : marks_refusal (95 ∷ 1 ∷ 2 ∷ 3 ∷ 4 ∷ 5 ∷ 6 ∷ 7 ∷ []) ≡ 0
unfolding marks_refusal
eight-allowed = refl

-- 3 comes first
pub short-first : correction_with nine (replicate 95 0) ≡ Refused 3
unfolding nine correction_with length_refusal
short-first = refl

-- ---- 96 zeros are a code word

pub zeros : List ℕ
zeros = replicate 96 0

zeros-at : (n i : ℕ) → ◌≡◌ {A = ℕ} (get_or (replicate n 0) i 0) 0
zeros-at zero i = refl
zeros-at (suc n) zero = refl
zeros-at (suc n) (suc i) = zeros-at n i

zeros-sum : (j n : ℕ) → sum_up (term j zeros) n ≡ 0
unfolding sum_up term zeros
zeros-sum j zero = refl
zeros-sum j (suc n) =
    ap₂ bit_xor (zeros-sum j n) (ap (λ (x : ℕ). mul x (pow (n * j))) (zeros-at 96 n) ∙ mul-zero-l (pow (n * j))) ∙ xor_zero_l 0

zeros-right : is_code_word zeros ≡ true
unfolding syndrome
zeros-right = zero-code-word zeros (λ j h. zeros-sum (suc j) 96)

zeros-bytes : (n : ℕ) → All (λ x. x < 256) (replicate n 0)
zeros-bytes zero = tt
zeros-bytes (suc n) = (lit< tt, zeros-bytes n)

-- 19 is found for a code word too
pub clean-refused : correction_with (0 ∷ 0 ∷ []) zeros ≡ Refused 19
unfolding zeros correction_with length_refusal marks_refusal
clean-refused = refl

-- ---- wrong bytes that are marked: corrected, and counted

-- five, all of them marked
pub damaged : List ℕ
damaged = 1 ∷ 2 ∷ 3 ∷ 4 ∷ 5 ∷ replicate 91 0

pub fives : List ℕ
fives = 4 ∷ 2 ∷ 0 ∷ 1 ∷ 3 ∷ []

damaged-bytes : (i : ℕ) → get_or damaged i 0 < 256
unfolding damaged
damaged-bytes = all-bytes damaged (lit< tt, (lit< tt, (lit< tt, (lit< tt, (lit< tt, zeros-bytes 91)))))

pub marked-free : unmarked_distance fives (take 96 damaged) zeros ≡ 0
unfolding damaged fives zeros unmarked_distance
marked-free = refl

pub marked-counted : correction_with fives damaged ≡ Corrected 5
unfolding damaged fives zeros distance marks_refusal
marked-counted =
    (corrects-with damaged (lit< tt) (lit< tt) damaged-bytes fives refl).answer zeros
    (record { right = zeros-right; close = omega (arith, marked-free); long = refl; bytes = zeros-bytes 96 })

-- four, one of them marked
pub four : List ℕ
four = 1 ∷ 1 ∷ 1 ∷ 1 ∷ replicate 92 0

four_bytes : (i : ℕ) → get_or four i 0 < 256
unfolding four
four_bytes = all-bytes four (lit< tt, (lit< tt, (lit< tt, (lit< tt, zeros-bytes 92))))

pub four-counted : correction_with (3 ∷ []) four ≡ Corrected 4
unfolding four zeros distance marks_refusal unmarked_distance
four-counted =
    (corrects-with four (lit< tt) (lit< tt) four_bytes (3 ∷ []) refl).answer zeros
    (record { right = zeros-right; close = lit< tt; long = refl; bytes = zeros-bytes 96 })

-- ---- beyond the bound, where marks on right bytes count

-- nine from 96 zeros, so beyond correction
zeros-beyond : (marks w : List ℕ) → length w ≡ 96 → 2 * unmarked_distance marks w zeros + length marks ≡ 9 → (b : List ℕ) → ¬ Within marks w b
unfolding zeros
zeros-beyond marks w l = nine-beyond marks w zeros l (record { right = zeros-right; close = omega arith; long = sym l; bytes = zeros-bytes 96 })

-- four wrong bytes, and a mark on a right one
pub four-refused : correction_with (15 ∷ []) four ≡ Refused 4
unfolding four zeros marks_refusal unmarked_distance
four-refused = (corrects-with four (lit< tt) (lit< tt) four_bytes (15 ∷ []) refl).beyond (zeros-beyond (15 ∷ []) (take 96 four) refl refl)

-- one wrong byte, and marks on seven right ones
pub single : List ℕ
single = 1 ∷ replicate 95 0

pub sevens : List ℕ
sevens = 4 ∷ 5 ∷ 6 ∷ 7 ∷ 8 ∷ 9 ∷ 10 ∷ []

single-bytes : (i : ℕ) → get_or single i 0 < 256
unfolding single
single-bytes = all-bytes single (lit< tt, zeros-bytes 95)

pub single-refused : correction_with sevens single ≡ Refused 4
unfolding single sevens zeros marks_refusal unmarked_distance
single-refused = (corrects-with single (lit< tt) (lit< tt) single-bytes sevens refl).beyond (zeros-beyond sevens (take 96 single) refl refl)
