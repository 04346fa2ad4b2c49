-- Error correction, document 01 "Header code": the paper's mending finds the code word differing in at most four of the
-- 96 bytes and reports how many differ. Refusals 3 and 4 of the table.
use Rattle.std.specs.Prelude.{Bool, true, cond, ◌≡◌, List, ◌++◌, ℕ, zero, suc, ◌<◌, ◌≤◌, eqb, length, take, drop, set}
use Rattle.std.proofs.Math.Option.{Option, none, some, or_else}
use Rattle.algebra.specs.Places.{All}
use Rattle.header.specs.Header.{is_code_word, distance, length_refusal}
use Rattle.correction.specs.declared.Correction.{Correction}
use Rattle.correction.specs.declared.Correction.TheVariants.{Corrected, Refused}

abbrev pub only_if : Bool → List ℕ → Option (List ℕ)
only_if b w = cond b (some w) none

-- the first hit of f among the words that are w but for a byte below v at place i
abbrev pub at_place : (List ℕ → Option (List ℕ)) → List ℕ → ℕ → ℕ → Option (List ℕ)
at_place f w i zero = none
at_place f w i (suc v) = or_else (at_place f w i v) (f (set w i v))

-- the first hit of f among the words that are w but for any byte at one place below n
abbrev pub at_places : (List ℕ → Option (List ℕ)) → List ℕ → ℕ → Option (List ℕ)
at_places f w zero = none
at_places f w (suc i) = or_else (at_places f w i) (at_place f w i 256)

-- a code word that differs from w in at most k bytes, by trying: w itself, or what is found with one byte changed
unfoldable pub near : ℕ → List ℕ → Option (List ℕ)
near zero w = only_if (is_code_word w) w
near (suc k) w = or_else (only_if (is_code_word w) w) (at_places (λ u. near k u) w (length w))

-- the code word that differs from a header in at most four bytes, the paper's mended header
unfoldable pub corrected : List ℕ → Option (List ℕ)
corrected w = near 4 w

-- c is a code word of as many bytes as w, and differs from it in at most k
pub record Near (k : ℕ) (w c : List ℕ) : Type 0 where
  pub right : is_code_word c ≡ true
  pub close : distance w c ≤ k
  pub long : length c ≡ length w
  pub bytes : All (λ x. x < 256) c

-- the answer for a header w: how many bytes differ, or refusal 4, the paper's beyond mending
abbrev pub answer_for : List ℕ → Option (List ℕ) → Correction
answer_for w (some c) = Corrected (distance w c)
answer_for w none = Refused 4

-- the header w after the call; refused, as it was
abbrev pub header_after : List ℕ → Option (List ℕ) → List ℕ
header_after w (some c) = c
header_after w none = w

-- the answer for a PDU: 3 for its length first
unfoldable pub correction_of : List ℕ → Correction
correction_of p = cond (eqb (length_refusal (length p)) 0) (answer_for (take 96 p) (corrected (take 96 p))) (Refused 3)

-- the PDU after the call
unfoldable pub corrected_pdu : List ℕ → List ℕ
corrected_pdu p = cond (eqb (length_refusal (length p)) 0) (header_after (take 96 p) (corrected (take 96 p)) ++ drop 96 p) p

-- the paper's number and count of each answer
abbrev pub correction_number : Correction → ℕ
correction_number (Corrected n) = 0
correction_number (Refused n) = n

abbrev pub count_of : Correction → ℕ
count_of (Corrected n) = n
count_of (Refused n) = 0
