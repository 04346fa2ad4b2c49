-- Error correction with marked bytes, document 02 Ask 3: with a list of s marked places, the code word for which twice the
-- differing unmarked bytes plus s is at most eight. Refusals 3, 19 and 4 of the tables.
use Rattle.std.specs.Prelude.{Bool, true, false, not, ◌&&◌, ◌||◌, cond, ◌≡◌, List, [], ◌∷◌, ◌++◌, ℕ, ◌+◌, ◌-◌, ◌*◌, ◌/◌, ◌<◌, ◌≤◌, eqb, leb, length, get_or, take, drop, set}
use Rattle.std.proofs.Math.Option.{Option}
use Rattle.algebra.specs.Places.{All, below, keep}
use Rattle.header.specs.Header.{is_code_word, length_refusal}
use Rattle.correction.specs.Correction.{at_place, near, answer_for, header_after}
use Rattle.correction.specs.declared.Correction.{Correction}
use Rattle.correction.specs.declared.Correction.TheVariants.{Refused}

-- whether place i is marked
abbrev pub is_marked : List ℕ → ℕ → Bool
is_marked [] i = false
is_marked (k ∷ marks) i = eqb k i || is_marked marks i

-- each mark at most 95, and none repeated
abbrev pub allowed_marks : List ℕ → Bool
allowed_marks [] = true
allowed_marks (k ∷ marks) = leb k 95 && not (is_marked marks k) && allowed_marks marks

-- refusal 19 for more than eight marks, one over 95, or one repeated, else 0
unfoldable pub marks_refusal : List ℕ → ℕ
marks_refusal marks = cond (leb (length marks) 8 && allowed_marks marks) 0 19

-- in how many unmarked bytes two words of one length differ
unfoldable pub unmarked_distance : List ℕ → List ℕ → List ℕ → ℕ
unmarked_distance marks w c = length (keep (λ i. not (is_marked marks i || eqb (get_or w i 0) (get_or c i 0))) (below (length w)))

-- c is a code word of as many bytes as w, and twice the differing unmarked bytes plus the marks is at most eight
pub record Within (marks w c : List ℕ) : Type 0 where
  pub right : is_code_word c ≡ true
  pub close : 2 * unmarked_distance marks w c + length marks ≤ 8
  pub long : length c ≡ length w
  pub bytes : All (λ x. x < 256) c

-- the first hit of f among the words that are w but for any bytes at the marked places
abbrev pub at_marks : List ℕ → (List ℕ → Option (List ℕ)) → List ℕ → Option (List ℕ)
at_marks [] f w = f w
at_marks (i ∷ marks) f w = at_place (λ u. at_marks marks f u) w i 256

-- how many unmarked bytes may differ
abbrev pub spare : List ℕ → ℕ
spare marks = (8 - length marks) / 2

-- the code word sought, by trying: any bytes at the marked places, and that many others changed
unfoldable pub corrected_with : List ℕ → List ℕ → Option (List ℕ)
corrected_with marks w = at_marks marks (λ u. near (spare marks) u) w

-- r has 96 bytes, and is the only code word within reach of w, if there is one
pub record CandidateWith (marks w r : List ℕ) : Type 0 where
  pub long : length r ≡ 96
  pub bytes : All (λ x. x < 256) r
  pub only : (c : List ℕ) → Within marks w c → r ≡ c

-- w with its marked bytes set to those of c
abbrev pub adopted : List ℕ → List ℕ → List ℕ → List ℕ
adopted [] w c = w
adopted (i ∷ marks) w c = adopted marks (set w i (get_or c i 0)) c

-- the answer for a PDU: 3 for its length first, then 19 for the marks, then 4; its count is of all differing bytes
unfoldable pub correction_with : List ℕ → List ℕ → Correction
correction_with marks p =
    cond (eqb (length_refusal (length p)) 0)
    (cond (eqb (marks_refusal marks) 0) (answer_for (take 96 p) (corrected_with marks (take 96 p))) (Refused 19))
    (Refused 3)

-- the PDU after the call; refused, as it was
unfoldable pub corrected_pdu_with : List ℕ → List ℕ → List ℕ
corrected_pdu_with marks p =
    cond (eqb (length_refusal (length p)) 0)
    (cond (eqb (marks_refusal marks) 0) (header_after (take 96 p) (corrected_with marks (take 96 p)) ++ drop 96 p) p)
    p
