-- Document 00, demand 2: a header is corrected to the one code word that differs in at most four bytes, and is refused exactly when there is none.
-- Document 02, Ask 3: the same with marked places.
use Rattle.std.specs.Prelude.{◌≡◌, List, ◌++◌, ℕ, length, take, drop}
use Rattle.header.specs.Header.{distance}
use Rattle.correction.specs.Correction.{Near, correction_of, corrected_pdu}
use Rattle.correction.specs.Marks.{Within, correction_with, corrected_pdu_with}
use Rattle.correction.specs.declared.Correction.TheVariants.{Corrected, Refused}

-- of a PDU p
pub record Corrects (p : List ℕ) : Type 0 where
  -- the code word within four bytes: the answer is how many bytes differ, and the PDU has it for its header
  pub answer : (c : List ℕ) → Near 4 (take 96 p) c → correction_of p ≡ Corrected (distance (take 96 p) c)
  pub header : (c : List ℕ) → Near 4 (take 96 p) c → corrected_pdu p ≡ c ++ drop 96 p
  -- there is at most one
  pub only : (b c : List ℕ) → Near 4 (take 96 p) b → Near 4 (take 96 p) c → b ≡ c
  -- refused exactly when there is none, and left as it was
  pub beyond : ((c : List ℕ) → ¬ Near 4 (take 96 p) c) → correction_of p ≡ Refused 4
  pub refused : (n : ℕ) → correction_of p ≡ Refused n → (c : List ℕ) → ¬ Near 4 (take 96 p) c
  pub unchanged : (n : ℕ) → correction_of p ≡ Refused n → corrected_pdu p ≡ p

-- of a PDU p with a list of marks that is not refused with 19
pub record CorrectsWith (marks p : List ℕ) : Type 0 where
  -- the code word for which twice the differing unmarked bytes plus the marks is at most eight: the answer is how many of all bytes differ, and
  -- the PDU has it for its header
  pub answer : (c : List ℕ) → Within marks (take 96 p) c → correction_with marks p ≡ Corrected (distance (take 96 p) c)
  pub header : (c : List ℕ) → Within marks (take 96 p) c → corrected_pdu_with marks p ≡ c ++ drop 96 p
  -- there is at most one
  pub only : (b c : List ℕ) → Within marks (take 96 p) b → Within marks (take 96 p) c → b ≡ c
  -- refused with 4 exactly when there is none, and left as it was
  pub beyond : ((c : List ℕ) → ¬ Within marks (take 96 p) c) → correction_with marks p ≡ Refused 4
  pub refused : (n : ℕ) → correction_with marks p ≡ Refused n → (c : List ℕ) → ¬ Within marks (take 96 p) c
  pub unchanged : (n : ℕ) → correction_with marks p ≡ Refused n → corrected_pdu_with marks p ≡ p
  -- with eight marks there is always one
  pub eight : length marks ≡ 8 → (n : ℕ) → ¬ (correction_with marks p ≡ Refused n)
