-- Document 02, Ask 3, over the call: with a list of s marked places, a PDU's header is corrected to the one code word for which
-- twice the differing unmarked bytes plus s is at most eight, and refused with 4 exactly when there is none. With no mark that
-- is document 00, demand 2: the one code word within four bytes.
use mathlib.Core.Path.{◌≡◌, refl, sym, ◌∙◌, ap}
use mathlib.Core.Bool.{Bool, true, false, true≢false}
use mathlib.Core.List.{List, [], ◌++◌}
use mathlib.Core.Option.{Option, none, some}
use Prim.Native.Nat.{ℕ, ◌<◌, ◌≤◌}
use lib.ListN.{length, get_or, take, drop}
use lib.Seq.{length-take-le}
use Rattle.algebra.specs.Places.{All}
use Rattle.header.specs.Header.{length_refusal}
use Rattle.header.proofs.Unique.{all_take}
use Rattle.header.proofs.Lengths.{length-allowed}
use Rattle.correction.specs.Correction.{answer_for, header_after}
use Rattle.correction.specs.Corrects.{Corrects, CorrectsWith}
use Rattle.correction.specs.Marks.{marks_refusal, Within, corrected_with, correction_with, corrected_pdu_with}
use Rattle.correction.specs.declared.Correction.{Correction}
use Rattle.correction.specs.declared.Correction.TheVariants.{Corrected, Refused}
use Rattle.correction.proofs.MarkLists.{allowed-marks}
use Rattle.correction.proofs.Marking.{within-only, with-some, with_none}
use Rattle.correction.proofs.Filling.{Filled, eight-filled}
use Rattle.correction.proofs.Decoding.{near_within, within-near}
use Rattle.correction.proofs.Answers.{refused-unchanged-with, no-marks-answer, no-marks-pdu}

is_corrected : Correction → Bool
is_corrected (Corrected n) = true
is_corrected (Refused n) = false

module _ (p : List ℕ) (lo : 96 ≤ length p) (hi : length p ≤ 20480) (b : (i : ℕ) → get_or p i 0 < 256) where
  long : length (take 96 p) ≡ 96
  long = length-take-le 96 p lo

  bytes : All (λ x. x < 256) (take 96 p)
  bytes = all_take 96 p b

  allowed : length_refusal (length p) ≡ 0
  allowed = length-allowed (length p) lo hi

  module _ (marks : List ℕ) (ok : marks_refusal marks ≡ 0) where
    few : length marks ≤ 8
    few = (allowed-marks marks ok).0

    answered : (o : Option (List ℕ)) → corrected_with marks (take 96 p) ≡ o → correction_with marks p ≡ answer_for (take 96 p) o
    unfolding correction_with
    answered o e = rw (allowed, ok, e)

    placed : (o : Option (List ℕ)) → corrected_with marks (take 96 p) ≡ o → corrected_pdu_with marks p ≡ header_after (take 96 p) o ++ drop 96 p
    unfolding corrected_pdu_with
    placed o e = rw (allowed, ok, e)

    not_within : (n : ℕ) → correction_with marks p ≡ Refused n → (c : List ℕ) → ¬ Within marks (take 96 p) c
    unfolding is_corrected
    not_within n e c k = true≢false (ap is_corrected (sym (answered (some c) (with-some marks few (take 96 p) long bytes c k)) ∙ e))

    -- eight marks are always enough: no header is beyond correction
    eight-corrected : length marks ≡ 8 → (n : ℕ) → ¬ (correction_with marks p ≡ Refused n)
    eight-corrected e n r =
        let f : Filled marks (take 96 p) = eight-filled marks (take 96 p) e (allowed-marks marks ok).1 long bytes in
        not_within n r f.word f.within

    -- Ask 3
    pub corrects-with : CorrectsWith marks p
    corrects-with = record {
      answer = λ c k. answered (some c) (with-some marks few (take 96 p) long bytes c k);
      header = λ c k. placed (some c) (with-some marks few (take 96 p) long bytes c k);
      only = λ b c. within-only marks (take 96 p) b c long;
      beyond = λ none_within. answered none (with_none marks few (take 96 p) long bytes none_within);
      refused = not_within;
      unchanged = refused-unchanged-with marks p;
      eight = eight-corrected;
    }

  no-marks-allowed : marks_refusal [] ≡ 0
  unfolding marks_refusal
  no-marks-allowed = refl

  -- demand 2
  pub corrects : Corrects p
  corrects =
      let g : CorrectsWith [] p = corrects-with [] no-marks-allowed in
      record {
        answer = λ c k. sym (no-marks-answer p) ∙ g.answer c (near_within (take 96 p) c k);
        header = λ c k. sym (no-marks-pdu p) ∙ g.header c (near_within (take 96 p) c k);
        only = λ b c k m. g.only b c (near_within (take 96 p) b k) (near_within (take 96 p) c m);
        beyond = λ far. sym (no-marks-answer p) ∙ g.beyond (λ c k. far c (within-near (take 96 p) c k));
        refused = λ n e c k. g.refused n (no-marks-answer p ∙ e) c (near_within (take 96 p) c k);
        unchanged = λ n e. sym (no-marks-pdu p) ∙ g.unchanged n (no-marks-answer p ∙ e);
      }
