-- In which order a pair's rows are judged: 1 and 2 first, then 4 where neither can be corrected, else 5 to 12, then 20, then 13, then 27.
use mathlib.Core.Path.{◌≡◌, refl, ◌∙◌}
use mathlib.Core.Bool.{true, false}
use mathlib.Core.List.{List, [], ◌∷◌}
use Prim.Native.Nat.{ℕ, ◌<◌}
use lib.Dec.{eqb, ltb}
use lib.ListN.{length, drop}
use borrow.Author.Tests.{ne_eqb, lt-ltb}
use Rattle.refusal.specs.Refusal.{first_of}
use Rattle.refusal.proofs.Rows.{past}
use Rattle.correction.specs.Correction.{corrected_pdu}
use Rattle.receiver.specs.Steps.{state_tests}
use Rattle.receiver.specs.declared.Receiver.{Receiver}
use Rattle.receiver.proofs.Rows.{first_on}
use Rattle.diversity.proofs.AfterPair.{pair_words}
use Rattle.diversity.specs.Diversity.{copy_number, lower, differ, pair_tests, pair_number, received_by}

module _ (carry first second log : List ℕ) (r : Receiver) where
  abbrev of_either : ℕ
  of_either = lower (copy_number r (corrected_pdu first)) (copy_number r (corrected_pdu second))

  module _ (wrong : ¬ (first_of (state_tests r (length carry)) ≡ 0)) where
    -- whatever the PDUs are
    pub state-first : pair_number carry first second log r ≡ first_of (state_tests r (length carry))
    unfolding pair_number
    state-first = first_on (state_tests r (length carry)) (drop 2 (pair_tests carry first second log r)) wrong

    pub state-before-four : (received_by carry first second log r false false).answer.refusal ≡ first_of (state_tests r (length carry))
    state-before-four = first_on (state_tests r (length carry)) ((true, 4) ∷ []) wrong

  module _ (right : first_of (state_tests r (length carry)) ≡ 0) where
    after-state : pair_number carry first second log r ≡ first_of (drop 2 (pair_tests carry first second log r))
    unfolding pair_number
    after-state = past (state_tests r (length carry)) (drop 2 (pair_tests carry first second log r)) refl right

    -- whether they differ or not
    pub rows-before-differing : ¬ (of_either ≡ 0) → pair_number carry first second log r ≡ of_either
    rows-before-differing h = let e : eqb of_either 0 ≡ false = ne_eqb of_either 0 h in after-state ∙ rw e

    -- however short the log is
    pub differing-before-room : of_either ≡ 0 → differ (corrected_pdu first) (corrected_pdu second) ≡ true → pair_number carry first second log r ≡ 20
    differing-before-room h d = after-state ∙ rw (h, d)

    -- whatever the counts are
    pub room-before-limit : of_either ≡ 0 → differ (corrected_pdu first) (corrected_pdu second) ≡ false → length log < length (pair_words carry first second log r) → pair_number carry first second log r ≡ 13
    room-before-limit h d l =
        let t : ltb (length log) (length (pair_words carry first second log r)) ≡ true = lt-ltb (length log) (length (pair_words carry first second log r)) l in
        after-state ∙ rw (h, d, t)
