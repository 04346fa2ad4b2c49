-- The better copy.
use mathlib.Core.Path.{◌≡◌, refl, sym, ap, ap₂, ◌∙◌}
use mathlib.Core.Bool.{true, false}
use mathlib.Core.List.{List, []}
use Prim.Native.Nat.{ℕ, ◌<◌, ◌≤◌}
use native.Mathlib.Omega.{arith}
use lib.Dec.{leb}
use lib.ListN.{length, take}
use lib.Seq.{take-take, length-take-le}
use borrow.Author.Tests.{le-leb, lt-leb}
use Rattle.header.specs.Header.{header_of, length_refusal}
use Rattle.header.proofs.Lengths.{short-refused, long-refused, length-allowed, header-of-long}
use Rattle.correction.specs.Correction.{correction_of}
use Rattle.correction.specs.declared.Correction.{Correction}
use Rattle.correction.specs.declared.Correction.TheVariants.{Corrected, Refused}
use Rattle.correction.proofs.Answers.{length-refused, no-marks-answer}
use Rattle.diversity.specs.Diversity.{Choice, neither, the_first, the_second, better, choice_of, choice_number}

-- ---- how many bytes would be corrected

pub count-short : (p : List ℕ) → length p < 96 → Refused 3 ≡ correction_of p
count-short p h = (length-refused [] p (short-refused (length p) h)).0 ∙ no-marks-answer p

pub count_long : (p : List ℕ) → 20480 < length p → Refused 3 ≡ correction_of p
count_long p h = (length-refused [] p (long-refused (length p) h)).0 ∙ no-marks-answer p

-- the header by itself is answered as the PDU
pub count-header : (p w : List ℕ) (a : Correction) → 96 ≤ length p → length p ≤ 20480 → w ≡ header_of p → a ≡ correction_of w → a ≡ correction_of p
unfolding correction_of
count-header p w a lo hi ew ea =
    let ow : length_refusal (length (take 96 p)) ≡ 0 = ap length_refusal (length-take-le 96 p lo) ∙ length-allowed 96 (omega arith) (omega arith) in
    let op : length_refusal (length p) ≡ 0 = length-allowed (length p) lo hi in
    let t : take 96 (take 96 p) ≡ take 96 p = take-take 96 96 p (omega arith) in
    ea ∙ ap correction_of (ew ∙ header-of-long p lo) ∙ rw (ow, op, t)

-- ---- which is better

pub better-first : (a b : Correction) (m n : ℕ) → a ≡ Corrected m → b ≡ Corrected n → m ≤ n → 1 ≡ choice_number (better a b)
better-first a b m n ea eb h = let t : leb m n ≡ true = le-leb m n h in rw (ea, eb, t)

pub better-second : (a b : Correction) (m n : ℕ) → a ≡ Corrected m → b ≡ Corrected n → n < m → 2 ≡ choice_number (better a b)
better-second a b m n ea eb h = let t : leb m n ≡ false = lt-leb m n h in rw (ea, eb, t)

pub choice-is : (p q : List ℕ) (a b : Correction) (n : ℕ) → a ≡ correction_of p → b ≡ correction_of q → n ≡ choice_number (better a b) → n ≡ choice_number (choice_of p q)
unfolding choice_of
choice-is p q a b n ea eb e = e ∙ ap choice_number (ap₂ better ea eb)

-- the choice by its number
module _ (p q : List ℕ) (n : ℕ) (en : n ≡ choice_number (choice_of p q)) where
  pub is-first : n ≡ 1 → choice_of p q ≡ the_first
  is-first e = go (choice_of p q) (sym en ∙ e)
    where
      go : (x : Choice) → choice_number x ≡ 1 → x ≡ the_first
      go neither h = absurd (omega arith)
      go the_first h = refl
      go the_second h = absurd (omega arith)

  pub is-second : n ≡ 2 → choice_of p q ≡ the_second
  is-second e = go (choice_of p q) (sym en ∙ e)
    where
      go : (x : Choice) → choice_number x ≡ 2 → x ≡ the_second
      go neither h = absurd (omega arith)
      go the_first h = absurd (omega arith)
      go the_second h = refl

  pub is-neither : ¬ (n ≡ 1) → ¬ (n ≡ 2) → choice_of p q ≡ neither
  is-neither e f = go (choice_of p q) (λ h. e (en ∙ h)) (λ h. f (en ∙ h))
    where
      go : (x : Choice) → ¬ (choice_number x ≡ 1) → ¬ (choice_number x ≡ 2) → x ≡ neither
      go neither g h = refl
      go the_first g h = absurd (g refl)
      go the_second g h = absurd (h refl)
