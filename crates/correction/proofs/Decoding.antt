-- Demand 2 of header correction: the result is the one code word that differs in at most four of the 96 bytes, and there
-- is none exactly when no code word does. It is what Ask 3 asks for, with no mark.
use mathlib.Core.Path.{◌≡◌, refl, sym, ◌∙◌}
use mathlib.Core.List.{List, []}
use mathlib.Core.Option.{none, some}
use Prim.Native.Nat.{ℕ, ◌<◌, ◌≤◌}
use native.Mathlib.Omega.{arith}
use lib.ListN.{length}
use Rattle.algebra.specs.Places.{All}
use Rattle.header.specs.Header.{distance}
use Rattle.correction.specs.Correction.{corrected, Near}
use Rattle.correction.specs.Marks.{unmarked_distance, Within, corrected_with}
use Rattle.correction.proofs.Marking.{unmarked-adopted, within-only, with-within, with-some, with_none}

-- no mark: the code word within four bytes
pub no-marks : (w : List ℕ) → corrected_with [] w ≡ corrected w
unfolding corrected_with corrected
no-marks w = refl

pub near_within : (w c : List ℕ) → Near 4 w c → Within [] w c
near_within w c n =
    let e : unmarked_distance [] w c ≡ distance w c = unmarked-adopted [] w c n.long in
    let d : distance w c ≤ 4 = n.close in
    record { right = n.right; close = omega arith; long = n.long; bytes = n.bytes }

pub within-near : (w c : List ℕ) → Within [] w c → Near 4 w c
within-near w c n =
    let e : unmarked_distance [] w c ≡ distance w c = unmarked-adopted [] w c n.long in
    record { right = n.right; close = omega (arith, e, n.close); long = n.long; bytes = n.bytes }

module _ (w : List ℕ) (l : length w ≡ 96) (a : All (λ x. x < 256) w) where
  -- a code word within four bytes is the corrected header
  pub corrected-some : (c : List ℕ) → Near 4 w c → corrected w ≡ some c
  corrected-some c n = sym (no-marks w) ∙ with-some [] (omega arith) w l a c (near_within w c n)

  -- and the corrected header is one
  pub corrected-near : (c : List ℕ) → corrected w ≡ some c → Near 4 w c
  corrected-near c e = within-near w c (with-within [] (omega arith) w l a c (no-marks w ∙ e))

  -- no other word is
  pub corrected-only : (b c : List ℕ) → Near 4 w b → Near 4 w c → b ≡ c
  corrected-only b c n m = within-only [] w b c l (near_within w b n) (near_within w c m)

  -- there is none where no code word is within four bytes
  pub corrected-none : ((c : List ℕ) → Near 4 w c → ⊥) → corrected w ≡ none
  corrected-none n = sym (no-marks w) ∙ with_none [] (omega arith) w l a (λ c k. n c (within-near w c k))
