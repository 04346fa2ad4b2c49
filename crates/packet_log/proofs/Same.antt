-- Two lists that are the same, number by number.
use mathlib.Core.Path.{◌≡◌, refl, sym, ap₂}
use mathlib.Core.Bool.{true, true≢false}
use mathlib.Core.List.{List, [], ◌∷◌}
use Prim.Native.Nat.{ℕ}
use lib.Dec.{eqb}
use borrow.Author.Tests.{eq-eqb, eqb-true}
use Rattle.bits.proofs.Tests.{both}
use Rattle.packet_log.specs.Log.{same_list}

pub same-itself : (l : List ℕ) → same_list l l ≡ true
unfolding same_list
same-itself [] = refl
same-itself (a ∷ l) = let e : eqb a a ≡ true = eq-eqb a a refl in rw e (same-itself l)

pub same_true : (k l : List ℕ) → same_list k l ≡ true → k ≡ l
unfolding same_list
same_true [] [] e = refl
same_true [] (b ∷ l) e = absurd (true≢false (sym e))
same_true (a ∷ k) [] e = absurd (true≢false (sym e))
same_true (a ∷ k) (b ∷ l) e = let h = both (eqb a b) (same_list k l) e in ap₂ ◌∷◌ (eqb-true a b h.0) (same_true k l h.1)
