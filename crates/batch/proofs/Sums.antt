-- Sums of lengths.
use mathlib.Core.Path.{◌≡◌, refl, sym, ◌∙◌}
use mathlib.Core.Bool.{Bool, true, false}
use mathlib.Core.List.{List, [], ◌∷◌, ◌++◌}
use Prim.Native.Nat.{ℕ, ◌+◌, ◌≤◌}
use native.Mathlib.Omega.{arith}
use lib.Dec.{eqb}
use lib.ListN.{length, drop, drop_of_length-le}
use borrow.Author.Tests.{eq-eqb, ne_eqb, eqb-true, eqb-false}
use Rattle.pieces.specs.Pieces.{total}

-- what is left is nothing exactly where the sum is met
pub same_test : (left sum bytes : ℕ) → left + sum ≡ bytes → eqb left 0 ≡ eqb sum bytes
same_test left sum bytes e = go (eqb left 0) refl
  where
    go : (b : Bool) → eqb left 0 ≡ b → eqb left 0 ≡ eqb sum bytes
    go true h = h ∙ sym (eq-eqb sum bytes (let z = eqb-true left 0 h in omega (arith, z, e)))
    go false h = h ∙ sym (ne_eqb sum bytes (λ q. eqb-false left 0 h (omega (arith, q, e))))

-- no length is left
pub none_left : (ls : List ℕ) (i : ℕ) → length ls ≤ i → total (drop i ls) ≡ 0
unfolding total
none_left ls i h = let e : drop i ls ≡ [] = drop_of_length-le ls {i = i} h in rw e

pub total-append : (a b : List ℕ) → total (a ++ b) ≡ total a + total b
unfolding total
total-append [] b = omega arith
total-append (n ∷ a) b = let h = total-append a b in omega (arith, h)
