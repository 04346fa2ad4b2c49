-- Septets at their places.
use mathlib.Core.Path.{◌≡◌, refl, sym, ap, ◌∙◌}
use mathlib.Core.List.{List, [], ◌∷◌, map}
use Prim.Native.Nat.{ℕ, zero, suc, ◌+◌, ◌%◌, ◌<◌, ◌≤◌}
use lib.ListN.{get_or, take, drop, get_or-eq_default}
use lib.Seq.{get_or-take, get_or-drop}
use Rattle.expansion.specs.Expansion.{septets_at}
use Rattle.expansion.proofs.Chains.{outside}

map_at : (l : List ℕ) (j : ℕ) → get_or (map (λ b. b % 128) l) j 0 ≡ get_or l j 0 % 128
map_at [] j = refl
map_at (x ∷ l) zero = refl
map_at (x ∷ l) (suc j) = map_at l j

pub septet-inside : (p : List ℕ) (at n j : ℕ) → j < n → get_or p (at + j) 0 % 128 ≡ get_or (septets_at p at n) j 0
unfolding septets_at
septet-inside p at n j h =
    sym (map_at (take n (drop at p)) j ∙ ap (λ (x : ℕ). x % 128) (get_or-take n (drop at p) j 0 h ∙ get_or-drop at p j 0))

pub septet-outside : (p : List ℕ) (at n j : ℕ) → n ≤ j → 0 ≡ get_or (septets_at p at n) j 0
unfolding septets_at
septet-outside p at n j h =
    sym (map_at (take n (drop at p)) j ∙ ap (λ (x : ℕ). x % 128) (get_or-eq_default (take n (drop at p)) 0 (outside n j (drop at p) h)))
