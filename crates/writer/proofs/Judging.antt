-- The writer's tests, as its code makes them.
use mathlib.Core.Path.{◌≡◌, refl, ap, subst}
use mathlib.Core.Bool.{Bool, true, false, ◌||◌}
use mathlib.Core.List.{List, [], ◌∷◌}
use Prim.Native.Nat.{ℕ, zero, suc, ◌+◌, ◌≤◌}
use native.Mathlib.Omega.{arith}
use lib.Dec.{ltb, T}
use lib.ListN.{length, get_or}
use borrow.Author.Tests.{ltb-false}
use Rattle.refusal.specs.Refusal.{any_of}
use Rattle.modes.specs.declared.Mode.{Mode}
use Rattle.packing.specs.Packing.{overhead}
use Rattle.writer.specs.Writing.{wrong_size, no_room}

pub room-none : (m : Mode) (extra size n : ℕ) (ls : List ℕ) → length ls ≡ 0 → n ≡ overhead m.width extra 0 → ltb size n ≡ no_room m extra size ls
room-none m extra size n [] z e = ap (ltb size) e
room-none m extra size n (l ∷ ls) z e = absurd (omega arith)

pub room-some : (m : Mode) (extra size n : ℕ) (ls : List ℕ) → ¬ (length ls ≡ 0) → n ≡ overhead m.width extra 1 → ltb size (n + 2) ≡ no_room m extra size ls
room-some m extra size n [] z e = absurd (z refl)
room-some m extra size n (l ∷ ls) z e = ap (λ (k : ℕ). ltb size (k + 2)) e

pub never : {A : Type 0} → true ≡ false → A
never e = absurd (subst T e tt)

-- the first of two tests, where neither holds
pub first-fails : (a b : Bool) → (a || b) ≡ false → a ≡ false
first-fails true b e = e
first-fails false b e = refl

pub second-fails : (a b : Bool) → (a || b) ≡ false → b ≡ false
second-fails true b e = never e
second-fails false b e = e

-- each of the tests of which none holds
pub none-at : (l : List Bool) (k : ℕ) → any_of l ≡ false → get_or l k false ≡ false
none-at [] k e = refl
none-at (t ∷ []) zero e = e
none-at (t ∷ []) (suc k) e = refl
none-at (t ∷ u ∷ ts) zero e = first-fails t (any_of (u ∷ ts)) e
none-at (t ∷ u ∷ ts) (suc k) e = none-at (u ∷ ts) k (second-fails t (any_of (u ∷ ts)) e)

pub size-right : (m : Mode) (size : ℕ) → any_of (wrong_size m size) ≡ false → (96 ≤ size) × (size ≤ 20480)
size-right m size e = (ltb-false size 96 (none-at (wrong_size m size) 0 e), ltb-false 20480 size (none-at (wrong_size m size) 1 e))
