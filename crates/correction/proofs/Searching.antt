-- The locator's value and the search for the places that pass a test, turn by turn.
use mathlib.Core.Path.{◌≡◌, refl, sym, ◌∙◌, ap}
use mathlib.Core.Bool.{Bool, true, false}
use mathlib.Core.List.{List, [], ◌∷◌, ◌++◌, append_assoc}
use Prim.Native.Nat.{ℕ, suc, ◌+◌, ◌-◌, ◌<◌, ◌≤◌}
use native.Mathlib.Omega.{arith}
use native.Mathlib.Numerals.{add-one}
use lib.ListN.{length, get_or, set, take, length-set, length-append}
use lib.Seq.{take-suc-set, length-take-le}
use lib.Bits.{bit_xor}
use Rattle.field.specs.Field.{mul}
use Rattle.algebra.specs.Places.{below, keep, cons_if}
use Rattle.correction.specs.ErrorPlaces.{value_from, Search}

pub record Evaluated (cs : List ℕ) (degree x i v : ℕ) : Type 0 where
  pub rest : ℕ
  pub whole : i + rest ≡ degree
  pub value : v ≡ value_from cs x i rest

pub evaluate-start : (cs : List ℕ) (degree x : ℕ) → Evaluated cs degree x degree 1
evaluate-start cs degree x = record { rest = 0; whole = omega arith; value = refl }

pub evaluate-next : (cs : List ℕ) (degree x i v u : ℕ) → 0 < i → Evaluated cs degree x i v → u ≡ mul x v → Evaluated cs degree x (i - 1) (bit_xor (get_or cs (i - 1) 0) u)
evaluate-next cs degree x i v u l e q =
    let w : i + e.rest ≡ degree = e.whole in
    let s : suc (i - 1) ≡ i = omega arith in
    record { rest = suc e.rest; whole = omega arith; value = ap (λ (t : ℕ). bit_xor (get_or cs (i - 1) 0) t) (q ∙ ap (mul x) (rw s e.value)) }

pub evaluate-end : (cs : List ℕ) (degree x i v : ℕ) → i ≡ 0 → Evaluated cs degree x i v → v ≡ value_from cs x 0 degree
evaluate-end cs degree x i v z e =
    let w : i + e.rest ≡ degree = e.whole in
    let r : e.rest ≡ degree = omega arith in
    e.value ∙ rw (z, r)

pub search-start : (t : ℕ → Bool) (places : List ℕ) → length places ≡ 8 → Search t 96 0 places
search-start t places l = record { long = l; few = omega arith; all = refl }

module _ (t : ℕ → Bool) (m count : ℕ) (places : List ℕ) (s : Search t (m + 1) count places) where
  below_next : keep t (below (m + 1)) ≡ cons_if (t m) m (keep t (below m))
  below_next = rw add-one

  pub search-miss : t m ≡ false → Search t m count places
  search-miss f = record { long = s.long; few = s.few; all = (rw (below_next, f) at s.all) }

  hit-list : t m ≡ true → take count places ++ (m ∷ keep t (below m)) ≡ keep t (below 96)
  hit-list e = rw (below_next, e) at s.all

  -- There is room for one more.
  pub search-room : length (keep t (below 96)) ≤ 8 → t m ≡ true → count < 8
  search-room b e =
      let a : length (take count places ++ (m ∷ keep t (below m))) ≡ length (take count places) + suc (length (keep t (below m))) = length-append (take count places) (m ∷ keep t (below m)) in
      let h : length (take count places ++ (m ∷ keep t (below m))) ≡ length (keep t (below 96)) = ap length (hit-list e) in
      let l : length places ≡ 8 = s.long in
      let f : count ≤ 8 = s.few in
      let k : length (take count places) ≡ count = length-take-le count places (omega arith) in
      omega arith

  pub search-hit : length (keep t (below 96)) ≤ 8 → t m ≡ true → Search t m (count + 1) (set places count m)
  search-hit b e =
      let r : count < 8 = search-room b e in
      let l : length places ≡ 8 = s.long in
      let p : take (suc count) (set places count m) ≡ take count places ++ (m ∷ []) = take-suc-set places count m (omega arith) in
      record {
        long = length-set places count m ∙ s.long;
        few = omega arith;
        all = rw (add-one, p) (append_assoc (take count places) (m ∷ []) (keep t (below m)) ∙ hit-list e);
      }

-- The same, for the loop's counter M before it is lowered, and the test's answer v at the place.
module _ (t : ℕ → Bool) (M count : ℕ) (places : List ℕ) (l : 0 < M) (s : Search t M count places) (v : Bool) (ev : v ≡ t (M - 1)) where
  at : Search t (M - 1 + 1) count places
  at = let e : M - 1 + 1 ≡ M = omega arith in rw e s

  pub loop-miss : v ≡ false → Search t (M - 1) count places
  loop-miss n = search-miss t (M - 1) count places at (sym ev ∙ n)

  pub loop-room : length (keep t (below 96)) ≤ 8 → v ≡ true → count < 8
  loop-room b z = search-room t (M - 1) count places at b (sym ev ∙ z)

  pub loop-hit : length (keep t (below 96)) ≤ 8 → v ≡ true → Search t (M - 1) (count + 1) (set places count (M - 1))
  loop-hit b z = search-hit t (M - 1) count places at b (sym ev ∙ z)
