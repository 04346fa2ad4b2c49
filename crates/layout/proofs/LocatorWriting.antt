-- One turn of writing locators, on the locators that are left.
use mathlib.Core.Path.{◌≡◌, sym, ◌∙◌}
use mathlib.Core.List.{List, [], ◌∷◌}
use Prim.Native.Nat.{ℕ, suc, ◌+◌, ◌*◌, ◌%◌, ◌/◌, ◌<◌, ◌≤◌}
use native.Mathlib.Omega.{arith}
use native.Mathlib.Numerals.{add-one}
use lib.ListN.{length, get_or, set, drop, length-set, drop_of_length-le}
use lib.Seq.{drop-cons}
use Rattle.buffer.specs.Buffer.{put_at}
use Rattle.buffer.proofs.Laws.{put-cons, put-nil}
use Rattle.layout.specs.Locators.{bytes16, bytes12}

-- two stores, and a list after them
put_two : (l w : List ℕ) (k j x y : ℕ) → suc k < length l → j ≡ k + 1 → put_at (set (set l k x) j y) (k + 2) w ≡ put_at l k (x ∷ y ∷ w)
put_two l w k j x y h e =
    let a : k + 2 ≡ k + 1 + 1 = omega arith in
    let b : k + 1 < length (set l k x) = rw length-set (omega arith) in
    rw (a, e) (put-cons (set l k x) w (k + 1) y b ∙ put-cons l (y ∷ w) k x (omega arith))

-- three
put_three : (l w : List ℕ) (k j i x y z : ℕ) → suc (suc k) < length l → j ≡ k + 1 → i ≡ k + 2 → put_at (set (set (set l k x) j y) i z) (k + 3) w ≡ put_at l k (x ∷ y ∷ z ∷ w)
put_three l w k j i x y z h e f =
    let a : k + 3 ≡ k + 2 + 1 = omega arith in
    let b : k + 2 < length (set (set l k x) j y) = rw (length-set, length-set) (omega arith) in
    rw (a, f) (put-cons (set (set l k x) j y) w (k + 2) z b ∙ put_two l (z ∷ w) k j x y (omega arith) e)

module _ (l ls goal : List ℕ) (j : ℕ) where
  pub turn16 : 15 + 2 * j < length l → j < length ls → put_at l (14 + 2 * j) (bytes16 (drop j ls)) ≡ goal
      → put_at (set (set l (14 + 2 * j) (get_or ls j 0 / 1 % 256)) (15 + 2 * j) (get_or ls j 0 / 256 % 256)) (14 + 2 * (j + 1)) (bytes16 (drop (j + 1) ls)) ≡ goal
  unfolding bytes16
  turn16 h m e =
      let a = get_or ls j 0 in
      let d : drop j ls ≡ a ∷ drop (suc j) ls = drop-cons ls j 0 m in
      let o : a / 1 ≡ a = omega arith in
      let p : 14 + 2 * (j + 1) ≡ 14 + 2 * j + 2 = omega arith in
      let t : put_at l (14 + 2 * j) (a % 256 ∷ a / 256 % 256 ∷ bytes16 (drop (suc j) ls)) ≡ goal = rw d at e in
      rw (p, o, add-one j) (put_two l (bytes16 (drop (suc j) ls)) (14 + 2 * j) (15 + 2 * j) (a % 256) (a / 256 % 256) (omega arith) (omega arith) ∙ t)

  pub turn12 : 16 + 3 * j < length l → 2 * j + 1 < length ls → put_at l (14 + 3 * j) (bytes12 (drop (2 * j) ls)) ≡ goal
      → put_at (set (set (set l (14 + 3 * j) (get_or ls (2 * j) 0 / 1 % 256)) (15 + 3 * j) (get_or ls (2 * j) 0 / 256 % 16 + 16 * (get_or ls (2 * j + 1) 0 % 16))) (16 + 3 * j) (get_or ls (2 * j + 1) 0 / 16 % 256)) (14 + 3 * (j + 1)) (bytes12 (drop (2 * (j + 1)) ls)) ≡ goal
  unfolding bytes12
  turn12 h m e =
      let a = get_or ls (2 * j) 0 in
      let b = get_or ls (2 * j + 1) 0 in
      let q : 2 * j + 1 ≡ suc (2 * j) = omega arith in
      let d : drop (2 * j) ls ≡ a ∷ drop (suc (2 * j)) ls = drop-cons ls (2 * j) 0 (omega arith) in
      let d2 : drop (suc (2 * j)) ls ≡ b ∷ drop (suc (suc (2 * j))) ls = rw q (drop-cons ls (suc (2 * j)) 0 (omega arith)) in
      let r : 2 * (j + 1) ≡ suc (suc (2 * j)) = omega arith in
      let o : a / 1 ≡ a = omega arith in
      let p : 14 + 3 * (j + 1) ≡ 14 + 3 * j + 3 = omega arith in
      let t : put_at l (14 + 3 * j) (a % 256 ∷ (a / 256 % 16 + 16 * (b % 16)) ∷ b / 16 % 256 ∷ bytes12 (drop (suc (suc (2 * j))) ls)) ≡ goal = rw (d, d2) at e in
      rw (p, o, r) (put_three l (bytes12 (drop (suc (suc (2 * j))) ls)) (14 + 3 * j) (15 + 3 * j) (16 + 3 * j) (a % 256) (a / 256 % 16 + 16 * (b % 16)) (b / 16 % 256) (omega arith) (omega arith) (omega arith) ∙ t)

  -- an odd last one
  pub last12 : 15 + 3 * j < length l → 2 * j + 1 ≡ length ls → put_at l (14 + 3 * j) (bytes12 (drop (2 * j) ls)) ≡ goal
      → set (set l (14 + 3 * j) (get_or ls (2 * j) 0 / 1 % 256)) (15 + 3 * j) (get_or ls (2 * j) 0 / 256 % 16 + 16 * (0 % 16)) ≡ goal
  unfolding bytes12
  last12 h m e =
      let a = get_or ls (2 * j) 0 in
      let d : drop (2 * j) ls ≡ a ∷ drop (suc (2 * j)) ls = drop-cons ls (2 * j) 0 (omega arith) in
      let d2 : drop (suc (2 * j)) ls ≡ [] = drop_of_length-le ls {i = suc (2 * j)} (omega arith) in
      let o : a / 1 ≡ a = omega arith in
      let z : a / 256 % 16 + 16 * (0 % 16) ≡ a / 256 % 16 = omega arith in
      let t : put_at l (14 + 3 * j) (a % 256 ∷ a / 256 % 16 ∷ []) ≡ goal = rw (d, d2) at e in
      rw (o, z) (sym (put-nil (set (set l (14 + 3 * j) (a % 256)) (15 + 3 * j) (a / 256 % 16)) (14 + 3 * j + 2)) ∙ put_two l [] (14 + 3 * j) (15 + 3 * j) (a % 256) (a / 256 % 16) (omega arith) (omega arith) ∙ t)

-- nothing is left
pub done : (l goal w : List ℕ) (at : ℕ) → w ≡ [] → put_at l at w ≡ goal → l ≡ goal
done l goal w at e t = let u : put_at l at [] ≡ goal = rw e at t in sym (put-nil l at) ∙ u

pub none16 : (ls : List ℕ) (k : ℕ) → length ls ≤ k → bytes16 (drop k ls) ≡ []
unfolding bytes16
none16 ls k h = rw (drop_of_length-le ls {i = k} h)

pub none12 : (ls : List ℕ) (k : ℕ) → length ls ≤ k → bytes12 (drop k ls) ≡ []
unfolding bytes12
none12 ls k h = rw (drop_of_length-le ls {i = k} h)
