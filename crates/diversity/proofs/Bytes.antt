-- Lists of bytes that are the same.
use mathlib.Core.Path.{◌≡◌, refl, sym, ap, ap₂, ◌∙◌}
use mathlib.Core.Bool.{Bool, true, false, ◌&&◌}
use mathlib.Core.List.{List, [], ◌∷◌}
use Prim.Native.Nat.{ℕ, zero, suc, ◌+◌, ◌<◌}
use native.Mathlib.Numerals.{add-one}
use native.Mathlib.Omega.{arith}
use lib.Dec.{eqb}
use lib.ListN.{length, get_or, take}
use lib.Seq.{take_all}
use Rattle.packet_log.specs.Log.{same_list}

pub and_comm : (a b : Bool) → (a && b) ≡ (b && a)
and_comm true true = refl
and_comm true false = refl
and_comm false true = refl
and_comm false false = refl

and_assoc : (a b c : Bool) → (a && (b && c)) ≡ ((a && b) && c)
and_assoc true b c = refl
and_assoc false b c = refl

and-true : (a : Bool) → (a && true) ≡ a
and-true true = refl
and-true false = refl

-- lists of two lengths are not
pub same-lengths : (k l : List ℕ) → ¬ (length k ≡ length l) → false ≡ same_list k l
unfolding same_list
same-lengths [] [] n = absurd (n refl)
same-lengths [] (b ∷ l) n = refl
same-lengths (a ∷ k) [] n = refl
same-lengths (a ∷ k) (b ∷ l) n = and-false (eqb a b) ∙ ap (λ (t : Bool). eqb a b && t) (same-lengths k l (λ e. n (ap suc e)))
  where
    and-false : (t : Bool) → false ≡ (t && false)
    and-false true = refl
    and-false false = refl

-- one byte more
same_more : (i : ℕ) (k l : List ℕ) → i < length k → i < length l → (same_list (take i k) (take i l) && eqb (get_or k i 0) (get_or l i 0)) ≡ same_list (take (suc i) k) (take (suc i) l)
unfolding same_list
same_more i [] l h g = absurd (omega arith)
same_more i (a ∷ k) [] h g = absurd (omega arith)
same_more zero (a ∷ k) (b ∷ l) h g = sym (and-true (eqb a b))
same_more (suc i) (a ∷ k) (b ∷ l) h g =
    sym (and_assoc (eqb a b) (same_list (take i k) (take i l)) (eqb (get_or k i 0) (get_or l i 0))) ∙ ap (λ (t : Bool). eqb a b && t) (same_more i k l (omega arith) (omega arith))

pub same_turn : (i : ℕ) (k l : List ℕ) (same : Bool) → i < length k → length k ≡ length l → same ≡ same_list (take i k) (take i l)
    → (same && eqb (get_or k i 0) (get_or l i 0)) ≡ same_list (take (i + 1) k) (take (i + 1) l)
same_turn i k l same h e s =
    ap (λ (t : Bool). t && eqb (get_or k i 0) (get_or l i 0)) s ∙ same_more i k l h (omega arith) ∙ ap (λ (n : ℕ). same_list (take n k) (take n l)) (sym (add-one i))

pub same_start : (k l : List ℕ) → true ≡ same_list (take 0 k) (take 0 l)
unfolding same_list
same_start k l = refl

pub same_end : (i : ℕ) (k l : List ℕ) (same : Bool) → i ≡ length k → length k ≡ length l → same ≡ same_list (take i k) (take i l) → same ≡ same_list k l
same_end i k l same h e s = s ∙ ap₂ same_list (take_all i k (omega arith)) (take_all i l (omega arith))
