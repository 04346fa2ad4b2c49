-- Rows of the table: what is known of the others where one applies, or none does.
use mathlib.Core.Path.{◌≡◌, refl, sym, subst, ◌∙◌}
use mathlib.Core.Bool.{Bool, true, false, not, ◌&&◌}
use mathlib.Core.List.{List, [], ◌∷◌, ◌++◌}
use Prim.Native.Nat.{ℕ, zero, suc}
use lib.Dec.{eqb, T}
use borrow.Author.Tests.{eq-eqb}
use lib.ListN.{get_or, drop}
use Rattle.refusal.specs.Refusal.{first_of, any_of}

-- no row has this number
abbrev pub without : ℕ → List (Bool × ℕ) → Bool
without n [] = true
without n (t ∷ ts) = not (eqb t.1 n) && without n ts

other : (k n : ℕ) (b : Bool) → (not (eqb k n) && b) ≡ true → (¬ (k ≡ n)) × (b ≡ true)
other k n b = go (eqb k n) refl
  where
    go : (t : Bool) → eqb k n ≡ t → (not t && b) ≡ true → (¬ (k ≡ n)) × (b ≡ true)
    go true e h = absurd (subst T (sym h) tt)
    go false e h = ((λ q. absurd (subst T (sym (sym e ∙ eq-eqb k n q)) tt)), h)

-- where the number of later rows is given, none of these applies
pub passed : (n : ℕ) (ts us : List (Bool × ℕ)) → without n ts ≡ true → first_of (ts ++ us) ≡ n → (first_of ts ≡ 0) × (first_of us ≡ n)
passed n [] us w e = (refl, e)
passed n ((true, k) ∷ ts) us w e = absurd ((other k n (without n ts) w).0 e)
passed n ((false, k) ∷ ts) us w e = passed n ts us (other k n (without n ts) w).1 e

-- none of these applies: the number is that of the later rows
pub past : (ts us : List (Bool × ℕ)) → without 0 ts ≡ true → first_of ts ≡ 0 → first_of (ts ++ us) ≡ first_of us
past [] us w e = refl
past ((true, k) ∷ ts) us w e = absurd ((other k 0 (without 0 ts) w).0 e)
past ((false, k) ∷ ts) us w e = past ts us (other k 0 (without 0 ts) w).1 e

-- none applies: not this one, nor one of those after it
pub row-off : (ts : List (Bool × ℕ)) (k : ℕ) → without 0 ts ≡ true → first_of ts ≡ 0 → (get_or ts k (false, 0)).0 ≡ false
row-off [] k w e = refl
row-off ((true, n) ∷ ts) k w e = absurd ((other n 0 (without 0 ts) w).0 e)
row-off ((false, n) ∷ ts) zero w e = refl
row-off ((false, n) ∷ ts) (suc k) w e = row-off ts k (other n 0 (without 0 ts) w).1 e

pub rest-off : (ts : List (Bool × ℕ)) (k : ℕ) → without 0 ts ≡ true → first_of ts ≡ 0 → first_of (drop k ts) ≡ 0
rest-off ts zero w e = e
rest-off [] (suc k) w e = refl
rest-off ((true, n) ∷ ts) (suc k) w e = absurd ((other n 0 (without 0 ts) w).0 e)
rest-off ((false, n) ∷ ts) (suc k) w e = rest-off ts k (other n 0 (without 0 ts) w).1 e

-- a number that no row has is not given
pub never : (n : ℕ) (ts : List (Bool × ℕ)) → eqb n 0 ≡ false → without n ts ≡ true → ¬ (first_of ts ≡ n)
never n [] z w e = absurd (subst T (sym (sym z ∙ eq-eqb n 0 (sym e))) tt)
never n ((true, k) ∷ ts) z w e = absurd ((other k n (without n ts) w).0 e)
never n ((false, k) ∷ ts) z w e = never n ts z (other k n (without n ts) w).1 e

-- where the number of one row is given, that row applies
pub row_on : (b : Bool) (n : ℕ) (ts us : List (Bool × ℕ)) → eqb n 0 ≡ false → without n ts ≡ true → without n us ≡ true → first_of (ts ++ (b, n) ∷ us) ≡ n → b ≡ true
row_on b n ts us z w v e = go b (passed n ts ((b, n) ∷ us) w e).1
  where
    go : (t : Bool) → first_of ((t, n) ∷ us) ≡ n → t ≡ true
    go true h = refl
    go false h = absurd (never n us z v h)

pub last_on : (b : Bool) (n : ℕ) → eqb n 0 ≡ false → first_of ((b, n) ∷ []) ≡ n → b ≡ true
last_on b n z e = row_on b n [] [] z refl refl e

-- none of several causes applies
pub none-at : (ts : List Bool) (k : ℕ) → any_of ts ≡ false → get_or ts k false ≡ false
none-at [] k e = refl
none-at (t ∷ []) zero e = e
none-at (t ∷ []) (suc k) e = refl
none-at (true ∷ u ∷ ts) k e = absurd (subst T e tt)
none-at (false ∷ u ∷ ts) zero e = refl
none-at (false ∷ u ∷ ts) (suc k) e = none-at (u ∷ ts) k e
