-- Laws of the distance of two words.
use mathlib.Core.Path.{◌≡◌, refl, sym, ◌∙◌}
use mathlib.Core.List.{List, [], ◌∷◌, ◌++◌}
use mathlib.Core.Bool.{Bool, true, false, cond}
use Prim.Native.Nat.{ℕ, zero, suc, ◌+◌, ◌≤◌, ◌<◌}
use native.Mathlib.Omega.{arith}
use lib.ListN.{length, get_or, set}
use lib.Dec.{eqb}
use borrow.Author.Tests.{eq-eqb, eqb-true, eqb-false}
use Rattle.algebra.specs.Places.{All}
use Rattle.header.specs.Header.{distance}

-- the distance of words whose first bytes are equal or not, and whose others differ in d places
abbrev pub count : Bool → ℕ → ℕ
count b d = cond b d (suc d)

pub count-le : (b : Bool) (d e : ℕ) → d ≤ e → count b d ≤ suc e
count-le true d e l = omega arith
count-le false d e l = omega arith

count-mono : (b : Bool) (d e : ℕ) → d ≤ suc e → count b d ≤ suc (count b e)
count-mono true d e l = l
count-mono false d e l = omega arith

le-count : (b : Bool) (d : ℕ) → d ≤ count b d
le-count true d = omega arith
le-count false d = omega arith

-- One entry changed brings a word nearer by at most one.
pub distance-set : (w c : List ℕ) (i u : ℕ) → distance w c ≤ suc (distance (set w i u) c)
unfolding distance
distance-set [] c i u = omega arith
distance-set (x ∷ w) [] i u = omega arith
distance-set (x ∷ w) (y ∷ c) zero u =
    let a : count (eqb x y) (distance w c) ≤ suc (distance w c) = count-le (eqb x y) _ _ (omega arith) in
    let b : distance w c ≤ count (eqb u y) (distance w c) = le-count (eqb u y) _ in omega arith
distance-set (x ∷ w) (y ∷ c) (suc i) u = count-mono (eqb x y) _ _ (distance-set w c i u)

-- A word at a distance over 0 is brought nearer by one of its entries.
pub record Nearer (w c : List ℕ) (d : ℕ) : Type 0 where
  pub place : ℕ
  pub inside : place < length w
  pub closer : distance (set w place (get_or c place 0)) c ≡ d

pub nearer : (w c : List ℕ) (d : ℕ) → distance w c ≡ suc d → Nearer w c d
unfolding distance
nearer [] c d e = absurd (omega arith)
nearer (x ∷ w) [] d e = absurd (omega arith)
nearer (x ∷ w) (y ∷ c) d e = go (eqb x y) refl e (λ p. nearer w c d p)
  where
    go : (b : Bool) → eqb x y ≡ b → count b (distance w c) ≡ suc d → (distance w c ≡ suc d → Nearer w c d) → Nearer (x ∷ w) (y ∷ c) d
    go true p l r =
        let n : Nearer w c d = r l in
        record { place = suc n.place; inside = (let i : n.place < length w = n.inside in omega arith); closer = rw p n.closer }
    go false p l r = record { place = 0; inside = omega arith; closer = rw (eq-eqb y y refl) (omega arith) }

pub distance_self : (w : List ℕ) → distance w w ≡ 0
unfolding distance
distance_self [] = refl
distance_self (x ∷ w) = rw (eq-eqb x x refl) (distance_self w)

pub distance-zero : (w c : List ℕ) → length c ≡ length w → distance w c ≡ 0 → w ≡ c
unfolding distance
distance-zero [] [] l e = refl
distance-zero [] (y ∷ c) l e = absurd (omega arith)
distance-zero (x ∷ w) [] l e = absurd (omega arith)
distance-zero (x ∷ w) (y ∷ c) l e = go (eqb x y) refl e (λ p. distance-zero w c (omega arith) p)
  where
    go : (b : Bool) → eqb x y ≡ b → count b (distance w c) ≡ 0 → (distance w c ≡ 0 → w ≡ c) → x ∷ w ≡ y ∷ c
    go true p z r = let h : x ≡ y = eqb-true x y p in let t : w ≡ c = r z in cc
    go false p z r = absurd (omega arith)

pub triangle-step : (x y z : ℕ) (d e f : ℕ) → f ≤ d + e → count (eqb y z) f ≤ count (eqb x y) d + count (eqb x z) e
triangle-step x y z d e f l = go (eqb x y) refl (eqb x z) refl (eqb y z) refl
  where
    go : (a : Bool) → eqb x y ≡ a → (b : Bool) → eqb x z ≡ b → (c : Bool) → eqb y z ≡ c → count c f ≤ count a d + count b e
    go true p true q true r = l
    go true p true q false r = absurd (eqb-false y z r (sym (eqb-true x y p) ∙ eqb-true x z q))
    go true p false q true r = omega arith
    go true p false q false r = omega arith
    go false p true q true r = omega arith
    go false p true q false r = omega arith
    go false p false q true r = omega arith
    go false p false q false r = omega arith

pub triangle : (w b c : List ℕ) → length b ≡ length w → length c ≡ length w → distance b c ≤ distance w b + distance w c
unfolding distance
triangle w [] c l m = omega arith
triangle [] (y ∷ b) c l m = absurd (omega arith)
triangle (x ∷ w) (y ∷ b) [] l m = omega arith
triangle (x ∷ w) (y ∷ b) (z ∷ c) l m = triangle-step x y z _ _ _ (triangle w b c (omega arith) (omega arith))

pub all_set : (q : ℕ) (w : List ℕ) (i u : ℕ) → u < q → All (λ x. x < q) w → All (λ x. x < q) (set w i u)
all_set q [] i u l a = tt
all_set q (x ∷ w) zero u l a = (l, a.1)
all_set q (x ∷ w) (suc i) u l a = (a.0, all_set q w i u l a.1)

pub all-at : (q : ℕ) (w : List ℕ) (i : ℕ) → i < length w → All (λ x. x < q) w → get_or w i 0 < q
all-at q [] i l a = absurd (omega arith)
all-at q (x ∷ w) zero l a = a.0
all-at q (x ∷ w) (suc i) l a = all-at q w i (omega arith) a.1

-- words that agree from some byte on differ in no more bytes than stand before it
pub distance-front : (p q m : List ℕ) → length p ≡ length q → distance (p ++ m) (q ++ m) ≤ length p
unfolding distance
distance-front [] [] m l = let z : distance m m ≡ 0 = distance_self m in omega arith
distance-front [] (y ∷ q) m l = absurd (omega arith)
distance-front (x ∷ p) [] m l = absurd (omega arith)
distance-front (x ∷ p) (y ∷ q) m l = count-le (eqb x y) _ _ (distance-front p q m (omega arith))
