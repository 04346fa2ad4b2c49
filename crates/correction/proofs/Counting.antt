-- How many places pass a test, and the distance as such a count.
use mathlib.Core.Path.{◌≡◌, refl}
use mathlib.Core.Bool.{Bool, true, false, not}
use mathlib.Core.List.{List, [], ◌∷◌}
use Prim.Native.Nat.{ℕ, zero, suc, ◌+◌, ◌<◌, ◌≤◌}
use native.Mathlib.Omega.{arith}
use lib.Dec.{eqb}
use lib.ListN.{length, get_or}
use Rattle.algebra.specs.Places.{below, cons_if, keep}
use Rattle.algebra.proofs.Places.{one, front}
use Rattle.header.specs.Header.{distance}
use Rattle.header.proofs.Distances.{count}

pub keep_same : (t u : ℕ → Bool) (n : ℕ) → ((i : ℕ) → i < n → t i ≡ u i) → keep t (below n) ≡ keep u (below n)
keep_same t u zero e = refl
keep_same t u (suc n) e =
    let h : t n ≡ u n = e n (omega arith) in
    let r : keep t (below n) ≡ keep u (below n) = keep_same t u n (λ i l. e i (omega arith)) in
    rw (h, r)

pub one-cons : (b : Bool) (i : ℕ) (is : List ℕ) → length (cons_if b i is) ≡ one b + length is
one-cons true i is = omega arith
one-cons false i is = omega arith

pub keep-sum : (t u v : ℕ → Bool) (n : ℕ) → ((i : ℕ) → i < n → one (t i) ≤ one (u i) + one (v i))
    → length (keep t (below n)) ≤ length (keep u (below n)) + length (keep v (below n))
keep-sum t u v zero h = omega arith
keep-sum t u v (suc n) h =
    let a : length (keep t (below (suc n))) ≡ one (t n) + length (keep t (below n)) = one-cons (t n) n (keep t (below n)) in
    let b : length (keep u (below (suc n))) ≡ one (u n) + length (keep u (below n)) = one-cons (u n) n (keep u (below n)) in
    let c : length (keep v (below (suc n))) ≡ one (v n) + length (keep v (below n)) = one-cons (v n) n (keep v (below n)) in
    let d : one (t n) ≤ one (u n) + one (v n) = h n (omega arith) in
    let e : length (keep t (below n)) ≤ length (keep u (below n)) + length (keep v (below n)) = keep-sum t u v n (λ i l. h i (omega arith)) in
    omega arith

pub keep-le : (t u : ℕ → Bool) (n : ℕ) → ((i : ℕ) → i < n → one (t i) ≤ one (u i)) → length (keep t (below n)) ≤ length (keep u (below n))
keep-le t u zero h = omega arith
keep-le t u (suc n) h =
    let a : length (keep t (below (suc n))) ≡ one (t n) + length (keep t (below n)) = one-cons (t n) n (keep t (below n)) in
    let b : length (keep u (below (suc n))) ≡ one (u n) + length (keep u (below n)) = one-cons (u n) n (keep u (below n)) in
    let d : one (t n) ≤ one (u n) = h n (omega arith) in
    let e : length (keep t (below n)) ≤ length (keep u (below n)) = keep-le t u n (λ i l. h i (omega arith)) in
    omega arith

pub keep-add : (t u v : ℕ → Bool) (n : ℕ) → ((i : ℕ) → i < n → one (t i) ≡ one (u i) + one (v i))
    → length (keep t (below n)) ≡ length (keep u (below n)) + length (keep v (below n))
keep-add t u v zero h = refl
keep-add t u v (suc n) h =
    let a : length (keep t (below (suc n))) ≡ one (t n) + length (keep t (below n)) = one-cons (t n) n (keep t (below n)) in
    let b : length (keep u (below (suc n))) ≡ one (u n) + length (keep u (below n)) = one-cons (u n) n (keep u (below n)) in
    let c : length (keep v (below (suc n))) ≡ one (v n) + length (keep v (below n)) = one-cons (v n) n (keep v (below n)) in
    let d : one (t n) ≡ one (u n) + one (v n) = h n (omega arith) in
    let e : length (keep t (below n)) ≡ length (keep u (below n)) + length (keep v (below n)) = keep-add t u v n (λ i l. h i (omega arith)) in
    omega arith

pub keep-none : (t : ℕ → Bool) (n : ℕ) → ((i : ℕ) → i < n → t i ≡ false) → length (keep t (below n)) ≡ 0
keep-none t zero h = refl
keep-none t (suc n) h =
    let e : t n ≡ false = h n (omega arith) in
    let r : length (keep t (below n)) ≡ 0 = keep-none t n (λ i l. h i (omega arith)) in
    rw e r

count-one : (b : Bool) (d : ℕ) → count b d ≡ one (not b) + d
count-one true d = omega arith
count-one false d = omega arith

-- the distance is the count of the places that differ
pub distance-count : (u v : List ℕ) → length v ≡ length u → distance u v ≡ length (keep (λ i. not (eqb (get_or u i 0) (get_or v i 0))) (below (length u)))
unfolding distance
distance-count [] v l = refl
distance-count (x ∷ u) [] l = absurd (omega arith)
distance-count (x ∷ u) (y ∷ v) l =
    let f : length (keep (λ i. not (eqb (get_or (x ∷ u) i 0) (get_or (y ∷ v) i 0))) (below (suc (length u))))
    ≡ one (not (eqb x y)) + length (keep (λ i. not (eqb (get_or u i 0) (get_or v i 0))) (below (length u)))
    = front (λ i. not (eqb (get_or (x ∷ u) i 0) (get_or (y ∷ v) i 0))) (length u) in
    let g : distance u v ≡ length (keep (λ i. not (eqb (get_or u i 0) (get_or v i 0))) (below (length u))) = distance-count u v (omega arith) in
    let k : count (eqb x y) (distance u v) ≡ one (not (eqb x y)) + distance u v = count-one (eqb x y) _ in
    omega arith
