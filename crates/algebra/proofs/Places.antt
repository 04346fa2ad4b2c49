-- Laws of the lists of places.
use mathlib.Core.Path.{◌≡◌, refl, ap}
use mathlib.Core.Bool.{Bool, true, false}
use mathlib.Core.List.{List, [], ◌∷◌, ◌++◌}
use Prim.Native.Nat.{ℕ, zero, suc, ◌+◌, ◌<◌}
use native.Mathlib.Decide.{ℕ_discrete}
use native.Mathlib.Omega.{arith}
use lib.ListN.{length, get_or}
use Rattle.algebra.specs.Places.{All, below, cons_if, keep}

pub all_map {ℓ} : {A : Type ℓ} (P Q : A → Type 0) → ((x : A) → P x → Q x) → (xs : List A) → All P xs → All Q xs
all_map P Q f [] a = tt
all_map P Q f (x ∷ xs) a = (f x a.0, all_map P Q f xs a.1)

pub all_both {ℓ} : {A : Type ℓ} (P Q R : A → Type 0) → ((x : A) → P x → Q x → R x) → (xs : List A) → All P xs → All Q xs → All R xs
all_both P Q R f [] a b = tt
all_both P Q R f (x ∷ xs) a b = (f x a.0 b.0, all_both P Q R f xs a.1 b.1)

pub all_back {ℓ} : {A : Type ℓ} (P : A → Type 0) (xs ys : List A) → All P (xs ++ ys) → All P ys
all_back P [] ys a = a
all_back P (x ∷ xs) ys a = all_back P xs ys a.1

pub all_join {ℓ} : {A : Type ℓ} (P : A → Type 0) (xs ys : List A) → All P xs → All P ys → All P (xs ++ ys)
all_join P [] ys a b = b
all_join P (x ∷ xs) ys a b = (a.0, all_join P xs ys a.1 b)

pub all-below : (P : ℕ → Type 0) (n : ℕ) → ((i : ℕ) → i < n → P i) → All P (below n)
all-below P zero f = tt
all-below P (suc n) f = (f n (omega arith), all-below P n (λ i l. f i (omega arith)))

pub below_all : (P : ℕ → Type 0) (n : ℕ) → All P (below n) → (i : ℕ) → i < n → P i
below_all P zero a i l = absurd (omega arith)
below_all P (suc n) a i l = go (ℕ_discrete n i) (λ m. below_all P n a.1 i m)
  where
    go : Dec (n ≡ i) → (i < n → P i) → P i
    go (yes q) rec = rw q at a.0
    go (no q) rec = rec (omega arith)

module _ (t : ℕ → Bool) where
  pub keep_all : (P : ℕ → Type 0) (is : List ℕ) → All P is → All P (keep t is)
  keep_all P [] a = tt
  keep_all P (i ∷ is) a = go (t i) (keep_all P is a.1)
    where
      go : (b : Bool) → All P (keep t is) → All P (cons_if b i (keep t is))
      go true r = (a.0, r)
      go false r = r

  pub kept : (is : List ℕ) → All (λ i. t i ≡ true) (keep t is)
  kept [] = tt
  kept (i ∷ is) = go (t i) refl (kept is)
    where
      go : (b : Bool) → t i ≡ b → All (λ k. t k ≡ true) (keep t is) → All (λ k. t k ≡ true) (cons_if b i (keep t is))
      go true e r = (e, r)
      go false e r = r

pub all_get_d : (P : ℕ → Type 0) (is : List ℕ) → All P is → (k : ℕ) → k < length is → P (get_or is k 0)
all_get_d P [] a k l = absurd (omega arith)
all_get_d P (i ∷ is) a zero l = a.0
all_get_d P (i ∷ is) a (suc k) l = all_get_d P is a.1 k (omega arith)

-- The places kept of those below n are below n, and fall.
pub kept-below : (t : ℕ → Bool) (n k : ℕ) → k < length (keep t (below n)) → get_or (keep t (below n)) k 0 < n
kept-below t n k l = all_get_d (λ i. i < n) (keep t (below n)) (keep_all t (λ i. i < n) (below n) (all-below (λ i. i < n) n (λ i b. b))) k l

pub kept-fall : (t : ℕ → Bool) (n j k : ℕ) → j < k → k < length (keep t (below n)) → get_or (keep t (below n)) k 0 < get_or (keep t (below n)) j 0
kept-fall t zero j k h l = absurd (omega arith)
kept-fall t (suc n) j k h l = go (t n) j k h l (λ j k h l. kept-fall t n j k h l)
  where
    go : (b : Bool) (j k : ℕ) → j < k → k < length (cons_if b n (keep t (below n)))
        → ((j k : ℕ) → j < k → k < length (keep t (below n)) → get_or (keep t (below n)) k 0 < get_or (keep t (below n)) j 0)
        → get_or (cons_if b n (keep t (below n))) k 0 < get_or (cons_if b n (keep t (below n))) j 0
    go false j k h l rec = rec j k h l
    go true zero zero h l rec = absurd (omega arith)
    go true zero (suc k) h l rec = kept-below t n k (omega arith)
    go true (suc j) zero h l rec = absurd (omega arith)
    go true (suc j) (suc k) h l rec = rec j k (omega arith) (omega arith)

-- A place kept, and the places before and after it.
pub record Split (is : List ℕ) (i : ℕ) : Type 0 where
  pub pre : List ℕ
  pub post : List ℕ
  pub whole : is ≡ pre ++ i ∷ post

pub split : (t : ℕ → Bool) (n i : ℕ) → i < n → t i ≡ true → Split (keep t (below n)) i
split t zero i l e = absurd (omega arith)
split t (suc n) i l e = go (t n) refl (ℕ_discrete i n) (λ m. split t n i m e)
  where
    go : (b : Bool) → t n ≡ b → Dec (i ≡ n) → (i < n → Split (keep t (below n)) i) → Split (cons_if b n (keep t (below n))) i
    go true p (yes q) r = record { pre = []; post = keep t (below n); whole = rw q }
    go false p (yes q) r = let z : t n ≡ true = (rw q at e) in let y : ◌≡◌ {A = ℕ} 0 1 = cc in absurd (omega arith)
    go true p (no q) r = let s : Split (keep t (below n)) i = r (omega arith) in record { pre = n ∷ s.pre; post = s.post; whole = ap (λ (k : List ℕ). n ∷ k) s.whole }
    go false p (no q) r = r (omega arith)

-- How many places pass a test, counted from the front.
abbrev pub one : Bool → ℕ
one true = 1
one false = 0

one-cons : (b : Bool) (i : ℕ) (is : List ℕ) → length (cons_if b i is) ≡ one b + length is
one-cons true i is = omega arith
one-cons false i is = omega arith

pub front : (t : ℕ → Bool) (n : ℕ) → length (keep t (below (suc n))) ≡ one (t 0) + length (keep (λ i. t (suc i)) (below n))
front t zero = one-cons (t 0) 0 []
front t (suc n) =
    let a : length (keep t (below (suc (suc n)))) ≡ one (t (suc n)) + length (keep t (below (suc n))) = one-cons (t (suc n)) (suc n) (keep t (below (suc n))) in
    let b : length (keep t (below (suc n))) ≡ one (t 0) + length (keep (λ i. t (suc i)) (below n)) = front t n in
    let d : length (keep (λ i. t (suc i)) (below (suc n))) ≡ one (t (suc n)) + length (keep (λ i. t (suc i)) (below n)) = one-cons (t (suc n)) n (keep (λ i. t (suc i)) (below n)) in
    omega arith
