-- Laws of a list put into another from a place on.
use mathlib.Core.Path.{◌≡◌, refl, ap, sym, ◌∙◌}
use Prim.Native.Nat.{ℕ, suc, zero, ◌+◌, ◌-◌, ◌≤◌, ◌<◌}
use mathlib.Core.List.{List, [], ◌∷◌, ◌++◌, append_assoc, append-nil}
use native.Mathlib.Omega.{arith}
use native.Mathlib.Numerals.{add-one}
use native.Mathlib.Nat.{add-zero, add_assoc}
use lib.ListN.{length, take, drop, get_or, set, replicate, take-append-drop, drop_of_length-le, length-drop, length-append, length-set}
use lib.Seq.{drop-cons, drop-drop, take_at, length-take-le, drop-append-add, set_split}
use Rattle.buffer.specs.Buffer.{put_at}

-- the length stays
pub put-length : (l : List ℕ) (k : ℕ) (w : List ℕ) → k + length w ≤ length l → length (put_at l k w) ≡ length l
unfolding put_at
put-length l k w h =
    let h' : k ≤ length l = omega arith in
    simp (length-append, length-drop, length-take-le k l h') (omega arith)

-- two lists put one after the other
pub put-put : (l : List ℕ) (k : ℕ) (v w : List ℕ) → k + length v ≤ length l → put_at (put_at l k v) (k + length v) w ≡ put_at l k (v ++ w)
unfolding put_at
put-put l k v w h =
    let h' : k ≤ length l = omega arith in
    let p : length (take k l ++ v) ≡ k + length v = simp (length-append, length-take-le k l h') in
    let q : take (k + length v) ((take k l ++ v) ++ drop (k + length v) l) ≡ take k l ++ v = take_at (take k l ++ v) (drop (k + length v) l) (k + length v) p in
    let d : drop (k + length v + length w) ((take k l ++ v) ++ drop (k + length v) l) ≡ drop (k + length v + length w) l =
    ap (λ (n : ℕ). drop (n + length w) ((take k l ++ v) ++ drop (k + length v) l)) (sym p) ∙ drop-append-add (take k l ++ v) (drop (k + length v) l) (length w) ∙ drop-drop (length w) (k + length v) l in
    ap (λ (r : List ℕ). r ++ w ++ drop (k + length v + length w) ((take k l ++ v) ++ drop (k + length v) l)) q
    ∙ ap (λ (r : List ℕ). take k l ++ v ++ w ++ r) d
    ∙ simp (length-append, append_assoc, add_assoc)

-- the same, as a call after another says it
pub put_then : (l l1 l2 v w : List ℕ) (k m : ℕ) → k + length v ≤ length l → m ≡ k + length v → l1 ≡ put_at l k v → l2 ≡ put_at l1 m w → l2 ≡ put_at l k (v ++ w)
put_then l l1 l2 v w k m h e f g = g ∙ ap (λ (r : List ℕ). put_at r m w) f ∙ ap (λ (r : ℕ). put_at (put_at l k v) r w) e ∙ put-put l k v w h

-- nothing put
pub put-nil : (l : List ℕ) (k : ℕ) → put_at l k [] ≡ l
unfolding put_at
put-nil l k = rw (add-zero k, append-nil (take k l)) (take-append-drop k l)

-- a list as long put in its place
pub put_all : (l w : List ℕ) → length w ≡ length l → put_at l 0 w ≡ w
unfolding put_at
put_all l w e =
    let d : drop (0 + length w) l ≡ [] = drop_of_length-le l {i = 0 + length w} (omega arith) in
    rw (d, append-nil w)

-- what a list that was put at the front of another begins with
pub take_put : (l w : List ℕ) → take (length w) (put_at l 0 w) ≡ w
unfolding put_at
take_put l w = take_at w (drop (0 + length w) l) (length w) refl

-- a store is a list of one put
pub put_one : (l : List ℕ) (k v : ℕ) → k < length l → set l k v ≡ put_at l k (v ∷ [])
unfolding put_at
put_one l k v h = set_split l k v h ∙ rw (add-one k) (sym (append_assoc (take k l) (v ∷ []) (drop (suc k) l)))

-- a store, and a list after it
pub put-cons : (l w : List ℕ) (k v : ℕ) → k < length l → put_at (set l k v) (k + 1) w ≡ put_at l k (v ∷ w)
put-cons l w k v h = put_then l (set l k v) (put_at (set l k v) (k + 1) w) (v ∷ []) w k (k + 1) (omega arith) refl (put_one l k v h) refl

-- ---- a copy, entry by entry

-- a turn stores the first of the entries that are left; w is what the whole comes to
pub put-turn : (w l s : List ℕ) (k j v : ℕ) → k < length l → j < length s → v ≡ get_or s j 0 → put_at l k (drop j s) ≡ w → put_at (set l k v) (k + 1) (drop (j + 1) s) ≡ w
put-turn w l s k j v h more e i = rw (add-one j) (put-cons l (drop (suc j) s) k v h ∙ rw (e, ← drop-cons s j 0 more) i)

pub put-end : (w l s : List ℕ) (k j : ℕ) → length s ≤ j → put_at l k (drop j s) ≡ w → l ≡ w
put-end w l s k j all i =
    let e : drop j s ≡ [] = drop_of_length-le s all in
    sym (put-nil l k) ∙ rw e at i

-- j entries of s are at their places
abbrev pub Copied : List ℕ → ℕ → List ℕ → List ℕ → ℕ → Type 0
Copied l₀ at s l j = (j ≤ length s) × (put_at l (at + j) (drop j s) ≡ put_at l₀ at s) × (length l ≡ length l₀)

pub copy_start : (l s : List ℕ) (at : ℕ) → Copied l at s l 0
copy_start l s at = (omega arith, rw add-zero refl, refl)

pub copy-turn : (l₀ l s : List ℕ) (at j v : ℕ) → at + length s ≤ length l₀ → j < length s → v ≡ get_or s j 0 → Copied l₀ at s l j → Copied l₀ at s (set l (at + j) v) (j + 1)
copy-turn l₀ l s at j v room more e (b, i, n) =
    let k : at + (j + 1) ≡ at + j + 1 = omega arith in
    (omega arith, rw k (put-turn (put_at l₀ at s) l s (at + j) j v (omega arith) more e i), simp length-set n)

pub copy-end : (l₀ l s : List ℕ) (at j : ℕ) → length s ≤ j → Copied l₀ at s l j → l ≡ put_at l₀ at s
copy-end l₀ l s at j all (b, i, n) = put-end (put_at l₀ at s) l s (at + j) j all i

-- the first bytes kept, and more after them
pub put_front : (l w : List ℕ) (k : ℕ) → k ≤ length l → put_at l k w ≡ put_at l 0 (take k l ++ w)
unfolding put_at
put_front l w k h =
    let e : length (take k l ++ w) ≡ k + length w = simp (length-append, length-take-le k l h) in
    let z : 0 + (k + length w) ≡ k + length w = omega arith in
    rw (e, z)

-- a list put into zeros
pub put-zeros : (n k : ℕ) (w : List ℕ) → k + length w ≤ n → put_at (replicate n 0) k w ≡ replicate k 0 ++ (w ++ replicate (n - (k + length w)) 0)
unfolding put_at
put-zeros n k w h =
    let t : take k (replicate {A = ℕ} n 0) ≡ replicate k 0 = take-zeros k n (omega arith) in
    let d : drop (k + length w) (replicate {A = ℕ} n 0) ≡ replicate (n - (k + length w)) 0 = drop-zeros (k + length w) n in
    rw (t, d) (append_assoc (replicate k 0) w (replicate (n - (k + length w)) 0))
  where
    take-zeros : (k n : ℕ) → k ≤ n → take k (replicate {A = ℕ} n 0) ≡ replicate k 0
    take-zeros zero n h = refl
    take-zeros (suc k) zero h = absurd (omega arith)
    take-zeros (suc k) (suc n) h = ap (λ (r : List ℕ). 0 ∷ r) (take-zeros k n (omega arith))

    drop-zeros : (k n : ℕ) → drop k (replicate {A = ℕ} n 0) ≡ replicate (n - k) 0
    drop-zeros zero n = let e : n - 0 ≡ n = omega arith in rw e
    drop-zeros (suc k) zero = let e : 0 - suc k ≡ 0 = omega arith in rw e
    drop-zeros (suc k) (suc n) = let e : suc n - suc k ≡ n - k = omega arith in rw e (drop-zeros k n)
