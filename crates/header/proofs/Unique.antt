-- The header code in the field: syndromes are power sums over the 96 places, so that two code words that differ in at
-- most eight bytes are one, and the parity is the one that makes a header a code word.
use mathlib.Core.Path.{◌≡◌, refl, sym, ◌∙◌, ap, ap₂}
use mathlib.Core.Bool.{Bool, true, false, not}
use mathlib.Core.List.{List, [], ◌∷◌, ◌++◌}
use Prim.Native.Nat.{ℕ, zero, suc, ◌+◌, ◌-◌, ◌*◌, ◌<◌, ◌≤◌}
use native.Mathlib.Nat.{mul-suc, mul-zero, zero-add, suc-add}
use native.Mathlib.Omega.{arith}
use lib.Dec.{eqb, lit<}
use lib.ListN.{length, get_or, take, drop, length-append, length-drop}
use lib.Seq.{ext_get_or, slice, take_all, take_at, take-nil, take-append-add, length-take-le}
use borrow.Author.Tests.{eqb-true, eqb-false}
use Rattle.field.specs.Field.{pow, shift}
use Rattle.field.proofs.Laws.{pow-add}
use Rattle.algebra.specs.Places.{All, below, keep}
use Rattle.algebra.proofs.Places.{one, front, all_join}
use Rattle.algebra.proofs.Field.{Field, sum-zero, law-add-self}
use Rattle.algebra.proofs.PowerSums as sums
use Rattle.algebra.proofs.PowerSums.{power_sum}
use Rattle.algebra.proofs.Codes as codes
use Rattle.algebra.proofs.Codes.{zero?, zero-true, true-zero, CodeWord, unique}
use Rattle.algebra.proofs.Gf256.{GF, Byte, plus, times, el, el-byte, el-zero, el-add, el-mul, el-one-one, point, point-apart, point-el, point-nonzero}
use Rattle.header.specs.Header.{sum_up, term, syndrome, is_code_word, distance, remainder, parity_of, with_parity}
use Rattle.header.proofs.CodeWords.{Bytes, code-word-zero}
use Rattle.header.proofs.Distances.{count, all-at, distance-front}
use Rattle.header.proofs.Division.{code-word, remainder-length, remainder-bytes, parity-length}
use Rattle.header.proofs.Lengths.{length-allowed, header-of-long, parity-of-header, parity-written}

-- the bytes of a word as elements of the field
abbrev pub word : List ℕ → ℕ → Byte
word w i = el (get_or w i 0)

pub apart : (i k : ℕ) → i < 96 → k < i → ¬ (point k ≡ point i)
apart i k h l = point-apart i k (omega arith) l

pub points : (i : ℕ) → i < 96 → ¬ (point i ≡ Field.𝟘 GF)
points i h = point-nonzero i (omega arith)

power : (i j : ℕ) → sums.pow GF (point i) j ≡ el (pow (i * j))
unfolding pow shift
power i zero = sym (ap (λ (t : ℕ). el (pow t)) (mul-zero i) ∙ el-byte 1 (lit< tt))
power i (suc j) =
    let q : i + i * j ≡ i * suc j = omega (arith, mul-suc i j) in
    ap (times (point i)) (power i j) ∙ ap (λ (u : Byte). times u (el (pow (i * j)))) (sym (point-el i))
    ∙ sym (el-mul (pow i) (pow (i * j))) ∙ ap el (sym (pow-add i (i * j))) ∙ ap (λ (t : ℕ). el (pow t)) q

sum-power : (w : List ℕ) (j n : ℕ) → el (sum_up (term j w) n) ≡ power_sum GF point (below n) (word w) j
unfolding sum_up term
sum-power w j zero = el-zero
sum-power w j (suc n) =
    el-add (sum_up (term j w) n) (term j w n)
    ∙ Field.add_comm GF (el (sum_up (term j w) n)) (el (term j w n))
    ∙ ap (λ (u : Byte). plus u (el (sum_up (term j w) n))) (el-mul (get_or w n 0) (pow (n * j)) ∙ ap (times (word w n)) (sym (power n j)))
    ∙ ap (plus (times (word w n) (sums.pow GF (point n) j))) (sum-power w j n)

-- a syndrome is a power sum
pub syndrome-power : (w : List ℕ) (j : ℕ) → el (syndrome j w) ≡ power_sum GF point (below 96) (word w) j
unfolding syndrome
syndrome-power w j = sum-power w j 96

pub code-word-sound : (w : List ℕ) → is_code_word w ≡ true → CodeWord GF point 96 apart points (word w)
code-word-sound w e j b = sym (syndrome-power w (suc j)) ∙ ap el (code-word-zero w e j b) ∙ el-zero

-- ---- the two ways to count differing places agree

same_test : (x y : ℕ) → x < 256 → y < 256 → (b : Bool) → eqb x y ≡ b → one (not (zero? GF (plus (el x) (el y)))) ≡ one (not b)
same_test x y bx by true e =
    let p : x ≡ y = eqb-true x y e in
    let z : zero? GF (plus (el x) (el y)) ≡ true = true-zero GF _ (rw p (law-add-self GF (el y))) in
    rw z
same_test x y bx by false e = go (zero? GF (plus (el x) (el y))) refl
  where
    go : (b : Bool) → zero? GF (plus (el x) (el y)) ≡ b → one (not b) ≡ 1
    go true z = absurd (eqb-false x y e (el-one-one x y bx by (sum-zero GF _ _ (zero-true GF _ z))))
    go false z = refl

count-one : (b : Bool) (d : ℕ) → count b d ≡ one (not b) + d
count-one true d = omega arith
count-one false d = omega arith

distances : (u v : List ℕ) → length v ≡ length u → All (λ x. x < 256) u → All (λ x. x < 256) v
    → length (keep (λ i. not (zero? GF (plus (word u i) (word v i)))) (below (length u))) ≡ distance u v
unfolding distance
distances [] v l a b = refl
distances (x ∷ u) [] l a b = absurd (omega arith)
distances (x ∷ u) (y ∷ v) l a b =
    let f : length (keep (λ i. not (zero? GF (plus (word (x ∷ u) i) (word (y ∷ v) i)))) (below (suc (length u))))
    ≡ one (not (zero? GF (plus (el x) (el y)))) + length (keep (λ i. not (zero? GF (plus (word u i) (word v i)))) (below (length u)))
    = front (λ i. not (zero? GF (plus (word (x ∷ u) i) (word (y ∷ v) i)))) (length u) in
    let g : length (keep (λ i. not (zero? GF (plus (word u i) (word v i)))) (below (length u))) ≡ distance u v = distances u v (omega arith) a.1 b.1 in
    let h : one (not (zero? GF (plus (el x) (el y)))) ≡ one (not (eqb x y)) = same_test x y a.0 b.0 (eqb x y) refl in
    let k : count (eqb x y) (distance u v) ≡ one (not (eqb x y)) + distance u v = count-one (eqb x y) _ in
    omega arith

-- words within k of each other, in the field
pub close : (k : ℕ) (u v : List ℕ) → length u ≡ 96 → length v ≡ 96 → All (λ x. x < 256) u → All (λ x. x < 256) v → distance u v ≤ k
    → codes.distance GF point 96 apart points (word u) (word v) ≤ k
unfolding codes.distance
close k u v lu lv a b d =
    let e : length (keep (λ i. not (zero? GF (plus (word u i) (word v i)))) (below (length u))) ≡ distance u v = distances u v (lv ∙ sym lu) a b in
    let f : length (keep (λ i. not (zero? GF (plus (word u i) (word v i)))) (below 96)) ≡ distance u v = rw lu at e in
    omega arith

-- two code words that differ in at most eight bytes are equal
pub code-words-apart : (u v : List ℕ) → length u ≡ 96 → length v ≡ 96 → All (λ x. x < 256) u → All (λ x. x < 256) v
    → is_code_word u ≡ true → is_code_word v ≡ true → distance u v ≤ 8 → u ≡ v
code-words-apart u v lu lv au av cu cv d =
    ext_get_or 0 u v (lu ∙ sym lv)
    (λ i l. el-one-one _ _ (all-at 256 u i l au) (all-at 256 v i (omega arith) av)
    (unique GF point 96 apart points (word u) (word v) (code-word-sound u cu) (code-word-sound v cv) (close 8 u v lu lv au av d) i (omega arith)))

-- ---- parity

pub all-bytes : (w : List ℕ) → All (λ x. x < 256) w → Bytes w
all-bytes [] a i = lit< tt
all-bytes (x ∷ w) a zero = a.0
all-bytes (x ∷ w) a (suc i) = all-bytes w a.1 i

pub bytes-all : (w : List ℕ) → Bytes w → All (λ x. x < 256) w
bytes-all [] b = tt
bytes-all (x ∷ w) b = (b 0, bytes-all w (λ i. b (suc i)))

pub all_drop : (n : ℕ) (w : List ℕ) → All (λ x. x < 256) w → All (λ x. x < 256) (drop n w)
all_drop zero w a = a
all_drop (suc n) [] a = tt
all_drop (suc n) (x ∷ w) a = all_drop n w a.1

split-path : (u v m n : List ℕ) → length u ≡ length v → u ++ m ≡ v ++ n → u ≡ v
split-path u v m n l e = sym (take_at u m (length u) refl) ∙ ap (take (length u)) e ∙ take_at v n (length u) (sym l)

-- what division gives is the one that makes the header a code word: it does, and no other eight bytes do
module _ (w : List ℕ) (l : length w ≡ 96) (a : All (λ x. x < 256) w) where
  message : slice 8 96 w ≡ drop 8 w
  message = ap (drop 8) (take_all 96 w (omega arith))

  message-length : length (drop 8 w) ≡ 88
  message-length = length-drop 8 w ∙ ap (λ (n : ℕ). n - 8) l

  pub parity-right : is_code_word (parity_of w ++ drop 8 w) ≡ true
  unfolding parity_of
  parity-right = rw message (code-word (drop 8 w) message-length (all-bytes (drop 8 w) (all_drop 8 w a)))

  pub parity-only : (p : List ℕ) → length p ≡ 8 → All (λ x. x < 256) p → is_code_word (p ++ drop 8 w) ≡ true → p ≡ parity_of w
  unfolding parity_of
  parity-only p lp ap' e =
      let r : List ℕ = remainder (drop 8 w) in
      let lr : length (remainder (drop 8 w)) ≡ 8 = remainder-length (drop 8 w) in
      let d : distance (p ++ drop 8 w) (remainder (drop 8 w) ++ drop 8 w) ≤ length p = distance-front p (remainder (drop 8 w)) (drop 8 w) (lp ∙ sym lr) in
      rw message
      (split-path p (remainder (drop 8 w)) (drop 8 w) (drop 8 w) (lp ∙ sym lr)
      (code-words-apart (p ++ drop 8 w) (remainder (drop 8 w) ++ drop 8 w)
      (length-append p (drop 8 w) ∙ omega (arith, message-length)) (length-append (remainder (drop 8 w)) (drop 8 w) ∙ omega (arith, message-length))
      (all_join _ p (drop 8 w) ap' (all_drop 8 w a))
      (all_join _ (remainder (drop 8 w)) (drop 8 w)
      (bytes-all (remainder (drop 8 w)) (remainder-bytes (drop 8 w) (all-bytes (drop 8 w) (all_drop 8 w a)))) (all_drop 8 w a))
      e (code-word (drop 8 w) message-length (all-bytes (drop 8 w) (all_drop 8 w a))) (omega arith)))

drop-take : (n m : ℕ) (l : List ℕ) → drop n (take (n + m) l) ≡ take m (drop n l)
drop-take zero m l = ap (λ (k : ℕ). take k l) (zero-add m)
drop-take (suc n) m [] = ap (drop (suc n)) (take-nil (suc n + m)) ∙ sym (take-nil m)
drop-take (suc n) m (x ∷ l) = ap (λ (k : ℕ). drop (suc n) (take k (x ∷ l))) (suc-add n m) ∙ drop-take n m l

pub all_take : (n : ℕ) (w : List ℕ) → Bytes w → All (λ x. x < 256) (take n w)
all_take zero w h = tt
all_take (suc n) [] h = tt
all_take (suc n) (x ∷ w) h = (h 0, all_take n w (λ k. h (suc k)))

-- the header of the PDU that `write_parity` leaves is a code word
module _ (p : List ℕ) (lo : 96 ≤ length p) (hi : length p ≤ 20480) (b : Bytes p) where
  written-header : take 96 (with_parity p) ≡ parity_of (take 96 p) ++ drop 8 (take 96 p)
  written-header =
      let l : length (parity_of p) ≡ 8 = parity-length p in
      ap (take 96) (parity-written p (length-allowed (length p) lo hi))
      ∙ ap (λ (n : ℕ). take (n + 88) (parity_of p ++ drop 8 p)) (sym l)
      ∙ take-append-add (parity_of p) (drop 8 p) 88
      ∙ ap₂ ◌++◌ (sym (parity-of-header p lo) ∙ ap parity_of (header-of-long p lo)) (sym (drop-take 8 88 p))

  pub written-code-word : is_code_word (take 96 (with_parity p)) ≡ true
  written-code-word = ap is_code_word written-header ∙ parity-right (take 96 p) (length-take-le 96 p lo) (all_take 96 p b)
