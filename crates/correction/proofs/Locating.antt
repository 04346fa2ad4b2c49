-- From bytes to the field: the locator kills the syndromes, its zeros are those found, and the error value is the formula's.
use mathlib.Core.Path.{◌≡◌, refl, sym, ◌∙◌, ap}
use mathlib.Core.Bool.{Bool, true, false, not, ◌||◌, true≢false}
use mathlib.Core.List.{List, [], ◌∷◌, map}
use Prim.Native.Nat.{ℕ, zero, suc, ◌+◌, ◌<◌, ◌≤◌}
use native.Mathlib.Omega.{arith}
use native.Mathlib.Decide.{dec_lt}
use lib.ListN.{length, get_or}
use lib.Bits.{bit_xor, xor_lt}
use lib.Dec.{eqb, lit<}
use borrow.Author.Tests.{eqb-true, eqb-false}
use Rattle.field.specs.Field.{mul, inverse, pow}
use Rattle.field.proofs.Laws.{mul-lt, inverse-lt, pow-lt}
use Rattle.algebra.specs.Places.{All, below, keep}
use Rattle.algebra.proofs.Places.{one}
use Rattle.algebra.proofs.Field.{Field, mul-one, mul-zero, mul_inv_cancel, law-add-self, law-mul-comm, law-mul-assoc}
use Rattle.algebra.proofs.Polynomials.{combine, monic}
use Rattle.algebra.proofs.Elimination.{Kills, column, combine-agree, combine-shift}
use Rattle.algebra.proofs.ErrorValues.{strip, factor, factor-off, weigh, weigh-factor}
use Rattle.algebra.proofs.Erasures.{with_marks, marks-monic}
use Rattle.algebra.proofs.Codes.{zero?, zero-true, true-zero}
use Rattle.algebra.proofs.Gf256.{GF, Byte, el, el-byte, el-zero, el-add, el-mul, el-inv, point, point-el, point-apart}
use Rattle.elimination.specs.Elimination.{Solved, entry}
use Rattle.correction.specs.Marks.{is_marked, unmarked_distance}
use Rattle.correction.specs.ErrorPlaces.{value_from, root, located}
use Rattle.correction.specs.ErrorValues.{stripped, product}
use Rattle.correction.proofs.Counting.{keep_same, keep-le}
use Rattle.elimination.proofs.Solving.{Bytes, solved, el-zero-only}

infixl 65 ◌⊕◌
infixl 70 ◌⊗◌
open GF use {add as ◌⊕◌, mul as ◌⊗◌, inv}

-- n coefficients of the locator from k on, as elements of the field
abbrev pub locator_from : List ℕ → ℕ → ℕ → List Byte
locator_from cs k zero = []
locator_from cs k (suc n) = el (get_or cs k 0) ∷ locator_from cs (suc k) n

same-column : (cs : List ℕ) (rows : List (List ℕ)) (f k n : ℕ) → k + n ≡ f → ((i : ℕ) → i < f → get_or cs i 0 ≡ entry rows i f)
    → locator_from cs k n ≡ column GF (λ r i. el (entry rows r i)) f k n
same-column cs rows f k zero e t = refl
same-column cs rows f k (suc n) e t =
    let h : el (get_or cs k 0) ≡ el (entry rows k f) = ap el (t k (omega arith)) in
    let r : locator_from cs (suc k) n ≡ column GF (λ r i. el (entry rows r i)) f (suc k) n = same-column cs rows f (suc k) n (omega arith) t in
    cc

pub locator-length : (cs : List ℕ) (k n : ℕ) → length (locator_from cs k n) ≡ n
locator-length cs k zero = refl
locator-length cs k (suc n) = ap suc (locator-length cs (suc k) n)

-- with entry r + i + 1 of S in row r, column i of the system for h errors, the locator kills h windows of S
pub locator-kills : (S : ℕ → Byte) (m : List (List ℕ)) (h degree : ℕ) (cs : List ℕ)
    → Bytes m → h ≤ 4 → degree ≤ h
    → ((r i : ℕ) → r < h → i ≤ h → el (entry m r i) ≡ S (suc (r + i)))
    → Solved m degree cs → (j : ℕ) → j < h → combine GF (locator_from cs 0 degree) S (suc j) ≡ Field.𝟘 GF
locator-kills S m h degree cs by four d fill s j l =
    let e : locator_from cs 0 degree ≡ column GF (λ r i. el (entry s.rows r i)) degree 0 degree = same-column cs s.rows degree 0 degree (omega arith) s.taken in
    let n : length (locator_from cs 0 degree) ≡ degree = locator-length cs 0 degree in
    let k : Kills GF (locator_from cs 0 degree) (λ i. el (entry m j i)) = rw e (solved m degree cs by s j (omega arith)) in
    let z : suc j + 0 ≡ suc j = omega arith in
    ap (λ (q : ℕ). combine GF (locator_from cs 0 degree) S q) (sym z)
    ∙ sym (combine-shift GF (locator_from cs 0 degree) S (suc j) 0)
    ∙ combine-agree GF (locator_from cs 0 degree) (λ i. S (suc j + i)) (λ i. el (entry m j i)) 0
    (λ i b. (let q : suc j + (0 + i) ≡ suc (j + (0 + i)) = omega arith in rw q (sym (fill j (0 + i) l (omega arith)))))
    ∙ k

pub strip-el : (ks : List ℕ) (t : ℕ → ℕ) (u : ℕ → Byte) (m : ℕ) → ((j : ℕ) → j < m → el (t j) ≡ u (suc j))
    → (j : ℕ) → j + length ks < m → el (stripped (map pow ks) t j) ≡ strip GF point ks u (suc j)
strip-el [] t u m e j l = e j (omega arith)
strip-el (k ∷ ks) t u zero e j l = absurd (omega arith)
strip-el (k ∷ ks) t u (suc m) e j l =
    strip-el ks (λ i. bit_xor (t (suc i)) (mul (pow k) (t i))) (λ i. u (suc i) ⊕ (point k ⊗ u i)) m
    (λ i b. (let p : el (t (suc i)) ≡ u (suc (suc i)) = e (suc i) (omega arith) in
    let q : el (t i) ≡ u (suc i) = e i (omega arith) in
    el-add (t (suc i)) (mul (pow k) (t i)) ∙ rw (el-mul (pow k) (t i), p, q, point-el k)))
    j (omega arith)

pub product-el : (ks : List ℕ) (i f : ℕ) → el (product (map pow ks) (pow i) f) ≡ el f ⊗ factor GF point ks i
product-el [] i f = sym (mul-one GF (el f))
product-el (k ∷ ks) i f =
    product-el ks i (mul f (bit_xor (pow i) (pow k)))
    ∙ rw (el-mul f (bit_xor (pow i) (pow k)), el-add (pow i) (pow k), point-el i, point-el k) (law-mul-assoc GF _ _ _)

product_lt : (ks : List ℕ) (i f : ℕ) → f < 256 → product (map pow ks) (pow i) f < 256
product_lt [] i f l = l
product_lt (k ∷ ks) i f l = product_lt ks i (mul f (bit_xor (pow i) (pow k))) (mul-lt f (bit_xor (pow i) (pow k)) l (xor_lt 8 (pow i) (pow k) (pow-lt i) (pow-lt k)))

stripped-lt : (ks : List ℕ) (t : ℕ → ℕ) (j : ℕ) → ((i : ℕ) → t i < 256) → stripped (map pow ks) t j < 256
stripped-lt [] t j h = h j
stripped-lt (k ∷ ks) t j h =
    stripped-lt ks (λ i. bit_xor (t (suc i)) (mul (pow k) (t i))) j
    (λ i. xor_lt 8 (t (suc i)) (mul (pow k) (t i)) (h (suc i)) (mul-lt (pow k) (t i) (pow-lt k) (h i)))

-- the error value is a byte
pub error-value-lt : (ks : List ℕ) (i : ℕ) (t : ℕ → ℕ) → ((j : ℕ) → t j < 256)
    → mul (stripped (map pow ks) t 0) (inverse (product (map pow ks) (pow i) (pow i))) < 256
error-value-lt ks i t h =
    mul-lt (stripped (map pow ks) t 0) (inverse (product (map pow ks) (pow i) (pow i))) (stripped-lt ks t 0 h)
    (inverse-lt (product (map pow ks) (pow i) (pow i)) (product_lt ks i (pow i) (pow-lt i)))

-- the error value that the function answers, in the field
pub value-el : (ks : List ℕ) (i : ℕ) (t : ℕ → ℕ) (u : ℕ → Byte) → ((j : ℕ) → j < 8 → el (t j) ≡ u (suc j)) → length ks < 8
    → el (mul (stripped (map pow ks) t 0) (inverse (product (map pow ks) (pow i) (pow i)))) ≡ strip GF point ks u 1 ⊗ inv (point i ⊗ factor GF point ks i)
value-el ks i t u e l =
    let a : el (stripped (map pow ks) t 0) ≡ strip GF point ks u 1 = strip-el ks t u 8 e 0 (omega arith) in
    let b : el (product (map pow ks) (pow i) (pow i)) ≡ point i ⊗ factor GF point ks i = product-el ks i (pow i) ∙ ap (λ (v : Byte). v ⊗ factor GF point ks i) (point-el i) in
    el-mul (stripped (map pow ks) t 0) (inverse (product (map pow ks) (pow i) (pow i))) ∙ rw (a, el-inv (product (map pow ks) (pow i) (pow i)) (product_lt ks i (pow i) (pow-lt i)), b)

-- the locator's value at x
locator-value : (cs : List ℕ) (x k n : ℕ) → el (value_from cs x k n) ≡ monic GF (locator_from cs k n) (el x)
locator-value cs x k zero = el-byte 1 (lit< tt)
locator-value cs x k (suc n) =
    el-add (get_or cs k 0) (mul x (value_from cs x (suc k) n)) ∙ rw (el-mul x (value_from cs x (suc k) n), locator-value cs x (suc k) n)

value-lt : (cs : List ℕ) (d : ℕ) → ((i : ℕ) → i < d → get_or cs i 0 < 256) → (x k n : ℕ) → k + n ≤ d → x < 256 → value_from cs x k n < 256
value-lt cs d b x k zero l h = lit< tt
value-lt cs d b x k (suc n) l h =
    xor_lt 8 (get_or cs k 0) (mul x (value_from cs x (suc k) n)) (b k (omega arith))
    (mul-lt x (value_from cs x (suc k) n) h (value-lt cs d b x (suc k) n (omega arith) h))

-- the test on bytes is the field's
root-test : (cs : List ℕ) (d i : ℕ) → ((i : ℕ) → i < d → get_or cs i 0 < 256) → root cs d i ≡ zero? GF (monic GF (locator_from cs 0 d) (point i))
root-test cs d i b = go (root cs d i) refl (zero? GF (monic GF (locator_from cs 0 d) (point i))) refl
  where
    same : el (value_from cs (pow i) 0 d) ≡ monic GF (locator_from cs 0 d) (point i)
    same = locator-value cs (pow i) 0 d ∙ ap (monic GF (locator_from cs 0 d)) (point-el i)

    go : (p : Bool) → root cs d i ≡ p → (q : Bool) → zero? GF (monic GF (locator_from cs 0 d) (point i)) ≡ q → p ≡ q
    go true e true f = refl
    go false e false f = refl
    go true e false f =
        let z : monic GF (locator_from cs 0 d) (point i) ≡ Field.𝟘 GF = sym same ∙ ap el (eqb-true _ _ e) ∙ el-zero in sym (true-zero GF _ z) ∙ f
    go false e true f =
        absurd (eqb-false _ _ e (el-zero-only _ (value-lt cs d b (pow i) 0 d (omega arith) (pow-lt i)) (same ∙ zero-true GF _ f)))

-- a marked place makes the marks' factor zero
marked-zero : (marks : List ℕ) (i : ℕ) → is_marked marks i ≡ true → factor GF point marks i ≡ Field.𝟘 GF
marked-zero [] i e = absurd (true≢false (sym e))
marked-zero (k ∷ marks) i e = go (eqb k i) refl (λ q. marked-zero marks i q) e
  where
    go : (b : Bool) → eqb k i ≡ b → (is_marked marks i ≡ true → factor GF point marks i ≡ Field.𝟘 GF) → (b || is_marked marks i) ≡ true
        → (point i ⊕ point k) ⊗ factor GF point marks i ≡ Field.𝟘 GF
    go true p r q = ap (λ (x : ℕ). (point i ⊕ point x) ⊗ factor GF point marks i) (eqb-true k i p)
        ∙ ap (λ (u : Byte). u ⊗ factor GF point marks i) (law-add-self GF (point i)) ∙ Field.zero-mul GF _
    go false p r q = ap (λ (u : Byte). (point i ⊕ point k) ⊗ u) (r q) ∙ mul-zero GF _

-- an unmarked place is apart from every mark
unmarked-apart : (marks : List ℕ) (i : ℕ) → i < 96 → All (λ k. k < 96) marks → is_marked marks i ≡ false → All (λ k. ¬ (point k ≡ point i)) marks
unmarked-apart [] i l a e = tt
unmarked-apart (k ∷ marks) i l a e = go (eqb k i) refl e (λ q. unmarked-apart marks i l a.1 q)
  where
    apart-both : Dec (k < i) → ¬ (k ≡ i) → ¬ (point k ≡ point i)
    apart-both (yes h) n q = point-apart i k (omega arith) h q
    apart-both (no h) n q = let b : k < 96 = a.0 in point-apart k i (omega arith) (omega arith) (sym q)

    go : (b : Bool) → eqb k i ≡ b → (b || is_marked marks i) ≡ false → (is_marked marks i ≡ false → All (λ k. ¬ (point k ≡ point i)) marks)
        → (¬ (point k ≡ point i)) × All (λ k. ¬ (point k ≡ point i)) marks
    go true p q r = absurd (true≢false q)
    go false p q r = (apart-both (dec_lt k i) (eqb-false k i p), r q)

zero-times : (f m : Byte) → ¬ (f ≡ Field.𝟘 GF) → zero? GF m ≡ zero? GF (f ⊗ m)
zero-times f m n = go (zero? GF m) refl (zero? GF (f ⊗ m)) refl
  where
    go : (a : Bool) → zero? GF m ≡ a → (b : Bool) → zero? GF (f ⊗ m) ≡ b → a ≡ b
    go true e true g = refl
    go false e false g = refl
    go true e false g = sym (true-zero GF _ (ap (λ (u : Byte). f ⊗ u) (zero-true GF _ e) ∙ mul-zero GF f)) ∙ g
    go false e true g = sym e ∙ true-zero GF _ (mul_inv_cancel GF m f n (law-mul-comm GF m f ∙ zero-true GF _ g))

-- the test of the search is the field's, of the locator with the marks
located-test : (marks cs : List ℕ) (d i : ℕ) → i < 96 → All (λ k. k < 96) marks → ((i : ℕ) → i < d → get_or cs i 0 < 256)
    → located marks cs d i ≡ zero? GF (monic GF (with_marks GF point marks (locator_from cs 0 d)) (point i))
located-test marks cs d i l a b = go (is_marked marks i) refl ∙ ap (zero? GF) (sym (marks-monic GF point marks (locator_from cs 0 d) i))
  where
    go : (m : Bool) → is_marked marks i ≡ m → (m || root cs d i) ≡ zero? GF (factor GF point marks i ⊗ monic GF (locator_from cs 0 d) (point i))
    go true e = sym (true-zero GF _ (ap (λ (u : Byte). u ⊗ monic GF (locator_from cs 0 d) (point i)) (marked-zero marks i e) ∙ Field.zero-mul GF _))
    go false e = root-test cs d i b ∙ zero-times _ _ (factor-off GF point marks i (unmarked-apart marks i l a e))

-- the places found are the zeros of the locator with the marks
pub places-zeros : (marks cs : List ℕ) (d : ℕ) → All (λ k. k < 96) marks → ((i : ℕ) → i < d → get_or cs i 0 < 256)
    → keep (located marks cs d) (below 96) ≡ keep (λ i. zero? GF (monic GF (with_marks GF point marks (locator_from cs 0 d)) (point i))) (below 96)
places-zeros marks cs d a b =
    keep_same (located marks cs d) (λ i. zero? GF (monic GF (with_marks GF point marks (locator_from cs 0 d)) (point i))) 96 (λ i l. located-test marks cs d i l a b)

-- fewer weights than unmarked bytes that differ
pub few-weights : (marks w v : List ℕ) (h : ℕ) → length w ≡ 96 → unmarked_distance marks w v ≤ h
    → length (keep (λ i. not (zero? GF (weigh GF point marks (λ i. el (get_or w i 0) ⊕ el (get_or v i 0)) i))) (below 96)) ≤ h
unfolding unmarked_distance
few-weights marks w v h l d =
    let u : length (keep (λ i. not (is_marked marks i || eqb (get_or w i 0) (get_or v i 0))) (below 96)) ≤ h = rw l at d in
    let k : length (keep (λ i. not (zero? GF (weigh GF point marks (λ i. el (get_or w i 0) ⊕ el (get_or v i 0)) i))) (below 96))
    ≤ length (keep (λ i. not (is_marked marks i || eqb (get_or w i 0) (get_or v i 0))) (below 96))
    = keep-le (λ i. not (zero? GF (weigh GF point marks (λ i. el (get_or w i 0) ⊕ el (get_or v i 0)) i))) (λ i. not (is_marked marks i || eqb (get_or w i 0) (get_or v i 0))) 96
    (λ i b. at i (is_marked marks i) refl (eqb (get_or w i 0) (get_or v i 0)) refl) in
    omega arith
  where
    one-le : (b : Bool) → one b ≤ 1
    one-le true = omega arith
    one-le false = omega arith

    none : (i : ℕ) → weigh GF point marks (λ i. el (get_or w i 0) ⊕ el (get_or v i 0)) i ≡ Field.𝟘 GF
        → one (not (zero? GF (weigh GF point marks (λ i. el (get_or w i 0) ⊕ el (get_or v i 0)) i))) ≤ 0
    none i e = let z : zero? GF (weigh GF point marks (λ i. el (get_or w i 0) ⊕ el (get_or v i 0)) i) ≡ true = true-zero GF _ e in rw z (omega arith)

    whole : (i : ℕ) → weigh GF point marks (λ i. el (get_or w i 0) ⊕ el (get_or v i 0)) i ≡ (el (get_or w i 0) ⊕ el (get_or v i 0)) ⊗ factor GF point marks i
    whole i = weigh-factor GF point marks (λ i. el (get_or w i 0) ⊕ el (get_or v i 0)) i

    at : (i : ℕ) (m : Bool) → is_marked marks i ≡ m → (b : Bool) → eqb (get_or w i 0) (get_or v i 0) ≡ b
        → one (not (zero? GF (weigh GF point marks (λ i. el (get_or w i 0) ⊕ el (get_or v i 0)) i))) ≤ one (not (m || b))
    at i true e b f = none i (whole i ∙ ap (λ (u : Byte). (el (get_or w i 0) ⊕ el (get_or v i 0)) ⊗ u) (marked-zero marks i e) ∙ mul-zero GF _)
    at i false e true f =
        none i (whole i ∙ ap (λ (x : ℕ). (el x ⊕ el (get_or v i 0)) ⊗ factor GF point marks i) (eqb-true _ _ f)
        ∙ ap (λ (u : Byte). u ⊗ factor GF point marks i) (law-add-self GF (el (get_or v i 0))) ∙ Field.zero-mul GF _)
    at i false e false f = one-le (not (zero? GF (weigh GF point marks (λ i. el (get_or w i 0) ⊕ el (get_or v i 0)) i)))
