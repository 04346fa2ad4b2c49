-- The error value, turn by turn of its loops.
use mathlib.Core.Path.{◌≡◌, refl, sym, ◌∙◌, ap, ap₂, subst}
use mathlib.Core.List.{List, [], ◌∷◌, ◌++◌, map, append-nil, map-append}
use Prim.Native.Nat.{ℕ, zero, suc, ◌+◌, ◌<◌, ◌≤◌}
use native.Mathlib.Omega.{arith}
use native.Mathlib.Numerals.{add-one}
use native.Mathlib.Decide.{ℕ_discrete, dec_lt}
use lib.ListN.{length, get_or, set, take, length-set, length-append, get_or-eq_default}
use lib.Seq.{get_or-set_same, get_or-set_other, take-suc, length-take-le}
use lib.Bits.{bit_xor, xor_lt}
use lib.Dec.{lit<}
use Rattle.field.specs.Field.{mul, inverse, pow}
use Rattle.field.proofs.Laws.{mul-lt, pow-lt}
use Rattle.correction.specs.ErrorValues.{entries, stripped, product, unless_same, others, Filtered, Stripped}

pub filtered-next : (t : List ℕ) (x : ℕ) (r : List ℕ) (n y : ℕ) → n < 7 → Filtered t x r n → y ≡ bit_xor (get_or t (n + 1) 0) (mul x (get_or t n 0)) → Filtered t x (set r n y) (n + 1)
filtered-next t x r n y l g e = record { long = length-set r n y ∙ g.long; last = get_or-set_other r n 7 y 0 (λ q. omega arith) ∙ g.last; entry = λ i b. go i b (ℕ_discrete i n) }
  where
    go : (i : ℕ) → i < n + 1 → Dec (i ≡ n) → get_or (set r n y) i 0 ≡ bit_xor (get_or t (suc i) 0) (mul x (get_or t i 0))
    go i b (yes p) = let q : length r ≡ 8 = g.long in rw p (rw (get_or-set_same r n y 0 (omega arith)) (rw add-one at e))
    go i b (no p) = rw (get_or-set_other r n i y 0 p) (g.entry i (omega arith))

pub filtered-end : (t : List ℕ) (x : ℕ) (r : List ℕ) (n : ℕ) → n ≡ 7 → Filtered t x r n → Filtered t x r 7
filtered-end t x r n e g = rw e at g

pub strip-last : (xs : List ℕ) (x : ℕ) (t : ℕ → ℕ) (j : ℕ) → stripped (xs ++ (x ∷ [])) t j ≡ bit_xor (stripped xs t (suc j)) (mul x (stripped xs t j))
strip-last [] x t j = refl
strip-last (y ∷ xs) x t j = strip-last xs x (λ i. bit_xor (t (suc i)) (mul y (t i))) j

pub product-last : (xs : List ℕ) (x p f : ℕ) → product (xs ++ (x ∷ [])) p f ≡ mul (product xs p f) (bit_xor p x)
product-last [] x p f = refl
product-last (y ∷ xs) x p f = product-last xs x p (mul f (bit_xor p y))

-- ---- the syndromes filtered by the marks

filtered-byte : (t : List ℕ) (x : ℕ) (r : List ℕ) → Filtered t x r 7 → x < 256 → ((j : ℕ) → get_or t j 0 < 256) → (j : ℕ) → get_or r j 0 < 256
filtered-byte t x r g h b j = go (dec_lt j 7) (ℕ_discrete j 7)
  where
    go : Dec (j < 7) → Dec (j ≡ 7) → get_or r j 0 < 256
    go (yes p) d = subst (λ (y : ℕ). y < 256) (sym (g.entry j p)) (xor_lt 8 (get_or t (suc j) 0) (mul x (get_or t j 0)) (b (suc j)) (mul-lt x (get_or t j 0) h (b j)))
    go (no p) (yes q) = subst (λ (y : ℕ). y < 256) (sym (ap (λ (k : ℕ). get_or r k 0) q ∙ g.last)) (lit< tt)
    go (no p) (no q) = subst (λ (y : ℕ). y < 256) (sym (get_or-eq_default r 0 (omega (arith, g.long)))) (lit< tt)

pub stripped-start : (s marks : List ℕ) → Stripped s marks 0 s
stripped-start s marks = record { window = λ j l. refl; bytes = λ b. b }

pub stripped-next : (s marks : List ℕ) (k x : ℕ) (t r : List ℕ) → k < length marks → Stripped s marks k t → x ≡ pow (get_or marks k 0) → Filtered t x r 7 → Stripped s marks (k + 1) r
stripped-next s marks k x t r l g e f = record {
  window = λ j b.
      (let p : get_or t (suc j) 0 ≡ stripped (map pow (take k marks)) (entries s) (suc j) = g.window (suc j) (omega arith) in
      let q : get_or t j 0 ≡ stripped (map pow (take k marks)) (entries s) j = g.window j (omega arith) in
      f.entry j (omega arith)
      ∙ rw (p, q, e) (sym (strip-last (map pow (take k marks)) (pow (get_or marks k 0)) (entries s) j))
      ∙ ap (λ (ms : List ℕ). stripped ms (entries s) j) (sym more));
  bytes = λ b. filtered-byte t x r f (subst (λ (y : ℕ). y < 256) (sym e) (pow-lt (get_or marks k 0))) (g.bytes b);
}
  where
    more : map pow (take (k + 1) marks) ≡ map pow (take k marks) ++ (pow (get_or marks k 0) ∷ [])
    more =
        ap (λ (n : ℕ). map pow (take n marks)) (add-one k) ∙ ap (map pow) (take-suc marks k 0 l)
        ∙ map-append pow (take k marks) (get_or marks k 0 ∷ [])

pub stripped-end : (s marks : List ℕ) (k : ℕ) (t : List ℕ) → k ≡ length marks → Stripped s marks k t → Stripped s marks (length marks) t
stripped-end s marks k t e g = rw e at g

-- After q of the points: the window that is left, and the product.
pub record Working (s z : List ℕ) (k q : ℕ) (t : List ℕ) (f : ℕ) : Type 0 where
  pub window : (j : ℕ) → j + length (others z k q) < 8 → get_or t j 0 ≡ stripped (others z k q) (entries s) j
  pub factors : f ≡ product (others z k q) (get_or z k 0) (get_or z k 0)

pub others-length : (z : List ℕ) (k q : ℕ) → length (others z k q) ≤ q
others-length z k zero = omega arith
others-length z k (suc q) = go (ℕ_discrete q k) (others-length z k q)
  where
    go : (d : Dec (q ≡ k)) → length (others z k q) ≤ q → length (unless_same d (get_or z q 0) (others z k q)) ≤ suc q
    go (yes p) l = omega arith
    go (no p) l = let a : length (others z k q ++ (get_or z q 0 ∷ [])) ≡ length (others z k q) + 1 = length-append (others z k q) (get_or z q 0 ∷ []) in omega arith

others-fewer : (z : List ℕ) (k q : ℕ) → k < q → length (others z k q) < q
others-fewer z k zero l = absurd (omega arith)
others-fewer z k (suc q) l = go (ℕ_discrete q k) (λ m. others-fewer z k q m) (others-length z k q)
  where
    go : (d : Dec (q ≡ k)) → (k < q → length (others z k q) < q) → length (others z k q) ≤ q → length (unless_same d (get_or z q 0) (others z k q)) < suc q
    go (yes p) r b = omega arith
    go (no p) r b =
        let a : length (others z k q ++ (get_or z q 0 ∷ [])) ≡ length (others z k q) + 1 = length-append (others z k q) (get_or z q 0 ∷ []) in
        let f : length (others z k q) < q = r (omega arith) in omega arith

pub working-start : (s z : List ℕ) (k : ℕ) → Working s z k 0 s (get_or z k 0)
working-start s z k = record { window = λ j l. refl; factors = refl }

pub working-skip : (s z : List ℕ) (k q : ℕ) (t : List ℕ) (f : ℕ) → Working s z k q t f → q ≡ k → Working s z k (q + 1) t f
working-skip s z k q t f w e = rw add-one (go (ℕ_discrete q k) refl)
  where
    go : (d : Dec (q ≡ k)) → ℕ_discrete q k ≡ d → Working s z k (suc q) t f
    go (yes p) g = record { window = rw g w.window; factors = rw g w.factors }
    go (no p) g = absurd (p e)

pub working-next : (s z : List ℕ) (k q : ℕ) (t r : List ℕ) (f f' : ℕ) → Working s z k q t f → ¬ (q ≡ k) → Filtered t (get_or z q 0) r 7 → f' ≡ mul f (bit_xor (get_or z k 0) (get_or z q 0)) → Working s z k (q + 1) r f'
working-next s z k q t r f f' w e h m = rw add-one (go (ℕ_discrete q k) refl)
  where
    go : (d : Dec (q ≡ k)) → ℕ_discrete q k ≡ d → Working s z k (suc q) r f'
    go (yes p) g = absurd (e p)
    go (no p) g = record {
      window = rw g (λ j l.
          (let a : length (others z k q ++ (get_or z q 0 ∷ [])) ≡ length (others z k q) + 1 = length-append (others z k q) (get_or z q 0 ∷ []) in
          let x : get_or t (suc j) 0 ≡ stripped (others z k q) (entries s) (suc j) = w.window (suc j) (omega arith) in
          let y : get_or t j 0 ≡ stripped (others z k q) (entries s) j = w.window j (omega arith) in
          h.entry j (omega arith) ∙ rw (x, y) (sym (strip-last (others z k q) (get_or z q 0) (entries s) j))));
      factors = rw g (m ∙ ap (λ (u : ℕ). mul u (bit_xor (get_or z k 0) (get_or z q 0))) w.factors ∙ sym (product-last (others z k q) (get_or z q 0) (get_or z k 0) (get_or z k 0)));
    }

pub working-end : (s z : List ℕ) (k q m : ℕ) (t : List ℕ) (f r v : ℕ) → q ≡ m → k < m → m ≤ 8 → Working s z k q t f → v ≡ inverse f → r ≡ mul (get_or t 0 0) v
    → r ≡ mul (stripped (others z k m) (entries s) 0) (inverse (product (others z k m) (get_or z k 0) (get_or z k 0)))
working-end s z k q m t f r v e l b w i g =
    let n : length (others z k m) < m = others-fewer z k m l in
    let u : Working s z k m t f = rw e at w in
    let x : get_or t 0 0 ≡ stripped (others z k m) (entries s) 0 = u.window 0 (omega arith) in
    let y : f ≡ product (others z k m) (get_or z k 0) (get_or z k 0) = u.factors in
    g ∙ rw (i, x, y)

-- ---- the other points, as those of a list of places with one left out

without : ℕ → List ℕ → List ℕ
without k [] = []
without zero (x ∷ xs) = xs
without (suc k) (x ∷ xs) = x ∷ without k xs

without_at : (u v : List ℕ) (x : ℕ) → without (length u) (u ++ x ∷ v) ≡ u ++ v
unfolding without
without_at [] v x = refl
without_at (y ∷ u) v x = ap (λ (l : List ℕ). y ∷ l) (without_at u v x)

without-before : (k : ℕ) (u v : List ℕ) → k < length u → without k (u ++ v) ≡ without k u ++ v
unfolding without
without-before k [] v h = absurd (omega arith)
without-before zero (x ∷ u) v h = refl
without-before (suc k) (x ∷ u) v h = ap (λ (l : List ℕ). x ∷ l) (without-before k u v (omega arith))

without-after : (k : ℕ) (u : List ℕ) → length u ≤ k → without k u ≡ u
unfolding without
without-after k [] h = refl
without-after zero (x ∷ u) h = absurd (omega arith)
without-after (suc k) (x ∷ u) h = ap (λ (l : List ℕ). x ∷ l) (without-after k u (omega arith))

module _ (z places : List ℕ) (k : ℕ) where
  others-without : (m : ℕ) → m ≤ length places → ((q : ℕ) → q < m → get_or z q 0 ≡ pow (get_or places q 0))
      → others z k m ≡ map pow (without k (take m places))
  unfolding without
  others-without zero l e = refl
  others-without (suc m) l e =
      go (ℕ_discrete m k) (dec_lt k m) (others-without m (omega arith) (λ q b. e q (omega arith)))
    where
      more : take (suc m) places ≡ take m places ++ (get_or places m 0 ∷ [])
      more = take-suc places m 0 (omega arith)

      long : length (take m places) ≡ m
      long = length-take-le m places (omega arith)

      all : length (take m places ++ (get_or places m 0 ∷ [])) ≡ suc m
      all = length-append (take m places) (get_or places m 0 ∷ []) ∙ omega (arith, long)

      go : (d : Dec (m ≡ k)) → Dec (k < m) → others z k m ≡ map pow (without k (take m places))
          → unless_same d (get_or z m 0) (others z k m) ≡ map pow (without k (take (suc m) places))
      go (yes p) d ih =
          ih ∙ ap (map pow)
          (without-after k (take m places) (omega (arith, long)) ∙ sym (append-nil (take m places)) ∙ sym (without_at (take m places) [] (get_or places m 0))
          ∙ ap₂ without (long ∙ p) (sym more))
      go (no p) (yes q) ih =
          ap₂ (λ (l : List ℕ) (x : ℕ). l ++ (x ∷ [])) ih (e m (omega arith)) ∙ sym (map-append pow (without k (take m places)) (get_or places m 0 ∷ []))
          ∙ ap (map pow) (sym (without-before k (take m places) (get_or places m 0 ∷ []) (omega (arith, long))) ∙ ap (without k) (sym more))
      go (no p) (no q) ih =
          ap₂ (λ (l : List ℕ) (x : ℕ). l ++ (x ∷ [])) ih (e m (omega arith)) ∙ sym (map-append pow (without k (take m places)) (get_or places m 0 ∷ []))
          ∙ ap (map pow)
          (ap (λ (l : List ℕ). l ++ (get_or places m 0 ∷ [])) (without-after k (take m places) (omega (arith, long)))
          ∙ sym (without-after k (take m places ++ (get_or places m 0 ∷ [])) (omega (arith, all))) ∙ ap (without k) (sym more))

-- the points of all places but one
pub others-split : (z places pre post : List ℕ) (i m : ℕ) → m ≤ length places → take m places ≡ pre ++ i ∷ post
    → ((q : ℕ) → q < m → get_or z q 0 ≡ pow (get_or places q 0)) → others z (length pre) m ≡ map pow (pre ++ post)
others-split z places pre post i m l e h =
    others-without z places (length pre) m l h ∙ ap (λ (u : List ℕ). map pow (without (length pre) u)) e ∙ ap (map pow) (without_at pre post i)
