-- The elimination as a whole: the polynomial that it finds makes a zero of each row that it was given.
use mathlib.Core.Path.{◌≡◌, refl, sym, ◌∙◌, ap}
use mathlib.Core.List.{List, []}
use Prim.Native.Nat.{ℕ, suc, ◌+◌, ◌<◌, ◌≤◌}
use native.Mathlib.Omega.{arith}
use native.Mathlib.Numerals.{add-one}
use native.Mathlib.Decide.{ℕ_discrete, dec_lt}
use lib.ListN.{length, get_or, set}
use lib.Seq.{get_or-set_same, get_or-set_other}
use lib.Bits.{xor_lt, xor_zero_l}
use lib.Dec.{lit<}
use Rattle.field.specs.Field.{mul, inverse}
use Rattle.field.proofs.Laws.{mul-lt, mul-zero-l, inverse-lt}
use Rattle.elimination.specs.Elimination.{cleared_by, Pivot, Reduce, Column, entry, Chain, begun, next, Solved}
use Rattle.algebra.proofs.Field.{Field}
use Rattle.algebra.proofs.Elimination.{Kills, Reduced, Step, start, kills-step, reduced-step, kills-end, column, length-column}
use Rattle.algebra.proofs.Gf256.{GF, Byte, el, el-zero, el-add, el-mul, el-inv, el-one-one}

pub chain_next : (m n n' : List (List ℕ)) (k p : ℕ) → Chain m k n → k < 4 → ¬ (p ≡ 4) → length n ≡ 4 → Pivot n k p → Reduce n k p n' → Chain m (k + 1) n'
chain_next m n n' k p ch kb d l v e = let h : p ≤ 4 = v.high in rw add-one (next p n' ch kb (omega arith) l v e)

pub solved-here : (m n : List (List ℕ)) (k p : ℕ) (cs : List ℕ) → Chain m k n → k ≤ 4 → p ≡ 4 → Pivot n k p → Column n k cs k → Solved m k cs
solved-here m n k p cs ch kb e v c = record { rows = n; chain = ch; small = kb; stop = rw e at v; taken = c.taken }

pub solved-full : (m n : List (List ℕ)) (k : ℕ) (cs : List ℕ) → Chain m k n → k ≡ 4 → Column n 4 cs 4 → Solved m 4 cs
solved-full m n k cs ch e c = record {
  rows = n;
  chain = rw e at ch;
  small = omega arith;
  stop = record { low = omega arith; high = omega arith; zeros = λ r a b. absurd (omega arith); here = λ b. absurd (omega arith) };
  taken = c.taken;
}

-- Exchange of k and p.
exchange : (k p r : ℕ) → Dec (r ≡ k) → Dec (r ≡ p) → ℕ
exchange k p r (yes a) b = p
exchange k p r (no a) (yes b) = k
exchange k p r (no a) (no b) = r

swap : ℕ → ℕ → ℕ → ℕ
swap k p r = exchange k p r (ℕ_discrete r k) (ℕ_discrete r p)

swap-k : (k p r : ℕ) → r ≡ k → swap k p r ≡ p
unfolding swap exchange
swap-k k p r e = go (ℕ_discrete r k)
  where
    go : (d : Dec (r ≡ k)) → exchange k p r d (ℕ_discrete r p) ≡ p
    go (yes a) = refl
    go (no a) = absurd (a e)

swap-p : (k p r : ℕ) → r ≡ p → swap k p r ≡ k
unfolding swap exchange
swap-p k p r e = go (ℕ_discrete r k) (ℕ_discrete r p)
  where
    go : (d : Dec (r ≡ k)) (f : Dec (r ≡ p)) → exchange k p r d f ≡ k
    go (yes a) f = sym e ∙ a
    go (no a) (yes b) = refl
    go (no a) (no b) = absurd (b e)

swap-other : (k p r : ℕ) → ¬ (r ≡ k) → ¬ (r ≡ p) → swap k p r ≡ r
unfolding swap exchange
swap-other k p r e f = go (ℕ_discrete r k) (ℕ_discrete r p)
  where
    go : (d : Dec (r ≡ k)) (g : Dec (r ≡ p)) → exchange k p r d g ≡ r
    go (yes a) g = absurd (e a)
    go (no a) (yes b) = absurd (f b)
    go (no a) (no b) = refl

module _ (k p : ℕ) where
  swap-back : (r : ℕ) → swap k p (swap k p r) ≡ r
  swap-back r = go (ℕ_discrete r k) (ℕ_discrete r p)
    where
      go : Dec (r ≡ k) → Dec (r ≡ p) → swap k p (swap k p r) ≡ r
      go (yes a) g = swap-p k p (swap k p r) (swap-k k p r a) ∙ sym a
      go (no a) (yes b) = swap-k k p (swap k p r) (swap-p k p r b) ∙ sym b
      go (no a) (no b) = ap (swap k p) (swap-other k p r a b) ∙ swap-other k p r a b

  swap-inside : (r : ℕ) → k < 4 → p < 4 → r < 4 → swap k p r < 4
  swap-inside r kb pb b = go (ℕ_discrete r k) (ℕ_discrete r p)
    where
      go : Dec (r ≡ k) → Dec (r ≡ p) → swap k p r < 4
      go (yes a) g = rw (swap-k k p r a) pb
      go (no a) (yes c) = rw (swap-p k p r c) kb
      go (no a) (no c) = rw (swap-other k p r a c) b

  -- The row that stood in place r.
  swap-row : (n : List (List ℕ)) (r : ℕ) → p < length n → ¬ (r ≡ k) → get_or (set n p (get_or n k [])) r [] ≡ get_or n (swap k p r) []
  swap-row n r b a = go (ℕ_discrete r p)
    where
      go : Dec (r ≡ p) → get_or (set n p (get_or n k [])) r [] ≡ get_or n (swap k p r) []
      go (yes c) = rw (swap-p k p r c, c) (get_or-set_same n p (get_or n k []) [] b)
      go (no c) = rw (swap-other k p r a c) (get_or-set_other n p r (get_or n k []) [] c)

pub el-zero-only : (x : ℕ) → x < 256 → el x ≡ Field.𝟘 GF → x ≡ 0
el-zero-only x h e = el-one-one x 0 h (lit< tt) (e ∙ sym el-zero)

abbrev pub matrix : List (List ℕ) → ℕ → ℕ → Byte
matrix m r i = el (entry m r i)

abbrev pub Bytes : List (List ℕ) → Type 0
Bytes m = (r i : ℕ) → r < 4 → i < 5 → entry m r i < 256

step : (k p : ℕ) (n n' : List (List ℕ)) → k < 4 → p < 4 → length n ≡ 4 → Bytes n → Pivot n k p → Reduce n k p n' → Step GF 4 5 k (matrix n) (matrix n')
step k p n n' kb pb l by v e = record {
  s = swap k p;
  back = swap-back k p;
  inside = λ r b. swap-inside k p r kb pb b;
  fixed = λ r b. swap-other k p r (λ q. omega arith) (λ q. (let h : k ≤ p = v.low in omega arith));
  column-inside = omega arith;
  row_inside = kb;
  pivot = rw at-k (λ z. v.here pb (el-zero-only _ (by p k pb (omega arith)) z));
  scales = λ i b. rw at-k (ap el (e.top.entry i b) ∙ el-mul _ _ ∙ ap (λ t. Field.mul GF t (el (entry n p i))) (el-inv (entry n p k) (by p k pb (omega arith))));
  clears = λ r i b d c.
      (let h : entry n' r i ≡ cleared_by (get_or n (swap k p r) []) (get_or n' k []) k i = source r i b d c in
      ap el h ∙ el-add _ _ ∙ ap (λ t. Field.add GF (el (entry n (swap k p r) i)) t) (el-mul (entry n (swap k p r) k) (entry n' k i)));
}
  where
    at-k : swap k p k ≡ p
    at-k = swap-k k p k refl

    source : (r i : ℕ) → r < 4 → ¬ (r ≡ k) → i < 5 → entry n' r i ≡ cleared_by (get_or n (swap k p r) []) (get_or n' k []) k i
    source r i b d c = rw (swap-row k p n r (omega arith) d) at ((e.rows r b d).entry i c)

bytes-step : (k p : ℕ) (n n' : List (List ℕ)) → k < 4 → p < 4 → length n ≡ 4 → Bytes n → Reduce n k p n' → Bytes n'
bytes-step k p n n' kb pb l by e r i b c = go (ℕ_discrete r k)
  where
    pivot-row : entry n' k i < 256
    pivot-row = rw (e.top.entry i c) (mul-lt (inverse (entry n p k)) (entry n p i) (inverse-lt (entry n p k) (by p k pb (omega arith))) (by p i pb c))

    go : Dec (r ≡ k) → entry n' r i < 256
    go (yes q) = rw q pivot-row
    go (no q) =
        let h : entry n' r i ≡ cleared_by (get_or n (swap k p r) []) (get_or n' k []) k i = rw (swap-row k p n r (omega arith) q) at ((e.rows r b q).entry i c) in
        rw h (xor_lt 8 (entry n (swap k p r) i) (mul (entry n (swap k p r) k) (entry n' k i)) (by (swap k p r) i (swap-inside k p r kb pb b) c)
        (mul-lt (entry n (swap k p r) k) (entry n' k i) (by (swap k p r) k (swap-inside k p r kb pb b) (omega arith)) pivot-row))

pub record Links (m : List (List ℕ)) (k : ℕ) (n : List (List ℕ)) : Type 0 where
  pub bytes : Bytes n
  pub reduced : Reduced GF 4 k (matrix n)
  pub kills : (c : List (Byte)) → length c < 5 → ((r : ℕ) → r < 4 → Kills GF c (matrix n r)) → (r : ℕ) → r < 4 → Kills GF c (matrix m r)

pub links : (m : List (List ℕ)) (k : ℕ) (n : List (List ℕ)) → Bytes m → Chain m k n → Links m k n
links m k n by begun = record { bytes = by; reduced = start GF 4 (matrix m); kills = λ c l z. z }
links m k n by (next {k = j} {n = o} p n' ch kb pb l v e) =
    let g : Links m j o = links m j o by ch in
    let s : Step GF 4 5 j (matrix o) (matrix n') = step j p o n' kb pb l g.bytes v e in
    record {
      bytes = bytes-step j p o n' kb pb l g.bytes e;
      reduced = reduced-step GF 4 5 j (matrix o) (matrix n') s kb (omega arith) g.reduced;
      kills = λ c b z. g.kills c b (kills-step GF 4 5 j (matrix o) (matrix n') s c b z);
    }

-- What elimination answers, as a polynomial, kills each of the rows that it was given.
pub solved : (m : List (List ℕ)) (degree : ℕ) (coefficients : List ℕ) → Bytes m → (s : Solved m degree coefficients)
    → (r : ℕ) → r < 4 → Kills GF (column GF (matrix s.rows) degree 0 degree) (matrix m r)
solved m degree cs by s =
    let g : Links m degree s.rows = links m degree s.rows by s.chain in
    let sm : degree ≤ 4 = s.small in
    let lc : length (column GF (matrix s.rows) degree 0 degree) ≡ degree = length-column GF (matrix s.rows) degree 0 degree in
    g.kills (column GF (matrix s.rows) degree 0 degree) (omega arith)
    (kills-end GF (matrix s.rows) 4 degree g.reduced (λ r a b. ap el (s.stop.zeros r a b) ∙ el-zero))

-- Rows from h on that are zero stay so, and no pivot is found in them: the degree is at most h.
pub record Low (h k : ℕ) (n : List (List ℕ)) : Type 0 where
  pub small : k ≤ h
  pub zeros : (r i : ℕ) → h ≤ r → r < 4 → i < 5 → entry n r i ≡ 0

low-next : (h j p : ℕ) (o n' : List (List ℕ)) → Low h j o → j < 4 → p < 4 → Pivot o j p → Reduce o j p n' → Low h (suc j) n'
low-next h j p o n' g kb pb v e = record { small = (let b : p < h = inside (dec_lt p h) in let a : j ≤ p = v.low in omega arith); zeros = rest }
  where
    inside : Dec (p < h) → p < h
    inside (yes b) = b
    inside (no b) = absurd (v.here pb (g.zeros p j (omega arith) pb (omega arith)))

    rest : (r i : ℕ) → h ≤ r → r < 4 → i < 5 → entry n' r i ≡ 0
    rest r i a b c =
        let ph : p < h = inside (dec_lt p h) in
        let jp : j ≤ p = v.low in
        let row : get_or (set o p (get_or o j [])) r [] ≡ get_or o r [] = get_or-set_other o p r (get_or o j []) [] (λ q. omega arith) in
        let x : get_or (get_or o r []) i 0 ≡ 0 = g.zeros r i a b c in
        let y : get_or (get_or o r []) j 0 ≡ 0 = g.zeros r j a b (omega arith) in
        (e.rows r b (λ q. omega arith)).entry i c ∙ rw (row, x, y) (rw (mul-zero-l (entry n' j i)) (xor_zero_l 0))

pub low : (m : List (List ℕ)) (h k : ℕ) (n : List (List ℕ)) → ((r i : ℕ) → h ≤ r → r < 4 → i < 5 → entry m r i ≡ 0) → Chain m k n → Low h k n
low m h k n z begun = record { small = omega arith; zeros = z }
low m h k n z (next {k = j} {n = o} p n' ch kb pb l v e) = low-next h j p o n' (low m h j o z ch) kb pb v e
