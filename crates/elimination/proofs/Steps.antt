-- The steps of the elimination, turn by turn of their loops.
use mathlib.Core.Path.{◌≡◌, refl, sym, ◌∙◌, ap, ap₂}
use mathlib.Core.List.{List, []}
use Prim.Native.Nat.{ℕ, zero, suc, ◌+◌, ◌<◌, ◌≤◌}
use native.Mathlib.Omega.{arith}
use native.Mathlib.Decide.{dec_lt, ℕ_discrete}
use lib.ListN.{length, get_or, set, length-set}
use lib.Bits.{bit_xor}
use Rattle.field.specs.Field.{mul, inverse}
use lib.Seq.{get_or-set_same, get_or-set_other}
use Rattle.elimination.specs.Elimination.{Row, scaled_by, cleared_by, Pivot, ReduceRows, ReduceRight, Column, beside_row, beside, Reduce}

pub begin : (w : ℕ) (f : ℕ → ℕ) (r : List ℕ) → length r ≡ w → Row w f r 0
begin w f r e = record { long = e; entry = λ i l. absurd (omega arith) }

pub grow : (w : ℕ) (f : ℕ → ℕ) (r : List ℕ) (n x : ℕ) → n < w → Row w f r n → x ≡ f n → Row w f (set r n x) (n + 1)
grow w f r n x l g e = record { long = simp length-set g.long; entry = λ i b. go i b (ℕ_discrete i n) }
  where
    go : (i : ℕ) → i < n + 1 → Dec (i ≡ n) → get_or (set r n x) i 0 ≡ f i
    go i b (yes p) = let q : length r ≡ w = g.long in rw p (rw (get_or-set_same r n x 0 (omega arith)) e)
    go i b (no p) = rw (get_or-set_other r n i x 0 p) (g.entry i (omega arith))

pub finish : (w : ℕ) (f : ℕ → ℕ) (r : List ℕ) (n : ℕ) → n ≡ w → Row w f r n → Row w f r w
finish w f r n e g = record { long = g.long; entry = λ i l. g.entry i (omega arith) }

-- The matrix m with column k cleared by the row `top`, as far as row n.
pub record Clear (m : List (List ℕ)) (top : List ℕ) (k : ℕ) (out : List (List ℕ)) (n : ℕ) : Type 0 where
  pub tall : length out ≡ 4
  pub kept : get_or out k [] ≡ top
  pub done : (r : ℕ) → r < n → ¬ (r ≡ k) → Row 4 (cleared_by (get_or m r []) top k) (get_or out r []) 4
  pub left : (r : ℕ) → n ≤ r → r < 4 → get_or out r [] ≡ get_or m r []

pub clear-begin : (m : List (List ℕ)) (p : ℕ) (a top : List ℕ) (k : ℕ) → k < 4 → length m ≡ 4 → Clear (set (set m p a) k top) top k (set (set m p a) k top) 0
clear-begin m p a top k b l = record {
  tall = simp length-set l;
  kept = get_or-set_same (set m p a) k top [] (simp length-set (omega arith));
  done = λ r b n. absurd (omega arith);
  left = λ r a b. refl;
}

pub clear-skip : (m : List (List ℕ)) (top : List ℕ) (k : ℕ) (out : List (List ℕ)) (n : ℕ) → Clear m top k out n → n ≡ k → Clear m top k out (n + 1)
clear-skip m top k out n g e =
    record { tall = g.tall; kept = g.kept; done = λ r b d. g.done r (omega arith) d; left = λ r a b. g.left r (omega arith) b }

pub clear-row : (m : List (List ℕ)) (top : List ℕ) (k : ℕ) (out : List (List ℕ)) (n : ℕ) (new : List ℕ) → Clear m top k out n → n < 4 → ¬ (n ≡ k)
    → Row 4 (cleared_by (get_or out n []) top k) new 4 → Clear m top k (set out n new) (n + 1)
clear-row m top k out n new g l d row =
    record {
      tall = length-set out n new ∙ g.tall;
      kept = get_or-set_other out n k new [] (λ e. d (sym e)) ∙ g.kept;
      done = λ r b e. go r b e (ℕ_discrete r n);
      left = λ r a b. get_or-set_other out n r new [] (λ e. omega arith) ∙ g.left r (omega arith) b;
    }
  where
    go : (r : ℕ) → r < n + 1 → ¬ (r ≡ k) → Dec (r ≡ n) → Row 4 (cleared_by (get_or m r []) top k) (get_or (set out n new) r []) 4
    go r b e (yes p) =
        let t : length out ≡ 4 = g.tall in
        let q : get_or out n [] ≡ get_or m n [] = g.left n (omega arith) l in
        rw p (rw (get_or-set_same out n new [] (omega arith)) (rw q at row))
    go r b e (no p) = rw (get_or-set_other out n r new [] p) (g.done r (omega arith) e)

pub reduce-end : (m : List (List ℕ)) (k p : ℕ) (top : List ℕ) (out : List (List ℕ)) (n : ℕ) → n ≡ 4
    → Row 4 (scaled_by (get_or m p []) (get_or (get_or m p []) k 0)) top 4 → Clear (set (set m p (get_or m k [])) k top) top k out n → ReduceRows 4 m k p out
reduce-end m k p top out n e t g = record {
  tall = g.tall;
  top = rw g.kept t;
  rows = λ r b d. rw g.kept (rw (get_or-set_other (set m p (get_or m k [])) k r top [] d) at (g.done r (omega arith) d));
}

-- The right side t with the entries of the rows cleared by the entry `top` of row k, as far as row n: b has the factor of each row.
pub record ClearRight (t : List ℕ) (b : ℕ → ℕ) (top k : ℕ) (out : List ℕ) (n : ℕ) : Type 0 where
  pub long : length out ≡ 4
  pub kept : get_or out k 0 ≡ top
  pub done : (r : ℕ) → r < n → ¬ (r ≡ k) → get_or out r 0 ≡ bit_xor (get_or t r 0) (mul (b r) top)
  pub left : (r : ℕ) → n ≤ r → r < 4 → get_or out r 0 ≡ get_or t r 0

pub right-begin : (t : List ℕ) (b : ℕ → ℕ) (p x top k : ℕ) → k < 4 → length t ≡ 4 → ClearRight (set (set t p x) k top) b top k (set (set t p x) k top) 0
right-begin t b p x top k h l = record {
  long = simp length-set l;
  kept = get_or-set_same (set t p x) k top 0 (simp length-set (omega arith));
  done = λ r a n. absurd (omega arith);
  left = λ r a c. refl;
}

pub right-skip : (t : List ℕ) (b : ℕ → ℕ) (top k : ℕ) (out : List ℕ) (n : ℕ) → ClearRight t b top k out n → n ≡ k → ClearRight t b top k out (n + 1)
right-skip t b top k out n g e =
    record { long = g.long; kept = g.kept; done = λ r a d. g.done r (omega arith) d; left = λ r a c. g.left r (omega arith) c }

pub right-row : (t : List ℕ) (b : ℕ → ℕ) (top k : ℕ) (out : List ℕ) (n x : ℕ) → ClearRight t b top k out n → n < 4 → ¬ (n ≡ k)
    → x ≡ bit_xor (get_or out n 0) (mul (b n) top) → ClearRight t b top k (set out n x) (n + 1)
right-row t b top k out n x g l d e =
    record {
      long = length-set out n x ∙ g.long;
      kept = get_or-set_other out n k x 0 (λ q. d (sym q)) ∙ g.kept;
      done = λ r a f. go r a f (ℕ_discrete r n);
      left = λ r a c. get_or-set_other out n r x 0 (λ q. omega arith) ∙ g.left r (omega arith) c;
    }
  where
    go : (r : ℕ) → r < n + 1 → ¬ (r ≡ k) → Dec (r ≡ n) → get_or (set out n x) r 0 ≡ bit_xor (get_or t r 0) (mul (b r) top)
    go r a f (yes q) =
        let h : length out ≡ 4 = g.long in
        rw q (get_or-set_same out n x 0 (omega arith) ∙ e ∙ ap (λ (y : ℕ). bit_xor y (mul (b n) top)) (g.left n (omega arith) l))
    go r a f (no q) = get_or-set_other out n r x 0 q ∙ g.done r (omega arith) f

pub right_end : (m : List (List ℕ)) (t : List ℕ) (k p top : ℕ) (out : List ℕ) (n : ℕ) → n ≡ 4 → top ≡ mul (inverse (get_or (get_or m p []) k 0)) (get_or t p 0)
    → ClearRight (set (set t p (get_or t k 0)) k top) (λ r. get_or (get_or (set m p (get_or m k [])) r []) k 0) top k out n → ReduceRight m t k p out
right_end m t k p top out n e h g = record {
  long = g.long;
  top = g.kept ∙ h;
  rest = λ r b d. g.done r (omega arith) d ∙ ap₂ bit_xor (get_or-set_other (set t p (get_or t k 0)) k r top 0 d) (ap (mul (get_or (get_or (set m p (get_or m k [])) r []) k 0)) (sym g.kept));
}

-- ---- the rows and the right side beside them

pub beside-row : (m : List (List ℕ)) (t : List ℕ) (r : ℕ) → r < 4 → get_or (beside m t) r [] ≡ beside_row (get_or m r []) (get_or t r 0)
beside-row m t zero h = refl
beside-row m t (suc zero) h = refl
beside-row m t (suc (suc zero)) h = refl
beside-row m t (suc (suc (suc zero))) h = refl
beside-row m t (suc (suc (suc (suc r)))) h = absurd (omega arith)

left_at : (row : List ℕ) (x i : ℕ) → i < 4 → get_or (beside_row row x) i 0 ≡ get_or row i 0
left_at row x zero h = refl
left_at row x (suc zero) h = refl
left_at row x (suc (suc zero)) h = refl
left_at row x (suc (suc (suc zero))) h = refl
left_at row x (suc (suc (suc (suc i)))) h = absurd (omega arith)

module _ (m : List (List ℕ)) (t : List ℕ) where
  pub left-entry : (r i : ℕ) → r < 4 → i < 4 → get_or (get_or (beside m t) r []) i 0 ≡ get_or (get_or m r []) i 0
  left-entry r i h l = ap (λ (row : List ℕ). get_or row i 0) (beside-row m t r h) ∙ left_at (get_or m r []) (get_or t r 0) i l

  right-entry : (r : ℕ) → r < 4 → get_or (get_or (beside m t) r []) 4 0 ≡ get_or t r 0
  right-entry r h = ap (λ (row : List ℕ). get_or row 4 0) (beside-row m t r h)

  pub pivot-beside : (k p : ℕ) → k < 4 → Pivot m k p → Pivot (beside m t) k p
  pivot-beside k p h v = record {
    low = v.low;
    high = v.high;
    zeros = λ r a b. left-entry r k (let u : p ≤ 4 = v.high in omega arith) h ∙ v.zeros r a b;
    here = λ l e. v.here l (sym (left-entry p k l h) ∙ e);
  }

  pub column-beside : (k : ℕ) (out : List ℕ) → k < 4 → Column m k out k → Column (beside m t) k out k
  column-beside k out h c = record { long = c.long; taken = λ i l. c.taken i l ∙ sym (left-entry i k (omega arith) h) }

  pub right-column : length t ≡ 4 → Column (beside m t) 4 t 4
  right-column l = record { long = l; taken = λ i h. sym (right-entry i h) }

  -- the row at place r after rows k and p were exchanged
  module _ (k p r : ℕ) (lm : length m ≡ 4) (lt : length t ≡ 4) (kb : k < 4) (pb : p < 4) (rb : r < 4) where
    exchanged : get_or (set (beside m t) p (get_or (beside m t) k [])) r [] ≡ beside_row (get_or (set m p (get_or m k [])) r []) (get_or (set t p (get_or t k 0)) r 0)
    exchanged = go (ℕ_discrete r p)
      where
        go : Dec (r ≡ p) → get_or (set (beside m t) p (get_or (beside m t) k [])) r [] ≡ beside_row (get_or (set m p (get_or m k [])) r []) (get_or (set t p (get_or t k 0)) r 0)
        go (yes e) =
            rw e
            (get_or-set_same (beside m t) p (get_or (beside m t) k []) [] pb ∙ beside-row m t k kb
            ∙ sym (ap₂ beside_row (get_or-set_same m p (get_or m k []) [] (omega arith)) (get_or-set_same t p (get_or t k 0) 0 (omega arith))))
        go (no d) =
            get_or-set_other (beside m t) p r (get_or (beside m t) k []) [] d ∙ beside-row m t r rb
            ∙ sym (ap₂ beside_row (get_or-set_other m p r (get_or m k []) [] d) (get_or-set_other t p r (get_or t k 0) 0 d))

pub reduce-beside : (m out : List (List ℕ)) (t t' : List ℕ) (k p : ℕ) → length m ≡ 4 → length t ≡ 4 → k < 4 → p < 4 → ReduceRows 4 m k p out → ReduceRight m t k p t'
    → Reduce (beside m t) k p (beside out t')
reduce-beside m out t t' k p lm lt kb pb g h =
    record {
      tall = refl;
      top = record { long = ap length (beside-row out t' k kb); entry = λ i b. top i b (dec_lt i 4) };
      rows = λ r b d. record { long = ap length (beside-row out t' r b); entry = λ i l. rows r i b d l (dec_lt i 4) };
    }
  where
    top : (i : ℕ) → i < 5 → Dec (i < 4) → get_or (get_or (beside out t') k []) i 0 ≡ scaled_by (get_or (beside m t) p []) (get_or (get_or (beside m t) p []) k 0) i
    top i b (yes c) =
        left-entry out t' k i kb c ∙ g.top.entry i c
        ∙ sym (ap₂ (λ (x y : ℕ). mul (inverse x) y) (left-entry m t p k pb kb) (left-entry m t p i pb c))
    top i b (no c) =
        let e : i ≡ 4 = omega arith in
        rw e
        (right-entry out t' k kb ∙ h.top ∙ sym (ap₂ (λ (x y : ℕ). mul (inverse x) y) (left-entry m t p k pb kb) (right-entry m t p pb)))

    -- the entry at column k of the row that is cleared
    factor : (r : ℕ) → r < 4 → get_or (get_or (set (beside m t) p (get_or (beside m t) k [])) r []) k 0 ≡ get_or (get_or (set m p (get_or m k [])) r []) k 0
    factor r b = ap (λ (row : List ℕ). get_or row k 0) (exchanged m t k p r lm lt kb pb b) ∙ left_at (get_or (set m p (get_or m k [])) r []) (get_or (set t p (get_or t k 0)) r 0) k kb

    rows : (r i : ℕ) → r < 4 → ¬ (r ≡ k) → i < 5 → Dec (i < 4)
        → get_or (get_or (beside out t') r []) i 0 ≡ cleared_by (get_or (set (beside m t) p (get_or (beside m t) k [])) r []) (get_or (beside out t') k []) k i
    rows r i b d l (yes c) =
        left-entry out t' r i b c ∙ (g.rows r b d).entry i c
        ∙ sym (ap₂ bit_xor
        (ap (λ (row : List ℕ). get_or row i 0) (exchanged m t k p r lm lt kb pb b) ∙ left_at (get_or (set m p (get_or m k [])) r []) (get_or (set t p (get_or t k 0)) r 0) i c)
        (ap₂ mul (factor r b) (left-entry out t' k i kb c)))
    rows r i b d l (no c) =
        let e : i ≡ 4 = omega arith in
        rw e
        (right-entry out t' r b ∙ h.rest r b d
        ∙ sym (ap₂ bit_xor (ap (λ (row : List ℕ). get_or row 4 0) (exchanged m t k p r lm lt kb pb b)) (ap₂ mul (factor r b) (right-entry out t' k kb))))

pub column-next : (m : List (List ℕ)) (k : ℕ) (out : List ℕ) (n x : ℕ) → n < 4 → Column m k out n → x ≡ get_or (get_or m n []) k 0 → Column m k (set out n x) (n + 1)
column-next m k out n x l g e = record { long = length-set out n x ∙ g.long; taken = λ i b. go i b (ℕ_discrete i n) }
  where
    go : (i : ℕ) → i < n + 1 → Dec (i ≡ n) → get_or (set out n x) i 0 ≡ get_or (get_or m i []) k 0
    go i b (yes p) = let q : length out ≡ 4 = g.long in rw p (rw (get_or-set_same out n x 0 (omega arith)) e)
    go i b (no p) = rw (get_or-set_other out n i x 0 p) (g.taken i (omega arith))

pub column-end : (m : List (List ℕ)) (k : ℕ) (out : List ℕ) (n : ℕ) → n ≡ k → Column m k out n → Column m k out k
column-end m k out n e c = rw e at c
