-- Document 02, Ask 6: what the smallest k whose locator is wrong is.
use mathlib.Core.Path.{◌≡◌, refl, sym, ap, ap₂, ◌∙◌}
use mathlib.Core.Bool.{Bool, true, false, ◌||◌, cond}
use mathlib.Core.List.{List}
use Prim.Native.Nat.{ℕ, zero, suc, ◌<◌}
use native.Mathlib.Decide.{dec_lt}
use native.Mathlib.Omega.{arith}
use lib.Dec.{eqb, ltb}
use lib.ListN.{take, drop}
use borrow.Author.Tests.{le-ltb, ltb-true, ne_eqb}
use Rattle.refusal.proofs.Rows.{row_on}
use Rattle.correction.specs.Correction.{corrected_pdu}
use Rattle.layout.specs.Control.{control_at}
use Rattle.layout.specs.declared.ControlWord.{ControlWord}
use Rattle.pdu.specs.Reading.{wrong_locator, any_below, lowest_below, lowest_wrong, read_tests, refused, width_of, wrong_of, read_number, reading_by, reading_of}
use Rattle.pdu.proofs.Any.{any_found}
use Rattle.pdu.proofs.Filling.{each-fails}

-- ---- a test and a bound

-- a number that passes, where none below it does, is the smallest
found : (t : ℕ → Bool) (n k : ℕ) → k < n → t k ≡ true → ((j : ℕ) → j < k → t j ≡ false) → k ≡ lowest_below n t
unfolding lowest_below
found t zero k h e f = absurd (omega arith)
found t (suc n) zero h e f = rw e
found t (suc n) (suc k) h e f =
    let z : t 0 ≡ false = f 0 (omega arith) in
    rw z (ap suc (found (λ i. t (suc i)) n k (omega arith) e (λ j l. f (suc j) (omega arith))))

none : (t : ℕ → Bool) (n : ℕ) → ((j : ℕ) → j < n → t j ≡ false) → n ≡ lowest_below n t
unfolding lowest_below
none t zero f = refl
none t (suc n) f =
    let z : t 0 ≡ false = f 0 (omega arith) in
    rw z (ap suc (none (λ i. t (suc i)) n (λ j l. f (suc j) (omega arith))))

-- the same of the test of numbers below a bound as a whole
pub lowest-found : (t : ℕ → Bool) (n k : ℕ) → k < n → t k ≡ true → any_below k t ≡ false → k ≡ lowest_below n t
lowest-found t n k h e a = found t n k h e (λ j l. each-fails t k j a l)

pub lowest-none : (t : ℕ → Bool) (n k : ℕ) → k ≡ n → any_below k t ≡ false → n ≡ lowest_below n t
lowest-none t n k e a = none t n (λ j l. each-fails t k j a (omega arith))

-- tests that agree below the bound
pub lowest-same : (t u : ℕ → Bool) (n : ℕ) → ((k : ℕ) → k < n → t k ≡ u k) → lowest_below n t ≡ lowest_below n u
unfolding lowest_below
lowest-same t u zero h = refl
lowest-same t u (suc n) h = ap₂ (λ (b : Bool) (k : ℕ). cond b 0 (suc k)) (h 0 (omega arith)) (lowest-same (λ i. t (suc i)) (λ i. u (suc i)) n (λ k l. h (suc k) (omega arith)))

-- below the bound it passes, and no number below it does
passes : (t : ℕ → Bool) (n : ℕ) → lowest_below n t < n → t (lowest_below n t) ≡ true
unfolding lowest_below
passes t zero h = absurd (omega arith)
passes t (suc n) h = go (t 0) refl h (passes (λ k. t (suc k)) n)
  where
    rest : ℕ
    rest = lowest_below n (λ k. t (suc k))

    go : (b : Bool) → t 0 ≡ b → cond b 0 (suc rest) < suc n → (rest < n → t (suc rest) ≡ true) → t (cond b 0 (suc rest)) ≡ true
    go true e l rec = e
    go false e l rec = rec (omega arith)

least : (t : ℕ → Bool) (n j : ℕ) → j < lowest_below n t → t j ≡ false
unfolding lowest_below
least t zero j h = absurd (omega arith)
least t (suc n) j h = go (t 0) j refl h (least (λ k. t (suc k)) n)
  where
    rest : ℕ
    rest = lowest_below n (λ k. t (suc k))

    go : (b : Bool) (j : ℕ) → t 0 ≡ b → j < cond b 0 (suc rest) → ((i : ℕ) → i < rest → t (suc i) ≡ false) → t j ≡ false
    go true j e l rec = absurd (omega arith)
    go false zero e l rec = e
    go false (suc j) e l rec = rec j (omega arith)

all-fail : (t : ℕ → Bool) (n : ℕ) → ((k : ℕ) → k < n → t k ≡ false) → any_below n t ≡ false
unfolding any_below
all-fail t zero f = refl
all-fail t (suc n) f = ap₂ ◌||◌ (all-fail t n (λ k h. f k (omega arith))) (f n (omega arith))

-- it is below the bound just where some number is that passes
pub any-lowest : (t : ℕ → Bool) (n : ℕ) → any_below n t ≡ ltb (lowest_below n t) n
any-lowest t n = go (dec_lt (lowest_below n t) n)
  where
    go : Dec (lowest_below n t < n) → any_below n t ≡ ltb (lowest_below n t) n
    go (yes h) = any_found t n (lowest_below n t) h (passes t n h)
    go (no h) = all-fail t n (λ k l. least t n k (omega arith)) ∙ sym (le-ltb (lowest_below n t) n (omega arith))

-- ---- locators

module _ (width : ℕ) (c : ControlWord) (y : List ℕ) (some : any_below c.nop (wrong_locator width c y) ≡ true) where
  pub lowest-inside : lowest_wrong width c y < c.nop
  lowest-inside = ltb-true (lowest_wrong width c y) c.nop (sym (any-lowest (wrong_locator width c y) c.nop) ∙ some)

  -- where a locator is wrong, that of the smallest k is
  pub lowest-wrong : wrong_locator width c y (lowest_wrong width c y) ≡ true
  lowest-wrong = passes (wrong_locator width c y) c.nop lowest-inside

-- and none below it is
pub none_below : (width : ℕ) (c : ControlWord) (y : List ℕ) (j : ℕ) → j < lowest_wrong width c y → wrong_locator width c y j ≡ false
none_below width c y j h = least (wrong_locator width c y) c.nop j h

-- ---- an answer

-- k is the smallest whose locator is wrong in a corrected PDU y
pub record Lowest (y : List ℕ) (k : ℕ) : Type 0 where
  pub inside : k < (control_at y).nop
  pub wrong : wrong_locator (width_of y) (control_at y) y k ≡ true
  pub below : (j : ℕ) → j < k → wrong_locator (width_of y) (control_at y) y j ≡ false

-- so is the k that comes with 11, where row 11 applies
pub with-eleven : (y : List ℕ) → any_below (control_at y).nop (wrong_locator (width_of y) (control_at y) y) ≡ true → Lowest y (wrong_of y 11)
unfolding wrong_of
with-eleven y e = record {
  inside = lowest-inside (width_of y) (control_at y) y e;
  wrong = lowest-wrong (width_of y) (control_at y) y e;
  below = none_below (width_of y) (control_at y) y;
}

-- with another number it is 0
pub without-eleven : (y : List ℕ) (n : ℕ) → ¬ (n ≡ 11) → wrong_of y n ≡ 0
unfolding wrong_of
without-eleven y n d = let t : eqb n 11 ≡ false = ne_eqb n 11 d in rw t

-- the answer with 11, where row 11 applies
pub lowest_by : (y : List ℕ) (n : ℕ) → n ≡ 11 → any_below (control_at y).nop (wrong_locator (width_of y) (control_at y) y) ≡ true → Lowest y (reading_by y n).wrong
unfolding reading_by refused
lowest_by y n e row = rw e (with-eleven y row)

-- what reading answers with 11
pub reading-lowest : (p : List ℕ) → read_number p ≡ 11 → Lowest (corrected_pdu p) (reading_of p).wrong
unfolding read_number width_of
reading-lowest p e = lowest_by (corrected_pdu p) (read_number p) e (row_on _ 11 (take 7 (read_tests p)) (drop 8 (read_tests p)) refl refl refl e)
