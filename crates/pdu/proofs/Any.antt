-- A test that some number below a bound passes.
use mathlib.Core.Path.{◌≡◌, refl, sym, ap, ap₂, ◌∙◌}
use mathlib.Core.Bool.{Bool, true, false, ◌||◌}
use Prim.Native.Nat.{ℕ, zero, suc, ◌+◌, ◌<◌}
use native.Mathlib.Decide.{ℕ_discrete}
use native.Mathlib.Numerals.{add-one}
use native.Mathlib.Omega.{arith}
use lib.Dec.{ltb}
use borrow.Author.Tests.{lt-ltb}
use Rattle.pdu.specs.Reading.{any_below}

or-true : (a : Bool) → (a || true) ≡ true
or-true true = refl
or-true false = refl

found : (t : ℕ → Bool) (n k : ℕ) → k < n → t k ≡ true → any_below n t ≡ true
unfolding any_below
found t zero k h e = absurd (omega arith)
found t (suc n) k h e = go (ℕ_discrete k n) (λ l. found t n k l e)
  where
    go : Dec (k ≡ n) → (k < n → any_below n t ≡ true) → (any_below n t || t n) ≡ true
    go (yes q) rec = ap (λ (b : Bool). any_below n t || b) (ap t (sym q) ∙ e) ∙ or-true (any_below n t)
    go (no q) rec = ap (λ (b : Bool). b || t n) (rec (omega arith))

pub any-start : (t : ℕ → Bool) → any_below 0 t ≡ false
unfolding any_below
any-start t = refl

pub any_next : (t : ℕ → Bool) (k : ℕ) → any_below k t ≡ false → t k ≡ false → any_below (k + 1) t ≡ false
unfolding any_below
any_next t k a e = ap (λ (n : ℕ). any_below n t) (add-one k) ∙ ap₂ ◌||◌ a e

pub any_found : (t : ℕ → Bool) (n k : ℕ) → k < n → t k ≡ true → any_below n t ≡ ltb k n
any_found t n k h e = found t n k h e ∙ sym (lt-ltb k n h)

-- tests that agree below a bound
pub any_same : (t u : ℕ → Bool) (n : ℕ) → ((k : ℕ) → k < n → t k ≡ u k) → any_below n t ≡ any_below n u
unfolding any_below
any_same t u zero h = refl
any_same t u (suc n) h = ap₂ ◌||◌ (any_same t u n (λ k l. h k (omega arith))) (h n (omega arith))
