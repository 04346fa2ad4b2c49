-- The laws of the field. Every nonzero byte is a power of a, so products are sums of exponents.
use mathlib.Core.Path.{◌≡◌, refl, sym, ap, ◌∙◌, subst}
use mathlib.Core.Bool.{Bool, true, false, cond, true≢false}
use mathlib.Core.Logic.{⊎_elim, ◌⊎◌}
use Prim.Native.Nat.{ℕ, zero, suc, ◌+◌, ◌-◌, ◌*◌, ◌/◌, ◌%◌, ◌<◌}
use native.Mathlib.Nat.{zero-add, suc-add, add_comm, div-add-mod', not-suc-le-zero, eq-zero-or-pos, zero-mul, suc-mul}
use native.Mathlib.Omega.{arith}
use lib.Bits.{bit_xor, xor_self}
use native.Mathlib.Decide.{ℕ_discrete}
use lib.Dec.{eqb, eqb→eq, lit<}
use borrow.Author.Tests.{eq-eqb, eqb-true}
use lib.ListN.{get_or}
use Rattle.field.specs.Field.{times_a, mul_bits, mul, shift, pow, last_below, inverse}
use Rattle.bits.proofs.Computed.{below}
use Rattle.field.proofs.Linear.{times_a-add, times_a-zero, times_a-lt, mul-add-l, mul-add-r, mul-times_a}
use Rattle.field.proofs.Tables.{log_table, log-lt, log-rule, pow-injective}

-- ---- times a power of a

pub shift-add : (m n x : ℕ) → shift (m + n) x ≡ shift m (shift n x)
unfolding shift
shift-add zero n x = ap (λ (k : ℕ). shift k x) (zero-add n)
shift-add (suc m) n x = ap (λ (k : ℕ). shift k x) (suc-add m n) ∙ ap times_a (shift-add m n x)

pub shift-lt : (n x : ℕ) → x < 256 → shift n x < 256
unfolding shift
shift-lt zero x h = h
shift-lt (suc n) x h = times_a-lt (shift n x)

pub mul-shift : (n x z : ℕ) → mul (shift n x) z ≡ shift n (mul x z)
unfolding shift
mul-shift zero x z = refl
mul-shift (suc n) x z = mul-times_a (shift n x) z ∙ ap times_a (mul-shift n x z)

-- ---- zero and one

pub mul-zero-l : (z : ℕ) → mul 0 z ≡ 0
mul-zero-l z = ap (λ (x : ℕ). mul x z) (sym (xor_self 0)) ∙ mul-add-l 0 0 z ∙ xor_self (mul 0 z)

pub mul-zero-r : (x : ℕ) → mul x 0 ≡ 0
mul-zero-r x = ap (mul x) (sym (xor_self 0)) ∙ mul-add-r x 0 0 ∙ xor_self (mul x 0)

one_right : ℕ → Bool
one_right z = eqb (mul 1 z) z

pub mul-one-l : (z : ℕ) → z < 256 → mul 1 z ≡ z
unfolding one_right mul mul_bits times_a
mul-one-l z h = eqb→eq (mul 1 z) z (below one_right 256 tt z h)

-- ---- powers

pub mul-pow : (n z : ℕ) → z < 256 → mul (pow n) z ≡ shift n z
unfolding pow
mul-pow n z h = mul-shift n 1 z ∙ ap (shift n) (mul-one-l z h)

pub pow-lt : (n : ℕ) → pow n < 256
unfolding pow
pow-lt n = shift-lt n 1 (lit< tt)

pub pow-add : (m n : ℕ) → pow (m + n) ≡ mul (pow m) (pow n)
unfolding pow
pow-add m n = shift-add m n 1 ∙ sym (mul-pow m (pow n) (pow-lt n))

pub pow-255 : pow 255 ≡ 1
unfolding pow shift times_a
pow-255 = refl

-- ---- every byte is zero or a power

pub by-power : (P : ℕ → Type 0) → P 0 → ((n : ℕ) → P (pow n)) → (x : ℕ) → x < 256 → P x
by-power P p q x h =
    ⊎_elim (λ (e : x ≡ 0). subst P (sym e) p) (λ (z : 0 < x). subst P (log-rule x z h) (q (get_or log_table x 0))) (eq-zero-or-pos x)

pub mul-lt : (x y : ℕ) → x < 256 → y < 256 → mul x y < 256
mul-lt x y hx hy =
    by-power (λ (x : ℕ). mul x y < 256) (rw mul-zero-l (lit< tt)) (λ m. rw (mul-pow m y hy) (shift-lt m y hy)) x hx

pub mul_comm : (x y : ℕ) → x < 256 → y < 256 → mul x y ≡ mul y x
mul_comm x y hx hy =
    by-power (λ (x : ℕ). mul x y ≡ mul y x) (mul-zero-l y ∙ sym (mul-zero-r y))
    (λ m. by-power (λ (y : ℕ). mul (pow m) y ≡ mul y (pow m)) (mul-zero-r (pow m) ∙ sym (mul-zero-l (pow m)))
    (λ n. sym (pow-add m n) ∙ ap pow (add_comm m n) ∙ pow-add n m) y hy) x hx

pub mul_assoc : (x y z : ℕ) → x < 256 → y < 256 → z < 256 → mul (mul x y) z ≡ mul x (mul y z)
mul_assoc x y z hx hy hz =
    by-power (λ (x : ℕ). mul (mul x y) z ≡ mul x (mul y z))
    (ap (λ (w : ℕ). mul w z) (mul-zero-l y) ∙ mul-zero-l z ∙ sym (mul-zero-l (mul y z)))
    (λ m. ap (λ (w : ℕ). mul w z) (mul-pow m y hy) ∙ mul-shift m y z ∙ sym (mul-pow m (mul y z) (mul-lt y z hy hz))) x hx

-- ---- inverses

-- a to the power 255 less the logarithm
reciprocal : ℕ → ℕ
reciprocal x = pow (255 - get_or log_table x 0)

pub pow-inverse : (x k m : ℕ) → k + m ≡ 255 → pow k ≡ x → mul x (pow m) ≡ 1
pow-inverse x k m h e = ap (λ (w : ℕ). mul w (pow m)) (sym e) ∙ sym (pow-add k m) ∙ ap pow h ∙ pow-255

mul-reciprocal : (x : ℕ) → 0 < x → x < 256 → mul x (reciprocal x) ≡ 1
unfolding reciprocal
mul-reciprocal x z h =
    let below : get_or log_table x 0 < 255 = log-lt x z h in
    pow-inverse x (get_or log_table x 0) (255 - get_or log_table x 0) (omega arith) (log-rule x z h)

pub cancel : (x y z : ℕ) → 0 < x → x < 256 → y < 256 → z < 256 → mul x y ≡ mul x z → y ≡ z
unfolding reciprocal
cancel x y z p hx hy hz e = sym (back y hy) ∙ ap (mul (reciprocal x)) e ∙ back z hz
  where
    small : reciprocal x < 256
    small = pow-lt (255 - get_or log_table x 0)

    back : (w : ℕ) → w < 256 → mul (reciprocal x) (mul x w) ≡ w
    back w hw =
        sym (mul_assoc (reciprocal x) x w small hx hw)
        ∙ ap (λ (v : ℕ). mul v w) (mul_comm (reciprocal x) x small hx ∙ mul-reciprocal x p hx) ∙ mul-one-l w hw

pub no-zero-divisors : (x y : ℕ) → x < 256 → y < 256 → 0 < x → mul x y ≡ 0 → y ≡ 0
no-zero-divisors x y hx hy p e = cancel x y 0 p hx hy (lit< tt) (e ∙ sym (mul-zero-r x))

-- what the search of `last_below` answers
module _ (t : ℕ → Bool) where
  last_none : (n : ℕ) → ((k : ℕ) → t k ≡ false) → last_below t n ≡ 0
  unfolding last_below
  last_none zero none = refl
  last_none (suc n) none = rw (none n) (last_none n none)

  last-only : (n y : ℕ) → y < n → t y ≡ true → ((k : ℕ) → k < n → t k ≡ true → k ≡ y) → last_below t n ≡ y
  unfolding last_below
  last-only zero y l h only = absurd (not-suc-le-zero l)
  last-only (suc n) y l h only = go (t n) refl (ℕ_discrete y n) (λ m. last-only n y m h (λ k b e. only k (omega arith) e))
    where
      go : (b : Bool) → t n ≡ b → Dec (y ≡ n) → (y < n → last_below t n ≡ y) → cond b n (last_below t n) ≡ y
      go true e d rest = only n (omega arith) e
      go false e (yes q) rest = absurd (true≢false (sym h ∙ ap t q ∙ e))
      go false e (no q) rest = rest (omega arith)

pub inverse-zero : inverse 0 ≡ 0
unfolding inverse
inverse-zero = last_none (λ y. eqb (mul 0 y) 1) 256 (λ k. ap (λ (x : ℕ). eqb x 1) (mul-zero-l k))

-- the byte whose product with x is 1 is the inverse
pub inverse-only : (x y : ℕ) → x < 256 → y < 256 → mul x y ≡ 1 → inverse x ≡ y
unfolding inverse
inverse-only x y hx hy e =
    last-only (λ k. eqb (mul x k) 1) 256 y hy (eq-eqb (mul x y) 1 e)
    (λ k b q. cancel x k y positive hx b hy (eqb-true (mul x k) 1 q ∙ sym e))
  where
    positive : 0 < x
    positive = ⊎_elim (λ (z : x ≡ 0). absurd (omega (arith, sym e ∙ ap (λ (w : ℕ). mul w y) z ∙ mul-zero-l y))) (λ (p : 0 < x). p) (eq-zero-or-pos x)

pub mul-inverse : (x : ℕ) → 0 < x → x < 256 → mul x (inverse x) ≡ 1
unfolding reciprocal
mul-inverse x z h =
    ap (mul x) (inverse-only x (reciprocal x) h (pow-lt (255 - get_or log_table x 0)) (mul-reciprocal x z h)) ∙ mul-reciprocal x z h

pub inverse-lt : (x : ℕ) → x < 256 → inverse x < 256
unfolding reciprocal
inverse-lt x h =
    ⊎_elim (λ (e : x ≡ 0). rw (e, inverse-zero) (lit< tt))
    (λ (z : 0 < x). rw (inverse-only x (reciprocal x) h (pow-lt (255 - get_or log_table x 0)) (mul-reciprocal x z h)) (pow-lt (255 - get_or log_table x 0)))
    (eq-zero-or-pos x)

-- ---- exponents modulo 255

pub shift-255 : (x : ℕ) → x < 256 → shift 255 x ≡ x
shift-255 x h = sym (mul-pow 255 x h) ∙ ap (λ (w : ℕ). mul w x) pow-255 ∙ mul-one-l x h

pub shift-turns : (q x : ℕ) → x < 256 → shift (q * 255) x ≡ x
unfolding shift
shift-turns zero x h = ap (λ (k : ℕ). shift k x) (zero-mul 255) ∙ refl
shift-turns (suc q) x h =
    ap (λ (k : ℕ). shift k x) (suc-mul q 255) ∙ shift-add (q * 255) 255 x
    ∙ ap (shift (q * 255)) (shift-255 x h) ∙ shift-turns q x h

pub shift-mod : (k x : ℕ) → x < 256 → shift (k % 255) x ≡ shift k x
shift-mod k x h =
    sym (shift-turns (k / 255) (shift (k % 255) x) (shift-lt (k % 255) x h))
    ∙ sym (shift-add (k / 255 * 255) (k % 255) x) ∙ ap (λ (n : ℕ). shift n x) (div-add-mod' k 255)

pub pow-mod : (k : ℕ) → pow (k % 255) ≡ pow k
unfolding pow
pow-mod k = shift-mod k 1 (lit< tt)

-- ---- times a power of a is linear, at all numbers

pub shift-xor : (n x y : ℕ) → shift n (bit_xor x y) ≡ bit_xor (shift n x) (shift n y)
unfolding shift
shift-xor zero x y = refl
shift-xor (suc n) x y = ap times_a (shift-xor n x y) ∙ times_a-add (shift n x) (shift n y)

pub shift_zero : (n : ℕ) → shift n 0 ≡ 0
unfolding shift
shift_zero zero = refl
shift_zero (suc n) = ap times_a (shift_zero n) ∙ times_a-zero

-- ---- a^0 to a^254 run through all 255 nonzero bytes

pub record PowersRun : Type 0 where
  -- each is a nonzero byte
  pub each : (k : ℕ) → k < 255 → (0 < pow k) × (pow k < 256)
  -- no two are equal
  pub apart : (j k : ℕ) → j < 255 → k < 255 → pow j ≡ pow k → j ≡ k
  -- every nonzero byte is one of them
  pub all : (x : ℕ) → 0 < x → x < 256 → (k : ℕ) × (k < 255) × (pow k ≡ x)

pub powers-run : PowersRun
powers-run = record {
  each = λ k h. (positive k h, pow-lt k);
  apart = pow-injective;
  all = λ x z h. (get_or log_table x 0, log-lt x z h, log-rule x z h);
}
  where
    positive : (k : ℕ) → k < 255 → 0 < pow k
    positive k h =
        ⊎_elim
        (λ (e : pow k ≡ 0).
        (let one : ◌≡◌ {A = ℕ} 0 1 = sym (mul-zero-l (pow (255 - k))) ∙ ap (λ (w : ℕ). mul w (pow (255 - k))) (sym e) ∙ pow-inverse (pow k) k (255 - k) (omega arith) refl in absurd (omega arith)))
        (λ (p : 0 < pow k). p) (eq-zero-or-pos (pow k))
