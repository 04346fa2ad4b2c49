-- GF(256) is a field in the sense of `Field`, and the bytes in it.
use mathlib.Core.Path.{◌≡◌, refl, sym, ◌∙◌, ap}
use mathlib.Core.HLevel.{Σ_prop_path, Σ_prop_discrete}
use Prim.Native.Nat.{ℕ, zero, suc, ◌+◌, ◌-◌, ◌*◌, ◌%◌, ◌/◌, ◌<◌}
use native.Mathlib.Omega.{arith}
use native.Mathlib.Bridge.{le_prop}
use native.Mathlib.Decide.{ℕ_discrete}
use native.Mathlib.Nat.{mod-lt, mod-eq_of_lt, div-add-mod', zero-mul, one-mul, mul-zero}
use lib.Dec.{lit<}
use lib.Bits.{bit_xor, xor_lt, xor_zero_l, xor_zero_r, xor_self, xor_comm, xor_mod, xor_shifted}
use Rattle.field.specs.Field.{times_a, mul_bits, mul, pow, inverse}
use Rattle.bits.proofs.Xor.{xor_assoc}
use Rattle.field.proofs.Linear.{times_a-zero, mul-add-l, mul-add-r}
use Rattle.field.proofs.Laws.{mul-zero-l, mul-one-l, mul-lt, mul_comm, mul_assoc, inverse-lt, mul-inverse, pow-lt, pow-255, pow-add}
use Rattle.field.proofs.Tables.{pow-injective}
use Rattle.algebra.proofs.Field.{Field}

abbrev pub Byte : Type 0
Byte = (n : ℕ) × (n < 256)

pub same : (u v : Byte) → u.0 ≡ v.0 → u ≡ v
same u v e = Σ_prop_path (λ x. le_prop) e

abbrev pub plus : Byte → Byte → Byte
plus u v = (bit_xor u.0 v.0, xor_lt 8 u.0 v.0 u.1 v.1)

abbrev pub times : Byte → Byte → Byte
times u v = (mul u.0 v.0, mul-lt u.0 v.0 u.1 v.1)

abbrev pub GF : Field
GF = record {
  F = Byte;
  𝟘 = (0, lit< tt);
  𝟙 = (1, lit< tt);
  add = plus;
  mul = times;
  inv = λ u. (inverse u.0, inverse-lt u.0 u.1);
  add_assoc = λ x y z. same _ _ (xor_assoc x.0 y.0 z.0);
  add_comm = λ x y. same _ _ (xor_comm x.0 y.0);
  zero-add = λ x. same _ _ (xor_zero_l x.0);
  add-self = λ x. same _ _ (xor_self x.0);
  mul_assoc = λ x y z. same _ _ (mul_assoc x.0 y.0 z.0 x.1 y.1 z.1);
  mul_comm = λ x y. same _ _ (mul_comm x.0 y.0 x.1 y.1);
  one-mul = λ x. same _ _ (mul-one-l x.0 x.1);
  zero-mul = λ x. same _ _ (mul-zero-l x.0);
  mul-add = λ x y z. same _ _ (mul-add-r x.0 y.0 z.0);
  inv-mul = λ x n. same _ _ (mul_comm (inverse x.0) x.0 (inverse-lt x.0 x.1) x.1 ∙ mul-inverse x.0 (positive x n) x.1);
  one-ne = λ e. (let z : ◌≡◌ {A = ℕ} 1 0 = ap (λ (u : Byte). u.0) e in omega arith);
  dec = Σ_prop_discrete (λ x. le_prop) ℕ_discrete;
}
  where
    positive : (x : Byte) → ¬ (x ≡ (0, lit< tt)) → 0 < x.0
    positive x n = go (ℕ_discrete x.0 0)
      where
        go : Dec (x.0 ≡ 0) → 0 < x.0
        go (yes p) = absurd (n (same x (0, lit< tt) p))
        go (no p) = omega arith

-- Any number stands for the byte of its lowest eight bits, so that sums and products need no bound.
pub el : ℕ → Byte
el n = (n % 256, mod-lt n (lit< tt))

pub el-byte : (n : ℕ) (h : n < 256) → el n ≡ (n, h)
unfolding el
el-byte n h = same _ _ (mod-eq_of_lt h)

pub el-zero : el 0 ≡ Field.𝟘 GF
el-zero = el-byte 0 (lit< tt)

pub el-add : (x y : ℕ) → el (bit_xor x y) ≡ plus (el x) (el y)
unfolding el
el-add x y = same _ _ (xor_mod x y 8)

pub el-one-one : (x y : ℕ) → x < 256 → y < 256 → el x ≡ el y → x ≡ y
el-one-one x y hx hy e = ap (λ (u : Byte). u.0) (sym (el-byte x hx) ∙ e ∙ el-byte y hy)

-- Multiples of 256 vanish.
high : (x : ℕ) → x ≡ bit_xor (x / 256 * 256) (x % 256)
high x = sym (xor_shifted (x / 256) 8 (x % 256) (mod-lt x (lit< tt)) ∙ div-add-mod' x 256)

bits-zero : (n z : ℕ) → mul_bits n 0 z ≡ 0
unfolding mul_bits
bits-zero zero z = refl
bits-zero (suc n) z = rw (mul-zero (z % 2), times_a-zero, bits-zero n (z / 2)) (xor_zero_r 0)

shifted-out : (k : ℕ) → times_a (k * 256) ≡ 0
unfolding times_a
shifted-out k = let a : k * 256 % 128 ≡ 0 = omega arith in let d : k * 256 / 128 ≡ k * 2 = omega arith in let b : k * 2 % 2 ≡ 0 = omega arith in rw (a, d, b)

bit-multiple : (b k : ℕ) → b < 2 → b * (k * 256) % 256 ≡ 0
bit-multiple zero k h = rw zero-mul refl
bit-multiple (suc zero) k h = rw one-mul (omega arith)
bit-multiple (suc (suc b)) k h = absurd (omega arith)

gone-l : (k y : ℕ) → mul (k * 256) y % 256 ≡ 0
unfolding mul mul_bits
gone-l k y =
    ap (λ (t : ℕ). bit_xor (y % 2 * (k * 256)) t % 256) (ap (λ (t : ℕ). mul_bits 7 t (y / 2)) (shifted-out k) ∙ bits-zero 7 (y / 2))
    ∙ ap (λ (t : ℕ). t % 256) (xor_zero_r (y % 2 * (k * 256))) ∙ bit-multiple (y % 2) k (mod-lt y (lit< tt))

even-bit : (n x y z : ℕ) → y ≡ z * 2 → mul_bits (suc n) x y ≡ mul_bits n (times_a x) z
unfolding mul_bits
even-bit n x y z e =
    let a : y % 2 ≡ 0 = omega arith in
    let b : y / 2 ≡ z = omega arith in
    rw (a, b, zero-mul x) (xor_zero_l (mul_bits n (times_a x) z))

gone-r : (x k : ℕ) → mul x (k * 256) ≡ 0
unfolding mul mul_bits
gone-r x k =
    even-bit 7 _ (k * 256) (k * 128) (omega arith) ∙ even-bit 6 _ (k * 128) (k * 64) (omega arith) ∙ even-bit 5 _ (k * 64) (k * 32) (omega arith) ∙ even-bit 4 _ (k * 32) (k * 16) (omega arith)
    ∙ even-bit 3 _ (k * 16) (k * 8) (omega arith) ∙ even-bit 2 _ (k * 8) (k * 4) (omega arith) ∙ even-bit 1 _ (k * 4) (k * 2) (omega arith) ∙ even-bit 0 _ (k * 2) k (omega arith)

mul-low-l : (x y : ℕ) → mul (x % 256) y % 256 ≡ mul x y % 256
mul-low-l x y = sym (ap (λ (t : ℕ). mul t y % 256) (high x) ∙ ap (λ (t : ℕ). t % 256) (mul-add-l (x / 256 * 256) (x % 256) y) ∙ xor_mod (mul (x / 256 * 256) y) (mul (x % 256) y) 8
    ∙ ap (λ (t : ℕ). bit_xor t (mul (x % 256) y % 256)) (gone-l (x / 256) y) ∙ xor_zero_l (mul (x % 256) y % 256))

mul-low-r : (x y : ℕ) → mul x (y % 256) ≡ mul x y
mul-low-r x y = sym (ap (mul x) (high y) ∙ mul-add-r x (y / 256 * 256) (y % 256) ∙ ap (λ (t : ℕ). bit_xor t (mul x (y % 256))) (gone-r x (y / 256)) ∙ xor_zero_l (mul x (y % 256)))

pub el-mul : (x y : ℕ) → el (mul x y) ≡ times (el x) (el y)
unfolding el
el-mul x y =
    same _ _ (sym (mul-low-l x y) ∙ ap (λ (t : ℕ). t % 256) (sym (mul-low-r (x % 256) y)) ∙ mod-eq_of_lt (mul-lt (x % 256) (y % 256) (mod-lt x (lit< tt)) (mod-lt y (lit< tt))))

-- The place's point.
pub point : ℕ → Byte
point i = (pow i, pow-lt i)

pub point-apart : (i k : ℕ) → i < 255 → k < i → ¬ (point k ≡ point i)
unfolding point
point-apart i k hi hk e = let q : k ≡ i = pow-injective k i (omega arith) hi (ap (λ (u : Byte). u.0) e) in omega arith

pub point-el : (i : ℕ) → el (pow i) ≡ point i
unfolding point
point-el i = el-byte (pow i) (pow-lt i)

pub point-nonzero : (i : ℕ) → i < 255 → ¬ (point i ≡ Field.𝟘 GF)
unfolding point
point-nonzero i h e =
    let z : pow i ≡ 0 = ap (λ (u : Byte). u.0) e in
    let m : i + (255 - i) ≡ 255 = omega arith in
    let one : ◌≡◌ {A = ℕ} 1 0 = sym pow-255 ∙ ap pow (sym m) ∙ pow-add i (255 - i) ∙ ap (λ (t : ℕ). mul t (pow (255 - i))) z ∙ mul-zero-l (pow (255 - i)) in
    omega arith

pub el-inv : (x : ℕ) → x < 256 → el (inverse x) ≡ Field.inv GF (el x)
unfolding el
el-inv x h = same _ _ (mod-eq_of_lt (inverse-lt x h) ∙ ap inverse (sym (mod-eq_of_lt h)))
