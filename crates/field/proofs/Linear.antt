-- Multiplication is linear in each argument, at all numbers.
use mathlib.Core.Path.{◌≡◌, refl, sym, ap, ap₂, ◌∙◌}
use Prim.Native.Nat.{ℕ, zero, suc, ◌*◌, ◌/◌, ◌%◌, ◌<◌}
use native.Mathlib.Nat.{zero-mul, one-mul}
use native.Mathlib.Omega.{arith}
use lib.Bits.{bit_xor, xor_lt, xor_shr, xor_mod}
use Rattle.bits.proofs.Xor.{by_bit, xor-swap, bit-times, times-bit, double}
use Rattle.field.specs.Field.{a8, times_a, mul_bits, mul}

pub times_a-add : (x y : ℕ) → times_a (bit_xor x y) ≡ bit_xor (times_a x) (times_a y)
unfolding times_a
times_a-add x y =
    ap₂ bit_xor (ap (λ (n : ℕ). n * 2) (xor_mod x y 7) ∙ double (x % 128) (y % 128))
    (ap (λ (n : ℕ). n % 2 * a8) (xor_shr x y 7) ∙ bit-times (x / 128) (y / 128) a8)
    ∙ xor-swap (x % 128 * 2) (y % 128 * 2) (x / 128 % 2 * a8) (y / 128 % 2 * a8)

pub times_a-zero : times_a 0 ≡ 0
unfolding times_a
times_a-zero = refl

pub times_a-lt : (x : ℕ) → times_a x < 256
unfolding times_a
times_a-lt x = xor_lt 8 (x % 128 * 2) (x / 128 % 2 * a8) (omega arith) (omega arith)

times_a-bit : (d x : ℕ) → times_a (d % 2 * x) ≡ d % 2 * times_a x
times_a-bit d x = by_bit (λ (b : ℕ). times_a (b * x) ≡ b * times_a x) (simp (zero-mul, times_a-zero)) (simp one-mul) d

-- linear in the first argument
mul_bits-add : (n x y z : ℕ) → mul_bits n (bit_xor x y) z ≡ bit_xor (mul_bits n x z) (mul_bits n y z)
unfolding mul_bits
mul_bits-add zero x y z = refl
mul_bits-add (suc n) x y z =
    ap₂ bit_xor (times-bit z x y) (ap (λ (w : ℕ). mul_bits n w (z / 2)) (times_a-add x y) ∙ mul_bits-add n (times_a x) (times_a y) (z / 2))
    ∙ xor-swap (z % 2 * x) (z % 2 * y) (mul_bits n (times_a x) (z / 2)) (mul_bits n (times_a y) (z / 2))

-- linear in the second
mul_bits-add-r : (n x y z : ℕ) → mul_bits n x (bit_xor y z) ≡ bit_xor (mul_bits n x y) (mul_bits n x z)
unfolding mul_bits
mul_bits-add-r zero x y z = refl
mul_bits-add-r (suc n) x y z =
    ap₂ bit_xor (bit-times y z x) (ap (mul_bits n (times_a x)) (xor_shr y z 1) ∙ mul_bits-add-r n (times_a x) (y / 2) (z / 2))
    ∙ xor-swap (y % 2 * x) (z % 2 * x) (mul_bits n (times_a x) (y / 2)) (mul_bits n (times_a x) (z / 2))

mul_bits-times_a : (n x z : ℕ) → mul_bits n (times_a x) z ≡ times_a (mul_bits n x z)
unfolding mul_bits
mul_bits-times_a zero x z = sym times_a-zero
mul_bits-times_a (suc n) x z =
    ap₂ bit_xor (sym (times_a-bit z x)) (mul_bits-times_a n (times_a x) (z / 2))
    ∙ sym (times_a-add (z % 2 * x) (mul_bits n (times_a x) (z / 2)))

pub mul-add-l : (x y z : ℕ) → mul (bit_xor x y) z ≡ bit_xor (mul x z) (mul y z)
unfolding mul
mul-add-l = mul_bits-add 8

pub mul-add-r : (x y z : ℕ) → mul x (bit_xor y z) ≡ bit_xor (mul x y) (mul x z)
unfolding mul
mul-add-r = mul_bits-add-r 8

pub mul-times_a : (x z : ℕ) → mul (times_a x) z ≡ times_a (mul x z)
unfolding mul
mul-times_a = mul_bits-times_a 8
