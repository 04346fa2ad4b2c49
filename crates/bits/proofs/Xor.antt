-- Exclusive or, the sum of polynomials over GF(2): associative, and a bit times a number is linear in both.
use mathlib.Core.Path.{◌≡◌, refl, sym, ap, ap₂, ◌∙◌}
use Prim.Native.Nat.{ℕ, zero, suc, ◌+◌, ◌*◌, ◌/◌, ◌%◌, ◌<◌}
use native.Mathlib.Nat.{mod-lt, add-zero, zero-mul, one-mul}
use native.Mathlib.Omega.{arith}
use lib.Arith.{bin_ind}
use lib.Bits.{bit_xor, differ, xor_step, xor_comm, xor_zero_l, xor_zero_r, xor_self, xor_block, xor_shr, xor_mod}
use lib.Dec.{lit<}

-- what holds of 0 and of 1 holds of each remainder by 2
pub by_bit : (P : ℕ → Type 0) → P 0 → P 1 → (x : ℕ) → P (x % 2)
by_bit P p q x = go (x % 2) (mod-lt x (lit< tt))
  where
    go : (b : ℕ) → b < 2 → P b
    go zero h = p
    go (suc zero) h = q
    go (suc (suc b)) h = absurd (omega arith)

differ-assoc : (a b c : ℕ) → differ (differ (a % 2) (b % 2)) (c % 2) ≡ differ (a % 2) (differ (b % 2) (c % 2))
differ-assoc a b c =
    by_bit (λ (x : ℕ). differ (differ x (b % 2)) (c % 2) ≡ differ x (differ (b % 2) (c % 2))) refl
    (by_bit (λ (y : ℕ). differ (differ 1 y) (c % 2) ≡ differ 1 (differ y (c % 2))) refl
    (by_bit (λ (z : ℕ). differ (differ 1 1) z ≡ differ 1 (differ 1 z)) refl refl c)
    b)
    a

odd : (a b : ℕ) → bit_xor a b % 2 ≡ differ (a % 2) (b % 2)
odd a b = xor_mod a b 1 ∙ by_bit (λ (x : ℕ). bit_xor x (b % 2) ≡ differ x (b % 2)) refl (by_bit (λ (y : ℕ). bit_xor 1 y ≡ differ 1 y) refl refl b) a

pub xor_assoc : (a b c : ℕ) → bit_xor (bit_xor a b) c ≡ bit_xor a (bit_xor b c)
xor_assoc =
    bin_ind (λ (n : ℕ). (b c : ℕ) → bit_xor (bit_xor n b) c ≡ bit_xor n (bit_xor b c)) (λ b c. refl)
    (λ n ih b c. xor_step (bit_xor n b) c
    ∙ ap₂ (λ (x y : ℕ). x * 2 + y)
    (ap (λ (x : ℕ). bit_xor x (c / 2)) (xor_shr n b 1) ∙ ih (b / 2) (c / 2) ∙ ap (λ (x : ℕ). bit_xor (n / 2) x) (sym (xor_shr b c 1)))
    (ap (λ (x : ℕ). differ x (c % 2)) (odd n b) ∙ differ-assoc n b c ∙ ap (λ (x : ℕ). differ (n % 2) x) (sym (odd b c)))
    ∙ sym (xor_step n (bit_xor b c)))

-- (a + b) + (c + d) = (a + c) + (b + d)
pub xor-swap : (a b c d : ℕ) → bit_xor (bit_xor a b) (bit_xor c d) ≡ bit_xor (bit_xor a c) (bit_xor b d)
xor-swap a b c d =
    xor_assoc a b (bit_xor c d)
    ∙ ap (λ (x : ℕ). bit_xor a x) (sym (xor_assoc b c d) ∙ ap (λ (x : ℕ). bit_xor x d) (xor_comm b c) ∙ xor_assoc c b d)
    ∙ sym (xor_assoc a c (bit_xor b d))

-- a bit times a number is linear in both
pub bit-times : (d e x : ℕ) → bit_xor d e % 2 * x ≡ bit_xor (d % 2 * x) (e % 2 * x)
bit-times d e x =
    ap (λ (b : ℕ). b * x) (xor_mod d e 1)
    ∙ by_bit (λ (b : ℕ). bit_xor b (e % 2) * x ≡ bit_xor (b * x) (e % 2 * x)) (simp (zero-mul, xor_zero_l))
    (by_bit (λ (b : ℕ). bit_xor 1 b * x ≡ bit_xor (1 * x) (b * x)) (simp (zero-mul, one-mul, xor_zero_r)) (simp (zero-mul, one-mul, xor_self)) e)
    d

pub times-bit : (d x y : ℕ) → d % 2 * bit_xor x y ≡ bit_xor (d % 2 * x) (d % 2 * y)
times-bit d x y = by_bit (λ (b : ℕ). b * bit_xor x y ≡ bit_xor (b * x) (b * y)) (simp zero-mul) (simp one-mul) d

pub double : (x y : ℕ) → bit_xor x y * 2 ≡ bit_xor (x * 2) (y * 2)
double x y = sym (simp add-zero at (xor_block 1 x y 0 0 (lit< tt) (lit< tt)))

-- only the lowest bit of a summand counts for the lowest bit of the sum
pub mod-xor : (a b : ℕ) → bit_xor a (b % 2) % 2 ≡ bit_xor a b % 2
mod-xor a b = odd a (b % 2) ∙ ap (λ (x : ℕ). differ (a % 2) x) (omega arith) ∙ sym (odd a b)
