-- Modulo the divisor x^128 is x: what is read is kept as 128 bits; sixteen bytes more are those times x, plus the bytes, and 32 more those times x^2.
use mathlib.Core.Path.{◌≡◌, refl, sym, ap, ap₂, ◌∙◌, subst}
use mathlib.Core.List.{List, [], ◌∷◌}
use Prim.Native.Nat.{ℕ, zero, suc, ◌+◌, ◌-◌, ◌*◌, ◌/◌, ◌%◌, ◌^◌, ◌<◌, ◌≤◌}
use native.Mathlib.Nat.{zero-add, suc-add, add-suc, add_comm, suc-mul, mul-le-mul_right, pow-suc, pow-le-pow_right, mod-lt, lt_of_lt_of_le, not-suc-le-zero}
use native.Mathlib.Omega.{arith}
use lib.Bits.{bit_xor, bit_or, or_shifted_r, xor_comm, xor_lt, xor_shr, xor_mod, xor_zero_l, xor_zero_r, xor_shifted, shifted_half, shifted_even}
use mathlib.Core.Bool.{cond}
use lib.Dec.{lit<, lit≤, eqb}
use lib.Pow.{pow_pos, pow-add, shl_lt, shr_lt}
use lib.ListN.{length, get_or, drop, drop_of_length-le}
use lib.Seq.{drop-cons}
use Rattle.bits.proofs.Xor.{by_bit, xor_assoc, xor-swap, bit-times, double}
use Rattle.crc.specs.Crc.{divisor, crc_byte, crc_from}
use Rattle.crc.specs.Ring.{up, word_at, push_high, push_low, next_high, next_low, shift_one, shifts, red, val, far_high, far_low, horner}
use Rattle.crc.proofs.Byte.{byte-shifts}

-- ---- times x, and times a power of x

pub shift_one-xor : (x y : ℕ) → shift_one (bit_xor x y) ≡ bit_xor (shift_one x) (shift_one y)
unfolding shift_one
shift_one-xor x y =
    ap₂ bit_xor (ap (λ (n : ℕ). n * 2) (xor_mod x y 7) ∙ double (x % 128) (y % 128))
    (ap (λ (n : ℕ). n % 2 * divisor) (xor_shr x y 7) ∙ bit-times (x / 128) (y / 128) divisor)
    ∙ xor-swap (x % 128 * 2) (y % 128 * 2) (x / 128 % 2 * divisor) (y / 128 % 2 * divisor)

shift_one-zero : shift_one 0 ≡ 0
unfolding shift_one
shift_one-zero = refl

shift_one-lt : (x : ℕ) → shift_one x < 256
unfolding shift_one
shift_one-lt x = xor_lt 8 (x % 128 * 2) (x / 128 % 2 * divisor) (omega arith) (omega arith)

pub shifts-xor : (n x y : ℕ) → shifts n (bit_xor x y) ≡ bit_xor (shifts n x) (shifts n y)
unfolding shifts
shifts-xor zero x y = refl
shifts-xor (suc n) x y = ap (shifts n) (shift_one-xor x y) ∙ shifts-xor n (shift_one x) (shift_one y)

pub shifts-zero : (n : ℕ) → shifts n 0 ≡ 0
unfolding shifts
shifts-zero zero = refl
shifts-zero (suc n) = ap (shifts n) shift_one-zero ∙ shifts-zero n

shifts-one : (n x : ℕ) → shifts n (shift_one x) ≡ shift_one (shifts n x)
unfolding shifts
shifts-one zero x = refl
shifts-one (suc n) x = shifts-one n (shift_one x)

pub shifts-add : (m n x : ℕ) → shifts (m + n) x ≡ shifts m (shifts n x)
unfolding shifts
shifts-add zero n x = ap (λ (k : ℕ). shifts k x) (zero-add n)
shifts-add (suc m) n x =
    ap (λ (k : ℕ). shifts k x) (suc-add m n) ∙ shifts-add m n (shift_one x) ∙ ap (shifts m) (shifts-one n x)

pub shifts-lt : (n x : ℕ) → x < 256 → shifts n x < 256
unfolding shifts
shifts-lt zero x h = h
shifts-lt (suc n) x h = shifts-lt n (shift_one x) (shift_one-lt x)

shifts-1 : (x : ℕ) → shifts 1 x ≡ shift_one x
unfolding shifts
shifts-1 x = refl

-- ---- numbers as polynomials

pub red-zero : (n : ℕ) → red n 0 ≡ 0
unfolding red
red-zero zero = refl
red-zero (suc n) = ap (λ (x : ℕ). bit_xor 0 (shift_one x)) (red-zero n) ∙ ap (bit_xor 0) shift_one-zero

pub red-xor : (n u v : ℕ) → red n (bit_xor u v) ≡ bit_xor (red n u) (red n v)
unfolding red
red-xor zero u v = refl
red-xor (suc n) u v =
    ap₂ bit_xor (xor_mod u v 1)
    (ap (λ (x : ℕ). shift_one (red n x)) (xor_shr u v 1) ∙ ap shift_one (red-xor n (u / 2) (v / 2)) ∙ shift_one-xor (red n (u / 2)) (red n (v / 2)))
    ∙ xor-swap (u % 2) (v % 2) (shift_one (red n (u / 2))) (shift_one (red n (v / 2)))

pub red-lt : (n v : ℕ) → red n v < 256
unfolding red
red-lt zero v = lit< tt
red-lt (suc n) v = xor_lt 8 (v % 2) (shift_one (red n (v / 2))) (omega arith) (shift_one-lt (red n (v / 2)))

-- more places than the number has bits
pub red-more : (k n v : ℕ) → v < 2 ^ n → red (k + n) v ≡ red n v
unfolding red
red-more k zero v h = (let e : v ≡ 0 = omega arith in ap (red (k + 0)) e ∙ red-zero (k + 0))
red-more k (suc n) v h =
    let p : 2 ^ suc n ≡ 2 ^ n * 2 = pow-suc 2 n in
    ap (λ (m : ℕ). red m v) (add-suc k n) ∙ ap (λ (x : ℕ). bit_xor (v % 2) (shift_one x)) (red-more k n (v / 2) (omega arith))

pub red-shift : (n k v : ℕ) → red (n + k) (v * 2 ^ k) ≡ shifts k (red n v)
unfolding red shifts
red-shift n zero v = (let e : n + 0 ≡ n = omega arith in let f : v * 2 ^ 0 ≡ v = omega arith in ap₂ red e f)
red-shift n (suc k) v =
    ap (λ (m : ℕ). red m (v * 2 ^ suc k)) (add-suc n k)
    ∙ ap₂ (λ (x y : ℕ). bit_xor x (shift_one (red (n + k) y))) (shifted_even v k) (shifted_half v k)
    ∙ xor_zero_l (shift_one (red (n + k) (v * 2 ^ k))) ∙ ap shift_one (red-shift n k v) ∙ sym (shifts-one k (red n v))

-- a number of n bits over one of k bits
pub red-join : (n k u v : ℕ) → v < 2 ^ k → red (n + k) (u * 2 ^ k + v) ≡ bit_xor (shifts k (red n u)) (red k v)
red-join n k u v h =
    ap (red (n + k)) (sym (xor_shifted u k v h)) ∙ red-xor (n + k) (u * 2 ^ k) v
    ∙ ap₂ bit_xor (red-shift n k u) (red-more n k v h)

-- times x, where nothing leaves
shift_one-twice : (x : ℕ) → x < 128 → shift_one x ≡ x * 2
unfolding shift_one
shift_one-twice x h =
    let a : x % 128 ≡ x = omega arith in
    let b : x / 128 ≡ 0 = omega arith in
    ap₂ (λ (m n : ℕ). bit_xor (m * 2) (n % 2 * divisor)) a b ∙ xor_zero_r (x * 2)

-- a byte is its own remainder
red-self : (n v : ℕ) → v < 2 ^ n → v < 256 → red n v ≡ v
unfolding red
red-self zero v h b = (let e : 0 ≡ v = omega arith in e)
red-self (suc n) v h b =
    let p : 2 ^ suc n ≡ 2 ^ n * 2 = pow-suc 2 n in
    let e : v / 2 * 2 + v % 2 ≡ v = omega arith in
    ap (λ (x : ℕ). bit_xor (v % 2) (shift_one x)) (red-self n (v / 2) (omega arith) (omega arith))
    ∙ ap (bit_xor (v % 2)) (shift_one-twice (v / 2) (omega arith))
    ∙ xor_comm (v % 2) (v / 2 * 2) ∙ xor_shifted (v / 2) 1 (v % 2) (omega arith) ∙ e

pub red-byte : (x : ℕ) → x < 256 → red 8 x ≡ x
red-byte x h = red-self 8 x h h

-- ---- functions that keep sums and times x: two that agree at 1 agree at every byte

pub record Linear (f : ℕ → ℕ) : Type 0 where
  pub of_zero : f 0 ≡ 0
  pub of-sum : (x y : ℕ) → f (bit_xor x y) ≡ bit_xor (f x) (f y)
  pub of_shift : (x : ℕ) → f (shift_one x) ≡ shift_one (f x)

pub linear-same : Linear (λ (x : ℕ). x)
linear-same = record { of_zero = refl; of-sum = λ x y. refl; of_shift = λ x. refl }

pub linear-shifts : (n : ℕ) → Linear (shifts n)
linear-shifts n = record { of_zero = shifts-zero n; of-sum = shifts-xor n; of_shift = shifts-one n }

pub linear-sum : (f g : ℕ → ℕ) → Linear f → Linear g → Linear (λ (x : ℕ). bit_xor (f x) (g x))
linear-sum f g a b = record {
  of_zero = ap₂ bit_xor a.of_zero b.of_zero;
  of-sum = λ x y. ap₂ bit_xor (a.of-sum x y) (b.of-sum x y) ∙ xor-swap (f x) (f y) (g x) (g y);
  of_shift = λ x. ap₂ bit_xor (a.of_shift x) (b.of_shift x) ∙ sym (shift_one-xor (f x) (g x));
}

module _ (f g : ℕ → ℕ) (a : Linear f) (b : Linear g) (one : f 1 ≡ g 1) where
  at_zero : f 0 ≡ g 0
  at_zero = a.of_zero ∙ sym b.of_zero

  at-red : (n v : ℕ) → f (red n v) ≡ g (red n v)
  unfolding red
  at-red zero v = at_zero
  at-red (suc n) v =
      let r : ℕ = red n (v / 2) in
      a.of-sum (v % 2) (shift_one r)
      ∙ ap₂ bit_xor (by_bit (λ (x : ℕ). f x ≡ g x) at_zero one v) (a.of_shift r ∙ ap shift_one (at-red n (v / 2)) ∙ sym (b.of_shift r))
      ∙ sym (b.of-sum (v % 2) (shift_one r))

  pub by_one : (x : ℕ) → x < 256 → f x ≡ g x
  by_one x h = subst (λ (y : ℕ). f y ≡ g y) (red-byte x h) (at-red 8 x)

-- x^127 is 1
one-cycle : shifts 127 1 ≡ 1
unfolding shifts shift_one
one-cycle = refl

pub cycle : (x : ℕ) → x < 256 → shifts 127 x ≡ x
cycle = by_one (shifts 127) (λ (x : ℕ). x) (linear-shifts 127) linear-same one-cycle

-- so x^128 is x
pub turn : (x : ℕ) → x < 256 → shifts 128 x ≡ shift_one x
turn x h = shifts-add 127 1 x ∙ ap (shifts 127) (shifts-1 x) ∙ cycle (shift_one x) (shift_one-lt x)

-- twice a number
red-twice : (k t : ℕ) → k ≤ 63 → t < 2 ^ k → red 64 (t * 2) ≡ shift_one (red k t)
unfolding shifts
red-twice k t l h =
    let e : 63 ≡ 63 - k + k = omega arith in
    red-shift 63 1 t ∙ ap shift_one (ap (λ (n : ℕ). red n t) e ∙ red-more (63 - k) k t h)

-- ---- 128 bits times x^k: h is t over u, l is c over v

shifts-swap : (m n x : ℕ) → shifts m (shifts n x) ≡ shifts n (shifts m x)
shifts-swap m n x = sym (shifts-add m n x) ∙ ap (λ (k : ℕ). shifts k x) (add_comm m n) ∙ shifts-add n m x

turned : (p q x b y : ℕ) → bit_xor (bit_xor p q) (bit_xor (bit_xor y x) b) ≡ bit_xor (bit_xor (bit_xor x p) (bit_xor q y)) b
turned p q x b y =
    sym (xor_assoc (bit_xor p q) (bit_xor y x) b)
    ∙ ap (λ (n : ℕ). bit_xor n b)
    (ap (bit_xor (bit_xor p q)) (xor_comm y x) ∙ xor-swap p q x y ∙ ap (λ (n : ℕ). bit_xor n (bit_xor q y)) (xor_comm p x))

module _ (k j : ℕ) (s : k + j ≡ 64) (t u c v : ℕ) (ht : t < 2 ^ k) (hu : u < 2 ^ j) (hc : c < 2 ^ k) (hv : v < 2 ^ j) (small : k ≤ 63) where
  upper : red 64 (t * 2 ^ j + u) ≡ bit_xor (shifts j (red k t)) (red j u)
  upper = ap (λ (n : ℕ). red n (t * 2 ^ j + u)) (sym s) ∙ red-join k j t u hu

  lower : red 64 (c * 2 ^ j + v) ≡ bit_xor (shifts j (red k c)) (red j v)
  lower = ap (λ (n : ℕ). red n (c * 2 ^ j + v)) (sym s) ∙ red-join k j c v hv

  around : shifts k (shifts 64 (shifts j (red k t))) ≡ shift_one (red k t)
  around =
      let e : k + (64 + j) ≡ 128 = omega arith in
      ap (shifts k) (sym (shifts-add 64 j (red k t))) ∙ sym (shifts-add k (64 + j) (red k t))
      ∙ ap (λ (n : ℕ). shifts n (red k t)) e ∙ turn (red k t) (red-lt k t)

  before : shifts k (val (t * 2 ^ j + u) (c * 2 ^ j + v))
      ≡ bit_xor (bit_xor (shift_one (red k t)) (shifts 64 (shifts k (red j u)))) (bit_xor (shifts 64 (red k c)) (shifts k (red j v)))
  unfolding val
  before =
      ap₂ (λ (x y : ℕ). shifts k (bit_xor (shifts 64 x) y)) upper lower
      ∙ shifts-xor k (shifts 64 (bit_xor (shifts j (red k t)) (red j u))) (bit_xor (shifts j (red k c)) (red j v))
      ∙ ap₂ bit_xor
      (ap (shifts k) (shifts-xor 64 (shifts j (red k t)) (red j u)) ∙ shifts-xor k (shifts 64 (shifts j (red k t))) (shifts 64 (red j u))
      ∙ ap₂ bit_xor around (shifts-swap k 64 (red j u)))
      (shifts-xor k (shifts j (red k c)) (red j v)
      ∙ ap (λ (x : ℕ). bit_xor x (shifts k (red j v))) (sym (shifts-add k j (red k c)) ∙ ap (λ (n : ℕ). shifts n (red k c)) s))

  after : (b : ℕ) → val (u * 2 ^ k + c) (bit_xor (bit_xor (v * 2 ^ k) (t * 2)) b)
      ≡ bit_xor (bit_xor (shifts 64 (shifts k (red j u))) (shifts 64 (red k c))) (bit_xor (bit_xor (shifts k (red j v)) (shift_one (red k t))) (red 64 b))
  unfolding val
  after b =
      let e : 64 ≡ j + k = omega arith in
      ap₂ bit_xor
      (ap (shifts 64) (ap (λ (n : ℕ). red n (u * 2 ^ k + c)) e ∙ red-join j k u c hc) ∙ shifts-xor 64 (shifts k (red j u)) (red k c))
      (red-xor 64 (bit_xor (v * 2 ^ k) (t * 2)) b
      ∙ ap (λ (x : ℕ). bit_xor x (red 64 b))
      (red-xor 64 (v * 2 ^ k) (t * 2)
      ∙ ap₂ bit_xor (ap (λ (n : ℕ). red n (v * 2 ^ k)) e ∙ red-shift j k v) (red-twice k t small ht)))

  pub times : (b : ℕ) → val (u * 2 ^ k + c) (bit_xor (bit_xor (v * 2 ^ k) (t * 2)) b) ≡ bit_xor (shifts k (val (t * 2 ^ j + u) (c * 2 ^ j + v))) (red 64 b)
  times b =
      after b
      ∙ turned (shifts 64 (shifts k (red j u))) (shifts 64 (red k c)) (shift_one (red k t)) (red 64 b) (shifts k (red j v))
      ∙ ap (λ (x : ℕ). bit_xor x (red 64 b)) (sym before)

pub red-wide : (b : ℕ) → b < 256 → red 64 b ≡ b
red-wide b h = red-more 56 8 b h ∙ red-byte b h

-- a byte more
pub push : (h l b : ℕ) → h < 18446744073709551616 → l < 18446744073709551616 → b < 256
    → val (push_high h l) (push_low h l b) ≡ bit_xor (shifts 8 (val h l)) b
unfolding push_high push_low
push h l b hh hl hb =
    let eh : h / 72057594037927936 * 72057594037927936 + h % 72057594037927936 ≡ h = omega arith in
    let el : l / 72057594037927936 * 72057594037927936 + l % 72057594037927936 ≡ l = omega arith in
    let v : ℕ = l % 72057594037927936 in
    let t : ℕ = h / 72057594037927936 in
    ap (val (h % 72057594037927936 * 256 + l / 72057594037927936))
    (ap (λ (x : ℕ). bit_xor x (t * 2)) (sym (xor_shifted v 8 b hb))
    ∙ xor_assoc (v * 256) b (t * 2) ∙ ap (bit_xor (v * 256)) (xor_comm b (t * 2)) ∙ sym (xor_assoc (v * 256) (t * 2) b))
    ∙ times 8 56 refl t (h % 72057594037927936) (l / 72057594037927936) v (omega arith) (omega arith) (omega arith) (omega arith) (omega arith) b
    ∙ ap₂ bit_xor (ap₂ (λ (x y : ℕ). shifts 8 (val x y)) eh el) (red-wide b hb)

val-high : (x a y : ℕ) → val (bit_xor x a) y ≡ bit_xor (shifts 64 (red 64 a)) (val x y)
unfolding val
val-high x a y =
    ap (λ (n : ℕ). bit_xor n (red 64 y))
    (ap (shifts 64) (red-xor 64 x a) ∙ shifts-xor 64 (red 64 x) (red 64 a) ∙ xor_comm (shifts 64 (red 64 x)) (shifts 64 (red 64 a)))
    ∙ xor_assoc (shifts 64 (red 64 a)) (shifts 64 (red 64 x)) (red 64 y)

pub val-lt : (h l : ℕ) → val h l < 256
unfolding val
val-lt h l = xor_lt 8 (shifts 64 (red 64 h)) (red 64 l) (shifts-lt 64 (red 64 h) (red-lt 64 h)) (red-lt 64 l)

once : (x : ℕ) → x < 256 → shifts 1 x ≡ shifts 64 (shifts 64 x)
once x h = shifts-1 x ∙ sym (turn x h) ∙ shifts-add 64 64 x

-- sixteen bytes more, as two words
pub next : (h l a b : ℕ) → h < 18446744073709551616 → l < 18446744073709551616
    → val (next_high h l a) (next_low h l b) ≡ bit_xor (shifts 64 (bit_xor (shifts 64 (val h l)) (red 64 a))) (red 64 b)
unfolding next_high next_low
next h l a b hh hl =
    let eh : h / 9223372036854775808 * 9223372036854775808 + h % 9223372036854775808 ≡ h = omega arith in
    let el : l / 9223372036854775808 * 9223372036854775808 + l % 9223372036854775808 ≡ l = omega arith in
    val-high (h % 9223372036854775808 * 2 + l / 9223372036854775808) a (bit_xor (bit_xor (l % 9223372036854775808 * 2) (h / 9223372036854775808 * 2)) b)
    ∙ ap (bit_xor (shifts 64 (red 64 a)))
    (times 1 63 refl (h / 9223372036854775808) (h % 9223372036854775808) (l / 9223372036854775808) (l % 9223372036854775808)
    (omega arith) (omega arith) (omega arith) (omega arith) (omega arith) b
    ∙ ap (λ (x : ℕ). bit_xor x (red 64 b)) (ap₂ (λ (x y : ℕ). shifts 1 (val x y)) eh el ∙ once (val h l) (val-lt h l)))
    ∙ sym (xor_assoc (shifts 64 (red 64 a)) (shifts 64 (shifts 64 (val h l))) (red 64 b))
    ∙ ap (λ (x : ℕ). bit_xor x (red 64 b)) (xor_comm (shifts 64 (red 64 a)) (shifts 64 (shifts 64 (val h l))) ∙ sym (shifts-xor 64 (shifts 64 (val h l)) (red 64 a)))

-- eight bytes below the upper half
above : (h l : ℕ) → bit_xor (shifts 64 (val 0 h)) (red 64 l) ≡ val h l
unfolding val
above h l =
    ap (λ (x : ℕ). bit_xor (shifts 64 (bit_xor (shifts 64 x) (red 64 h))) (red 64 l)) (red-zero 64)
    ∙ ap (λ (x : ℕ). bit_xor (shifts 64 (bit_xor x (red 64 h))) (red 64 l)) (shifts-zero 64)
    ∙ ap (λ (x : ℕ). bit_xor (shifts 64 x) (red 64 l)) (xor_zero_l (red 64 h))

-- 32 bytes more, as 128 bits
far : (h l p q : ℕ) → h < 18446744073709551616 → l < 18446744073709551616 → val (far_high h l p) (far_low h l q) ≡ bit_xor (shifts 2 (val h l)) (val p q)
unfolding far_high far_low val
far h l p q hh hl =
    let eh : h / 4611686018427387904 * 4611686018427387904 + h % 4611686018427387904 ≡ h = omega arith in
    let el : l / 4611686018427387904 * 4611686018427387904 + l % 4611686018427387904 ≡ l = omega arith in
    let s : ℕ = shifts 2 (val h l) in
    val-high (h % 4611686018427387904 * 4 + l / 4611686018427387904) p (bit_xor (bit_xor (l % 4611686018427387904 * 4) (h / 4611686018427387904 * 2)) q)
    ∙ ap (bit_xor (shifts 64 (red 64 p)))
    (times 2 62 refl (h / 4611686018427387904) (h % 4611686018427387904) (l / 4611686018427387904) (l % 4611686018427387904)
    (omega arith) (omega arith) (omega arith) (omega arith) (omega arith) q
    ∙ ap (λ (x : ℕ). bit_xor x (red 64 q)) (ap₂ (λ (x y : ℕ). shifts 2 (val x y)) eh el))
    ∙ sym (xor_assoc (shifts 64 (red 64 p)) s (red 64 q))
    ∙ ap (λ (x : ℕ). bit_xor x (red 64 q)) (xor_comm (shifts 64 (red 64 p)) s)
    ∙ xor_assoc s (shifts 64 (red 64 p)) (red 64 q)

-- two words below a sum
below-sum : (y z c d : ℕ) → bit_xor (shifts 64 (bit_xor (shifts 64 (bit_xor y z)) c)) d ≡ bit_xor (shifts 64 (shifts 64 y)) (bit_xor (shifts 64 (bit_xor (shifts 64 z) c)) d)
below-sum y z c d =
    ap (λ (x : ℕ). bit_xor (shifts 64 x) d)
    (ap (λ (x : ℕ). bit_xor x c) (shifts-xor 64 y z) ∙ xor_assoc (shifts 64 y) (shifts 64 z) c)
    ∙ ap (λ (x : ℕ). bit_xor x d) (shifts-xor 64 (shifts 64 y) (bit_xor (shifts 64 z) c))
    ∙ xor_assoc (shifts 64 (shifts 64 y)) (shifts 64 (bit_xor (shifts 64 z) c)) d

-- four words below a register of 128 bits
four-words : (h l a b c d : ℕ) → h < 18446744073709551616 → l < 18446744073709551616 → a < 18446744073709551616 → b < 18446744073709551616
    → val (far_high h l (next_high a b c)) (far_low h l (next_low a b d))
    ≡ bit_xor (shifts 64 (bit_xor (shifts 64 (bit_xor (shifts 64 (bit_xor (shifts 64 (val h l)) (red 64 a))) (red 64 b))) (red 64 c))) (red 64 d)
unfolding val
four-words h l a b c d hh hl ha hb =
    let v : ℕ = val h l in
    far h l (next_high a b c) (next_low a b d) hh hl
    ∙ ap₂ bit_xor (twice v (val-lt h l)) (next a b c d ha hb)
    ∙ sym (below-sum (shifts 64 (shifts 64 v)) (val a b) (red 64 c) (red 64 d))
    ∙ ap (λ (x : ℕ). bit_xor (shifts 64 (bit_xor (shifts 64 x) (red 64 c))) (red 64 d))
    (sym (xor_assoc (shifts 64 (shifts 64 v)) (shifts 64 (red 64 a)) (red 64 b))
    ∙ ap (λ (x : ℕ). bit_xor x (red 64 b)) (sym (shifts-xor 64 (shifts 64 v) (red 64 a))))
  where
    twice : (x : ℕ) → x < 256 → shifts 2 x ≡ shifts 64 (shifts 64 (shifts 64 (shifts 64 x)))
    twice x h =
        shifts-add 1 1 x ∙ ap (shifts 1) (once x h)
        ∙ once (shifts 64 (shifts 64 x)) (shifts-lt 64 (shifts 64 x) (shifts-lt 64 x h))

-- ---- bytes by Horner's rule

pub crc-horner : (bs : List ℕ) (r : ℕ) → crc_from (shifts 8 r) bs ≡ shifts 8 (horner r bs)
unfolding crc_from horner
crc-horner [] r = refl
crc-horner (b ∷ bs) r = ap (λ (x : ℕ). crc_from x bs) (byte-shifts (shifts 8 r) b) ∙ crc-horner bs (bit_xor (shifts 8 r) b)

up-red : (a b : ℕ) → a < 72057594037927936 → b < 256 → red 64 (up a b) ≡ bit_xor (shifts 8 (red 64 a)) b
unfolding up
up-red a b ha hb =
    let e : a % 72057594037927936 ≡ a = omega arith in
    ap (λ (x : ℕ). red 64 (x * 256 + b)) e ∙ red-join 56 8 a b hb
    ∙ ap₂ (λ (x y : ℕ). bit_xor (shifts 8 x) y) (sym (red-more 8 56 a ha)) (red-byte b hb)

step : (n r a b : ℕ) → a < 72057594037927936 → b < 256
    → bit_xor (shifts 8 (bit_xor (shifts n r) (red 64 a))) b ≡ bit_xor (shifts (8 + n) r) (red 64 (up a b))
step n r a b ha hb =
    ap (λ (x : ℕ). bit_xor x b) (shifts-xor 8 (shifts n r) (red 64 a)) ∙ xor_assoc (shifts 8 (shifts n r)) (shifts 8 (red 64 a)) b
    ∙ ap₂ bit_xor (sym (shifts-add 8 n r)) (sym (up-red a b ha hb))

up_lt : (m a b : ℕ) → a < m → b < 256 → m ≤ 72057594037927936 → up a b < m * 256
unfolding up
up_lt m a b ha hb hm = omega arith

pub up-eq : (a b : ℕ) → a < 72057594037927936 → up a b ≡ a * 256 + b
unfolding up
up-eq a b ha = omega arith

module _ (r b₀ b₁ b₂ b₃ b₄ b₅ b₆ b₇ : ℕ) (h₀ : b₀ < 256) (h₁ : b₁ < 256) (h₂ : b₂ < 256) (h₃ : b₃ < 256) (h₄ : b₄ < 256) (h₅ : b₅ < 256) (h₆ : b₆ < 256) (h₇ : b₇ < 256) where
  l₁ : up b₀ b₁ < 65536
  l₁ = up_lt 256 b₀ b₁ h₀ h₁ (lit≤ tt)

  l₂ : up (up b₀ b₁) b₂ < 16777216
  l₂ = up_lt 65536 (up b₀ b₁) b₂ l₁ h₂ (lit≤ tt)

  l₃ : up (up (up b₀ b₁) b₂) b₃ < 4294967296
  l₃ = up_lt 16777216 (up (up b₀ b₁) b₂) b₃ l₂ h₃ (lit≤ tt)

  l₄ : up (up (up (up b₀ b₁) b₂) b₃) b₄ < 1099511627776
  l₄ = up_lt 4294967296 (up (up (up b₀ b₁) b₂) b₃) b₄ l₃ h₄ (lit≤ tt)

  l₅ : up (up (up (up (up b₀ b₁) b₂) b₃) b₄) b₅ < 281474976710656
  l₅ = up_lt 1099511627776 (up (up (up (up b₀ b₁) b₂) b₃) b₄) b₅ l₄ h₅ (lit≤ tt)

  l₆ : up (up (up (up (up (up b₀ b₁) b₂) b₃) b₄) b₅) b₆ < 72057594037927936
  l₆ = up_lt 281474976710656 (up (up (up (up (up b₀ b₁) b₂) b₃) b₄) b₅) b₆ l₅ h₆ (lit≤ tt)

  -- the word as a sum
  pub word_sum : up (up (up (up (up (up (up b₀ b₁) b₂) b₃) b₄) b₅) b₆) b₇
      ≡ b₀ * 72057594037927936 + b₁ * 281474976710656 + b₂ * 1099511627776 + b₃ * 4294967296 + b₄ * 16777216 + b₅ * 65536 + b₆ * 256 + b₇
  word_sum =
      let e₁ : up b₀ b₁ ≡ b₀ * 256 + b₁ = up-eq b₀ b₁ (omega arith) in
      let e₂ : up (up b₀ b₁) b₂ ≡ up b₀ b₁ * 256 + b₂ = up-eq (up b₀ b₁) b₂ (omega (arith, l₁)) in
      let e₃ : up (up (up b₀ b₁) b₂) b₃ ≡ up (up b₀ b₁) b₂ * 256 + b₃ = up-eq (up (up b₀ b₁) b₂) b₃ (omega (arith, l₂)) in
      let e₄ : up (up (up (up b₀ b₁) b₂) b₃) b₄ ≡ up (up (up b₀ b₁) b₂) b₃ * 256 + b₄ = up-eq (up (up (up b₀ b₁) b₂) b₃) b₄ (omega (arith, l₃)) in
      let e₅ : up (up (up (up (up b₀ b₁) b₂) b₃) b₄) b₅ ≡ up (up (up (up b₀ b₁) b₂) b₃) b₄ * 256 + b₅ = up-eq (up (up (up (up b₀ b₁) b₂) b₃) b₄) b₅ (omega (arith, l₄)) in
      let e₆ : up (up (up (up (up (up b₀ b₁) b₂) b₃) b₄) b₅) b₆ ≡ up (up (up (up (up b₀ b₁) b₂) b₃) b₄) b₅ * 256 + b₆ = up-eq (up (up (up (up (up b₀ b₁) b₂) b₃) b₄) b₅) b₆ (omega (arith, l₅)) in
      let e₇ : up (up (up (up (up (up (up b₀ b₁) b₂) b₃) b₄) b₅) b₆) b₇ ≡ up (up (up (up (up (up b₀ b₁) b₂) b₃) b₄) b₅) b₆ * 256 + b₇ = up-eq (up (up (up (up (up (up b₀ b₁) b₂) b₃) b₄) b₅) b₆) b₇ l₆ in
      omega arith

  pub word-or : bit_or (bit_or (bit_or (bit_or (bit_or (bit_or (bit_or b₇ (b₆ * 256)) (b₅ * 65536)) (b₄ * 16777216)) (b₃ * 4294967296)) (b₂ * 1099511627776)) (b₁ * 281474976710656)) (b₀ * 72057594037927936) ≡ up (up (up (up (up (up (up b₀ b₁) b₂) b₃) b₄) b₅) b₆) b₇
  word-or =
      let o₆ : bit_or b₇ (b₆ * 256) ≡ b₆ * 256 + b₇ = or_shifted_r b₆ 8 b₇ h₇ in
      let o₅ : bit_or (bit_or b₇ (b₆ * 256)) (b₅ * 65536) ≡ b₅ * 65536 + (b₆ * 256 + b₇) = ap (λ (x : ℕ). bit_or x (b₅ * 65536)) o₆ ∙ or_shifted_r b₅ 16 (b₆ * 256 + b₇) (omega arith) in
      let o₄ : bit_or (bit_or (bit_or b₇ (b₆ * 256)) (b₅ * 65536)) (b₄ * 16777216) ≡ b₄ * 16777216 + (b₅ * 65536 + (b₆ * 256 + b₇)) = ap (λ (x : ℕ). bit_or x (b₄ * 16777216)) o₅ ∙ or_shifted_r b₄ 24 (b₅ * 65536 + (b₆ * 256 + b₇)) (omega arith) in
      let o₃ : bit_or (bit_or (bit_or (bit_or b₇ (b₆ * 256)) (b₅ * 65536)) (b₄ * 16777216)) (b₃ * 4294967296) ≡ b₃ * 4294967296 + (b₄ * 16777216 + (b₅ * 65536 + (b₆ * 256 + b₇))) = ap (λ (x : ℕ). bit_or x (b₃ * 4294967296)) o₄ ∙ or_shifted_r b₃ 32 (b₄ * 16777216 + (b₅ * 65536 + (b₆ * 256 + b₇))) (omega arith) in
      let o₂ : bit_or (bit_or (bit_or (bit_or (bit_or b₇ (b₆ * 256)) (b₅ * 65536)) (b₄ * 16777216)) (b₃ * 4294967296)) (b₂ * 1099511627776) ≡ b₂ * 1099511627776 + (b₃ * 4294967296 + (b₄ * 16777216 + (b₅ * 65536 + (b₆ * 256 + b₇)))) = ap (λ (x : ℕ). bit_or x (b₂ * 1099511627776)) o₃ ∙ or_shifted_r b₂ 40 (b₃ * 4294967296 + (b₄ * 16777216 + (b₅ * 65536 + (b₆ * 256 + b₇)))) (omega arith) in
      let o₁ : bit_or (bit_or (bit_or (bit_or (bit_or (bit_or b₇ (b₆ * 256)) (b₅ * 65536)) (b₄ * 16777216)) (b₃ * 4294967296)) (b₂ * 1099511627776)) (b₁ * 281474976710656) ≡ b₁ * 281474976710656 + (b₂ * 1099511627776 + (b₃ * 4294967296 + (b₄ * 16777216 + (b₅ * 65536 + (b₆ * 256 + b₇))))) = ap (λ (x : ℕ). bit_or x (b₁ * 281474976710656)) o₂ ∙ or_shifted_r b₁ 48 (b₂ * 1099511627776 + (b₃ * 4294967296 + (b₄ * 16777216 + (b₅ * 65536 + (b₆ * 256 + b₇))))) (omega arith) in
      let o₀ : bit_or (bit_or (bit_or (bit_or (bit_or (bit_or (bit_or b₇ (b₆ * 256)) (b₅ * 65536)) (b₄ * 16777216)) (b₃ * 4294967296)) (b₂ * 1099511627776)) (b₁ * 281474976710656)) (b₀ * 72057594037927936) ≡ b₀ * 72057594037927936 + (b₁ * 281474976710656 + (b₂ * 1099511627776 + (b₃ * 4294967296 + (b₄ * 16777216 + (b₅ * 65536 + (b₆ * 256 + b₇)))))) = ap (λ (x : ℕ). bit_or x (b₀ * 72057594037927936)) o₁ ∙ or_shifted_r b₀ 56 (b₁ * 281474976710656 + (b₂ * 1099511627776 + (b₃ * 4294967296 + (b₄ * 16777216 + (b₅ * 65536 + (b₆ * 256 + b₇)))))) (omega arith) in
      let q : b₀ * 72057594037927936 + (b₁ * 281474976710656 + (b₂ * 1099511627776 + (b₃ * 4294967296 + (b₄ * 16777216 + (b₅ * 65536 + (b₆ * 256 + b₇)))))) ≡ b₀ * 72057594037927936 + b₁ * 281474976710656 + b₂ * 1099511627776 + b₃ * 4294967296 + b₄ * 16777216 + b₅ * 65536 + b₆ * 256 + b₇ = omega arith in
      o₀ ∙ q ∙ sym word_sum

  word-horner : (bs : List ℕ) → horner r (b₀ ∷ b₁ ∷ b₂ ∷ b₃ ∷ b₄ ∷ b₅ ∷ b₆ ∷ b₇ ∷ bs)
      ≡ horner (bit_xor (shifts 64 r) (red 64 (up (up (up (up (up (up (up b₀ b₁) b₂) b₃) b₄) b₅) b₆) b₇))) bs
  unfolding horner
  word-horner bs =
      ap (λ (x : ℕ). horner x (b₁ ∷ b₂ ∷ b₃ ∷ b₄ ∷ b₅ ∷ b₆ ∷ b₇ ∷ bs)) (ap (bit_xor (shifts 8 r)) (sym (red-wide b₀ h₀)))
      ∙ ap (λ (x : ℕ). horner x (b₂ ∷ b₃ ∷ b₄ ∷ b₅ ∷ b₆ ∷ b₇ ∷ bs)) (step 8 r b₀ b₁ (omega arith) h₁)
      ∙ ap (λ (x : ℕ). horner x (b₃ ∷ b₄ ∷ b₅ ∷ b₆ ∷ b₇ ∷ bs)) (step 16 r (up b₀ b₁) b₂ (omega (arith, l₁)) h₂)
      ∙ ap (λ (x : ℕ). horner x (b₄ ∷ b₅ ∷ b₆ ∷ b₇ ∷ bs)) (step 24 r (up (up b₀ b₁) b₂) b₃ (omega (arith, l₂)) h₃)
      ∙ ap (λ (x : ℕ). horner x (b₅ ∷ b₆ ∷ b₇ ∷ bs)) (step 32 r (up (up (up b₀ b₁) b₂) b₃) b₄ (omega (arith, l₃)) h₄)
      ∙ ap (λ (x : ℕ). horner x (b₆ ∷ b₇ ∷ bs)) (step 40 r (up (up (up (up b₀ b₁) b₂) b₃) b₄) b₅ (omega (arith, l₄)) h₅)
      ∙ ap (λ (x : ℕ). horner x (b₇ ∷ bs)) (step 48 r (up (up (up (up (up b₀ b₁) b₂) b₃) b₄) b₅) b₆ (omega (arith, l₅)) h₆)
      ∙ ap (λ (x : ℕ). horner x bs) (step 56 r (up (up (up (up (up (up b₀ b₁) b₂) b₃) b₄) b₅) b₆) b₇ l₆ h₇)

-- every entry is a byte, and so is what stands for one past the end
abbrev pub Bytes : List ℕ → Type 0
Bytes w = (i : ℕ) → get_or w i 0 < 256

drop_more : (l : List ℕ) (i : ℕ) → i < length l → drop i l ≡ get_or l i 0 ∷ drop (i + 1) l
drop_more l i h = (let e : suc i ≡ i + 1 = omega arith in drop-cons l i 0 h ∙ ap (λ (k : ℕ). get_or l i 0 ∷ drop k l) e)

drop-next : (l : List ℕ) (i k : ℕ) → i + k < length l → drop (i + k) l ≡ get_or l (i + k) 0 ∷ drop (i + (k + 1)) l
drop-next l i k h = (let e : i + k + 1 ≡ i + (k + 1) = omega arith in drop_more l (i + k) h ∙ ap (λ (m : ℕ). get_or l (i + k) 0 ∷ drop m l) e)

-- c bits above k others
pub sum_fits : (k c x y : ℕ) → y < 2 ^ k → x % 2 ^ c * 2 ^ k + y < 2 ^ (c + k)
sum_fits k c x y h =
    let p : suc (x % 2 ^ c) * 2 ^ k ≤ 2 ^ c * 2 ^ k = mul-le-mul_right (2 ^ k) (mod-lt x (pow_pos c)) in
    omega (arith, p, h, suc-mul (x % 2 ^ c) (2 ^ k), pow-add 2 c k)

word_lt : (l : List ℕ) (i : ℕ) → Bytes l → word_at l i < 18446744073709551616
unfolding word_at up
word_lt l i hb = sum_fits 8 56 _ (get_or l (i + 7) 0) (hb (i + 7))

pub word-step : (l : List ℕ) (i r : ℕ) → i + 8 ≤ length l → Bytes l
    → horner r (drop i l) ≡ horner (bit_xor (shifts 64 r) (red 64 (word_at l i))) (drop (i + 8) l)
unfolding word_at
word-step l i r h hb =
    ap (horner r)
    (drop_more l i (omega arith) ∙ ap (λ (x : List ℕ). get_or l i 0 ∷ x)
    (drop-next l i 1 (omega arith) ∙ ap (λ (x : List ℕ). get_or l (i + 1) 0 ∷ x)
    (drop-next l i 2 (omega arith) ∙ ap (λ (x : List ℕ). get_or l (i + 2) 0 ∷ x)
    (drop-next l i 3 (omega arith) ∙ ap (λ (x : List ℕ). get_or l (i + 3) 0 ∷ x)
    (drop-next l i 4 (omega arith) ∙ ap (λ (x : List ℕ). get_or l (i + 4) 0 ∷ x)
    (drop-next l i 5 (omega arith) ∙ ap (λ (x : List ℕ). get_or l (i + 5) 0 ∷ x)
    (drop-next l i 6 (omega arith) ∙ ap (λ (x : List ℕ). get_or l (i + 6) 0 ∷ x) (drop-next l i 7 (omega arith)))))))))
    ∙ word-horner r (get_or l i 0) (get_or l (i + 1) 0) (get_or l (i + 2) 0) (get_or l (i + 3) 0) (get_or l (i + 4) 0) (get_or l (i + 5) 0) (get_or l (i + 6) 0) (get_or l (i + 7) 0)
    (hb i) (hb (i + 1)) (hb (i + 2)) (hb (i + 3)) (hb (i + 4)) (hb (i + 5)) (hb (i + 6)) (hb (i + 7)) (drop (i + 8) l)

-- ---- sums that fit

-- moved up by k bits, those of another number below
pub high_fits : (k c x y : ℕ) → y < 2 ^ (k + c) → x % 2 ^ c * 2 ^ k + y / 2 ^ c < 2 ^ (c + k)
high_fits k c x y h = sum_fits k c x (y / 2 ^ c) (shr_lt k c h)

-- ---- the loops

-- the same of equal numbers
pub three : (f : ℕ → ℕ → ℕ → ℕ) {a b c x y z : ℕ} → a ≡ x → b ≡ y → c ≡ z → f a b c ≡ f x y z
three f {a = a} {b = b} {c = c} {x = x} {y = y} {z = z} e₁ e₂ e₃ = ap (λ (n : ℕ). f n b c) e₁ ∙ ap₂ (f x) e₂ e₃

-- x^119 times the start, times x^8, is the start, as x^127 is 1
start-val : (s : ℕ) → s < 256 → shifts 8 (val (s * 36028797018963968) 0) ≡ s
unfolding val
start-val s h =
    let w : ℕ = s * 36028797018963968 in
    ap (λ (x : ℕ). shifts 8 (bit_xor (shifts 64 (red 64 w)) x)) (red-zero 64)
    ∙ ap (shifts 8) (xor_zero_r (shifts 64 (red 64 w)) ∙ ap (shifts 64) (red-shift 9 55 s ∙ ap (shifts 55) (red-more 1 8 s h ∙ red-byte s h)))
    ∙ sym (shifts-add 8 64 (shifts 55 s)) ∙ sym (shifts-add 72 55 s) ∙ cycle s h

pub start : (s : ℕ) (b : List ℕ) → s < 256 → shifts 8 (horner (val (s * 36028797018963968) 0) b) ≡ crc_from s b
start s b h = sym (crc-horner b (val (s * 36028797018963968) 0)) ∙ ap (λ (r : ℕ). crc_from r b) (start-val s h)

module _ (g : ℕ) (b : List ℕ) (h l i : ℕ) (hh : h < 18446744073709551616) (hl : l < 18446744073709551616) (hb : Bytes b)
    (inv : shifts 8 (horner (val h l) (drop i b)) ≡ g) where
  pub push-again : i < length b → shifts 8 (horner (val (push_high h l) (push_low h l (get_or b i 0))) (drop (i + 1) b)) ≡ g
  unfolding horner
  push-again n =
      ap (λ (x : ℕ). shifts 8 (horner x (drop (i + 1) b))) (push h l (get_or b i 0) hh hl (hb i))
      ∙ ap (λ (x : List ℕ). shifts 8 (horner (val h l) x)) (sym (drop_more b i n)) ∙ inv

  pub next-again : i + 16 ≤ length b → shifts 8 (horner (val (next_high h l (word_at b i)) (next_low h l (word_at b (i + 8)))) (drop (i + 16) b)) ≡ g
  next-again n =
      let e : i + 8 + 8 ≡ i + 16 = omega arith in
      ap (λ (x : ℕ). shifts 8 (horner x (drop (i + 16) b))) (next h l (word_at b i) (word_at b (i + 8)) hh hl)
      ∙ ap (λ (k : ℕ). shifts 8 (horner (bit_xor (shifts 64 (bit_xor (shifts 64 (val h l)) (red 64 (word_at b i)))) (red 64 (word_at b (i + 8)))) (drop k b))) (sym e)
      ∙ ap (shifts 8)
      (sym (word-step b i (val h l) (omega arith) hb
      ∙ word-step b (i + 8) (bit_xor (shifts 64 (val h l)) (red 64 (word_at b i))) (omega arith) hb))
      ∙ inv

  -- eight bytes below 128 bits are sixteen below the upper half of these, of which the lower half is eight
  pub word-again : i + 8 ≤ length b → shifts 8 (horner (val (next_high 0 h l) (next_low 0 h (word_at b i))) (drop (i + 8) b)) ≡ g
  word-again n =
      ap (λ (x : ℕ). shifts 8 (horner x (drop (i + 8) b)))
      (next 0 h l (word_at b i) (lit< tt) hh ∙ ap (λ (x : ℕ). bit_xor (shifts 64 x) (red 64 (word_at b i))) (above h l))
      ∙ ap (shifts 8) (sym (word-step b i (val h l) n hb)) ∙ inv

  pub far-again : i + 32 ≤ length b
      → shifts 8 (horner (val (far_high h l (next_high (word_at b i) (word_at b (i + 8)) (word_at b (i + 16)))) (far_low h l (next_low (word_at b i) (word_at b (i + 8)) (word_at b (i + 24))))) (drop (i + 32) b)) ≡ g
  far-again n =
      let e₁ : i + 8 + 8 ≡ i + 16 = omega arith in
      let e₂ : i + 16 + 8 ≡ i + 24 = omega arith in
      let e₃ : i + 24 + 8 ≡ i + 32 = omega arith in
      let r₁ : ℕ = bit_xor (shifts 64 (val h l)) (red 64 (word_at b i)) in
      let r₂ : ℕ = bit_xor (shifts 64 r₁) (red 64 (word_at b (i + 8))) in
      let r₃ : ℕ = bit_xor (shifts 64 r₂) (red 64 (word_at b (i + 16))) in
      ap (λ (x : ℕ). shifts 8 (horner x (drop (i + 32) b)))
      (four-words h l (word_at b i) (word_at b (i + 8)) (word_at b (i + 16)) (word_at b (i + 24)) hh hl (word_lt b i hb) (word_lt b (i + 8) hb))
      ∙ ap (shifts 8)
      (sym (word-step b i (val h l) (omega arith) hb
      ∙ word-step b (i + 8) r₁ (omega arith) hb
      ∙ ap (λ (k : ℕ). horner r₂ (drop k b)) e₁ ∙ word-step b (i + 16) r₂ (omega arith) hb
      ∙ ap (λ (k : ℕ). horner r₃ (drop k b)) e₂ ∙ word-step b (i + 24) r₃ (omega arith) hb
      ∙ ap (λ (k : ℕ). horner (bit_xor (shifts 64 r₃) (red 64 (word_at b (i + 24)))) (drop k b)) e₃))
      ∙ inv

  pub done : length b ≤ i → shifts 8 (val h l) ≡ g
  unfolding horner
  done n = sym (ap (λ (x : List ℕ). shifts 8 (horner (val h l) x)) (drop_of_length-le b n)) ∙ inv

-- the first eight bytes at once, or none
pub first_taken : (g h : ℕ) (b : List ℕ) → h < 18446744073709551616 → Bytes b → shifts 8 (horner (val h 0) b) ≡ g → 8 ≤ length b → (k : ℕ) → k ≤ 1
    → shifts 8 (horner (val (cond (eqb (k * 8) 0) h (next_high 0 h 0)) (cond (eqb (k * 8) 0) 0 (next_low 0 h (word_at b 0)))) (drop (k * 8) b)) ≡ g
first_taken g h b hh hb inv n zero z = inv
first_taken g h b hh hb inv n (suc zero) z = word-again g b h 0 0 hh (lit< tt) hb inv n
first_taken g h b hh hb inv n (suc (suc k)) z = (let e : suc k ≤ 0 = omega arith in absurd (not-suc-le-zero e))

-- the highest k bits, times 2
pub top-fits : (k c h : ℕ) → k ≤ 63 → h < 2 ^ (k + c) → h / 2 ^ c * 2 < 18446744073709551616
top-fits k c h s b = lt_of_lt_of_le (shl_lt k 1 (shr_lt k c b)) (pow-le-pow_right (lit< tt) {i = k + 1} {j = 64} (omega arith))

-- the lowest c bits moved up by k
pub low_fits : (k c l : ℕ) → l % 2 ^ c * 2 ^ k < 2 ^ (c + k)
low_fits k c l = shl_lt c k (mod-lt l (pow_pos c))

-- ---- fewer than eight bytes, in 64 bits

-- where there is room for a byte, it is added and the bits move up by eight
byte-in : (w b : ℕ) → w < 72057594037927936 → b < 256 → red 64 (bit_xor w b * 256) ≡ crc_byte (red 64 w) b
byte-in w b hw hb =
    red-shift 56 8 (bit_xor w b)
    ∙ ap (shifts 8) (red-xor 56 w b ∙ ap₂ bit_xor (sym (red-more 8 56 w hw)) (red-more 48 8 b hb ∙ red-byte b hb))
    ∙ sym (byte-shifts (red 64 w) b)

-- after i bytes there are 8 + 8 i bits
pub room : (i w b : ℕ) → i ≤ 6 → w < 2 ^ (8 + 8 * i) → b < 256
    → (w < 72057594037927936) × (bit_xor w b < 72057594037927936) × (bit_xor w b * 256 < 2 ^ (8 + 8 * (i + 1)))
room i w b hi hw hb =
    let n : ℕ = 8 + 8 * i in
    let least : 2 ^ 8 ≤ 2 ^ n = pow-le-pow_right {n = 2} (lit< tt) {i = 8} {j = n} (omega arith) in
    let most : 2 ^ n ≤ 2 ^ 56 = pow-le-pow_right {n = 2} (lit< tt) {i = n} {j = 56} (omega arith) in
    let e : n + 8 ≡ 8 + 8 * (i + 1) = omega arith in
    let x : bit_xor w b < 2 ^ n = xor_lt n w b hw (lt_of_lt_of_le hb least) in
    (lt_of_lt_of_le hw most, lt_of_lt_of_le x most, subst (λ (k : ℕ). bit_xor w b * 256 < 2 ^ k) e (shl_lt n 8 x))

module _ (g : ℕ) (b : List ℕ) (w i : ℕ) (inv : crc_from (red 64 w) (drop i b) ≡ g) where
  pub few-again : w < 72057594037927936 → Bytes b → i < length b → crc_from (red 64 (bit_xor w (get_or b i 0) * 256)) (drop (i + 1) b) ≡ g
  unfolding crc_from
  few-again hw hb n =
      ap (λ (r : ℕ). crc_from r (drop (i + 1) b)) (byte-in w (get_or b i 0) hw (hb i))
      ∙ ap (crc_from (red 64 w)) (sym (drop_more b i n)) ∙ inv

  pub few-done : length b ≤ i → red 64 w ≡ g
  unfolding crc_from
  few-done n = sym (ap (crc_from (red 64 w)) (drop_of_length-le b n)) ∙ inv
