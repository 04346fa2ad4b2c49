-- Folding halves the bits that are kept: x^n is x^p + x^q + 1 modulo the divisor for n = 64, 32, 16 and 8.
use mathlib.Core.Path.{◌≡◌, refl, sym, ap, ap₂, ◌∙◌}
use Prim.Native.Nat.{ℕ, ◌+◌, ◌*◌, ◌/◌, ◌%◌, ◌^◌, ◌<◌, ◌≤◌}
use native.Mathlib.Nat.{add_comm, zero-add, mod-lt, lt_of_le_of_lt, lt_of_lt_of_le, div-le_self, div-add-mod'}
use native.Mathlib.Omega.{arith}
use lib.Bits.{bit_xor, xor_comm, xor_lt, xor_mod, xor_block, xor_zero_r}
use lib.Pow.{pow_pos, pow_mono, shr_lt}
use Rattle.bits.proofs.Xor.{xor_assoc, xor-swap}
use Rattle.crc.specs.Ring.{shift_one, shifts, red, val, over, within, folded}
use Rattle.crc.proofs.Ring.{shifts-xor, shifts-add, shifts-zero, red-xor, red-lt, red-more, red-shift, red-join, red-byte, red-zero, linear-same, linear-shifts, linear-sum, by_one}

-- ---- sums of numbers that are cut and moved up

moved-xor : (k x y : ℕ) → bit_xor x y * 2 ^ k ≡ bit_xor (x * 2 ^ k) (y * 2 ^ k)
moved-xor k x y =
    let p : x * 2 ^ k + 0 ≡ x * 2 ^ k = omega arith in
    let q : y * 2 ^ k + 0 ≡ y * 2 ^ k = omega arith in
    let r : bit_xor x y * 2 ^ k + bit_xor 0 0 ≡ bit_xor x y * 2 ^ k = omega arith in
    sym (ap₂ bit_xor (sym p) (sym q) ∙ xor_block k x y 0 0 (pow_pos k) (pow_pos k) ∙ r)

cut-xor : (c k x y : ℕ) → bit_xor x y % 2 ^ c * 2 ^ k ≡ bit_xor (x % 2 ^ c * 2 ^ k) (y % 2 ^ c * 2 ^ k)
cut-xor c k x y = ap (λ (n : ℕ). n * 2 ^ k) (xor_mod x y c) ∙ moved-xor k (x % 2 ^ c) (y % 2 ^ c)

pub within-xor : (q' q p' p x y : ℕ) → within q' q p' p (bit_xor x y) ≡ bit_xor (within q' q p' p x) (within q' q p' p y)
unfolding within
within-xor q' q p' p x y =
    ap₂ (λ (m n : ℕ). bit_xor (bit_xor (bit_xor x y) m) n) (cut-xor q' q x y) (cut-xor p' p x y)
    ∙ ap (λ (m : ℕ). bit_xor m (bit_xor (x % 2 ^ p' * 2 ^ p) (y % 2 ^ p' * 2 ^ p))) (xor-swap x y (x % 2 ^ q' * 2 ^ q) (y % 2 ^ q' * 2 ^ q))
    ∙ xor-swap (bit_xor x (x % 2 ^ q' * 2 ^ q)) (bit_xor y (y % 2 ^ q' * 2 ^ q)) (x % 2 ^ p' * 2 ^ p) (y % 2 ^ p' * 2 ^ p)

mixed : (x a b c d : ℕ) → bit_xor x (bit_xor (bit_xor a b) (bit_xor c d)) ≡ bit_xor (bit_xor (bit_xor x b) d) (bit_xor c a)
mixed x a b c d =
    ap (bit_xor x) (xor-swap a b c d ∙ xor_comm (bit_xor a c) (bit_xor b d))
    ∙ sym (xor_assoc x (bit_xor b d) (bit_xor a c))
    ∙ ap₂ bit_xor (sym (xor_assoc x b d)) (xor_comm a c)

-- ---- one fold: x^n is x^p + x^q + 1, as computed for 1; p + p' and q + q' are n

rule : (n q p : ℕ) → shifts n 1 ≡ bit_xor 1 (bit_xor (shifts q 1) (shifts p 1)) → (x : ℕ) → x < 256 → shifts n x ≡ bit_xor x (bit_xor (shifts q x) (shifts p x))
rule n q p =
    by_one (shifts n) (λ (x : ℕ). bit_xor x (bit_xor (shifts q x) (shifts p x))) (linear-shifts n)
    (linear-sum (λ (x : ℕ). x) (λ (x : ℕ). bit_xor (shifts q x) (shifts p x)) linear-same (linear-sum (shifts q) (shifts p) (linear-shifts q) (linear-shifts p)))

over-lt : (n q' p' v : ℕ) → v < 2 ^ n → over q' p' v < 2 ^ n
unfolding over
over-lt n q' p' v h =
    xor_lt n (v / 2 ^ p') (v / 2 ^ q') (lt_of_le_of_lt (div-le_self v (2 ^ p')) h) (lt_of_le_of_lt (div-le_self v (2 ^ q')) h)

-- what passes x^n has p' bits less
over-less : (q' p' m v : ℕ) → p' ≤ q' → v < 2 ^ (m + p') → over q' p' v < 2 ^ m
unfolding over
over-less q' p' m v s h =
    xor_lt m (v / 2 ^ p') (v / 2 ^ q') (shr_lt m p' h) (shr_lt m q' (lt_of_lt_of_le h (pow_mono {i = m + p'} {j = m + q'} (omega arith))))

module _ (n q' q p' p : ℕ) (sq : q + q' ≡ n) (sp : p + p' ≡ n) (more : p' ≤ q') (enough : p ≤ p' + p')
    (one : shifts n 1 ≡ bit_xor 1 (bit_xor (shifts q 1) (shifts p 1))) where
  -- v times x^k: what stays below x^n, and what passes it
  cut : (k c : ℕ) → k + c ≡ n → (v : ℕ) → v < 2 ^ n → shifts k (red n v) ≡ bit_xor (shifts n (red n (v / 2 ^ c))) (red n (v % 2 ^ c * 2 ^ k))
  cut k c s v h =
      let hu : v / 2 ^ c < 2 ^ k = shr_lt k c (rw s h) in
      ap₂ (λ (m x : ℕ). shifts k (red m x)) (sym s) (sym (div-add-mod' v (2 ^ c)))
      ∙ ap (shifts k) (red-join k c (v / 2 ^ c) (v % 2 ^ c) (mod-lt v (pow_pos c)))
      ∙ shifts-xor k (shifts c (red k (v / 2 ^ c))) (red c (v % 2 ^ c))
      ∙ ap₂ bit_xor
      (sym (shifts-add k c (red k (v / 2 ^ c)))
      ∙ ap₂ shifts s (sym (red-more c k (v / 2 ^ c) hu) ∙ ap (λ (m : ℕ). red m (v / 2 ^ c)) (add_comm c k ∙ s)))
      (sym (red-shift c k (v % 2 ^ c)) ∙ ap (λ (m : ℕ). red m (v % 2 ^ c * 2 ^ k)) (add_comm c k ∙ s))

  once : (v : ℕ) → v < 2 ^ n → shifts n (red n v) ≡ bit_xor (red n (within q' q p' p v)) (shifts n (red n (over q' p' v)))
  unfolding within over
  once v h =
      rule n q p one (red n v) (red-lt n v)
      ∙ ap (bit_xor (red n v)) (ap₂ bit_xor (cut q q' sq v h) (cut p p' sp v h))
      ∙ mixed (red n v) (shifts n (red n (v / 2 ^ q'))) (red n (v % 2 ^ q' * 2 ^ q)) (shifts n (red n (v / 2 ^ p'))) (red n (v % 2 ^ p' * 2 ^ p))
      ∙ sym (ap₂ bit_xor
      (red-xor n (bit_xor v (v % 2 ^ q' * 2 ^ q)) (v % 2 ^ p' * 2 ^ p) ∙ ap (λ (x : ℕ). bit_xor x (red n (v % 2 ^ p' * 2 ^ p))) (red-xor n v (v % 2 ^ q' * 2 ^ q)))
      (ap (shifts n) (red-xor n (v / 2 ^ p') (v / 2 ^ q')) ∙ shifts-xor n (red n (v / 2 ^ p')) (red n (v / 2 ^ q'))))

  -- all of it: three times is enough
  pub fold : (h l : ℕ) → h < 2 ^ n → bit_xor (shifts n (red n h)) (red n l) ≡ red n (folded q' q p' p h l)
  unfolding folded
  fold h l b₀ =
      let a : ℕ = over q' p' h in
      let b : ℕ = over q' p' (over q' p' h) in
      let f : ℕ → ℕ = within q' q p' p in
      let b₁ : over q' p' h < 2 ^ n = over-lt n q' p' h b₀ in
      let b₂ : over q' p' a < 2 ^ n = over-lt n q' p' a b₁ in
      let c₁ : over q' p' h < 2 ^ p = over-less q' p' p h more (rw sp b₀) in
      let c₂ : over q' p' a < 2 ^ p' = over-less q' p' p' a more (lt_of_lt_of_le c₁ (pow_mono {i = p} {j = p' + p'} enough)) in
      let c₃ : over q' p' b < 1 = over-less q' p' 0 b more (rw (zero-add p') c₂) in
      let z : over q' p' b ≡ 0 = omega (arith, c₃) in
      let last : shifts n (red n (over q' p' b)) ≡ 0 = ap (λ (x : ℕ). shifts n (red n x)) z ∙ ap (shifts n) (red-zero n) ∙ shifts-zero n in
      ap (λ (x : ℕ). bit_xor x (red n l))
      (once h b₀
      ∙ ap (bit_xor (red n (f h))) (once a b₁ ∙ ap (bit_xor (red n (f a))) (once b b₂ ∙ ap (bit_xor (red n (f b))) last ∙ xor_zero_r (red n (f b))))
      ∙ sym (xor_assoc (red n (f h)) (red n (f a)) (red n (f b)))
      ∙ sym (ap (red n) (within-xor q' q p' p (bit_xor h a) b ∙ ap (λ (x : ℕ). bit_xor x (f b)) (within-xor q' q p' p h a))
      ∙ red-xor n (bit_xor (f h) (f a)) (f b) ∙ ap (λ (x : ℕ). bit_xor x (red n (f b))) (red-xor n (f h) (f a))))
      ∙ xor_comm (red n (f (bit_xor (bit_xor h a) b))) (red n l)
      ∙ sym (red-xor n l (f (bit_xor (bit_xor h a) b)))

-- ---- the four folds

powers : (shifts 64 1 ≡ bit_xor 1 (bit_xor (shifts 32 1) (shifts 40 1))) × (shifts 32 1 ≡ bit_xor 1 (bit_xor (shifts 16 1) (shifts 20 1)))
    × (shifts 16 1 ≡ bit_xor 1 (bit_xor (shifts 8 1) (shifts 10 1))) × (shifts 8 1 ≡ bit_xor 1 (bit_xor (shifts 4 1) (shifts 5 1)))
unfolding shifts shift_one
powers = (refl, refl, refl, refl)

pub fold-64 : (h l : ℕ) → h < 18446744073709551616 → val h l ≡ red 64 (folded 32 32 24 40 h l)
unfolding val
fold-64 = fold 64 32 32 24 40 refl refl (omega arith) (omega arith) powers.0

fold-32 : (h l : ℕ) → h < 4294967296 → bit_xor (shifts 32 (red 32 h)) (red 32 l) ≡ red 32 (folded 16 16 12 20 h l)
fold-32 = fold 32 16 16 12 20 refl refl (omega arith) (omega arith) powers.1

fold-16 : (h l : ℕ) → h < 65536 → bit_xor (shifts 16 (red 16 h)) (red 16 l) ≡ red 16 (folded 8 8 6 10 h l)
fold-16 = fold 16 8 8 6 10 refl refl (omega arith) (omega arith) powers.2

fold-8 : (h l : ℕ) → h < 256 → bit_xor (shifts 8 (red 8 h)) (red 8 l) ≡ red 8 (folded 4 4 3 5 h l)
fold-8 = fold 8 4 4 3 5 refl refl (omega arith) (omega arith) powers.3

-- ---- a fold fits its bits

pub folded-lt : (n q' q p' p : ℕ) → ((v : ℕ) → (v % 2 ^ q' * 2 ^ q < 2 ^ n) × (v % 2 ^ p' * 2 ^ p < 2 ^ n))
    → (h l : ℕ) → h < 2 ^ n → l < 2 ^ n → folded q' q p' p h l < 2 ^ n
unfolding folded within
folded-lt n q' q p' p cuts h l bh bl =
    let a : ℕ = over q' p' h in
    let b : ℕ = over q' p' (over q' p' h) in
    let ba : over q' p' h < 2 ^ n = over-lt n q' p' h bh in
    let g : ℕ = bit_xor (bit_xor h a) b in
    let bg : g < 2 ^ n = xor_lt n (bit_xor h a) b (xor_lt n h a bh ba) (over-lt n q' p' a ba) in
    xor_lt n l (bit_xor (bit_xor g (g % 2 ^ q' * 2 ^ q)) (g % 2 ^ p' * 2 ^ p)) bl
    (xor_lt n (bit_xor g (g % 2 ^ q' * 2 ^ q)) (g % 2 ^ p' * 2 ^ p) (xor_lt n g (g % 2 ^ q' * 2 ^ q) bg (cuts g).0) (cuts g).1)

-- ---- from 64 bits to a byte

halves : (n w : ℕ) → w / 2 ^ n * 2 ^ n + w % 2 ^ n ≡ w → red (n + n) w ≡ bit_xor (shifts n (red n (w / 2 ^ n))) (red n (w % 2 ^ n))
halves n w e = ap (red (n + n)) (sym e) ∙ red-join n n (w / 2 ^ n) (w % 2 ^ n) (mod-lt w (pow_pos n))

pub reduced-red : (w d s r : ℕ) → w < 18446744073709551616
    → d ≡ folded 16 16 12 20 (w / 4294967296) (w % 4294967296) → d < 4294967296
    → s ≡ folded 8 8 6 10 (d / 65536) (d % 65536) → s < 65536
    → r ≡ folded 4 4 3 5 (s / 256) (s % 256) → r < 256
    → r ≡ red 64 w
reduced-red w d s r bw ed bd es bs er br =
    sym (halves 32 w (omega arith)
    ∙ fold-32 (w / 4294967296) (w % 4294967296) (omega arith) ∙ ap (red 32) (sym ed) ∙ halves 16 d (omega arith)
    ∙ fold-16 (d / 65536) (d % 65536) (omega arith) ∙ ap (red 16) (sym es) ∙ halves 8 s (omega arith)
    ∙ fold-8 (s / 256) (s % 256) (omega arith) ∙ ap (red 8) (sym er) ∙ red-byte r br)
