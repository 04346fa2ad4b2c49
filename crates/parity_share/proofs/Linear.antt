-- Division is linear: the parity of a sum of two headers is the sum of their parities, and a share is the byte times the share of 1.
use mathlib.Core.Path.{◌≡◌, refl, sym, ap, ap₂, ◌∙◌}
use mathlib.Core.List.{List, [], ◌∷◌, map}
use Prim.Native.Nat.{ℕ, zero, suc, ◌-◌, ◌<◌}
use native.Mathlib.Omega.{arith}
use lib.Bits.{bit_xor, xor_lt, xor_zero_r, xor_zero_l}
use lib.Dec.{lit<}
use lib.ListN.{length, get_or, set, take, drop, replicate, length-set, length-replicate, length-drop}
use lib.Seq.{slice, take_all, get_or-drop}
use Rattle.field.specs.Field.{mul, pow}
use Rattle.field.proofs.Linear.{mul-add-l, mul-add-r}
use Rattle.field.proofs.Laws.{mul_assoc, mul-one-l, mul-zero-l, mul-zero-r, pow-lt}
use Rattle.bits.proofs.Xor.{xor-swap}
use Rattle.header.specs.Header.{exponents, tap, divide_step, remainder, parity_of}
use Rattle.header.specs.Packed.{unpacked, times_all}
use Rattle.header.proofs.CodeWords.{Bytes}
use Rattle.header.proofs.Division.{add_all, eight, remainder-bytes, parity-length}
use Rattle.header.proofs.Lanes.{unpacked-xor}
use Rattle.parity_share.specs.Shares.{alone, share, parity_sum}

-- ---- sums of words

pub add_all-at : (u v : List ℕ) (k : ℕ) → get_or (add_all u v) k 0 ≡ bit_xor (get_or u k 0) (get_or v k 0)
unfolding add_all
add_all-at [] v k = sym (xor_zero_l (get_or v k 0))
add_all-at (x ∷ u) [] k = sym (xor_zero_r (get_or (x ∷ u) k 0))
add_all-at (x ∷ u) (y ∷ v) zero = refl
add_all-at (x ∷ u) (y ∷ v) (suc k) = add_all-at u v k

pub add_all-length : (u v : List ℕ) → length u ≡ length v → length (add_all u v) ≡ length u
unfolding add_all
add_all-length [] [] l = refl
add_all-length [] (y ∷ v) l = absurd (omega arith)
add_all-length (x ∷ u) [] l = refl
add_all-length (x ∷ u) (y ∷ v) l = ap suc (add_all-length u v (omega arith))

add_all-drop : (n : ℕ) (u v : List ℕ) → length u ≡ length v → drop n (add_all u v) ≡ add_all (drop n u) (drop n v)
unfolding add_all
add_all-drop zero u v l = refl
add_all-drop (suc n) [] [] l = refl
add_all-drop (suc n) [] (y ∷ v) l = absurd (omega arith)
add_all-drop (suc n) (x ∷ u) [] l = absurd (omega arith)
add_all-drop (suc n) (x ∷ u) (y ∷ v) l = add_all-drop n u v (omega arith)

-- the sum of two words of eight bytes
added-eight : (p q : List ℕ) → length p ≡ 8 → length q ≡ 8 → add_all p q ≡ parity_sum p q
unfolding parity_sum
added-eight p q lp lq = eight (add_all p q) (add_all-length p q (lp ∙ sym lq) ∙ lp) ∙ simp (add_all-at p q)

-- ---- the remainder of a sum

-- a coefficient of the register's next value, for the sum of two registers
module _ (r s : List ℕ) (f g : ℕ) where
  tap-sum : (k : ℕ) → get_or (0 ∷ parity_sum r s) k 0 ≡ bit_xor (get_or (0 ∷ r) k 0) (get_or (0 ∷ s) k 0)
      → tap (parity_sum r s) (bit_xor f g) k ≡ bit_xor (tap r f k) (tap s g k)
  unfolding tap
  tap-sum k e =
      ap₂ bit_xor e (mul-add-r (pow (get_or exponents k 0)) f g)
      ∙ xor-swap (get_or (0 ∷ r) k 0) (get_or (0 ∷ s) k 0) (mul (pow (get_or exponents k 0)) f) (mul (pow (get_or exponents k 0)) g)

  taps-sum : map (tap (parity_sum r s) (bit_xor f g)) (0 ∷ 1 ∷ 2 ∷ 3 ∷ 4 ∷ 5 ∷ 6 ∷ 7 ∷ [])
      ≡ map (λ k. bit_xor (tap r f k) (tap s g k)) (0 ∷ 1 ∷ 2 ∷ 3 ∷ 4 ∷ 5 ∷ 6 ∷ 7 ∷ [])
  unfolding parity_sum
  taps-sum =
      ap₂ ◌∷◌ (tap-sum 0 refl) (ap₂ ◌∷◌ (tap-sum 1 refl) (ap₂ ◌∷◌ (tap-sum 2 refl) (ap₂ ◌∷◌ (tap-sum 3 refl)
      (ap₂ ◌∷◌ (tap-sum 4 refl) (ap₂ ◌∷◌ (tap-sum 5 refl) (ap₂ ◌∷◌ (tap-sum 6 refl) (ap₂ ◌∷◌ (tap-sum 7 refl) refl)))))))

divide_step-sum : (r s : List ℕ) (b c : ℕ) → divide_step (parity_sum r s) (bit_xor b c) ≡ parity_sum (divide_step r b) (divide_step s c)
unfolding divide_step parity_sum
divide_step-sum r s b c =
    ap (λ (f : ℕ). map (tap (parity_sum r s) f) (0 ∷ 1 ∷ 2 ∷ 3 ∷ 4 ∷ 5 ∷ 6 ∷ 7 ∷ [])) (xor-swap b c (get_or r 7 0) (get_or s 7 0))
    ∙ taps-sum r s (bit_xor b (get_or r 7 0)) (bit_xor c (get_or s 7 0))

zeros : replicate 8 0 ≡ parity_sum (replicate 8 0) (replicate 8 0)
unfolding parity_sum
zeros = refl

remainder-sum : (u v : List ℕ) → length u ≡ length v → remainder (add_all u v) ≡ parity_sum (remainder u) (remainder v)
unfolding remainder add_all
remainder-sum [] [] l = zeros
remainder-sum [] (y ∷ v) l = absurd (omega arith)
remainder-sum (x ∷ u) [] l = absurd (omega arith)
remainder-sum (x ∷ u) (y ∷ v) l =
    ap (λ (r : List ℕ). divide_step r (bit_xor x y)) (remainder-sum u v (omega arith)) ∙ divide_step-sum (remainder u) (remainder v) x y

-- the bytes that are divided
pub message : (w : List ℕ) → length w ≡ 96 → slice 8 96 w ≡ drop 8 w
message w l = ap (drop 8) (take_all 96 w (omega arith))

-- the parity of a sum of two headers is the sum of their parities
pub parity-sum : (u v : List ℕ) → length u ≡ 96 → length v ≡ 96 → parity_of (add_all u v) ≡ parity_sum (parity_of u) (parity_of v)
unfolding parity_of
parity-sum u v lu lv =
    let l : length u ≡ length v = lu ∙ sym lv in
    ap remainder
    (message (add_all u v) (add_all-length u v l ∙ lu) ∙ add_all-drop 8 u v l ∙ ap₂ add_all (sym (message u lu)) (sym (message v lv)))
    ∙ remainder-sum (slice 8 96 u) (slice 8 96 v) (ap length (message u lu) ∙ dropped ∙ sym (ap length (message v lv)))
  where
    dropped : length (drop 8 u) ≡ length (drop 8 v)
    dropped = length-drop 8 u ∙ ap (λ (n : ℕ). n - 8) (lu ∙ sym lv) ∙ sym (length-drop 8 v)

-- ---- zeros

zero-step : divide_step (replicate 8 0) 0 ≡ replicate 8 0
unfolding divide_step tap
zero-step = simp (mul-zero-r)

pub zero-remainder : (n : ℕ) → remainder (replicate n 0) ≡ replicate 8 0
unfolding remainder
zero-remainder zero = refl
zero-remainder (suc n) = ap (λ (r : List ℕ). divide_step r 0) (zero-remainder n) ∙ zero-step

-- a header of zeros has a parity of zeros
pub zero-parity : parity_of (replicate 96 0) ≡ replicate 8 0
unfolding parity_of
zero-parity = zero-remainder 88

-- ---- a header that has one byte alone

pub alone-length : (i b : ℕ) → length (alone i b) ≡ 96
unfolding alone
alone-length i b = length-set (replicate 96 0) i b ∙ length-replicate {A = ℕ} 96 0

share-length : (i b : ℕ) → length (share i b) ≡ 8
unfolding share
share-length i b = parity-length (alone i b)

zeros-bytes : (n : ℕ) → Bytes (replicate n 0)
zeros-bytes zero k = lit< tt
zeros-bytes (suc n) zero = lit< tt
zeros-bytes (suc n) (suc k) = zeros-bytes n k

bytes-set : (w : List ℕ) (i b : ℕ) → Bytes w → b < 256 → Bytes (set w i b)
bytes-set [] i b hw hb k = lit< tt
bytes-set (x ∷ w) zero b hw hb zero = hb
bytes-set (x ∷ w) zero b hw hb (suc k) = hw (suc k)
bytes-set (x ∷ w) (suc i) b hw hb zero = hw 0
bytes-set (x ∷ w) (suc i) b hw hb (suc k) = bytes-set w i b (λ j. hw (suc j)) hb k

alone-bytes : (i b : ℕ) → b < 256 → Bytes (alone i b)
unfolding alone
alone-bytes i b h = bytes-set (replicate 96 0) i b (zeros-bytes 96) h

-- ---- times a byte

-- byte k of a word whose bytes are all times a number
pub times-at : (b : ℕ) (w : List ℕ) (k : ℕ) → get_or (times_all b w) k 0 ≡ mul (get_or w k 0) b
unfolding times_all
times-at b [] k = sym (mul-zero-l b)
times-at b (x ∷ w) zero = refl
times-at b (x ∷ w) (suc k) = times-at b w k

times-zeros : (b n : ℕ) → times_all b (replicate n 0) ≡ replicate n 0
unfolding times_all
times-zeros b zero = refl
times-zeros b (suc n) = ap₂ ◌∷◌ (mul-zero-l b) (times-zeros b n)

times-drop : (b n : ℕ) (w : List ℕ) → times_all b (drop n w) ≡ drop n (times_all b w)
unfolding times_all
times-drop b zero w = refl
times-drop b (suc n) [] = refl
times-drop b (suc n) (x ∷ w) = times-drop b n w

times-set : (b : ℕ) (w : List ℕ) (i x : ℕ) → times_all b (set w i x) ≡ set (times_all b w) i (mul x b)
unfolding times_all
times-set b [] i x = refl
times-set b (y ∷ w) zero x = refl
times-set b (y ∷ w) (suc i) x = ap (λ (l : List ℕ). mul y b ∷ l) (times-set b w i x)

module _ (b : ℕ) (hb : b < 256) where
  up_at : (r : List ℕ) (k : ℕ) → get_or (0 ∷ times_all b r) k 0 ≡ mul (get_or (0 ∷ r) k 0) b
  up_at r zero = sym (mul-zero-l b)
  up_at r (suc k) = times-at b r k

  tap-times : (r : List ℕ) (f k : ℕ) → f < 256 → tap (times_all b r) (mul f b) k ≡ mul (tap r f k) b
  unfolding tap
  tap-times r f k hf =
      ap₂ bit_xor (up_at r k) (sym (mul_assoc (pow (get_or exponents k 0)) f b (pow-lt (get_or exponents k 0)) hf hb))
      ∙ sym (mul-add-l (get_or (0 ∷ r) k 0) (mul (pow (get_or exponents k 0)) f) b)

  taps-times : (r : List ℕ) (f : ℕ) → f < 256 → (ks : List ℕ) → map (tap (times_all b r) (mul f b)) ks ≡ times_all b (map (tap r f) ks)
  unfolding times_all
  taps-times r f hf [] = refl
  taps-times r f hf (k ∷ ks) = ap₂ ◌∷◌ (tap-times r f k hf) (taps-times r f hf ks)

  divide_step-times : (r : List ℕ) (c : ℕ) → Bytes r → c < 256 → divide_step (times_all b r) (mul c b) ≡ times_all b (divide_step r c)
  unfolding divide_step
  divide_step-times r c hr hc =
      ap (λ (f : ℕ). map (tap (times_all b r) f) (0 ∷ 1 ∷ 2 ∷ 3 ∷ 4 ∷ 5 ∷ 6 ∷ 7 ∷ []))
      (ap (bit_xor (mul c b)) (times-at b r 7) ∙ sym (mul-add-l c (get_or r 7 0) b))
      ∙ taps-times r (bit_xor c (get_or r 7 0)) (xor_lt 8 c (get_or r 7 0) hc (hr 7)) (0 ∷ 1 ∷ 2 ∷ 3 ∷ 4 ∷ 5 ∷ 6 ∷ 7 ∷ [])

  remainder-times : (m : List ℕ) → Bytes m → remainder (times_all b m) ≡ times_all b (remainder m)
  unfolding remainder times_all
  remainder-times [] hm = sym (times-zeros b 8)
  remainder-times (x ∷ m) hm =
      ap (λ (r : List ℕ). divide_step r (mul x b)) (remainder-times m (λ i. hm (suc i)))
      ∙ divide_step-times (remainder m) x (remainder-bytes m (λ i. hm (suc i))) (hm 0)

  times-alone : (i : ℕ) → times_all b (alone i 1) ≡ alone i b
  unfolding alone
  times-alone i =
      times-set b (replicate 96 0) i 1
      ∙ ap₂ (λ (w : List ℕ) (x : ℕ). set w i x) (times-zeros b 96) (mul-one-l b hb)

  -- a byte's share is the byte times the share of 1
  pub share-times : (i : ℕ) → times_all b (share i 1) ≡ share i b
  unfolding share parity_of
  share-times i =
      let hw : Bytes (alone i 1) = alone-bytes i 1 (lit< tt) in
      let e : slice 8 96 (alone i 1) ≡ drop 8 (alone i 1) = message (alone i 1) (alone-length i 1) in
      ap (λ (m : List ℕ). times_all b (remainder m)) e
      ∙ sym (remainder-times (drop 8 (alone i 1)) (λ k. rw (get_or-drop 8 (alone i 1) k 0) (hw _)))
      ∙ ap remainder (times-drop b 8 (alone i 1) ∙ ap (drop 8) (times-alone i) ∙ sym (message (alone i b) (alone-length i b)))

  -- a packed parity plus the packed share of 1 times the byte: the parity with the byte's share added
  pub packed-sum : (p : List ℕ) (i x s w : ℕ) → length p ≡ 8 → unpacked x ≡ take 8 (drop 0 p) → unpacked s ≡ share i 1
      → unpacked w ≡ times_all b (unpacked s) → unpacked (bit_xor x w) ≡ parity_sum p (share i b)
  packed-sum p i x s w l ex es ew =
      unpacked-xor x w
      ∙ ap₂ add_all (ex ∙ take_all 8 p (omega arith)) (ew ∙ ap (times_all b) es ∙ share-times i)
      ∙ added-eight p (share i b) l (share-length i b)

times_none : (w : List ℕ) → times_all 0 w ≡ replicate (length w) 0
unfolding times_all
times_none [] = refl
times_none (x ∷ w) = ap₂ ◌∷◌ (mul-zero-r x) (times_none w)

-- the share of a byte 0 is zero
pub zero-share : (i : ℕ) → share i 0 ≡ replicate 8 0
zero-share i = sym (share-times 0 (lit< tt) i) ∙ times_none (share i 1) ∙ ap (λ (n : ℕ). replicate n 0) (share-length i 1)
