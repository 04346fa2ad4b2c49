-- Eight bytes in one number: sums and products of all of them at once, and the remainder that eight more bytes leave.
use mathlib.Core.Path.{◌≡◌, refl, sym, ap, ap₂, ◌∙◌}
use mathlib.Core.List.{List, [], ◌∷◌, ◌++◌, map}
use Prim.Native.Nat.{ℕ, zero, suc, ◌+◌, ◌-◌, ◌*◌, ◌/◌, ◌%◌, ◌^◌, ◌<◌, ◌≤◌}
use native.Mathlib.Nat.{mod-lt, zero-mul, add-zero, suc-mul, add_comm}
use native.Mathlib.Omega.{arith}
use lib.Bits.{bit_xor, bit_and, bit_or, or_shifted_r, xor_self, xor_comm, xor_shr, xor_mod, xor_shifted, xor_zero_l, xor_zero_r, and_shr, and_mod, and_mask, and_high, and_le_r}
use lib.Dec.{eqb, eqb→eq, lit<}
use lib.ListN.{length, get_or, take, drop, replicate, take-append-drop}
use lib.ListN.{length-drop, length-append, drop_of_length-le}
use lib.Seq.{get_or-drop, get_or-take, length-take-le, drop-drop}
use Rattle.field.specs.Field.{times_a, mul_bits, mul, shift, pow}
use Rattle.bits.proofs.Computed.{below}
use Rattle.bits.proofs.Xor.{xor_assoc}
use Rattle.field.proofs.Linear.{mul-add-l, mul-add-r, mul-times_a, times_a-lt}
use Rattle.field.proofs.Laws.{mul_comm, mul_assoc, mul-one-l, mul-zero-l, mul-zero-r, mul-shift, shift-xor, shift-add, shift_zero, pow-lt}
use Rattle.header.specs.Header.{exponents, tap, divide_step, remainder, parity_of, syndromes}
use Rattle.header.specs.Horner.{value, values}
use Rattle.header.specs.Packed.{pack, unpacked, low_coefficients, times_all, left_of, LeftOver}
use Rattle.header.proofs.CodeWords.{Bytes, zero-code-word}
use Rattle.header.proofs.Division.{add_all, eight, map-bytes, bytes-append, remainder-value, syndrome-value, value-append, value-add_all}
use Rattle.header.proofs.Packed.{unpacked-pack, syndromes-rest}
use Rattle.header.proofs.Unique.{bytes-all, parity-only}

-- ---- sums

lane_xor : (k x y : ℕ) → bit_xor x y / 2 ^ k % 256 ≡ bit_xor (x / 2 ^ k % 256) (y / 2 ^ k % 256)
lane_xor k x y = ap (λ (n : ℕ). n % 256) (xor_shr x y k) ∙ xor_mod (x / 2 ^ k) (y / 2 ^ k) 8

pub unpacked-xor : (x y : ℕ) → unpacked (bit_xor x y) ≡ add_all (unpacked x) (unpacked y)
unfolding unpacked add_all
unpacked-xor x y =
    ap₂ ◌∷◌ (lane_xor 0 x y) (ap₂ ◌∷◌ (lane_xor 8 x y) (ap₂ ◌∷◌ (lane_xor 16 x y) (ap₂ ◌∷◌ (lane_xor 24 x y)
    (ap₂ ◌∷◌ (lane_xor 32 x y) (ap₂ ◌∷◌ (lane_xor 40 x y) (ap₂ ◌∷◌ (lane_xor 48 x y) (ap₂ ◌∷◌ (lane_xor 56 x y) refl)))))))

pub unpacked-bytes : (r : ℕ) → Bytes (unpacked r)
unfolding unpacked
unpacked-bytes r =
    map-bytes (λ u. r / u % 256) (1 ∷ 256 ∷ 65536 ∷ 16777216 ∷ 4294967296 ∷ 1099511627776 ∷ 281474976710656 ∷ 72057594037927936 ∷ [])
    (λ u. mod-lt (r / u) (lit< tt))

-- ---- every byte times a

-- the bytes of a number times a number
lanes-two : (l : List ℕ) → pack l * 2 ≡ pack (map (λ x. x * 2) l)
unfolding pack
lanes-two [] = refl
lanes-two (x ∷ l) = let h = lanes-two l in omega arith

lanes-128 : (l : List ℕ) → pack l * 128 ≡ pack (map (λ x. x * 128) l)
unfolding pack
lanes-128 [] = refl
lanes-128 (x ∷ l) = let h = lanes-128 l in omega arith

lanes-29 : (l : List ℕ) → pack l * 29 ≡ pack (map (λ x. x * 29) l)
unfolding pack
lanes-29 [] = refl
lanes-29 (x ∷ l) = let h = lanes-29 l in omega arith

pack-unpacked : (w : ℕ) → w < 18446744073709551616 → pack (unpacked w) ≡ w
unfolding pack unpacked
pack-unpacked w h =
    let e₇ : 0 * 256 + w / 72057594037927936 % 256 ≡ w / 72057594037927936 = omega arith in
    let e₆ : w / 72057594037927936 * 256 + w / 281474976710656 % 256 ≡ w / 281474976710656 = omega arith in
    let e₅ : w / 281474976710656 * 256 + w / 1099511627776 % 256 ≡ w / 1099511627776 = omega arith in
    let e₄ : w / 1099511627776 * 256 + w / 4294967296 % 256 ≡ w / 4294967296 = omega arith in
    let e₃ : w / 4294967296 * 256 + w / 16777216 % 256 ≡ w / 16777216 = omega arith in
    let e₂ : w / 16777216 * 256 + w / 65536 % 256 ≡ w / 65536 = omega arith in
    let e₁ : w / 65536 * 256 + w / 256 % 256 ≡ w / 256 = omega arith in
    let e₀ : w / 256 * 256 + w / 1 % 256 ≡ w = omega arith in
    ap (λ (n : ℕ). n * 256 + w / 1 % 256) (ap (λ (n : ℕ). n * 256 + w / 256 % 256) (ap (λ (n : ℕ). n * 256 + w / 65536 % 256) (ap (λ (n : ℕ). n * 256 + w / 16777216 % 256) (ap (λ (n : ℕ). n * 256 + w / 4294967296 % 256) (ap (λ (n : ℕ). n * 256 + w / 1099511627776 % 256) (ap (λ (n : ℕ). n * 256 + w / 281474976710656 % 256) (e₇) ∙ e₆) ∙ e₅) ∙ e₄) ∙ e₃) ∙ e₂) ∙ e₁) ∙ e₀

lane_low : (k w m : ℕ) → m / 2 ^ k % 256 ≡ 127 → bit_and w m / 2 ^ k % 256 ≡ w / 2 ^ k % 256 % 128
lane_low k w m e =
    ap (λ (n : ℕ). n % 256) (and_shr w m k) ∙ and_mod (w / 2 ^ k) (m / 2 ^ k) 8 ∙ ap (bit_and (w / 2 ^ k % 256)) e ∙ and_mask (w / 2 ^ k % 256) 7

lane-high : (k w m : ℕ) → m / 2 ^ k % 256 ≡ 128 → bit_and w m / 2 ^ k % 256 ≡ w / 2 ^ k % 256 / 128 % 2 * 128
lane-high k w m e =
    ap (λ (n : ℕ). n % 256) (and_shr w m k) ∙ and_mod (w / 2 ^ k) (m / 2 ^ k) 8 ∙ ap (bit_and (w / 2 ^ k % 256)) e ∙ and_high (w / 2 ^ k % 256) 1 7

-- bits 0 to 6 of every byte
low_bits : (w : ℕ) → unpacked (bit_and w 0x7f7f7f7f7f7f7f7f) ≡ map (λ x. x % 128) (unpacked w)
unfolding unpacked
low_bits w =
    let m : ℕ = 0x7f7f7f7f7f7f7f7f in
    ap₂ ◌∷◌ (lane_low 0 w m refl) (ap₂ ◌∷◌ (lane_low 8 w m refl) (ap₂ ◌∷◌ (lane_low 16 w m refl) (ap₂ ◌∷◌ (lane_low 24 w m refl)
    (ap₂ ◌∷◌ (lane_low 32 w m refl) (ap₂ ◌∷◌ (lane_low 40 w m refl) (ap₂ ◌∷◌ (lane_low 48 w m refl) (ap₂ ◌∷◌ (lane_low 56 w m refl) refl)))))))

-- bit 7 of every byte
high_bits : (w : ℕ) → unpacked (bit_and w 0x8080808080808080) ≡ map (λ x. x * 128) (map (λ x. x / 128 % 2) (unpacked w))
unfolding unpacked
high_bits w =
    let m : ℕ = 0x8080808080808080 in
    ap₂ ◌∷◌ (lane-high 0 w m refl) (ap₂ ◌∷◌ (lane-high 8 w m refl) (ap₂ ◌∷◌ (lane-high 16 w m refl) (ap₂ ◌∷◌ (lane-high 24 w m refl)
    (ap₂ ◌∷◌ (lane-high 32 w m refl) (ap₂ ◌∷◌ (lane-high 40 w m refl) (ap₂ ◌∷◌ (lane-high 48 w m refl) (ap₂ ◌∷◌ (lane-high 56 w m refl) refl)))))))

eight-bytes : (f : ℕ → ℕ) (w : ℕ) → ((x : ℕ) → f x < 256) → unpacked (pack (map f (unpacked w))) ≡ map f (unpacked w)
unfolding unpacked
eight-bytes f w h = unpacked-pack (map f (unpacked w)) refl (map-bytes f (unpacked w) h)

low-moved : (w : ℕ) → unpacked (bit_and w 0x7f7f7f7f7f7f7f7f * 2) ≡ map (λ x. x % 128 * 2) (unpacked w)
unfolding unpacked
low-moved w =
    let a : ℕ = bit_and w 0x7f7f7f7f7f7f7f7f in
    let s : bit_and w 0x7f7f7f7f7f7f7f7f ≤ 0x7f7f7f7f7f7f7f7f = and_le_r w 0x7f7f7f7f7f7f7f7f in
    let e : a * 2 ≡ pack (map (λ x. x % 128 * 2) (unpacked w)) =
    ap (λ (n : ℕ). n * 2) (sym (pack-unpacked a (omega arith))) ∙ lanes-two (unpacked a)
    ∙ ap (λ (l : List ℕ). pack (map (λ x. x * 2) l)) (low_bits w) in
    ap unpacked e ∙ eight-bytes (λ x. x % 128 * 2) w (λ x. omega arith)

high-moved : (w : ℕ) → unpacked (bit_and w 0x8080808080808080 / 128 * 29) ≡ map (λ x. x / 128 % 2 * 29) (unpacked w)
unfolding unpacked
high-moved w =
    let a : ℕ = bit_and w 0x8080808080808080 in
    let s : bit_and w 0x8080808080808080 ≤ 0x8080808080808080 = and_le_r w 0x8080808080808080 in
    let p : ℕ = pack (map (λ x. x / 128 % 2) (unpacked w)) in
    let e : a ≡ p * 128 = sym (pack-unpacked a (omega arith)) ∙ ap pack (high_bits w) ∙ sym (lanes-128 (map (λ x. x / 128 % 2) (unpacked w))) in
    let d : a / 128 ≡ p = omega (arith, e) in
    ap unpacked (ap (λ (n : ℕ). n * 29) d ∙ lanes-29 (map (λ x. x / 128 % 2) (unpacked w))) ∙ eight-bytes (λ x. x / 128 % 2 * 29) w (λ x. omega arith)

both-moved : (w : ℕ) → add_all (map (λ x. x % 128 * 2) (unpacked w)) (map (λ x. x / 128 % 2 * 29) (unpacked w)) ≡ map times_a (unpacked w)
unfolding unpacked add_all times_a
both-moved w = refl

pub doubled-bytes : (w : ℕ) → unpacked (bit_xor (bit_and w 0x7f7f7f7f7f7f7f7f * 2) (bit_and w 0x8080808080808080 / 128 * 29)) ≡ map times_a (unpacked w)
doubled-bytes w =
    unpacked-xor (bit_and w 0x7f7f7f7f7f7f7f7f * 2) (bit_and w 0x8080808080808080 / 128 * 29) ∙ ap₂ add_all (low-moved w) (high-moved w) ∙ both-moved w

-- ---- every byte times a number

times-add : (m n : ℕ) (l : List ℕ) → add_all (times_all m l) (times_all n l) ≡ times_all (bit_xor m n) l
unfolding times_all add_all
times-add m n [] = refl
times-add m n (x ∷ l) = ap₂ ◌∷◌ (sym (mul-add-r x m n)) (times-add m n l)

times-one : (l : List ℕ) → Bytes l → times_all 1 l ≡ l
unfolding times_all
times-one [] h = refl
times-one (x ∷ l) h = ap₂ ◌∷◌ (mul_comm x 1 (h 0) (lit< tt) ∙ mul-one-l x (h 0)) (times-one l (λ i. h (suc i)))

times-double : (n : ℕ) (l : List ℕ) → n < 256 → Bytes l → map times_a (times_all n l) ≡ times_all (times_a n) l
unfolding times_all
times-double n [] b h = refl
times-double n (x ∷ l) b h =
    ap₂ ◌∷◌ (ap times_a (mul_comm x n (h 0) b) ∙ sym (mul-times_a n x) ∙ mul_comm (times_a n) x (times_a-lt n) (h 0)) (times-double n l b (λ i. h (suc i)))

times-times : (m n : ℕ) (l : List ℕ) → m < 256 → n < 256 → Bytes l → times_all n (times_all m l) ≡ times_all (mul m n) l
unfolding times_all
times-times m n [] hm hn h = refl
times-times m n (x ∷ l) hm hn h = ap₂ ◌∷◌ (mul_assoc x m n (h 0) hm hn) (times-times m n l hm hn (λ i. h (suc i)))

module _ (w : ℕ) where
  pub none : unpacked 0 ≡ times_all 0 (unpacked w)
  unfolding unpacked times_all
  none = simp mul-zero-r

  pub once : unpacked w ≡ times_all 1 (unpacked w)
  once = sym (times-one (unpacked w) (unpacked-bytes w))

  pub twice : (x y n : ℕ) → n < 256 → unpacked y ≡ map times_a (unpacked x) → unpacked x ≡ times_all n (unpacked w) → unpacked y ≡ times_all (times_a n) (unpacked w)
  twice x y n h f e = f ∙ ap (map times_a) e ∙ times-double n (unpacked w) h (unpacked-bytes w)

  pub joined : (x y m n : ℕ) → unpacked x ≡ times_all m (unpacked w) → unpacked y ≡ times_all n (unpacked w)
      → unpacked (bit_xor x y) ≡ times_all (bit_xor m n) (unpacked w)
  joined x y m n e f = unpacked-xor x y ∙ ap₂ add_all e f ∙ times-add m n (unpacked w)

sixteen : (n : ℕ) → n < 16 → mul 16 n ≡ n * 16
unfolding mul mul_bits times_a
sixteen n h = eqb→eq (mul 16 n) (n * 16) (below (λ k. eqb (mul 16 k) (k * 16)) 16 tt n h)

pub halves : (w high b x y : ℕ) → b < 256 → unpacked high ≡ times_all 16 (unpacked w) → unpacked x ≡ times_all (b % 16) (unpacked w)
    → unpacked y ≡ times_all (b / 16) (unpacked high) → unpacked (bit_xor x y) ≡ times_all b (unpacked w)
halves w high b x y h eh ex ey =
    let d : b / 16 < 16 = omega arith in
    let e : b / 16 * 16 + b % 16 ≡ b = omega arith in
    joined w x y (b % 16) (b / 16 * 16) ex
    (ey ∙ ap (times_all (b / 16)) eh ∙ times-times 16 (b / 16) (unpacked w) (lit< tt) (omega arith) (unpacked-bytes w)
    ∙ ap (λ (n : ℕ). times_all n (unpacked w)) (sixteen (b / 16) d))
    ∙ ap (λ (n : ℕ). times_all n (unpacked w)) (xor_comm (b % 16) (b / 16 * 16) ∙ xor_shifted (b / 16) 4 (b % 16) (mod-lt b (lit< tt)) ∙ e)

-- ---- powers of X modulo the generator

generator-low : low_coefficients ≡ left_of 0
unfolding low_coefficients left_of remainder divide_step tap mul mul_bits pow shift times_a
generator-low = refl

low-bytes : Bytes low_coefficients
unfolding low_coefficients
low-bytes = map-bytes pow (take 8 exponents) pow-lt

pub generator-packed : unpacked (pack low_coefficients) ≡ left_of 0
unfolding low_coefficients
generator-packed = unpacked-pack low_coefficients refl low-bytes ∙ generator-low

moved : (r : ℕ) → unpacked (r % 72057594037927936 * 256)
    ≡ 0 ∷ r / 1 % 256 ∷ r / 256 % 256 ∷ r / 65536 % 256 ∷ r / 16777216 % 256 ∷ r / 4294967296 % 256 ∷ r / 1099511627776 % 256 ∷ r / 281474976710656 % 256 ∷ []
unfolding unpacked
moved r =
    ap₂ ◌∷◌ (omega arith) (ap₂ ◌∷◌ (omega arith) (ap₂ ◌∷◌ (omega arith) (ap₂ ◌∷◌ (omega arith)
    (ap₂ ◌∷◌ (omega arith) (ap₂ ◌∷◌ (omega arith) (ap₂ ◌∷◌ (omega arith) (ap₂ ◌∷◌ (omega arith) refl)))))))

module _ (r : ℕ) where
  low : List ℕ
  low = 0 ∷ r / 1 % 256 ∷ r / 256 % 256 ∷ r / 65536 % 256 ∷ r / 16777216 % 256 ∷ r / 4294967296 % 256 ∷ r / 1099511627776 % 256 ∷ r / 281474976710656 % 256 ∷ []

  step-parts : add_all low (times_all (bit_xor 0 (r / 72057594037927936 % 256)) low_coefficients) ≡ divide_step (unpacked r) 0
  unfolding add_all times_all divide_step tap unpacked low low_coefficients
  step-parts = refl

  pub next-step : (y : ℕ) → r < 18446744073709551616 → unpacked y ≡ times_all (r / 72057594037927936) (left_of 0)
      → unpacked (bit_xor (r % 72057594037927936 * 256) y) ≡ divide_step (unpacked r) 0
  unfolding low
  next-step y h e =
      let t : r / 72057594037927936 % 256 ≡ r / 72057594037927936 = omega arith in
      unpacked-xor (r % 72057594037927936 * 256) y
      ∙ ap₂ add_all (moved r) (e ∙ ap₂ times_all (sym (xor_zero_l (r / 72057594037927936 % 256) ∙ t)) (sym generator-low))
      ∙ step-parts

-- X times X^(8 + k)
pub next-left : (k : ℕ) {x y : List ℕ} → y ≡ divide_step x 0 → x ≡ left_of k → y ≡ left_of (suc k)
unfolding left_of remainder
next-left k e f = e ∙ ap (λ (l : List ℕ). divide_step l 0) f

power_bytes : (k : ℕ) → Bytes (replicate k 0 ++ 1 ∷ [])
power_bytes zero zero = lit< tt
power_bytes zero (suc i) = lit< tt
power_bytes (suc k) zero = lit< tt
power_bytes (suc k) (suc i) = power_bytes k i

value-power : (j k : ℕ) → value j (replicate k 0 ++ 1 ∷ []) ≡ shift (k * j) 1
unfolding value shift
value-power j zero = ap (bit_xor 1) (shift_zero j) ∙ ap (λ (n : ℕ). shift n 1) (sym (zero-mul j))
value-power j (suc k) =
    xor_zero_l (shift j (value j (replicate k 0 ++ 1 ∷ []))) ∙ ap (shift j) (value-power j k) ∙ sym (shift-add j (k * j) 1)
    ∙ ap (λ (n : ℕ). shift n 1) (add_comm j (k * j) ∙ sym (suc-mul k j))

value-times : (j b : ℕ) (l : List ℕ) → value j (times_all b l) ≡ mul (value j l) b
unfolding value times_all
value-times j b [] = sym (mul-zero-l b)
value-times j b (x ∷ l) =
    ap (λ (n : ℕ). bit_xor (mul x b) (shift j n)) (value-times j b l)
    ∙ ap (bit_xor (mul x b)) (sym (mul-shift j (value j l) b))
    ∙ sym (mul-add-l x (shift j (value j l)) b)

-- byte k of eight times X^(8 + k)
value-part : (j k b r : ℕ) → j < 8 → b < 256 → unpacked r ≡ times_all b (left_of k) → value (suc j) (unpacked r) ≡ shift (8 * suc j) (shift (k * suc j) b)
unfolding left_of
value-part j k b r h hb e =
    let m : List ℕ = replicate k 0 ++ 1 ∷ [] in
    ap (value (suc j)) e ∙ value-times (suc j) b (remainder m)
    ∙ ap (λ (n : ℕ). mul n b) (remainder-value j h m (power_bytes k) ∙ ap (shift (8 * suc j)) (value-power (suc j) k))
    ∙ mul-shift (8 * suc j) (shift (k * suc j) 1) b
    ∙ ap (shift (8 * suc j)) (mul-shift (k * suc j) 1 b ∙ ap (shift (k * suc j)) (mul-one-l b hb))

-- such parts of bytes from byte k on, added to a number
added : ℕ → ℕ → ℕ → List ℕ → ℕ
added j s k [] = s
added j s k (b ∷ d) = added j (bit_xor s (shift (8 * suc j) (shift (k * suc j) b))) (suc k) d

added-value : (j s k : ℕ) (d : List ℕ) → added j s k d ≡ bit_xor s (shift (8 * suc j) (shift (k * suc j) (value (suc j) d)))
unfolding added value
added-value j s k [] = sym (ap (λ (n : ℕ). bit_xor s (shift (8 * suc j) n)) (shift_zero (k * suc j)) ∙ ap (bit_xor s) (shift_zero (8 * suc j)) ∙ xor_zero_r s)
added-value j s k (b ∷ d) =
    let x : ℕ = value (suc j) d in
    added-value j (bit_xor s (shift (8 * suc j) (shift (k * suc j) b))) (suc k) d
    ∙ xor_assoc s (shift (8 * suc j) (shift (k * suc j) b)) (shift (8 * suc j) (shift (suc k * suc j) x))
    ∙ ap (bit_xor s)
    (ap (λ (n : ℕ). bit_xor (shift (8 * suc j) (shift (k * suc j) b)) (shift (8 * suc j) (shift n x))) (suc-mul k (suc j))
    ∙ ap (λ (n : ℕ). bit_xor (shift (8 * suc j) (shift (k * suc j) b)) (shift (8 * suc j) n)) (shift-add (k * suc j) (suc j) x)
    ∙ sym (shift-xor (8 * suc j) (shift (k * suc j) b) (shift (k * suc j) (shift (suc j) x)))
    ∙ ap (shift (8 * suc j)) (sym (shift-xor (k * suc j) b (shift (suc j) x))))

value-xor : (j x y : ℕ) → value j (unpacked (bit_xor x y)) ≡ bit_xor (value j (unpacked x)) (value j (unpacked y))
value-xor j x y = ap (value j) (unpacked-xor x y) ∙ value-add_all j (unpacked x) (unpacked y)

-- eight parts, of the bytes of v
module _ (v a b c d e f g h : ℕ)
    (ea : unpacked a ≡ times_all (v % 256) (left_of 0))
    (eb : unpacked b ≡ times_all (v / 256 % 256) (left_of 1))
    (ec : unpacked c ≡ times_all (v / 65536 % 256) (left_of 2))
    (ed : unpacked d ≡ times_all (v / 16777216 % 256) (left_of 3))
    (ee : unpacked e ≡ times_all (v / 4294967296 % 256) (left_of 4))
    (ef : unpacked f ≡ times_all (v / 1099511627776 % 256) (left_of 5))
    (eg : unpacked g ≡ times_all (v / 281474976710656 % 256) (left_of 6))
    (eh : unpacked h ≡ times_all (v / 72057594037927936 % 256) (left_of 7)) where
  byte : (n : ℕ) → n % 256 < 256
  byte n = mod-lt n (lit< tt)

  pub eight-parts : LeftOver (bit_xor (bit_xor (bit_xor (bit_xor (bit_xor (bit_xor (bit_xor a b) c) d) e) f) g) h) (unpacked v)
  unfolding added unpacked value shift
  eight-parts j l =
      let s : ℕ = suc j in
      let one : v % 256 ≡ v / 1 % 256 = omega arith in
      value-xor s (bit_xor (bit_xor (bit_xor (bit_xor (bit_xor (bit_xor a b) c) d) e) f) g) h
      ∙ ap₂ bit_xor
      (value-xor s (bit_xor (bit_xor (bit_xor (bit_xor (bit_xor a b) c) d) e) f) g
      ∙ ap₂ bit_xor
      (value-xor s (bit_xor (bit_xor (bit_xor (bit_xor a b) c) d) e) f
      ∙ ap₂ bit_xor
      (value-xor s (bit_xor (bit_xor (bit_xor a b) c) d) e
      ∙ ap₂ bit_xor
      (value-xor s (bit_xor (bit_xor a b) c) d
      ∙ ap₂ bit_xor
      (value-xor s (bit_xor a b) c
      ∙ ap₂ bit_xor
      (value-xor s a b
      ∙ ap₂ bit_xor (value-part j 0 (v % 256) a l (byte v) ea ∙ ap (λ (n : ℕ). shift (8 * s) (shift (0 * s) n)) one ∙ sym (xor_zero_l (shift (8 * s) (shift (0 * s) (v / 1 % 256)))))
      (value-part j 1 (v / 256 % 256) b l (byte (v / 256)) eb))
      (value-part j 2 (v / 65536 % 256) c l (byte (v / 65536)) ec))
      (value-part j 3 (v / 16777216 % 256) d l (byte (v / 16777216)) ed))
      (value-part j 4 (v / 4294967296 % 256) e l (byte (v / 4294967296)) ee))
      (value-part j 5 (v / 1099511627776 % 256) f l (byte (v / 1099511627776)) ef))
      (value-part j 6 (v / 281474976710656 % 256) g l (byte (v / 281474976710656)) eg))
      (value-part j 7 (v / 72057594037927936 % 256) h l (byte (v / 72057594037927936)) eh)
      ∙ added-value j 0 0 (unpacked v)
      ∙ xor_zero_l (shift (8 * s) (shift (0 * s) (value s (unpacked v))))
      ∙ ap (λ (n : ℕ). shift (8 * s) (shift n (value s (unpacked v)))) (zero-mul s)

-- ---- eight bytes more

-- joined by `|`
pub word-or : (a b c d e f g h : ℕ) → a < 256 → b < 256 → c < 256 → d < 256 → e < 256 → f < 256 → g < 256
    → bit_or (bit_or (bit_or (bit_or (bit_or (bit_or (bit_or a (b * 256)) (c * 65536)) (d * 16777216)) (e * 4294967296)) (f * 1099511627776)) (g * 281474976710656)) (h * 72057594037927936)
    ≡ pack (a ∷ b ∷ c ∷ d ∷ e ∷ f ∷ g ∷ h ∷ [])
unfolding pack
word-or a b c d e f g h ha hb hc hd he hf hg =
    let x₁ : ℕ = b * 256 + a in
    let x₂ : ℕ = c * 65536 + x₁ in
    let x₃ : ℕ = d * 16777216 + x₂ in
    let x₄ : ℕ = e * 4294967296 + x₃ in
    let x₅ : ℕ = f * 1099511627776 + x₄ in
    let x₆ : ℕ = g * 281474976710656 + x₅ in
    let last : h * 72057594037927936 + (g * 281474976710656 + (f * 1099511627776 + (e * 4294967296 + (d * 16777216 + (c * 65536 + (b * 256 + a)))))) ≡ pack (a ∷ b ∷ c ∷ d ∷ e ∷ f ∷ g ∷ h ∷ []) = omega arith in
    ap (λ (n : ℕ). bit_or (bit_or (bit_or (bit_or (bit_or (bit_or n (c * 65536)) (d * 16777216)) (e * 4294967296)) (f * 1099511627776)) (g * 281474976710656)) (h * 72057594037927936)) (or_shifted_r b 8 a ha)
    ∙ ap (λ (n : ℕ). bit_or (bit_or (bit_or (bit_or (bit_or n (d * 16777216)) (e * 4294967296)) (f * 1099511627776)) (g * 281474976710656)) (h * 72057594037927936)) (or_shifted_r c 16 x₁ (omega arith))
    ∙ ap (λ (n : ℕ). bit_or (bit_or (bit_or (bit_or n (e * 4294967296)) (f * 1099511627776)) (g * 281474976710656)) (h * 72057594037927936)) (or_shifted_r d 24 x₂ (omega arith))
    ∙ ap (λ (n : ℕ). bit_or (bit_or (bit_or n (f * 1099511627776)) (g * 281474976710656)) (h * 72057594037927936)) (or_shifted_r e 32 x₃ (omega arith))
    ∙ ap (λ (n : ℕ). bit_or (bit_or n (g * 281474976710656)) (h * 72057594037927936)) (or_shifted_r f 40 x₄ (omega arith))
    ∙ ap (λ (n : ℕ). bit_or n (h * 72057594037927936)) (or_shifted_r g 48 x₅ (omega arith))
    ∙ or_shifted_r h 56 x₆ (omega arith)
    ∙ last

-- eight bytes of a list from a place on
pub eight-at : (l : List ℕ) (i : ℕ) → i + 8 ≤ length l
    → get_or l i 0 ∷ get_or l (i + 1) 0 ∷ get_or l (i + 2) 0 ∷ get_or l (i + 3) 0 ∷ get_or l (i + 4) 0 ∷ get_or l (i + 5) 0 ∷ get_or l (i + 6) 0 ∷ get_or l (i + 7) 0 ∷ [] ≡ take 8 (drop i l)
eight-at l i h =
    let n : length (drop i l) ≡ length l - i = length-drop i l in
    let at : (k : ℕ) → k < 8 → get_or (take 8 (drop i l)) k 0 ≡ get_or l (i + k) 0 = λ k b. get_or-take 8 (drop i l) k 0 b ∙ get_or-drop i l k 0 in
    let z : get_or (take 8 (drop i l)) 0 0 ≡ get_or l i 0 = at 0 (lit< tt) ∙ ap (λ (k : ℕ). get_or l k 0) (add-zero i) in
    sym (eight (take 8 (drop i l)) (length-take-le 8 (drop i l) (omega arith))
    ∙ simp (z, at 1 (lit< tt), at 2 (lit< tt), at 3 (lit< tt), at 4 (lit< tt), at 5 (lit< tt), at 6 (lit< tt), at 7 (lit< tt)))

-- numbers that are those bytes
pub word_bytes : (l : List ℕ) (i : ℕ) {a b c d e f g h : ℕ} → i + 8 ≤ length l
    → (a ≡ get_or l i 0) × (a < 256) → (b ≡ get_or l (i + 1) 0) × (b < 256) → (c ≡ get_or l (i + 2) 0) × (c < 256) → (d ≡ get_or l (i + 3) 0) × (d < 256)
    → (e ≡ get_or l (i + 4) 0) × (e < 256) → (f ≡ get_or l (i + 5) 0) × (f < 256) → (g ≡ get_or l (i + 6) 0) × (g < 256) → (h ≡ get_or l (i + 7) 0) × (h < 256)
    → unpacked (pack (a ∷ b ∷ c ∷ d ∷ e ∷ f ∷ g ∷ h ∷ [])) ≡ take 8 (drop i l)
word_bytes l i {a = a} {b = b} {c = c} {d = d} {e = e} {f = f} {g = g} {h = h} m pa pb pc pd pe pf pg ph =
    unpacked-pack (a ∷ b ∷ c ∷ d ∷ e ∷ f ∷ g ∷ h ∷ []) refl bytes
    ∙ rw (pa.0, pb.0, pc.0, pd.0, pe.0, pf.0, pg.0, ph.0) (eight-at l i m)
  where
    bytes : Bytes (a ∷ b ∷ c ∷ d ∷ e ∷ f ∷ g ∷ h ∷ [])
    bytes zero = pa.1
    bytes (suc zero) = pb.1
    bytes (suc (suc zero)) = pc.1
    bytes (suc (suc (suc zero))) = pd.1
    bytes (suc (suc (suc (suc zero)))) = pe.1
    bytes (suc (suc (suc (suc (suc zero))))) = pf.1
    bytes (suc (suc (suc (suc (suc (suc zero)))))) = pg.1
    bytes (suc (suc (suc (suc (suc (suc (suc zero))))))) = ph.1
    bytes (suc (suc (suc (suc (suc (suc (suc (suc i)))))))) = lit< tt

-- nothing is left of no bytes
pub nothing_left : (w : List ℕ) → length w ≤ 96 → LeftOver 0 (drop 96 w)
unfolding unpacked value
nothing_left w h j b = simp (shift_zero, drop_of_length-le w {i = 96} h)

pub eight-more : (w : List ℕ) (i r x s : ℕ) → i + 8 ≤ length w → LeftOver r (drop (i + 8) w) → unpacked x ≡ take 8 (drop i w)
    → LeftOver s (unpacked (bit_xor r x)) → LeftOver s (drop i w)
eight-more w i r x s h lr ex ls j b =
    let d : List ℕ = drop i w in
    let n : length (drop i w) ≡ length w - i = length-drop i w in
    let t : length (take 8 (drop i w)) ≡ 8 = length-take-le 8 (drop i w) (omega arith) in
    ls j b
    ∙ ap (shift (8 * suc j))
    (value-xor (suc j) r x ∙ ap₂ bit_xor (lr j b) (ap (value (suc j)) ex)
    ∙ xor_comm (shift (8 * suc j) (value (suc j) (drop (i + 8) w))) (value (suc j) (take 8 d))
    ∙ sym (value-append (suc j) (take 8 d) (drop 8 d)
    ∙ ap₂ (λ (k : ℕ) (z : List ℕ). bit_xor (value (suc j) (take 8 d)) (shift (k * suc j) (value (suc j) z))) t (drop-drop 8 i w))
    ∙ ap (value (suc j)) (take-append-drop 8 d))

-- what is left of bytes 8 to 95 is the parity: no other eight bytes make the header a code word
pub parity-left : (w : List ℕ) (r : ℕ) → length w ≡ 96 → Bytes w → LeftOver r (drop 8 w) → unpacked r ≡ parity_of w
unfolding unpacked
parity-left w r n h l =
    let m : length (drop 8 w) ≡ length w - 8 = length-drop 8 w in
    let hm : Bytes (drop 8 w) = λ i. rw (get_or-drop 8 w i 0) (h (8 + i)) in
    parity-only w n (bytes-all w h) (unpacked r) refl (bytes-all (unpacked r) (unpacked-bytes r))
    (zero-code-word (unpacked r ++ drop 8 w)
    (λ j b. syndrome-value (suc j) (unpacked r ++ drop 8 w) (length-append (unpacked r) (drop 8 w) ∙ omega (arith, m, n)) (bytes-append (unpacked r) (drop 8 w) (unpacked-bytes r) hm)
    ∙ value-append (suc j) (unpacked r) (drop 8 w) ∙ ap (λ (x : ℕ). bit_xor x (shift (8 * suc j) (value (suc j) (drop 8 w)))) (l j b)
    ∙ xor_self (shift (8 * suc j) (value (suc j) (drop 8 w)))))

pub rest-values : (w : List ℕ) (x r : ℕ) → length w ≡ 96 → Bytes w → unpacked x ≡ take 8 w → unpacked r ≡ parity_of w → values (unpacked (bit_xor x r)) ≡ syndromes w
rest-values w x r n h ex er = ap values (unpacked-xor x r ∙ ap₂ add_all ex er) ∙ sym (syndromes-rest w n h)
