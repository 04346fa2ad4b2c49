-- The remainder by the generator, put before the message, makes a code word.
use mathlib.Core.Path.{◌≡◌, refl, sym, ap, ap₂, ◌∙◌, subst}
use mathlib.Core.Bool.{Bool, true}
use mathlib.Core.List.{List, [], ◌∷◌, ◌++◌, map}
use Prim.Native.Nat.{ℕ, zero, suc, ◌+◌, ◌*◌, ◌<◌}
use native.Mathlib.Nat.{zero-mul, suc-mul, add_comm}
use native.Mathlib.Omega.{arith}
use lib.Bits.{bit_xor, xor_comm, xor_self, xor_zero_r, xor_lt}
use lib.Dec.{eqb, eqb→eq, lit<}
use lib.ListN.{length, get_or, take, length-append}
use lib.Seq.{ext_get_or, slice}
use Rattle.field.specs.Field.{times_a, mul, shift, pow}
use Rattle.bits.proofs.Computed.{below}
use Rattle.field.proofs.Linear.{mul-add-l}
use Rattle.bits.proofs.Xor.{xor_assoc, xor-swap}
use Rattle.field.proofs.Laws.{shift-xor, shift_zero, shift-add, mul-shift, mul_comm, mul-pow, mul-lt, mul-zero-l, mul-one-l, pow-lt}
use Rattle.header.specs.Header.{sum_up, term, syndrome, is_code_word, exponents, tap, divide_step, remainder, parity_of}
use Rattle.header.specs.Horner.{value}
use Rattle.header.proofs.CodeWords.{Bytes, zero-code-word}

-- ---- sums

sum_up-ext : (f g : ℕ → ℕ) (n : ℕ) → ((i : ℕ) → f i ≡ g i) → sum_up f n ≡ sum_up g n
unfolding sum_up
sum_up-ext f g zero e = refl
sum_up-ext f g (suc n) e = ap₂ bit_xor (sum_up-ext f g n e) (e n)

sum_up-first : (f : ℕ → ℕ) (n : ℕ) → sum_up f (suc n) ≡ bit_xor (f 0) (sum_up (λ i. f (suc i)) n)
unfolding sum_up
sum_up-first f zero = sym (xor_zero_r (f 0))
sum_up-first f (suc n) =
    ap (λ (x : ℕ). bit_xor x (f (suc n))) (sum_up-first f n) ∙ xor_assoc (f 0) (sum_up (λ i. f (suc i)) n) (f (suc n))

sum_up-shift : (k : ℕ) (f : ℕ → ℕ) (n : ℕ) → sum_up (λ i. shift k (f i)) n ≡ shift k (sum_up f n)
unfolding sum_up
sum_up-shift k f zero = sym (shift_zero k)
sum_up-shift k f (suc n) = ap (λ (x : ℕ). bit_xor x (shift k (f n))) (sum_up-shift k f n) ∙ sym (shift-xor k (sum_up f n) (f n))

-- ---- the value of a polynomial at a^j

sum-value : (j : ℕ) (w : List ℕ) → sum_up (λ i. shift (i * j) (get_or w i 0)) (length w) ≡ value j w
unfolding value sum_up shift
sum-value j [] = refl
sum-value j (b ∷ w) =
    sum_up-first (λ i. shift (i * j) (get_or (b ∷ w) i 0)) (length w)
    ∙ ap₂ bit_xor (ap (λ (k : ℕ). shift k b) (zero-mul j))
    (sum_up-ext (λ i. shift (suc i * j) (get_or w i 0)) (λ i. shift j (shift (i * j) (get_or w i 0))) (length w)
    (λ i. ap (λ (k : ℕ). shift k (get_or w i 0)) (suc-mul i j ∙ add_comm (i * j) j) ∙ shift-add j (i * j) (get_or w i 0))
    ∙ sum_up-shift j (λ i. shift (i * j) (get_or w i 0)) (length w) ∙ ap (shift j) (sum-value j w))

term-shift : (j : ℕ) (w : List ℕ) → Bytes w → (i : ℕ) → term j w i ≡ shift (i * j) (get_or w i 0)
unfolding term
term-shift j w h i = mul_comm (get_or w i 0) (pow (i * j)) (h i) (pow-lt (i * j)) ∙ mul-pow (i * j) (get_or w i 0) (h i)

pub syndrome-value : (j : ℕ) (w : List ℕ) → length w ≡ 96 → Bytes w → syndrome j w ≡ value j w
unfolding syndrome
syndrome-value j w l h =
    sum_up-ext (term j w) (λ i. shift (i * j) (get_or w i 0)) 96 (term-shift j w h)
    ∙ ap (sum_up (λ i. shift (i * j) (get_or w i 0))) (sym l) ∙ sum-value j w

pub value-append : (j : ℕ) (u v : List ℕ) → value j (u ++ v) ≡ bit_xor (value j u) (shift (length u * j) (value j v))
unfolding value shift
value-append j [] v = ap (λ (k : ℕ). shift k (value j v)) (sym (zero-mul j))
value-append j (b ∷ u) v =
    ap (λ (x : ℕ). bit_xor b (shift j x)) (value-append j u v)
    ∙ ap (bit_xor b) (shift-xor j (value j u) (shift (length u * j) (value j v))
    ∙ ap (bit_xor (shift j (value j u))) (sym (shift-add j (length u * j) (value j v))
    ∙ ap (λ (k : ℕ). shift k (value j v)) (add_comm j (length u * j) ∙ sym (suc-mul (length u) j))))
    ∙ sym (xor_assoc b (shift j (value j u)) (shift (suc (length u) * j) (value j v)))

unfoldable pub add_all : List ℕ → List ℕ → List ℕ
add_all [] v = v
add_all (x ∷ u) [] = x ∷ u
add_all (x ∷ u) (y ∷ v) = bit_xor x y ∷ add_all u v

pub value-add_all : (j : ℕ) (u v : List ℕ) → value j (add_all u v) ≡ bit_xor (value j u) (value j v)
unfolding value add_all
value-add_all j [] v = refl
value-add_all j (x ∷ u) [] = sym (xor_zero_r (bit_xor x (shift j (value j u))))
value-add_all j (x ∷ u) (y ∷ v) =
    ap (λ (n : ℕ). bit_xor (bit_xor x y) (shift j n)) (value-add_all j u v)
    ∙ ap (bit_xor (bit_xor x y)) (shift-xor j (value j u) (value j v))
    ∙ xor-swap x y (shift j (value j u)) (shift j (value j v))

-- the generator times f
scaled : ℕ → List ℕ → List ℕ
scaled f es = map (λ e. mul (pow e) f) es

value-scaled : (j f : ℕ) (es : List ℕ) → value j (scaled f es) ≡ mul (value j (map pow es)) f
unfolding value scaled
value-scaled j f [] = sym (mul-zero-l f)
value-scaled j f (e ∷ es) =
    ap (λ (x : ℕ). bit_xor (mul (pow e) f) (shift j x)) (value-scaled j f es)
    ∙ ap (bit_xor (mul (pow e) f)) (sym (mul-shift j (value j (map pow es)) f))
    ∙ sym (mul-add-l (pow e) (shift j (value j (map pow es))) f)

-- ---- the generator is zero at a to a^8: a test that antt computes

root_test : ℕ → Bool
root_test j = eqb (value (suc j) (map pow exponents)) 0

roots : (j : ℕ) → j < 8 → value (suc j) (map pow exponents) ≡ 0
unfolding root_test value pow shift times_a
roots j h = eqb→eq (value (suc j) (map pow exponents)) 0 (below root_test 8 tt j h)

-- two numbers whose sum is zero are equal
pub xor-zero→eq : (x y : ℕ) → bit_xor x y ≡ 0 → x ≡ y
xor-zero→eq x y e =
    sym (xor_zero_r x) ∙ ap (bit_xor x) (sym (xor_self y)) ∙ sym (xor_assoc x y y) ∙ ap (λ (n : ℕ). bit_xor n y) e

-- the low eight coefficients of the generator times f have the value of f at X^8
low_value : (j f : ℕ) → j < 8 → f < 256 → value (suc j) (scaled f (take 8 exponents)) ≡ shift (8 * suc j) f
unfolding scaled value pow shift
low_value j f h hf =
    xor-zero→eq (value (suc j) (scaled f (take 8 exponents))) (shift (8 * suc j) f)
    (ap (λ (x : ℕ). bit_xor (value (suc j) (scaled f (take 8 exponents))) (shift (8 * suc j) x))
    (sym (ap (bit_xor (mul (pow 0) f)) (shift_zero (suc j)) ∙ xor_zero_r (mul (pow 0) f) ∙ mul-one-l f hf))
    ∙ sym (value-append (suc j) (scaled f (take 8 exponents)) (mul (pow 0) f ∷ []))
    ∙ value-scaled (suc j) f exponents ∙ ap (λ (x : ℕ). mul x f) (roots j h) ∙ mul-zero-l f)

module _ (j : ℕ) (h : j < 8) (b r₀ r₁ r₂ r₃ r₄ r₅ r₆ r₇ : ℕ) (hb : b < 256) (h₇ : r₇ < 256) where
  reg : List ℕ
  reg = r₀ ∷ r₁ ∷ r₂ ∷ r₃ ∷ r₄ ∷ r₅ ∷ r₆ ∷ r₇ ∷ []

  up : List ℕ
  up = 0 ∷ r₀ ∷ r₁ ∷ r₂ ∷ r₃ ∷ r₄ ∷ r₅ ∷ r₆ ∷ []

  f : ℕ
  f = bit_xor b r₇

  divide_step-parts : divide_step reg b ≡ add_all up (scaled f (take 8 exponents))
  unfolding divide_step tap add_all scaled reg up f
  divide_step-parts = refl

  last : value (suc j) (r₇ ∷ []) ≡ r₇
  unfolding value
  last = ap (bit_xor r₇) (shift_zero (suc j)) ∙ xor_zero_r r₇

  first : value (suc j) (0 ∷ reg) ≡ shift (suc j) (value (suc j) reg)
  unfolding value
  first = refl

  up-value : bit_xor (value (suc j) up) (shift (8 * suc j) r₇) ≡ shift (suc j) (value (suc j) reg)
  unfolding reg up
  up-value =
      ap (λ (x : ℕ). bit_xor (value (suc j) up) (shift (8 * suc j) x)) (sym last)
      ∙ sym (value-append (suc j) up (r₇ ∷ [])) ∙ first

  divide_step-value : value (suc j) (divide_step reg b) ≡ bit_xor (shift (8 * suc j) b) (shift (suc j) (value (suc j) reg))
  unfolding f
  divide_step-value =
      ap (value (suc j)) divide_step-parts ∙ value-add_all (suc j) up (scaled f (take 8 exponents))
      ∙ ap (bit_xor (value (suc j) up)) (low_value j f h (xor_lt 8 b r₇ hb h₇) ∙ shift-xor (8 * suc j) b r₇ ∙ xor_comm (shift (8 * suc j) b) (shift (8 * suc j) r₇))
      ∙ sym (xor_assoc (value (suc j) up) (shift (8 * suc j) r₇) (shift (8 * suc j) b))
      ∙ ap (λ (x : ℕ). bit_xor x (shift (8 * suc j) b)) up-value
      ∙ xor_comm (shift (suc j) (value (suc j) reg)) (shift (8 * suc j) b)

-- ---- the register has eight bytes

pub eight : (r : List ℕ) → length r ≡ 8
    → r ≡ get_or r 0 0 ∷ get_or r 1 0 ∷ get_or r 2 0 ∷ get_or r 3 0 ∷ get_or r 4 0 ∷ get_or r 5 0 ∷ get_or r 6 0 ∷ get_or r 7 0 ∷ []
eight r l = ext_get_or 0 r _ l (λ i h. at i (subst (λ (n : ℕ). i < n) l h))
  where
    at : (i : ℕ) → i < 8
        → get_or r i 0 ≡ get_or (get_or r 0 0 ∷ get_or r 1 0 ∷ get_or r 2 0 ∷ get_or r 3 0 ∷ get_or r 4 0 ∷ get_or r 5 0 ∷ get_or r 6 0 ∷ get_or r 7 0 ∷ []) i 0
    at zero h = refl
    at (suc zero) h = refl
    at (suc (suc zero)) h = refl
    at (suc (suc (suc zero))) h = refl
    at (suc (suc (suc (suc zero)))) h = refl
    at (suc (suc (suc (suc (suc zero))))) h = refl
    at (suc (suc (suc (suc (suc (suc zero)))))) h = refl
    at (suc (suc (suc (suc (suc (suc (suc zero))))))) h = refl
    at (suc (suc (suc (suc (suc (suc (suc (suc i)))))))) h = absurd (omega arith)

pub remainder-length : (m : List ℕ) → length (remainder m) ≡ 8
unfolding remainder divide_step
remainder-length [] = refl
remainder-length (b ∷ m) = refl

-- every element of a list of bytes is a byte, and the same past its end
bytes-cons : (x : ℕ) (w : List ℕ) → x < 256 → Bytes w → Bytes (x ∷ w)
bytes-cons x w hx hw zero = hx
bytes-cons x w hx hw (suc i) = hw i

bytes-nil : Bytes []
bytes-nil i = lit< tt

tap-lt : (r : List ℕ) (f k : ℕ) → Bytes r → f < 256 → tap r f k < 256
unfolding tap
tap-lt r f k hr hf =
    xor_lt 8 (get_or (0 ∷ r) k 0) (mul (pow (get_or exponents k 0)) f) (bytes-cons 0 r (lit< tt) hr k)
    (mul-lt (pow (get_or exponents k 0)) f (pow-lt (get_or exponents k 0)) hf)

pub map-bytes : (g : ℕ → ℕ) (ks : List ℕ) → ((k : ℕ) → g k < 256) → Bytes (map g ks)
map-bytes g [] h = bytes-nil
map-bytes g (k ∷ ks) h = bytes-cons (g k) (map g ks) (h k) (map-bytes g ks h)

pub remainder-bytes : (m : List ℕ) → Bytes m → Bytes (remainder m)
unfolding remainder divide_step
remainder-bytes [] hm = map-bytes (λ k. 0) (0 ∷ 1 ∷ 2 ∷ 3 ∷ 4 ∷ 5 ∷ 6 ∷ 7 ∷ []) (λ k. lit< tt)
remainder-bytes (b ∷ m) hm =
    let hr : Bytes (remainder m) = remainder-bytes m (λ i. hm (suc i)) in
    map-bytes (tap (remainder m) (bit_xor b (get_or (remainder m) 7 0))) (0 ∷ 1 ∷ 2 ∷ 3 ∷ 4 ∷ 5 ∷ 6 ∷ 7 ∷ [])
    (λ k. tap-lt (remainder m) (bit_xor b (get_or (remainder m) 7 0)) k hr (xor_lt 8 b (get_or (remainder m) 7 0) (hm 0) (hr 7)))

shift-shift : (m n x : ℕ) → shift m (shift n x) ≡ shift n (shift m x)
shift-shift m n x = sym (shift-add m n x) ∙ ap (λ (k : ℕ). shift k x) (add_comm m n) ∙ shift-add n m x

pub divide_step-value-at : (j : ℕ) → j < 8 → (r : List ℕ) (b : ℕ) → length r ≡ 8 → Bytes r → b < 256
    → value (suc j) (divide_step r b) ≡ bit_xor (shift (8 * suc j) b) (shift (suc j) (value (suc j) r))
unfolding reg
divide_step-value-at j h r b l hr hb =
    ap (λ (x : List ℕ). value (suc j) (divide_step x b)) (eight r l)
    ∙ divide_step-value j h b (get_or r 0 0) (get_or r 1 0) (get_or r 2 0) (get_or r 3 0) (get_or r 4 0) (get_or r 5 0) (get_or r 6 0) (get_or r 7 0) hb (hr 7)
    ∙ ap (λ (x : List ℕ). bit_xor (shift (8 * suc j) b) (shift (suc j) (value (suc j) x))) (sym (eight r l))

-- the remainder has the value of X^8 times the message
pub remainder-value : (j : ℕ) → j < 8 → (m : List ℕ) → Bytes m → value (suc j) (remainder m) ≡ shift (8 * suc j) (value (suc j) m)
unfolding remainder value
remainder-value j h [] hm = simp shift_zero
remainder-value j h (b ∷ m) hm =
    divide_step-value-at j h (remainder m) b (remainder-length m) (remainder-bytes m (λ i. hm (suc i))) (hm 0)
    ∙ ap (bit_xor (shift (8 * suc j) b))
    (ap (shift (suc j)) (remainder-value j h m (λ i. hm (suc i))) ∙ shift-shift (suc j) (8 * suc j) (value (suc j) m))
    ∙ sym (shift-xor (8 * suc j) b (shift (suc j) (value (suc j) m)))

pub bytes-append : (u v : List ℕ) → Bytes u → Bytes v → Bytes (u ++ v)
bytes-append [] v hu hv = hv
bytes-append (x ∷ u) v hu hv = bytes-cons x (u ++ v) (hu 0) (bytes-append u v (λ i. hu (suc i)) hv)

module _ (m : List ℕ) (l : length m ≡ 88) (hm : Bytes m) where
  sum-zero : (j : ℕ) → j < 8 → syndrome (suc j) (remainder m ++ m) ≡ 0
  sum-zero j h =
      syndrome-value (suc j) (remainder m ++ m) (length-append (remainder m) m ∙ ap₂ (λ (x y : ℕ). x + y) (remainder-length m) l)
      (bytes-append (remainder m) m (remainder-bytes m hm) hm)
      ∙ value-append (suc j) (remainder m) m
      ∙ ap₂ bit_xor (remainder-value j h m hm) (ap (λ (n : ℕ). shift (n * suc j) (value (suc j) m)) (remainder-length m))
      ∙ xor_self (shift (8 * suc j) (value (suc j) m))

  -- the parity before the message is a code word
  pub code-word : is_code_word (remainder m ++ m) ≡ true
  code-word = zero-code-word (remainder m ++ m) sum-zero

pub parity-length : (w : List ℕ) → length (parity_of w) ≡ 8
unfolding parity_of
parity-length w = remainder-length (slice 8 96 w)
