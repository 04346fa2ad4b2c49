-- Horner's rule gives the values of a polynomial at a to a^8.
use mathlib.Core.Path.{◌≡◌, refl, sym, ap, ap₂, ◌∙◌}
use mathlib.Core.List.{List, [], ◌∷◌, map}
use Prim.Native.Nat.{ℕ, suc, ◌+◌, ◌-◌, ◌<◌, ◌≤◌}
use native.Mathlib.Omega.{arith}
use lib.Bits.{bit_xor, xor_lt}
use lib.Dec.{lit<}
use lib.ListN.{length, get_or, drop, replicate}
use lib.Seq.{drop-cons, drop-length, get_or-drop}
use Rattle.field.specs.Field.{mul, shift, pow}
use Rattle.field.proofs.Laws.{shift-lt, mul_comm, mul-pow, pow-lt}
use Rattle.header.proofs.CodeWords.{Bytes}
use Rattle.header.specs.Horner.{points, horner_at, horner_step, value, values}

value-lt : (j : ℕ) (w : List ℕ) → Bytes w → value j w < 256
unfolding value
value-lt j [] h = lit< tt
value-lt j (b ∷ w) h = xor_lt 8 b (shift j (value j w)) (h 0) (shift-lt j (value j w) (value-lt j w (λ i. h (suc i))))

map-ext : (f g : ℕ → ℕ) (l : List ℕ) → ((j : ℕ) → f j ≡ g j) → map f l ≡ map g l
map-ext f g [] e = refl
map-ext f g (j ∷ l) e = ap₂ ◌∷◌ (e j) (map-ext f g l e)

values-below : (w : List ℕ) (b : ℕ) → Bytes w → horner_step (values w) b ≡ values (b ∷ w)
unfolding values horner_step horner_at points value
values-below w b h =
    map-ext (λ j. bit_xor b (mul (value j w) (pow j))) (λ j. bit_xor b (shift j (value j w))) (1 ∷ 2 ∷ 3 ∷ 4 ∷ 5 ∷ 6 ∷ 7 ∷ 8 ∷ [])
    (λ j. ap (bit_xor b) (mul_comm (value j w) (pow j) (value-lt j w h) (pow-lt j) ∙ mul-pow j (value j w) (value-lt j w h)))

-- the eight sums over the bytes from i on, with byte i the coefficient of X^0
pub sums_from : ℕ → List ℕ → List ℕ
sums_from i w = values (drop i w)

-- no byte yet
pub sums-start : (w : List ℕ) (n : ℕ) → length w ≡ n → replicate 8 0 ≡ sums_from n w
unfolding sums_from values value
sums-start w n l = sym (ap values (ap (λ (k : ℕ). drop k w) (sym l) ∙ drop-length w))

-- one byte more, from the top: i is the loop's counter before it is lowered
pub sums_next : (w s : List ℕ) (i : ℕ) → Bytes w → 0 < i → i ≤ length w → s ≡ sums_from i w
    → horner_step s (get_or w (i - 1) 0) ≡ sums_from (i - 1) w
unfolding sums_from
sums_next w s i h l m e =
    let n : suc (i - 1) ≡ i = omega arith in
    ap (λ (x : List ℕ). horner_step x (get_or w (i - 1) 0)) (e ∙ ap (λ (k : ℕ). values (drop k w)) (sym n))
    ∙ values-below (drop (suc (i - 1)) w) (get_or w (i - 1) 0) (λ k. rw (get_or-drop (suc (i - 1)) w k 0) (h (suc (i - 1) + k)))
    ∙ sym (ap values (drop-cons w (i - 1) 0 (omega arith)))

-- all bytes
pub sums-all : (w : List ℕ) (i : ℕ) → i ≡ 0 → sums_from i w ≡ values w
unfolding sums_from
sums-all w i z = ap (λ (k : ℕ). values (drop k w)) z
