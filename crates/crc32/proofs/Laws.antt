-- A byte into the register by a look into the tables, and three at once; the bytes of a word after those of others.
use mathlib.Core.Path.{◌≡◌, refl, sym, ap, ap₂, ◌∙◌}
use mathlib.Core.List.{List, [], ◌∷◌, ◌++◌}
use Prim.Native.Nat.{ℕ, zero, suc, ◌+◌, ◌*◌, ◌/◌, ◌%◌, ◌<◌, ◌≤◌}
use native.Mathlib.Nat.{mod-lt}
use native.Mathlib.Omega.{arith}
use lib.Bits.{bit_xor, xor_comm, xor_shr, xor_mod, xor_zero_r, xor_shifted}
use lib.Dec.{lit<}
use borrow.Author.Tests.{eq-eqb, ne_eqb}
use lib.ListN.{length, get_or, drop, drop_of_length-le}
use lib.Seq.{drop-cons}
use Rattle.bits.proofs.Xor.{xor_assoc, xor-swap, bit-times}
use Rattle.crc32.specs.Crc32.{divisor32, shift_down, shifts_down, crc32_byte, crc32_from, entry_bytes, entries_bytes, Tables}

-- ---- shifts are linear

shift_down-xor : (x y : ℕ) → shift_down (bit_xor x y) ≡ bit_xor (shift_down x) (shift_down y)
unfolding shift_down
shift_down-xor x y = ap₂ bit_xor (xor_shr x y 1) (bit-times x y divisor32) ∙ xor-swap (x / 2) (y / 2) (x % 2 * divisor32) (y % 2 * divisor32)

shifts-xor : (n x y : ℕ) → shifts_down n (bit_xor x y) ≡ bit_xor (shifts_down n x) (shifts_down n y)
unfolding shifts_down
shifts-xor zero x y = refl
shifts-xor (suc n) x y = ap (shifts_down n) (shift_down-xor x y) ∙ shifts-xor n (shift_down x) (shift_down y)

-- ---- a number above the bits that leave

shift_down-twice : (h : ℕ) → shift_down (h * 2) ≡ h
unfolding shift_down
shift_down-twice h =
    let p : h * 2 / 2 ≡ h = omega arith in
    let q : h * 2 % 2 * divisor32 ≡ 0 = omega arith in
    ap₂ bit_xor p q ∙ xor_zero_r h

unfoldable ups : ℕ → ℕ → ℕ
ups zero h = h
ups (suc n) h = ups n h * 2

shifts-ups : (n h : ℕ) → shifts_down n (ups n h) ≡ h
unfolding shifts_down ups
shifts-ups zero h = refl
shifts-ups (suc n) h = ap (shifts_down n) (shift_down-twice (ups n h)) ∙ shifts-ups n h

up-eight : (h : ℕ) → ups 8 h ≡ h * 256
unfolding ups
up-eight h = omega arith

parts : (r : ℕ) → bit_xor (r / 256 * 256) (r % 256) ≡ r
parts r = (let q : r / 256 * 256 + r % 256 ≡ r = omega arith in xor_shifted (r / 256) 8 (r % 256) (mod-lt r (lit< tt)) ∙ q)

-- eight shifts_down, by the lowest byte
pub by_byte : (r : ℕ) → shifts_down 8 r ≡ bit_xor (r / 256) (shifts_down 8 (r % 256))
by_byte r =
    ap (shifts_down 8) (sym (parts r)) ∙ shifts-xor 8 (r / 256 * 256) (r % 256)
    ∙ ap (λ (x : ℕ). bit_xor x (shifts_down 8 (r % 256))) (ap (shifts_down 8) (sym (up-eight (r / 256))) ∙ shifts-ups 8 (r / 256))

-- ---- bytes into the register

pub one_byte : (r b : ℕ) → crc32_byte r (b % 256) ≡ bit_xor (r / 256) (shifts_down 8 (bit_xor r b % 256))
unfolding crc32_byte
one_byte r b =
    let z : b % 256 / 256 ≡ 0 = omega arith in
    let m : b % 256 % 256 ≡ b % 256 = omega arith in
    by_byte (bit_xor r (b % 256))
    ∙ ap₂ (λ (x y : ℕ). bit_xor x (shifts_down 8 y))
    (xor_shr r (b % 256) 8 ∙ ap (bit_xor (r / 256)) z ∙ xor_zero_r (r / 256))
    (xor_mod r (b % 256) 8 ∙ ap (bit_xor (r % 256)) m ∙ sym (xor_mod r b 8))

-- a part of the register is carried on
carried : (p q b : ℕ) → crc32_byte (bit_xor p q) b ≡ bit_xor (crc32_byte p b) (shifts_down 8 q)
unfolding crc32_byte
carried p q b =
    ap (shifts_down 8) (xor_assoc p q b ∙ ap (bit_xor p) (xor_comm q b) ∙ sym (xor_assoc p b q)) ∙ shifts-xor 8 (bit_xor p b) q

sixteen : (x : ℕ) → shifts_down 8 (shifts_down 8 x) ≡ shifts_down 16 x
unfolding shifts_down
sixteen x = refl

twentyfour : (x : ℕ) → shifts_down 8 (shifts_down 16 x) ≡ shifts_down 24 x
unfolding shifts_down
twentyfour x = refl

pub three-bytes : (r a b c : ℕ) → crc32_byte (crc32_byte (crc32_byte r (a % 256)) (b % 256)) (c % 256)
    ≡ bit_xor (bit_xor (bit_xor (r / 16777216) (shifts_down 8 (bit_xor (r / 65536) c % 256))) (shifts_down 16 (bit_xor (r / 256) b % 256))) (shifts_down 24 (bit_xor r a % 256))
three-bytes r a b c =
    let u : ℕ = bit_xor r a % 256 in
    let v : ℕ = bit_xor (r / 256) b % 256 in
    let e : r / 256 / 256 ≡ r / 65536 = omega arith in
    let f : r / 65536 / 256 ≡ r / 16777216 = omega arith in
    ap (λ (x : ℕ). crc32_byte (crc32_byte x (b % 256)) (c % 256)) (one_byte r a)
    ∙ ap (λ (x : ℕ). crc32_byte x (c % 256)) (carried (r / 256) (shifts_down 8 u) (b % 256) ∙ ap₂ bit_xor (one_byte (r / 256) b ∙ ap (λ (x : ℕ). bit_xor x (shifts_down 8 v)) e) (sixteen u))
    ∙ carried (bit_xor (r / 65536) (shifts_down 8 v)) (shifts_down 16 u) (c % 256)
    ∙ ap₂ bit_xor
    (carried (r / 65536) (shifts_down 8 v) (c % 256) ∙ ap₂ bit_xor (one_byte (r / 65536) c ∙ ap (λ (x : ℕ). bit_xor x (shifts_down 8 (bit_xor (r / 65536) c % 256))) f) (sixteen v))
    (twentyfour u)

-- ---- words

crc-after : (r : ℕ) (xs ys : List ℕ) → crc32_from r (xs ++ ys) ≡ crc32_from (crc32_from r xs) ys
unfolding crc32_from
crc-after r [] ys = refl
crc-after r (x ∷ xs) ys = crc-after (crc32_byte r x) xs ys

module _ (l : List ℕ) (r i : ℕ) where
  pub next_word : i < length l → crc32_from r (entries_bytes (drop i l)) ≡ crc32_from (crc32_from r (entry_bytes (get_or l i 0))) (entries_bytes (drop (i + 1) l))
  unfolding entries_bytes
  next_word h =
      let e : suc i ≡ i + 1 = omega arith in
      ap (λ (x : List ℕ). crc32_from r (entries_bytes x)) (drop-cons l i 0 h ∙ ap (λ (k : ℕ). get_or l i 0 ∷ drop k l) e)
      ∙ crc-after r (entry_bytes (get_or l i 0)) (entries_bytes (drop (i + 1) l))

  pub no_word : length l ≤ i → crc32_from r (entries_bytes (drop i l)) ≡ r
  unfolding entries_bytes crc32_from
  no_word h = ap (λ (x : List ℕ). crc32_from r (entries_bytes x)) (drop_of_length-le l h)

-- ---- by the tables

module _ (t : List ℕ) (h : Tables t) (r : ℕ) where
  pub looked-up : (b k : ℕ) → k ≡ bit_xor r b % 256 → bit_xor (r / 256) (get_or t k 0) ≡ crc32_byte r (b % 256)
  looked-up b k e =
      let l : bit_xor r b % 256 < 256 = mod-lt (bit_xor r b) (lit< tt) in
      ap (bit_xor (r / 256)) (ap (λ (x : ℕ). get_or t x 0) e ∙ h.eight (bit_xor r b % 256) l) ∙ sym (one_byte r b)

  pub three-looked-up : (a b c x y z : ℕ) → x ≡ bit_xor r a % 256 → y ≡ bit_xor (r / 256) b % 256 → z ≡ bit_xor (r / 65536) c % 256
      → bit_xor (bit_xor (bit_xor (r / 16777216) (get_or t z 0)) (get_or t (256 + y) 0)) (get_or t (512 + x) 0) ≡ crc32_byte (crc32_byte (crc32_byte r (a % 256)) (b % 256)) (c % 256)
  three-looked-up a b c x y z e f g =
      let l : bit_xor r a % 256 < 256 = mod-lt (bit_xor r a) (lit< tt) in
      let m : bit_xor (r / 256) b % 256 < 256 = mod-lt (bit_xor (r / 256) b) (lit< tt) in
      let n : bit_xor (r / 65536) c % 256 < 256 = mod-lt (bit_xor (r / 65536) c) (lit< tt) in
      ap₂ bit_xor
      (ap₂ bit_xor
      (ap (bit_xor (r / 16777216)) (ap (λ (k : ℕ). get_or t k 0) g ∙ h.eight (bit_xor (r / 65536) c % 256) n))
      (ap (λ (k : ℕ). get_or t (256 + k) 0) f ∙ h.sixteen (bit_xor (r / 256) b % 256) m))
      (ap (λ (k : ℕ). get_or t (512 + k) 0) e ∙ h.twentyfour (bit_xor r a % 256) l)
      ∙ sym (three-bytes r a b c)

-- ---- the bytes of a word, by how many there are

module _ (r w : ℕ) where
  pub three-in : w / 16777216 % 4 ≡ 3 → crc32_from r (entry_bytes w) ≡ crc32_byte (crc32_byte (crc32_byte r (w / 65536 % 256)) (w / 256 % 256)) (w % 256)
  unfolding entry_bytes crc32_from
  three-in e = rw (eq-eqb (w / 16777216 % 4) 3 e) refl

  pub two_in : (w / 16777216 % 4 ≡ 3 → ⊥) → w / 16777216 % 4 ≡ 2 → crc32_from r (entry_bytes w) ≡ crc32_byte (crc32_byte r (w / 65536 % 256)) (w / 256 % 256)
  unfolding entry_bytes crc32_from
  two_in n e = rw (ne_eqb (w / 16777216 % 4) 3 n, eq-eqb (w / 16777216 % 4) 2 e) refl

  pub one_in : (w / 16777216 % 4 ≡ 3 → ⊥) → (w / 16777216 % 4 ≡ 2 → ⊥) → crc32_from r (entry_bytes w) ≡ crc32_byte r (w / 65536 % 256)
  unfolding entry_bytes crc32_from
  one_in n m = rw (ne_eqb (w / 16777216 % 4) 3 n, ne_eqb (w / 16777216 % 4) 2 m) refl
