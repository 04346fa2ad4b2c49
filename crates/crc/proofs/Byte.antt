-- Eight bits of a byte into the register are eight shifts of the sum of both.
use mathlib.Core.Path.{◌≡◌, ◌∙◌, refl, ap, sym}
use Prim.Native.Nat.{ℕ, zero, suc, ◌*◌, ◌/◌, ◌%◌}
use native.Mathlib.Omega.{arith}
use lib.Bits.{bit_xor, xor_zero_r, xor_shr, xor_mod}
use Rattle.crc.specs.Crc.{divisor, crc_bit, crc_bits, crc_byte}
use Rattle.crc.specs.Ring.{shift_one, shifts}
use Rattle.bits.proofs.Xor.{xor-swap, double, mod-xor}

-- a bit of b into r, with the rest of b beside: as one shift of both together
one_bit : (r b : ℕ) → bit_xor (crc_bit r (b / 128 % 2)) (b % 128 * 2) ≡ shift_one (bit_xor r b)
unfolding crc_bit shift_one
one_bit r b =
    let c : bit_xor (r / 128) (b / 128 % 2) % 2 ≡ bit_xor (r / 128) (b / 128) % 2 = mod-xor (r / 128) (b / 128) in
    let p : bit_xor r b % 128 * 2 ≡ bit_xor (r % 128 * 2) (b % 128 * 2) = ap (λ (n : ℕ). n * 2) (xor_mod r b 7) ∙ double (r % 128) (b % 128) in
    let q : bit_xor r b / 128 ≡ bit_xor (r / 128) (b / 128) = xor_shr r b 7 in
    let z : bit_xor (b % 128 * 2) 0 ≡ b % 128 * 2 = xor_zero_r (b % 128 * 2) in
    rw (c, p, q)
    (ap (λ (n : ℕ). bit_xor (bit_xor (r % 128 * 2) (bit_xor (r / 128) (b / 128) % 2 * divisor)) n) (sym z)
    ∙ xor-swap (r % 128 * 2) (bit_xor (r / 128) (b / 128) % 2 * divisor) (b % 128 * 2) 0
    ∙ ap (λ (n : ℕ). bit_xor (bit_xor (r % 128 * 2) (b % 128 * 2)) n) (xor_zero_r (bit_xor (r / 128) (b / 128) % 2 * divisor)))

-- n bits of b moved out
unfoldable left : ℕ → ℕ → ℕ
left zero b = b
left (suc n) b = left n (b % 128 * 2)

bits : (n r b : ℕ) → bit_xor (crc_bits n r b) (left n b) ≡ shifts n (bit_xor r b)
unfolding crc_bits left shifts
bits zero r b = refl
bits (suc n) r b = bits n (crc_bit r (b / 128 % 2)) (b % 128 * 2) ∙ ap (shifts n) (one_bit r b)

none_left : (b : ℕ) → left 8 b ≡ 0
unfolding left
none_left b = omega arith

pub byte-shifts : (r b : ℕ) → crc_byte r b ≡ shifts 8 (bit_xor r b)
unfolding crc_byte
byte-shifts r b =
    let z : bit_xor (crc_bits 8 r b) 0 ≡ crc_bits 8 r b = xor_zero_r (crc_bits 8 r b) in
    sym (sym (bits 8 r b) ∙ ap (λ (n : ℕ). bit_xor (crc_bits 8 r b) n) (none_left b) ∙ z)
