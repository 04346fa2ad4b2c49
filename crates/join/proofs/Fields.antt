-- A log word and its fields.
use mathlib.Core.Path.{◌≡◌, ap, ap₂, ◌∙◌}
use mathlib.Core.List.{[], ◌∷◌}
use Prim.Native.Nat.{ℕ, ◌+◌, ◌*◌, ◌/◌, ◌%◌, ◌<◌, ◌≤◌}
use native.Mathlib.Omega.{arith}
use lib.ListN.{take}
use Rattle.packet_log.specs.Log.{word, data_word, kind_of, data_bytes}
use Rattle.packet_log.proofs.Data.{bytes_back}
use Rattle.join.specs.Join.{high, low, number}

-- ---- the fields of a word that is laid out

module _ (k h l : ℕ) (a : k ≤ 3) (b : h < 16384) (c : l < 65536) where
  pub kind-of : kind_of (word k h l) ≡ k
  kind-of = omega arith

  upper : word k h l / 0x10000 ≡ k * 0x4000 + h
  upper = omega arith

  pub high-of : high (word k h l) ≡ h
  high-of =
      let e : (k * 0x4000 + h) % 0x4000 ≡ h = omega arith in
      ap (λ (n : ℕ). n % 0x4000) upper ∙ e

  pub low_of : low (word k h l) ≡ l
  low_of = omega arith

pub number_of : (n l : ℕ) → n < 64 → l < 65536 → number (word 0 n l) ≡ n
number_of n l h b =
    let q : word 0 n l / 0x10000 ≡ n = omega arith in
    let r : n % 64 ≡ n = omega arith in
    ap (λ (k : ℕ). k % 64) q ∙ r

module _ (n a b c : ℕ) (hn : n ≤ 3) (ha : a < 256) (hb : b < 256) (hc : c < 256) where
  pub data-kind : kind_of (data_word n a b c) ≡ 1
  data-kind = kind-of 1 (n * 0x100 + a) (b * 0x100 + c) (omega arith) (omega arith) (omega arith)

  pub data-high : high (data_word n a b c) ≡ n * 0x100 + a
  data-high = high-of 1 (n * 0x100 + a) (b * 0x100 + c) (omega arith) (omega arith) (omega arith)

  pub data-low : low (data_word n a b c) ≡ b * 0x100 + c
  data-low = low_of 1 (n * 0x100 + a) (b * 0x100 + c) (omega arith) (omega arith) (omega arith)

  -- its bytes are read back
  pub data-bytes : data_bytes (data_word n a b c) ≡ take n (a ∷ b ∷ c ∷ [])
  data-bytes = bytes_back (data_word n a b c) 16 n a b c (omega arith) hn ha hb hc

-- ---- any word is made of its fields

pub from_fields : (k w : ℕ) → kind_of w ≡ k → k ≤ 3 → word k (high w) (low w) ≡ w
from_fields k w e h =
    let q : w / 0x10000 / 0x4000 ≡ kind_of w = omega arith in
    let r : w / 0x10000 ≡ w / 0x10000 / 0x4000 * 0x4000 + w / 0x10000 % 0x4000 = omega arith in
    omega arith

pub high-most : (w : ℕ) → high w < 0x4000
high-most w = omega arith

pub low-most : (w : ℕ) → low w < 0x10000
low-most w = omega arith

pub number-most : (w : ℕ) → number w < 64
number-most w = omega arith

-- a data word is made of its count and bytes
pub data-fields : (n w : ℕ) → kind_of w ≡ 1 → high w / 256 ≡ n → data_word n (high w % 256) (low w / 256) (low w % 256) ≡ w
data-fields n w k e =
    let f : word 1 (high w) (low w) ≡ w = from_fields 1 w k (omega arith) in
    let p : n * 0x100 + high w % 256 ≡ high w = omega arith in
    let q : low w / 256 * 0x100 + low w % 256 ≡ low w = omega arith in
    ap₂ (λ (x y : ℕ). word 1 x y) p q ∙ f
