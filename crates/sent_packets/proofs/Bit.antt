-- A bit that is set in a word, and a word that is set in a list.
use mathlib.Core.Path.{◌≡◌, refl, sym, ap, ◌∙◌, subst}
use mathlib.Core.List.{List}
use Prim.Native.Nat.{ℕ, suc, ◌+◌, ◌-◌, ◌*◌, ◌/◌, ◌%◌, ◌^◌, ◌<◌}
use native.Mathlib.Nat.{div-eq_of_lt, one-mul}
use native.Mathlib.Decide.{ℕ_discrete, dec_lt}
use native.Mathlib.Omega.{arith}
use lib.Bits.{bit_or, or_shr, or_mod, shifted_even, or_zero_r}
use lib.Pow.{pow-add, pow-lt, shl-shr, shl_exact}
use lib.ListN.{length, get_or, set}
use lib.Dec.{lit<}
use lib.Seq.{get_or-set_same, get_or-set_other}
use Rattle.bits.proofs.Xor.{by_bit}
use Rattle.sent_packets.specs.Bitmap.{bit_at}

-- the bit of both is the bit of either
bit-or : (w v b : ℕ) → bit_or w v / 2 ^ b % 2 ≡ bit_or (w / 2 ^ b % 2) (v / 2 ^ b % 2)
bit-or w v b = ap (λ (x : ℕ). x % 2) (or_shr w v b) ∙ or_mod (w / 2 ^ b) (v / 2 ^ b) 1

-- a power of two has its own bit
own : (b : ℕ) → 1 * 2 ^ b / 2 ^ b % 2 ≡ 1
own b = ap (λ (x : ℕ). x % 2) (shl-shr 1 b)

-- and none above
above : (a b : ℕ) → a < b → 1 * 2 ^ a / 2 ^ b % 2 ≡ 0
above a b h = ap (λ (x : ℕ). x % 2) (div-eq_of_lt (subst (λ (x : ℕ). x < 2 ^ b) (sym (one-mul (2 ^ a))) (pow-lt h)))

-- nor below
below : (d b : ℕ) → 1 * 2 ^ (suc d + b) / 2 ^ b % 2 ≡ 0
below d b =
    ap (λ (x : ℕ). x / 2 ^ b % 2) (one-mul (2 ^ (suc d + b)) ∙ pow-add 2 (suc d) b)
    ∙ ap (λ (x : ℕ). x % 2) (shl-shr (2 ^ suc d) b) ∙ ap (λ (x : ℕ). x % 2) (sym (one-mul (2 ^ suc d))) ∙ shifted_even 1 d

other : (a b : ℕ) → (a ≡ b → ⊥) → 1 * 2 ^ a / 2 ^ b % 2 ≡ 0
other a b n = go (dec_lt a b)
  where
    go : Dec (a < b) → 1 * 2 ^ a / 2 ^ b % 2 ≡ 0
    go (yes h) = above a b h
    go (no h) = subst (λ (x : ℕ). 1 * 2 ^ x / 2 ^ b % 2 ≡ 0) (let e : suc (a - b - 1) + b ≡ a = omega arith in e) (below (a - b - 1) b)

-- what the code makes of a one that is shifted
shifted : (a : ℕ) → a < 64 → 1 * 2 ^ a % 2 ^ 64 ≡ 1 * 2 ^ a
shifted a h = shl_exact 1 a 64 (lit< tt) (omega arith)

low-or-one : (x : ℕ) → bit_or (x % 2) 1 ≡ 1
low-or-one x = by_bit (λ (y : ℕ). bit_or y 1 ≡ 1) refl refl x

-- a word with one bit more
abbrev pub with_bit : ℕ → ℕ → ℕ
with_bit w b = bit_or w (1 * 2 ^ b % 2 ^ 64)

bit-this : (w b : ℕ) → b < 64 → with_bit w b / 2 ^ b % 2 ≡ 1
bit-this w b h =
    ap (λ (x : ℕ). bit_or w x / 2 ^ b % 2) (shifted b h) ∙ bit-or w (1 * 2 ^ b) b ∙ ap (λ (x : ℕ). bit_or (w / 2 ^ b % 2) x) (own b) ∙ low-or-one (w / 2 ^ b)

bit-other : (w a b : ℕ) → a < 64 → (a ≡ b → ⊥) → with_bit w a / 2 ^ b % 2 ≡ w / 2 ^ b % 2
bit-other w a b h n =
    ap (λ (x : ℕ). bit_or w x / 2 ^ b % 2) (shifted a h) ∙ bit-or w (1 * 2 ^ a) b ∙ ap (λ (x : ℕ). bit_or (w / 2 ^ b % 2) x) (other a b n)
    ∙ or_zero_r (w / 2 ^ b % 2)

-- a list of words with one bit more
abbrev pub with_set : List ℕ → ℕ → List ℕ
with_set words i = set words (i / 64) (with_bit (get_or words (i / 64) 0) (i % 64))

pub set-this : (words : List ℕ) (i : ℕ) → i / 64 < length words → bit_at (with_set words i) i ≡ 1
set-this words i h =
    ap (λ (x : ℕ). x / 2 ^ (i % 64) % 2) (get_or-set_same words (i / 64) (with_bit (get_or words (i / 64) 0) (i % 64)) 0 h)
    ∙ bit-this (get_or words (i / 64) 0) (i % 64) (omega arith)

pub set-others : (words : List ℕ) (i : ℕ) → i / 64 < length words → (k : ℕ) → (k ≡ i → ⊥) → bit_at (with_set words i) k ≡ bit_at words k
set-others words i h k n = go (ℕ_discrete (k / 64) (i / 64))
  where
    go : Dec (k / 64 ≡ i / 64) → bit_at (with_set words i) k ≡ bit_at words k
    go (no p) = ap (λ (x : ℕ). x / 2 ^ (k % 64) % 2) (get_or-set_other words (i / 64) (k / 64) (with_bit (get_or words (i / 64) 0) (i % 64)) 0 p)
    go (yes p) =
        ap (λ (x : ℕ). get_or (with_set words i) x 0 / 2 ^ (k % 64) % 2) p
        ∙ ap (λ (x : ℕ). x / 2 ^ (k % 64) % 2) (get_or-set_same words (i / 64) (with_bit (get_or words (i / 64) 0) (i % 64)) 0 h)
        ∙ bit-other (get_or words (i / 64) 0) (i % 64) (k % 64) (omega arith) (λ e. n (let d : k ≡ i = omega (arith, p, e) in d))
        ∙ ap (λ (x : ℕ). get_or words x 0 / 2 ^ (k % 64) % 2) (sym p)
