-- The tests of number 23, word by word.
use mathlib.Core.Path.{◌≡◌, refl, sym, ap, ap₂, ◌∙◌}
use mathlib.Core.Bool.{Bool, true, false, ◌&&◌, true≢false}
use Prim.Native.Nat.{ℕ, zero, suc, ◌-◌, ◌/◌, ◌%◌, ◌<◌, ◌≤◌, min}
use native.Mathlib.Omega.{arith}
use lib.Dec.{eqb, leb}
use borrow.Author.Tests.{eq-eqb, ne_eqb, lt-ltb, le-ltb, le-leb, lt-leb}
use Rattle.packet_log.specs.Log.{kind_of}
use Rattle.join.specs.Join.{high, low}
use Rattle.join.specs.Scan.{head_fits_as, unused_zero, data_fits, fits, left_after}

module _ (n l : ℕ) where
  pub unused-two : n ≡ 1 → eqb l 0 ≡ unused_zero n l
  unfolding unused_zero
  unused-two e = simp (eq-eqb n 1 e)

  pub unused-one : (n ≡ 1 → ⊥) → n ≡ 2 → eqb (l % 256) 0 ≡ unused_zero n l
  unfolding unused_zero
  unused-one d e = simp (ne_eqb n 1 d, eq-eqb n 2 e)

  pub unused-none : (n ≡ 1 → ⊥) → (n ≡ 2 → ⊥) → true ≡ unused_zero n l
  unfolding unused_zero
  unused-none d e = simp (ne_eqb n 1 d, ne_eqb n 2 e)

module _ (n w : ℕ) where
  pub other-kind : (kind_of w ≡ 1 → ⊥) → false ≡ data_fits n w
  unfolding data_fits
  other-kind e = simp (ne_eqb (kind_of w) 1 e)

  pub other-count : kind_of w ≡ 1 → (high w / 256 ≡ n → ⊥) → false ≡ data_fits n w
  unfolding data_fits
  other-count d e = simp (eq-eqb (kind_of w) 1 d, ne_eqb (high w / 256) n e)

  pub right-count : kind_of w ≡ 1 → high w / 256 ≡ n → unused_zero n (low w) ≡ data_fits n w
  unfolding data_fits
  right-count d e = simp (eq-eqb (kind_of w) 1 d, eq-eqb (high w / 256) n e)

module _ (h l : ℕ) where
  pub packet-wide : 64 ≤ h → false ≡ head_fits_as 0 h l
  unfolding head_fits_as
  packet-wide p = simp (le-ltb h 64 p)

  pub packet-empty : h < 64 → l < 1 → false ≡ head_fits_as 0 h l
  unfolding head_fits_as
  packet-empty p q = simp (lt-ltb h 64 p, lt-leb 1 l q)

  pub packet-length : h < 64 → 1 ≤ l → leb l 4096 ≡ head_fits_as 0 h l
  unfolding head_fits_as
  packet-length p q = simp (lt-ltb h 64 p, le-leb 1 l q)

  pub psd-wide : (h ≡ 0 → ⊥) → false ≡ head_fits_as 2 h l
  unfolding head_fits_as
  psd-wide p = simp (ne_eqb h 0 p)

  pub psd-length : h ≡ 0 → leb 1 l ≡ head_fits_as 2 h l
  unfolding head_fits_as
  psd-length p = simp (eq-eqb h 0 p)

  pub data-first : false ≡ head_fits_as 1 h l
  unfolding head_fits_as
  data-first = refl

  pub note-fits : (k : ℕ) → k ≡ 3 → true ≡ head_fits_as k h l
  unfolding head_fits_as
  note-fits zero p = absurd (omega arith)
  note-fits (suc zero) p = absurd (omega arith)
  note-fits (suc (suc zero)) p = absurd (omega arith)
  note-fits (suc (suc (suc zero))) p = refl
  note-fits (suc (suc (suc (suc k)))) p = absurd (omega arith)

module _ (left w : ℕ) where
  pub fits_head : left ≡ 0 → head_fits_as (kind_of w) (high w) (low w) ≡ fits left w
  unfolding fits
  fits_head e = simp (eq-eqb left 0 e)

  pub fits-data : (n : ℕ) → 0 < left → n ≡ min 3 left → data_fits n w ≡ fits left w
  unfolding fits
  fits-data n p e =
      let z : left ≡ 0 → ⊥ = λ q. omega arith in
      simp (ne_eqb left 0 z, e)

  pub after-note : left ≡ 0 → kind_of w ≡ 3 → 0 ≡ left_after left w
  unfolding left_after
  after-note e k = simp (eq-eqb left 0 e, eq-eqb (kind_of w) 3 k)

  pub after-head : left ≡ 0 → (kind_of w ≡ 3 → ⊥) → low w ≡ left_after left w
  unfolding left_after
  after-head e k = simp (eq-eqb left 0 e, ne_eqb (kind_of w) 3 k)

  pub after-data : (n : ℕ) → 0 < left → n ≡ left - 3 → n ≡ left_after left w
  unfolding left_after
  after-data n p e =
      let z : left ≡ 0 → ⊥ = λ q. omega arith in
      simp (ne_eqb left 0 z, e)

pub head_of : (k h l w : ℕ) → k ≡ kind_of w → h ≡ high w → l ≡ low w → head_fits_as k h l ≡ head_fits_as (kind_of w) (high w) (low w)
head_of k h l w a b c = ap₂ (λ (x y : ℕ). head_fits_as x y l) a b ∙ ap (head_fits_as (kind_of w) (high w)) c

pub neither : (a b : Bool) → a ≡ false → false ≡ (a && b)
neither true b e = absurd (true≢false e)
neither false b e = refl

pub second : (a b : Bool) → a ≡ true → b ≡ (a && b)
second true b e = refl
second false b e = absurd (true≢false (sym e))
