-- Tests of a word, way by way.
use mathlib.Core.Path.{◌≡◌}
use mathlib.Core.Bool.{true, false}
use Prim.Native.Nat.{ℕ, ◌+◌, ◌/◌, ◌%◌, min}
use lib.Dec.{eqb}
use borrow.Author.Tests.{eq-eqb, ne_eqb}
use Rattle.snapshot.specs.Steps.{unused_clear, byte_fits, bytes_fit, byte_in}

module _ (w : ℕ) where
  module _ (k : ℕ) where
    pub byte-first : k ≡ 0 → w / 0x10000 % 0x100 ≡ byte_in w k
    byte-first e = rw (eq-eqb k 0 e)

    module _ (z : k ≡ 0 → ⊥) where
      pub byte-second : k ≡ 1 → w / 0x100 % 0x100 ≡ byte_in w k
      byte-second e = rw (ne_eqb k 0 z, eq-eqb k 1 e)

      pub byte-third : (k ≡ 1 → ⊥) → w % 0x100 ≡ byte_in w k
      byte-third e = rw (ne_eqb k 0 z, ne_eqb k 1 e)

  module _ (n : ℕ) where
    pub unused-two : n ≡ 1 → eqb (w % 0x10000) 0 ≡ unused_clear n w
    unfolding unused_clear
    unused-two e = rw (eq-eqb n 1 e)

    module _ (z : n ≡ 1 → ⊥) where
      pub unused-one : n ≡ 2 → eqb (w % 0x100) 0 ≡ unused_clear n w
      unfolding unused_clear
      unused-one e = rw (ne_eqb n 1 z, eq-eqb n 2 e)

      pub unused-none : (n ≡ 2 → ⊥) → true ≡ unused_clear n w
      unfolding unused_clear
      unused-none e = rw (ne_eqb n 1 z, ne_eqb n 2 e)

    pub other_word : (w / 0x1000000 ≡ 0x50 + n → ⊥) → false ≡ byte_fits n w
    unfolding byte_fits
    other_word e = rw (ne_eqb (w / 0x1000000) (0x50 + n) e)

    pub right-word : w / 0x1000000 ≡ 0x50 + n → unused_clear n w ≡ byte_fits n w
    unfolding byte_fits
    right-word e = rw (eq-eqb (w / 0x1000000) (0x50 + n) e)

  module _ (left : ℕ) where
    pub none-to-come : left ≡ 0 → false ≡ bytes_fit left w
    unfolding bytes_fit
    none-to-come e = rw (eq-eqb left 0 e)

    pub some-to-come : (left ≡ 0 → ⊥) → byte_fits (min 3 left) w ≡ bytes_fit left w
    unfolding bytes_fit
    some-to-come e = rw (ne_eqb left 0 e)
