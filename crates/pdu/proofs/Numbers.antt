-- The lowest number that applies, test by test.
use mathlib.Core.Path.{◌≡◌, sym, ◌∙◌}
use mathlib.Core.Bool.{true, false}
use mathlib.Core.List.{List}
use Prim.Native.Nat.{ℕ}
use native.Mathlib.Omega.{arith}
use lib.Dec.{eqb, leb}
use borrow.Author.Tests.{ne_eqb}
use Rattle.refusal.specs.Refusal.{first_of}
use Rattle.modes.specs.declared.Mode.{Mode}
use Rattle.layout.specs.declared.ControlWord.{ControlWord}
use Rattle.pdu.specs.Reading.{fields_of, wrong_locator, any_below, wrong_flags, wrong_la, wrong_displacement, reader_tests, lowest_wrong, wrong_with}

module _ (m : Mode) (c : ControlWord) (y : List ℕ) where
  -- the number n and the k beside it are the right ones
  abbrev pub Judged : ℕ → ℕ → Type 0
  Judged n k = (n ≡ first_of (reader_tests m c y)) × (k ≡ wrong_with m.width c y n)

  without-k : (n k : ℕ) → ¬ (n ≡ 11) → k ≡ 0 → k ≡ wrong_with m.width c y n
  without-k n k d e = let t : eqb n 11 ≡ false = ne_eqb n 11 d in e ∙ sym (rw t)

  pub number-7 : leb m.sequences c.sequence ≡ true → (n k : ℕ) → n ≡ 7 → k ≡ 0 → Judged n k
  number-7 t n k en ek = (en ∙ sym (rw t), without-k n k (λ q. omega arith) ek)

  module _ (s : leb m.sequences c.sequence ≡ false) where
    pub number-8 : wrong_flags c ≡ true → (n k : ℕ) → n ≡ 8 → k ≡ 0 → Judged n k
    number-8 t n k en ek = (en ∙ sym (rw (s, t)), without-k n k (λ q. omega arith) ek)

    module _ (p : wrong_flags c ≡ false) where
      pub number-9 : wrong_la m.width c y ≡ true → (n k : ℕ) → n ≡ 9 → k ≡ 0 → Judged n k
      number-9 t n k en ek = (en ∙ sym (rw (s, p, t)), without-k n k (λ q. omega arith) ek)

      module _ (l : wrong_la m.width c y ≡ false) where
        pub number-10 : (fields_of m.width c y).right ≡ false → (n k : ℕ) → n ≡ 10 → k ≡ 0 → Judged n k
        number-10 t n k en ek = (en ∙ sym (rw (s, p, l, t)), without-k n k (λ q. omega arith) ek)

        module _ (x : (fields_of m.width c y).right ≡ true) where
          pub number-11 : any_below c.nop (wrong_locator m.width c y) ≡ true → (k : ℕ) → k ≡ lowest_wrong m.width c y → Judged 11 k
          number-11 t k e = (sym (rw (s, p, l, x, t)), e)

          module _ (a : any_below c.nop (wrong_locator m.width c y) ≡ false) where
            pub number-12 : wrong_displacement m.width c y (fields_of m.width c y) ≡ true → (n k : ℕ) → n ≡ 12 → k ≡ 0 → Judged n k
            number-12 t n k en ek = (en ∙ sym (rw (s, p, l, x, a, t)), without-k n k (λ q. omega arith) ek)

            pub number-0 : wrong_displacement m.width c y (fields_of m.width c y) ≡ false → (n k : ℕ) → n ≡ 0 → k ≡ 0 → Judged n k
            number-0 t n k en ek = (en ∙ sym (rw (s, p, l, x, a, t)), without-k n k (λ q. omega arith) ek)
