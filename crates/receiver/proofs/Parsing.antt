-- The marks of a corrected PDU that no row from 7 to 12 turns down.
use mathlib.Core.Path.{◌≡◌, sym, subst}
use mathlib.Core.List.{List}
use Prim.Native.Nat.{ℕ, ◌<◌, ◌≤◌}
use native.Mathlib.Omega.{arith}
use lib.ListN.{length}
use Rattle.refusal.specs.Refusal.{first_of}
use Rattle.modes.specs.declared.Mode.{Mode}
use Rattle.layout.specs.declared.ControlWord.{ControlWord}
use Rattle.pdu.specs.Reading.{reader_tests}
use Rattle.pdu.proofs.Sizes.{Sized, sized}
use Rattle.reassembly.specs.Run.{Marked, Parsed}
use Rattle.receiver.specs.Steps.{MarksOf, head_of}
use Rattle.receiver.proofs.Marks.{next-mark}

module _ (m : Mode) (c : ControlWord) (y : List ℕ) (small : c.nop < 64) (e : first_of (reader_tests m c y) ≡ 0) where
  parts : Sized m.width c y
  parts = sized m c y e

  module _ (marks : List ℕ) (em : MarksOf m.width c y marks) where
    pub all-marked : Marked y marks c.nop
    all-marked = record {
      few = omega arith;
      first = subst (λ (n : ℕ). n < length y) (sym (em 0 (omega arith))) parts.la;
      rising = λ k h. omega (arith, em k (omega arith), next-mark m.width c y marks em k h, parts.past k h);
      within = λ k h. subst (λ (n : ℕ). n < length y) (sym (next-mark m.width c y marks em k h)) (parts.within k h);
    }

    pub parsed : length y ≤ 20480 → Parsed (head_of m.width c y) y marks
    parsed size = record { marked = all-marked; psd = omega (arith, em 0 (omega arith), parts.psd); size = size }
