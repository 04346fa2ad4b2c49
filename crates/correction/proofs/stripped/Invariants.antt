use Rattle.correction.specs.ErrorValues.{Stripped}
use Rattle.correction.proofs.stripped.Given as goal

abbrev pub invariant-loop-mark : goal.invariant-loop-mark
invariant-loop-mark l = Stripped l.initial.t l.marks l.mark-index l.t
