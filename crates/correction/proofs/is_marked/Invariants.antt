use Rattle.std.proofs.Common.{◌≡◌, drop}
use Rattle.correction.specs.Marks.{is_marked}
use Rattle.correction.proofs.is_marked.Given as goal

abbrev pub invariant-loop-mark : goal.invariant-loop-mark
invariant-loop-mark l = is_marked l.marks l.i ≡ is_marked (drop l.mark-index l.marks) l.i
