use Rattle.std.proofs.Common.{◌≡◌, drop}
use Rattle.correction.specs.Marks.{adopted as adopted_from}
use Rattle.correction.proofs.adopted.Given as goal

abbrev pub invariant-loop-mark : goal.invariant-loop-mark
invariant-loop-mark l = adopted_from (drop l.mark-index l.marks) l.out l.other ≡ adopted_from l.marks l.header l.other
