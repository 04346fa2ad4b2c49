use Rattle.std.proofs.Common.{◌≡◌, drop}
use Rattle.correction.specs.Marks.{allowed_marks}
use Rattle.correction.proofs.marks_refusal.Given as goal

abbrev pub invariant-loop-k : goal.invariant-loop-k
invariant-loop-k l = allowed_marks l.marks ≡ allowed_marks (drop l.k l.marks)
