use Rattle.std.proofs.Common.{◌≤◌}
use Rattle.log_csv.proofs.fields.Fields.split.Given as goal

abbrev pub invariant-loop-i : goal.invariant-loop-i
invariant-loop-i l = (l.from ≤ l.i) × (l.number ≤ l.i)
