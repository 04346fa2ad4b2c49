use Rattle.std.proofs.Common.{◌≤◌, length}
use Rattle.text.proofs.entry.Given as goal

abbrev pub invariant-loop : goal.invariant-loop
invariant-loop l = l.from ≤ length l.table
