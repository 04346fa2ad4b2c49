-- No more masks are chosen than are looked at, and no more are corrected than are chosen.
use Rattle.std.proofs.Common.{◌≤◌}
use Rattle.examples.proofs.choices_line.Given as goal

abbrev pub invariant-loop-mask : goal.invariant-loop-mask
invariant-loop-mask l = (l.all ≤ l.mask) × (l.right ≤ l.all)
