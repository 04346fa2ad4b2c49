-- the sums over the bytes from i on
use Rattle.std.proofs.Common.{◌≡◌}
use Rattle.header.proofs.HornersRule.{sums_from}
use Rattle.header.proofs.sums.Given as goal

abbrev pub invariant-loop-i : goal.invariant-loop-i
invariant-loop-i l = l.s ≡ sums_from l.i l.bytes
