use Rattle.std.proofs.Common.{◌-◌}
use Rattle.options.proofs.check.Given as goal

-- proposed from the loop's first test
abbrev pub decreases-loop-i : goal.decreases-loop-i
decreases-loop-i l = l.count - l.i
