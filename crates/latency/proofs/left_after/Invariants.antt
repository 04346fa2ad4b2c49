-- What waits after the ticks so far.
use Rattle.std.proofs.Common.{◌≡◌}
use Rattle.latency.specs.Latency.{left}
use Rattle.latency.proofs.left_after.Given as goal

abbrev pub invariant-loop-t : goal.invariant-loop-t
invariant-loop-t l = l.kept ≡ left l.n l.counts l.v l.t
