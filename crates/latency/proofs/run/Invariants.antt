-- What waits after the ticks so far, and what is told of them.
use Rattle.std.proofs.Common.{◌≡◌}
use Rattle.latency.specs.Latency.{left, tally}
use Rattle.latency.proofs.run.Given as goal

abbrev pub invariant-loop-t : goal.invariant-loop-t
invariant-loop-t l = record { waits : l.kept ≡ left l.n l.counts l.v l.t; told : l.q ≡ tally l.n l.counts l.v l.t }
