-- The smallest of the latencies that are left is that of all.
use Rattle.std.proofs.Common.{◌≡◌, ◌-◌}
use Rattle.latency.specs.Latency.{smallest_of}
use Rattle.latency.proofs.smallest_of.Given as goal

abbrev pub invariant-loop-v : goal.invariant-loop-v
invariant-loop-v l = smallest_of l.n l.counts l.v (8 - l.v) ≡ smallest_of l.n l.counts 0 8
