-- Whether one of the counts that are left is over 63 says it of all.
use Rattle.std.proofs.Common.{◌≡◌, drop}
use Rattle.latency.specs.Latency.{over_most}
use Rattle.latency.proofs.over_most.Given as goal

abbrev pub invariant-loop-count : goal.invariant-loop-count
invariant-loop-count l = over_most (drop l.count-index l.counts) ≡ over_most l.counts
