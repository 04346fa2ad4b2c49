use Rattle.std.proofs.Common.{◌≤◌}
use Rattle.noise.specs.Noise.{Hits}
use Rattle.noise.proofs.hit_all.Given as goal

abbrev pub invariant-loop-k : goal.invariant-loop-k
invariant-loop-k l = (l.hit ≤ l.k) × Hits l.starts l.lengths l.initial.pdu l.k l.pdu l.hit
