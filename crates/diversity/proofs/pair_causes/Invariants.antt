-- The causes so far.
use Rattle.pdu.proofs.Filling.{Filled}
use Rattle.diversity.specs.Steps.{pair_cause_at}
use Rattle.diversity.proofs.pair_causes.Given as goal

abbrev pub invariant-loop-k : goal.invariant-loop-k
invariant-loop-k l = Filled (pair_cause_at l.register l.first l.second l.marks) l.k l.both
