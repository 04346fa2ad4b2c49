-- The causes so far.
use Rattle.pdu.proofs.Filling.{Filled}
use Rattle.receiver.specs.Steps.{cause_at}
use Rattle.receiver.proofs.causes_of.Given as goal

abbrev pub invariant-loop-k : goal.invariant-loop-k
invariant-loop-k l = Filled (cause_at l.register l.y l.marks) l.k l.causes
