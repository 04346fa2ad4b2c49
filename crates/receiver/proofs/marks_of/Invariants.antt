-- The marks so far.
use Rattle.pdu.specs.Reading.{mark_at}
use Rattle.pdu.proofs.Filling.{Filled}
use Rattle.receiver.proofs.marks_of.Given as goal

abbrev pub invariant-loop-k : goal.invariant-loop-k
invariant-loop-k l = Filled (mark_at l.width l.c l.y) l.k l.marks
