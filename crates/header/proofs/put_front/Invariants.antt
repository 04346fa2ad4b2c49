-- The bytes so far, over those of the PDU.
use Rattle.std.proofs.Common.{◌≡◌}
use lib.Seq.{paste}
use Rattle.header.proofs.put_front.Given as goal

abbrev pub invariant-loop-i : goal.invariant-loop-i
invariant-loop-i l = l.pdu ≡ paste l.initial.pdu 0 l.front l.i
