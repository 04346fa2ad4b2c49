use Rattle.expansion.proofs.Chains.{Left}
use Rattle.expansion.proofs.expansion_length.Given as goal

abbrev pub invariant-loop-i : goal.invariant-loop-i
invariant-loop-i l = Left l.pdu l.at l.la l.i
