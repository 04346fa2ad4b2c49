-- The places of the packets from the i-th word on.
use Rattle.join.specs.Scan.{Placed}
use Rattle.join.proofs.places_in.Given as goal

abbrev pub invariant-loop-i : goal.invariant-loop-i
invariant-loop-i l = Placed l.places l.log l.i
