-- The starts and the lengths so far.
use Rattle.pdu.specs.Reading.{start_at, length_at}
use Rattle.pdu.proofs.Filling.{Filled}
use Rattle.pdu.proofs.piece_spans.Given as goal

abbrev pub invariant-loop-k : goal.invariant-loop-k
invariant-loop-k l = record { starts : Filled (start_at l.width l.c l.y) l.k l.starts; lengths : Filled (length_at l.width l.c l.y) l.k l.lengths }
