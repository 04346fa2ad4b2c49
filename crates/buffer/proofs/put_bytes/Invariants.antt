-- The bytes so far are at their places.
use Rattle.buffer.proofs.Laws.{Copied}
use Rattle.buffer.proofs.put_bytes.Given as goal

abbrev pub invariant-loop-j : goal.invariant-loop-j
invariant-loop-j l = Copied l.initial.dst l.at l.src l.dst l.j
