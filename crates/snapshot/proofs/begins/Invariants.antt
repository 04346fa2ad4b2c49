-- What is left of the words begins with what is left of the others just where all of them do.
use Rattle.std.proofs.Common.{◌≡◌, drop}
use Rattle.snapshot.specs.Steps.{begins_with}
use Rattle.snapshot.proofs.begins.Given as goal

abbrev pub invariant-loop-i : goal.invariant-loop-i
invariant-loop-i l = begins_with (drop l.i l.front) (drop l.i l.words) ≡ begins_with l.front l.words
