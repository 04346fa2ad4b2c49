-- The words so far are those of the bytes before the ones that are left.
use Rattle.std.proofs.Common.{◌≡◌, drop}
use Rattle.snapshot.specs.Steps.{are_bytes}
use Rattle.snapshot.proofs.is_rest.Given as goal

abbrev pub invariant-loop-i : goal.invariant-loop-i
invariant-loop-i l = are_bytes l.left (drop l.i l.words) ≡ are_bytes l.held (drop l.from l.words)
