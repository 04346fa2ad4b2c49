-- The programs so far are allowed.
use Rattle.std.proofs.Common.{◌≡◌, drop}
use Rattle.receiver.specs.Entitling.{allowed_programs}
use Rattle.receiver.proofs.allowed.Given as goal

abbrev pub invariant-loop-i : goal.invariant-loop-i
invariant-loop-i l = allowed_programs l.programs ≡ allowed_programs (drop l.i l.programs)
