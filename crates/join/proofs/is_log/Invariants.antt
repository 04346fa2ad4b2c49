-- The words so far may stand where they do.
use Rattle.std.proofs.Common.{◌≡◌, drop}
use Rattle.join.specs.Join.{is_log}
use Rattle.join.specs.Scan.{is_rest}
use Rattle.join.proofs.is_log.Given as goal

abbrev pub invariant-loop-w : goal.invariant-loop-w
invariant-loop-w l = is_rest l.left (drop l.w-index l.log) ≡ is_log l.log
