-- Data words so far.
use Rattle.std.proofs.Common.{◌≡◌, ◌++◌, drop}
use Rattle.std.proofs.Math.Seq.{slice}
use Rattle.join.specs.Scan.{data_run}
use Rattle.join.proofs.run_end.Given as goal

abbrev pub invariant-loop-i : goal.invariant-loop-i
invariant-loop-i l = slice l.from l.i l.log ++ data_run (drop l.i l.log) ≡ data_run (drop l.from l.log)
