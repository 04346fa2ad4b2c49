-- The numbers so far rise.
use Rattle.std.proofs.Common.{◌≡◌, drop}
use Rattle.join.specs.Join.{rising_after, rising}
use Rattle.join.specs.Scan.{numbers}
use Rattle.join.proofs.rising.Given as goal

abbrev pub invariant-loop-i : goal.invariant-loop-i
invariant-loop-i l = rising_after l.first l.last (numbers (drop l.i l.log)) ≡ rising (numbers l.log)
