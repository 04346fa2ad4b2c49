-- No packet so far.
use Rattle.std.proofs.Common.{◌≡◌, drop}
use Rattle.join.specs.Scan.{numbers}
use Rattle.join.proofs.next_packet.Given as goal

abbrev pub invariant-loop-i : goal.invariant-loop-i
invariant-loop-i l = numbers (drop l.i l.log) ≡ numbers (drop l.from l.log)
