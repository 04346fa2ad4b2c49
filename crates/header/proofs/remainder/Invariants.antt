-- what is left of the bytes above
use Rattle.std.proofs.Common.{◌≤◌, ◌*◌, drop}
use Rattle.header.specs.Packed.{LeftOver}
use Rattle.header.proofs.remainder.Given as goal

abbrev pub invariant-loop-k : goal.invariant-loop-k
invariant-loop-k l = (1 ≤ l.k) × LeftOver l.r (drop (8 * l.k) l.header)
