-- What the lengths that are left say of the bytes that are left is what all say of all.
use Rattle.std.proofs.Common.{◌≡◌, drop}
use Rattle.writer.proofs.Counting.{wrongly}
use Rattle.writer.proofs.wrong_lengths.Given as goal

abbrev pub invariant-loop-length : goal.invariant-loop-length
invariant-loop-length l = wrongly (drop l.length-index l.lengths) l.left ≡ wrongly l.lengths l.count
