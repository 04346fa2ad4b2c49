-- What is left and what the lengths so far sum to are the bytes.
use Rattle.std.proofs.Common.{◌≡◌, ◌+◌, drop}
use Rattle.pieces.specs.Pieces.{total}
use Rattle.batch.proofs.sums_to.Given as goal

abbrev pub invariant-loop-n : goal.invariant-loop-n
invariant-loop-n l = l.left + total l.lengths ≡ l.bytes + total (drop l.n-index l.lengths)
