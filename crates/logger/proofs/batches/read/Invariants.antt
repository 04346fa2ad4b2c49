use Rattle.std.proofs.Common.{◌≤◌, length, ◌≡◌}
use Rattle.logger.proofs.batches.read.Given as goal

abbrev pub invariant-loop-count : goal.invariant-loop-count
invariant-loop-count l =
    (l.bytes ≤ length l.frame) × (length l.frame ≡ length l.initial.frame) × (length l.lengths ≡ length l.initial.lengths)
