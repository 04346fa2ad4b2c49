use Rattle.std.proofs.Common.{◌≤◌, length, ◌≡◌}
use Rattle.logger.proofs.batches.each.Given as goal

abbrev pub invariant-loop-place : goal.invariant-loop-place
invariant-loop-place l = (l.at ≤ length l.frame) × (length l.frame ≡ length l.initial.frame)
