use Rattle.std.proofs.Common.{◌≤◌, length}
use Rattle.count_list.proofs.from_text.Given as goal

abbrev pub invariant-loop-part : goal.invariant-loop-part
invariant-loop-part l = l.count ≤ length l.counts
