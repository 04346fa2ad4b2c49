-- The words so far are put.
use Rattle.std.proofs.Common.{◌≡◌, ◌+◌, length, drop}
use Rattle.buffer.specs.Buffer.{put_at}
use Rattle.join.specs.Scan.{joined_words}
use Rattle.join.proofs.put_joined.Given as goal

abbrev pub invariant-loop-i : goal.invariant-loop-i
invariant-loop-i l = record {
  so_far : l.at + length (joined_words l.enhanced (drop l.i l.core)) ≡ length (joined_words l.enhanced l.core);
  put : put_at l.res l.at (joined_words l.enhanced (drop l.i l.core)) ≡ put_at l.initial.res 0 (joined_words l.enhanced l.core);
}
