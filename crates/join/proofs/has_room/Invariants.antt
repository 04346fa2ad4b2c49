-- The words so far have room.
use Rattle.std.proofs.Common.{◌≡◌, ◌+◌, ◌≤◌, length, drop}
use Rattle.join.specs.Scan.{joined_words}
use Rattle.join.proofs.has_room.Given as goal

abbrev pub invariant-loop-i : goal.invariant-loop-i
invariant-loop-i l = record {
  room : l.words ≤ l.room;
  so_far : l.words + length (joined_words l.enhanced (drop l.i l.core)) ≡ length (joined_words l.enhanced l.core);
}
