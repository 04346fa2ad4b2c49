-- The count so far.
use Rattle.std.proofs.Common.{◌≡◌, ◌≤◌}
use Rattle.sent_packets.specs.Bitmap.{zeros_below}
use Rattle.sent_packets.proofs.bitmap.zeros.Given as goal

abbrev pub invariant-loop-index : goal.invariant-loop-index
invariant-loop-index l = record { bound : l.count ≤ l.index; value : l.count ≡ zeros_below l.words l.index }
