-- The bytes so far are the same.
use Rattle.std.proofs.Common.{◌≡◌, length, take}
use Rattle.packet_log.specs.Log.{same_list}
use Rattle.diversity.proofs.same_bytes.Given as goal

abbrev pub invariant-loop-i : goal.invariant-loop-i
invariant-loop-i l = record {
  lengths : length l.a ≡ length l.b;
  so_far : l.same ≡ same_list (take l.i l.a) (take l.i l.b);
}
