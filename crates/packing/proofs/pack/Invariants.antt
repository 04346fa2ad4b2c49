-- Before each packet, the whole ones that are left come behind those packed, and the part is that of those left.
use Rattle.std.proofs.Common.{◌≡◌, ◌+◌, ◌≤◌, length}
use Rattle.buffer.specs.Buffer.{put_at}
use Rattle.packing.specs.Packing.{wholes, part}
use Rattle.packing.proofs.Packs.{wholes_left, part_left}
use Rattle.packing.proofs.pack.Given as goal

abbrev pub invariant-loop-i : goal.invariant-loop-i
invariant-loop-i l = record {
  few : l.i ≤ 63;
  places : length l.out ≡ 64;
  room : l.used ≤ l.size;
  left : put_at l.out l.i (wholes_left l.width l.extra l.size l.lengths l.i l.used l.gone) ≡ put_at l.initial.out 0 (wholes l.width l.extra l.size l.sent l.lengths);
  count : l.i + length (wholes_left l.width l.extra l.size l.lengths l.i l.used l.gone) ≡ length (wholes l.width l.extra l.size l.sent l.lengths);
  part : part_left l.width l.extra l.size l.lengths l.i l.used l.gone ≡ part l.width l.extra l.size l.sent l.lengths;
}
