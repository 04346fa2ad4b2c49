-- Before each locator, those that are left come behind those written, and they fit 16 bits.
use Rattle.std.proofs.Common.{◌≡◌, ◌+◌, ◌-◌, ◌≤◌, length, drop}
use Rattle.buffer.specs.Buffer.{put_at}
use Rattle.pieces.specs.Pieces.{locators_from, total}
use Rattle.pieces.proofs.locators.Given as goal

abbrev pub invariant-loop-k : goal.invariant-loop-k
invariant-loop-k l = record {
  size : length l.out ≡ 64;
  bound : l.place + total (drop l.k l.lengths) + (length l.lengths - l.k) ≤ 65535;
  left : put_at l.out l.k (locators_from l.place (drop l.k l.lengths)) ≡ put_at l.initial.out 0 (locators_from l.at l.lengths);
}
