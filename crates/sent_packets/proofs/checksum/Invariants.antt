-- The sum of the bytes that are left, after the sum so far, is that of all.
use Rattle.std.proofs.Common.{◌≡◌, ◌<◌, drop}
use Rattle.sent_packets.specs.Sent.{checksum_from}
use Rattle.sent_packets.proofs.checksum.Given as goal

abbrev pub invariant-loop-byte : goal.invariant-loop-byte
invariant-loop-byte l = record {
  bound : l.sum < 251;
  left : checksum_from l.sum (drop l.byte-index l.packet) ≡ checksum_from 0 l.packet;
}
