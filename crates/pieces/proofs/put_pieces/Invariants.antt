-- Before each piece, those that are left come behind those written, and there is room and there are bytes for them.
use Rattle.std.proofs.Common.{◌≡◌, ◌+◌, ◌-◌, ◌≤◌, length, drop}
use Rattle.buffer.specs.Buffer.{put_at}
use Rattle.pieces.specs.Pieces.{cut_by, piece_bytes, total}
use Rattle.pieces.proofs.put_pieces.Given as goal

abbrev pub invariant-loop-length : goal.invariant-loop-length
invariant-loop-length l = record {
  room : l.place + total (drop l.length-index l.lengths) + (length l.lengths - l.length-index) ≤ length l.pdu;
  bytes : l.from + total (drop l.length-index l.lengths) ≤ length l.bytes;
  left : put_at l.pdu l.place (piece_bytes l.register (cut_by (drop l.length-index l.lengths) (drop l.from l.bytes))) ≡ put_at l.initial.pdu l.at (piece_bytes l.register (cut_by l.lengths (drop l.sent l.bytes)));
}
