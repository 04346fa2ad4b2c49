-- The words that are left come behind those written.
use Rattle.std.proofs.Common.{◌≡◌, ◌+◌, ◌*◌, drop}
use Rattle.buffer.specs.Buffer.{put_at}
use Rattle.snapshot.specs.Snapshot.{byte_words}
use Rattle.snapshot.proofs.put_bytes.Given as goal

abbrev pub invariant-loop-j : goal.invariant-loop-j
invariant-loop-j l = put_at l.words (l.at + l.j) (byte_words (drop (3 * l.j) l.bytes)) ≡ put_at l.initial.words l.at (byte_words l.bytes)
