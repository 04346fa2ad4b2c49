-- Before each block the words that are left come behind those written, and the block's twelve bytes are read.
use Rattle.std.proofs.Common.{◌≡◌, ◌++◌, ◌+◌, ◌*◌, ◌<◌, List, ℕ, drop}
use Rattle.buffer.specs.Buffer.{put_at}
use Rattle.packet_log.specs.Blocks.{four_at, eight_at}
use Rattle.packet_log.specs.Log.{data_words}
use Rattle.packet_log.proofs.put_blocks.Given as goal

abbrev pub invariant-loop-k : goal.invariant-loop-k
invariant-loop-k l = record {
  left : (rest : List ℕ) → put_at l.log (l.at + 4 * l.k) (data_words (drop (l.from + 12 * l.k) (l.bytes ++ rest))) ≡ put_at l.initial.log l.at (data_words (drop l.from (l.bytes ++ rest)));
  first : l.x ≡ eight_at l.bytes (l.from + 12 * l.k);
  others : l.y ≡ four_at l.bytes (l.from + 12 * l.k + 8);
  y_bound : l.y < 4294967296;
}
