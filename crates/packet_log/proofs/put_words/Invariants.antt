-- Before each word the words that are left come behind those written.
use Rattle.std.proofs.Common.{◌≡◌, ◌++◌, ◌+◌, ◌*◌, List, ℕ, drop}
use Rattle.buffer.specs.Buffer.{put_at}
use Rattle.packet_log.specs.Log.{data_words}
use Rattle.packet_log.proofs.put_words.Given as goal

abbrev pub invariant-loop-k : goal.invariant-loop-k
invariant-loop-k l =
    (rest : List ℕ) → put_at l.log (l.at + l.k) (data_words (drop (l.from + 3 * l.k) (l.bytes ++ rest))) ≡ put_at l.initial.log l.at (data_words (drop l.from (l.bytes ++ rest)))
