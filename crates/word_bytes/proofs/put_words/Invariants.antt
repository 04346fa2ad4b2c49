-- Before each word the bytes that are left come behind those written.
use Rattle.std.proofs.Common.{◌≡◌, ◌*◌, drop}
use Rattle.buffer.specs.Buffer.{put_at}
use Rattle.word_bytes.specs.WordBytes.{bytes_of}
use Rattle.word_bytes.proofs.put_words.Given as goal

abbrev pub invariant-loop-i : goal.invariant-loop-i
invariant-loop-i l = put_at l.out (4 * l.i) (bytes_of (drop l.i l.words)) ≡ put_at l.initial.out 0 (bytes_of l.words)
