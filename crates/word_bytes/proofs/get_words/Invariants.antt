-- Before each word the words that are left come behind those written.
use Rattle.std.proofs.Common.{◌≡◌, ◌*◌, drop}
use Rattle.buffer.specs.Buffer.{put_at}
use Rattle.word_bytes.specs.WordBytes.{words_of}
use Rattle.word_bytes.proofs.get_words.Given as goal

abbrev pub invariant-loop-i : goal.invariant-loop-i
invariant-loop-i l = put_at l.words l.i (words_of (drop (4 * l.i) l.bytes)) ≡ put_at l.initial.words 0 (words_of l.bytes)
