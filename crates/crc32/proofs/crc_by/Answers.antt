use Rattle.std.proofs.Common.{sym, ap, ◌∙◌}
use lib.Bits.{bit_xor}
use Rattle.crc32.proofs.Laws.{next_word, no_word}
use Rattle.crc32.proofs.crc_by.Goals as goal

pub loop-word-preserved : goal.loop-word-preserved
loop-word-preserved c = rw c.with_word-register.ensures (sym (next_word c.args.words.now c.loop-word.register c.loop-word.word-index c.loop-word-test.true) ∙ c.loop-word.invariant)

pub returns : goal.returns
returns c = ap (λ x. bit_xor x 4294967295) (sym (no_word c.args.words.now c.loop-word.register c.loop-word.word-index c.loop-word-test.false) ∙ c.loop-word.invariant)
