use Rattle.std.proofs.Common.{◌*◌, drop, arith, length-drop}
use Rattle.word_bytes.proofs.Words.{word-turn, all_read}
use Rattle.word_bytes.proofs.get_words.Goals as goal

pub loop-i-preserved : goal.loop-i-preserved
loop-i-preserved c = word-turn c.loop-i.words c.args.bytes.now _ c.loop-i.i c.word_at.result (omega arith) (omega arith) c.word_at.ensures c.loop-i.invariant

pub returns : goal.returns
returns c =
    all_read c.loop-i.words (drop (4 * c.loop-i.i) c.args.bytes.now) _ c.loop-i.i (omega (arith, length-drop (4 * c.loop-i.i) c.args.bytes.now)) c.loop-i.invariant
