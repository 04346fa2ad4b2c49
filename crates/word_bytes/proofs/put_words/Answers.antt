use Rattle.std.proofs.Common.{◌≡◌, ◌*◌, [], drop, arith, drop_of_length-le}
use Rattle.word_bytes.proofs.Words.{turn, none-put}
use Rattle.word_bytes.proofs.put_words.Goals as goal

pub loop-i-preserved : goal.loop-i-preserved
loop-i-preserved c = turn c.loop-i.out _ c.args.words.now _ c.loop-i.i (omega arith) (omega arith) c.put_word.ensures c.loop-i.invariant

pub returns : goal.returns
returns c =
    let e : drop c.loop-i.i c.args.words.now ≡ [] = drop_of_length-le c.args.words.now (omega arith) in
    none-put c.loop-i.out _ _ (4 * c.loop-i.i) e c.loop-i.invariant
