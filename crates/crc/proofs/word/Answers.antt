use Rattle.std.proofs.Common.{◌+◌}
use Rattle.crc.specs.Ring.{word_at}
use Rattle.crc.proofs.Ring.{word-or}
use Rattle.crc.proofs.word.Goals as goal

pub returns : goal.returns
unfolding word_at
returns c =
    let b = c.type_inv.bytes in
    let i = c.args.i in
    rw (c.from.ensures, c.from-2.ensures, c.from-3.ensures, c.from-4.ensures, c.from-5.ensures, c.from-6.ensures, c.from-7.ensures, c.from-8.ensures)
    (word-or 0 _ _ _ _ _ _ _ _ (b i).fits (b (i + 1)).fits (b (i + 2)).fits (b (i + 3)).fits (b (i + 4)).fits (b (i + 5)).fits (b (i + 6)).fits (b (i + 7)).fits)
