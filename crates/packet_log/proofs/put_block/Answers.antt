-- The four words stand one after the other.
use Rattle.std.proofs.Common.{◌∙◌}
use Rattle.packet_log.specs.Blocks.{block_words}
use Rattle.packet_log.proofs.Blocks.{four-put}
use Rattle.packet_log.proofs.put_block.Goals as goal

pub returns : goal.returns
unfolding block_words
returns c =
    four-put c.args.log.now c.args.at c.full.result c.full-2.result c.full-3.result c.full-4.result c.requires.at_in_bounds
    ∙ simp (c.full.ensures, c.full-2.ensures, c.full-3.ensures, c.full-4.ensures)
