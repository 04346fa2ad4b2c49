-- The four bytes stand one after the other.
use Rattle.packet_log.proofs.Blocks.{four-put}
use Rattle.word_bytes.proofs.put_word.Goals as goal

pub returns : goal.returns
returns c = four-put c.args.out.now c.args.at _ _ _ _ c.requires
