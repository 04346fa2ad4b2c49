use Rattle.std.proofs.Common.{arith}
use Rattle.sent_packets.proofs.Bit.{set-this, set-others}
use Rattle.sent_packets.proofs.bitmap.set.Goals as goal

pub returns-clause-this : goal.returns-clause-this
returns-clause-this c = set-this c.args.words.now c.args.index

pub returns-clause-others : goal.returns-clause-others
returns-clause-others c = set-others c.args.words.now c.args.index (omega arith)
