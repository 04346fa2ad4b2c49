-- The bytes are joined by `|`.
use Rattle.std.proofs.Common.{arith}
use Rattle.packet_log.proofs.Blocks.{four-or}
use Rattle.packet_log.proofs.four.Goals as goal

pub returns : goal.returns
returns c =
    four-or c.args.bytes.now c.args.i _ _ _ _ (omega arith) (omega arith) (omega arith) (omega arith) c.from-4.ensures c.from-3.ensures c.from-2.ensures c.from.ensures
