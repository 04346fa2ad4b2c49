-- The bytes are joined by `|`.
use Rattle.std.proofs.Common.{arith}
use Rattle.packet_log.proofs.Blocks.{eight-or}
use Rattle.packet_log.proofs.eight.Goals as goal

pub returns : goal.returns
returns c =
    eight-or c.args.bytes.now c.args.i _ _ _ _ c.four.result (omega arith) (omega arith) (omega arith) c.four.ensures.1 c.from-4.ensures c.from-3.ensures c.from-2.ensures c.from.ensures
    c.four.ensures.0
