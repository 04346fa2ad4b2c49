use Rattle.std.proofs.Common.{arith}
use Rattle.crc.proofs.Ring.{push-again}
use Rattle.crc.proofs.by_1.Goals as goal

pub loop-i-preserved : goal.loop-i-preserved
loop-i-preserved c =
    let again = push-again _ c.args.bytes.now c.loop-i.h c.loop-i.l c.loop-i.i c.loop-i.invariant.0 c.loop-i.invariant.1 (λ k. (c.type_inv.bytes k).fits) c.loop-i.invariant.2 (omega arith) in
    (c.push_high-x.ensures.1, c.push_low-l.ensures.1, rw (c.push_high-x.ensures.0, c.push_low-l.ensures.0) again)
