use Rattle.std.proofs.Common.{arith, ap, ◌∙◌}
use lib.ListN.{get_or}
use Rattle.crc.specs.Crc.{crc_from}
use Rattle.crc.proofs.Ring.{red-wide, room, few-again, few-done}
use Rattle.crc.proofs.few.Goals as goal

pub loop-b-init : goal.loop-b-init
loop-b-init c = rw c.from-w.ensures (c.ranges.start.fits, ap (λ r. crc_from r c.args.bytes.now) (red-wide c.args.start c.ranges.start.fits))

pub overflow_mul-w : goal.overflow_mul-w
overflow_mul-w c =
    let i = c.loop-b.b-index in
    let r = room i c.loop-b.w (get_or c.args.bytes.now i 0) (omega arith) c.loop-b.invariant.0 (c.type_inv.bytes i).fits in
    rw c.from.ensures (omega (arith, r.1))

pub loop-b-preserved : goal.loop-b-preserved
loop-b-preserved c =
    let i = c.loop-b.b-index in
    let r = room i c.loop-b.w (get_or c.args.bytes.now i 0) (omega arith) c.loop-b.invariant.0 (c.type_inv.bytes i).fits in
    rw c.from.ensures (r.2, few-again _ c.args.bytes.now c.loop-b.w i c.loop-b.invariant.1 r.0 (λ k. (c.type_inv.bytes k).fits) c.loop-b-test.true)

pub returns : goal.returns
returns c = c.reduced64.ensures ∙ few-done _ c.args.bytes.now c.loop-b.w c.loop-b.b-index c.loop-b.invariant.1 c.loop-b-test.false
