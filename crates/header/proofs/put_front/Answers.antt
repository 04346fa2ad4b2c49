use Rattle.std.proofs.Common.{◌∙◌, refl, arith}
use Rattle.header.specs.Header.{front_replaced}
use Rattle.header.proofs.Copies.{paste_more, pasted}
use Rattle.header.proofs.put_front.Goals as goal

pub loop-i-init : goal.loop-i-init
loop-i-init c = refl

pub loop-i-preserved : goal.loop-i-preserved
loop-i-preserved c = paste_more c.args.pdu.now c.args.front.now c.loop-i.pdu c.loop-i.i _ _ c.loop-i.invariant (omega arith) (omega arith) (omega arith) (omega arith)

pub returns : goal.returns
unfolding front_replaced
returns c = c.loop-i.invariant ∙ pasted c.args.pdu.now c.args.front.now c.loop-i.i (omega arith)
