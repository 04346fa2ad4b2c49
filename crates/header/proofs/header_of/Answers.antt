use Rattle.std.proofs.Common.{◌∙◌, refl, replicate, arith}
use Rattle.header.specs.Header.{header_of}
use Rattle.header.proofs.Copies.{paste_more, pasted}
use Rattle.header.proofs.header_of.Goals as goal

pub loop-i-init : goal.loop-i-init
loop-i-init c = refl

pub loop-i-preserved : goal.loop-i-preserved
loop-i-preserved c = paste_more (replicate 96 0) c.args.pdu.now c.loop-i.header c.loop-i.i _ _ c.loop-i.invariant (omega arith) (omega arith) (omega arith) (omega arith)

pub returns : goal.returns
unfolding header_of
returns c = c.loop-i.invariant ∙ pasted (replicate 96 0) c.args.pdu.now c.loop-i.i (omega arith)
