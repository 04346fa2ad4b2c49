use Rattle.std.proofs.Common.{arith, ◌∙◌}
use Rattle.header.proofs.HornersRule.{sums-start, sums_next, sums-all}
use Rattle.header.proofs.sums.Goals as goal

pub loop-i-init : goal.loop-i-init
loop-i-init c = sums-start _ _ (omega arith)

pub loop-i-preserved : goal.loop-i-preserved
loop-i-preserved c =
    c.horner_step-next.ensures
    ∙ sums_next c.args.bytes.now c.loop-i.s c.loop-i.i (λ k. (c.type_inv.bytes k).fits) (omega arith) (omega arith) c.loop-i.invariant

pub returns : goal.returns
returns c = c.loop-i.invariant ∙ sums-all c.args.bytes.now c.loop-i.i (omega arith)
