use Rattle.std.proofs.Common.{arith}
use Rattle.correction.proofs.Searching.{evaluate-next}
use Rattle.correction.proofs.evaluate.Goals as goal

pub loop-i-preserved : goal.loop-i-preserved
loop-i-preserved c = evaluate-next _ _ _ c.loop-i.i c.loop-i.v _ (omega arith) c.loop-i.invariant c.product_by.ensures
