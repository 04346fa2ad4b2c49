use Rattle.std.proofs.Common.{arith}
use Rattle.noise.specs.Noise.{begun}
use Rattle.noise.proofs.Laws.{hits_next}
use Rattle.noise.proofs.hit_all.Goals as goal

pub loop-k-init : goal.loop-k-init
loop-k-init c = (omega arith, begun)

pub loop-k-preserved : goal.loop-k-preserved
loop-k-preserved c = (omega arith, hits_next _ _ _ _ _ _ _ _ _ _ c.turn-t.ensures.passed c.loop-k.invariant.1 c.entry.ensures c.entry-in-loop-k.ensures)
