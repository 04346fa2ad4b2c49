use Rattle.std.proofs.Common.{◌∙◌, arith}
use Rattle.latency.proofs.Counts.{over-here, over-next, over-end}
use Rattle.latency.proofs.over_most.Goals as goal

pub returns-then-count-gt63 : goal.returns-then-count-gt63
returns-then-count-gt63 c = over-here c.args.counts.now c.loop-count.count-index (omega arith) (omega arith) ∙ c.loop-count.invariant

pub loop-count-preserved : goal.loop-count-preserved
loop-count-preserved c = over-next c.args.counts.now c.loop-count.count-index (omega arith) (omega arith) ∙ c.loop-count.invariant

pub returns : goal.returns
returns c = over-end c.args.counts.now c.loop-count.count-index (omega arith) ∙ c.loop-count.invariant
