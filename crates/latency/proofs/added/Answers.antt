use Rattle.std.proofs.Common.{arith}
use Rattle.latency.proofs.Ticks.{added-count, added_none}
use Rattle.latency.proofs.added.Goals as goal

pub returns-then-t-n-eq0 : goal.returns-then-t-n-eq0
returns-then-t-n-eq0 c = added-count c.args.n c.args.t c.args.counts.now (omega arith)

pub returns : goal.returns
returns c = added_none c.args.n c.args.t c.args.counts.now (λ e. omega arith)
