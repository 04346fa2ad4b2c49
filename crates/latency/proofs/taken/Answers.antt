use Rattle.std.proofs.Common.{arith}
use Rattle.latency.proofs.Ticks.{early-taken, none-taken, one-taken}
use Rattle.latency.proofs.taken.Goals as goal

pub returns-then-t-start : goal.returns-then-t-start
returns-then-t-start c = (early-taken c.args.v c.args.t c.args.waiting (omega arith), omega arith)

pub returns-then-waiting-eq0 : goal.returns-then-waiting-eq0
returns-then-waiting-eq0 c = (none-taken c.args.v c.args.t c.args.waiting (omega arith) (omega arith), omega arith)

pub returns : goal.returns
returns c = (one-taken c.args.v c.args.t c.args.waiting (omega arith) (λ e. omega arith), omega arith)
