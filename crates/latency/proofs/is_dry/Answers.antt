use Rattle.std.proofs.Common.{arith}
use Rattle.latency.proofs.Ticks.{early-dry, late-dry}
use Rattle.latency.proofs.is_dry.Goals as goal

pub returns-then-t-start : goal.returns-then-t-start
returns-then-t-start c = early-dry c.args.v c.args.t c.args.waiting (omega arith)

pub returns : goal.returns
returns c = late-dry c.args.v c.args.t c.args.waiting (omega arith)
