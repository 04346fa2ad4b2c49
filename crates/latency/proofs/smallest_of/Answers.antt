use Rattle.std.proofs.Common.{◌∙◌, sym, arith}
use Rattle.latency.proofs.Answers.{here, further, none_left}
use Rattle.latency.proofs.smallest_of.Goals as goal

pub returns-then-not-runs_dry : goal.returns-then-not-runs_dry
returns-then-not-runs_dry c = here c.args.n c.args.counts.now c.loop-v.v (omega arith) (sym c.runs_dry.ensures ∙ c.if-not-runs_dry.true) ∙ c.loop-v.invariant

pub loop-v-preserved : goal.loop-v-preserved
loop-v-preserved c = further c.args.n c.args.counts.now c.loop-v.v (omega arith) (sym c.runs_dry.ensures ∙ c.if-not-runs_dry.false) ∙ c.loop-v.invariant

pub returns : goal.returns
returns c = none_left c.args.n c.args.counts.now c.loop-v.v (omega arith) ∙ c.loop-v.invariant
