use native.Mathlib.Omega.{arith}
use mathlib.Core.Path.{◌∙◌}
use Rattle.latency.proofs.Counts.{refused_none, refused-many, refused_over}
use borrow.Author.Rules.{rules}
use Rattle.latency.proofs.counts_refused.Statement.{statement}
use Rattle.latency.proofs.counts_refused.Tie as tie

returns : tie.Need-returns-then-counts-eq0
returns c = refused_none c.before.before.args.counts.now c.if-counts-eq0.true

returns-2 : tie.Need-returns-then-counts-gt4096
returns-2 c = refused-many c.before.before.before.args.counts.now c.before.if-counts-eq0.false (omega arith)

returns-3 : tie.Need-returns
returns-3 c = c.over_most.ensures ∙ refused_over c.before.before.before.before.args.counts.now c.before.before.if-counts-eq0.false (omega arith)

pub counts_refused_spec : {M : Type 1} → statement M
counts_refused_spec = tie.close (tie.spec returns returns-2 (λ c κs. search rules) returns-3)
