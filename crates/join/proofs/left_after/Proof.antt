use native.Mathlib.Omega.{arith}
use mathlib.Core.Path.{refl, ◌∙◌}
use Prim.Native.Nat.{◌-◌}
use Rattle.join.proofs.Tests.{after-note, after-head, after-data}
use borrow.Author.Rules.{rules}
use Rattle.join.proofs.left_after.Statement.{statement}
use Rattle.join.proofs.left_after.Tie as tie

returns : tie.Need-returns-then-kind-eq3
returns c = after-note c.before.before.before.args.left c.before.before.before.args.w c.before.before.if-left-eq0.true (omega (arith, c.before.kind.ensures, c.if-kind-eq3.true))

returns-2 : tie.Need-returns-then-left-eq0
returns-2 c = c.low.ensures.0 ∙ after-head c.before.before.before.before.args.left c.before.before.before.before.args.w c.before.before.before.if-left-eq0.true (λ e. c.before.if-kind-eq3.false (c.before.before.kind.ensures ∙ e))

returns-3 : tie.Need-returns-then-left-lt3
returns-3 c = after-data c.before.before.args.left c.before.before.args.w 0 (omega arith) (omega arith)

returns-4 : tie.Need-returns
returns-4 c = after-data c.before.before.args.left c.before.before.args.w (c.before.before.args.left - 3) (omega arith) refl

pub left_after_spec : {M : Type 1} → statement M
left_after_spec = tie.close (tie.spec (λ c κs. search rules) returns (λ c κs. search rules) returns-2 returns-3 returns-4)
