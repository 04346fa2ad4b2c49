use Prim.Native.Nat.{◌-◌}
use borrow.Author.Rules.{rules}
use Rattle.pdu.proofs.Judging.{displaced-low, displaced-high, not-displaced}
use Rattle.pdu.proofs.wrong_displacement.Statement.{statement}
use Rattle.pdu.proofs.wrong_displacement.Tie as tie

returns : tie.Need-returns-then-x-mark
returns c = let a = c.before.before.before.before.before.args in displaced-low a.width a.c a.y.now a.x c.before.before.before.if-x.true _ c.before.before.mark.ensures c.if-x-mark.true

returns-2 : tie.Need-returns-then-x
returns-2 c = let a = c.before.before.before.before.before.before.args in displaced-high a.width a.c a.y.now a.x c.before.before.before.before.if-x.true _ c.before.before.before.mark.ensures c.before.if-x-mark.false

returns-3 : tie.Need-returns
returns-3 c = let a = c.before.before.args in not-displaced a.width a.c a.y.now a.x c.if-x.false

pub wrong_displacement_spec : {M : Type 1} → statement M
wrong_displacement_spec = tie.close (tie.spec (λ c κs. search rules) returns (λ c. search rules) returns-2 returns-3)
