use Prim.Native.Nat.{◌-◌}
use borrow.Author.Rules.{rules}
use Rattle.pdu.proofs.Judging.{mark-first, mark-later}
use Rattle.pdu.proofs.mark.Statement.{statement}
use Rattle.pdu.proofs.mark.Tie as tie

returns : tie.Need-returns-then-k-eq0
returns c = let a = c.before.before.before.args in mark-first a.width a.c a.y.now a.k c.before.if-k-eq0.true

returns-2 : tie.Need-returns
returns-2 c = let a = c.before.before.before.args in mark-later a.width a.c a.y.now a.k _ c.before.if-k-eq0.false c.locator.ensures

pub mark_spec : {M : Type 1} → statement M
mark_spec = tie.close (tie.spec (λ c. search rules) returns (λ c. search rules) (λ c κs. search rules) returns-2)
