use Prim.Native.Nat.{◌-◌}
use borrow.Author.Rules.{rules}
use Rattle.pdu.proofs.Judging.{flagged, unflagged}
use Rattle.pdu.proofs.expansion_of.Statement.{statement}
use Rattle.pdu.proofs.expansion_of.Tie as tie

returns : tie.Need-returns-then-c
returns c = let a = c.before.before.before.before.args in flagged a.width a.c a.y.now c.before.before.if-c.true _ _ _ c.before.after_locators.ensures.0 c.read_expansion.ensures.0.0 c.read_expansion.ensures.1 c.read_expansion.ensures.0.1

returns-2 : tie.Need-returns
returns-2 c = let a = c.before.before.before.args in unflagged a.width a.c a.y.now c.before.if-c.false _ c.nothing-none.ensures

pub expansion_of_spec : {M : Type 1} → statement M
expansion_of_spec = tie.close (tie.spec (λ c κs. search rules) (λ c κs. search rules) returns (λ c κs. search rules) returns-2)
