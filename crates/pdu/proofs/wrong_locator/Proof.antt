use native.Mathlib.Omega.{arith}
use Prim.Native.Nat.{◌-◌}
use borrow.Author.Rules.{rules}
use Rattle.pdu.proofs.Judging.{locator-low, locator-high}
use Rattle.pdu.proofs.wrong_locator.Statement.{statement}
use Rattle.pdu.proofs.wrong_locator.Tie as tie

returns : tie.Need-returns-then-l-before
returns c = let a = c.before.before.before.before.args in locator-low a.width a.c a.y.now a.k _ _ c.before.before.locator-l.ensures c.before.mark-before.ensures (omega (arith, c.if-l-before.true))

returns-2 : tie.Need-returns
returns-2 c = let a = c.before.before.before.before.args in locator-high a.width a.c a.y.now a.k _ _ c.before.before.locator-l.ensures c.before.mark-before.ensures (omega (arith, c.if-l-before.false))

pub wrong_locator_spec : {M : Type 1} → statement M
wrong_locator_spec =
    tie.close (tie.spec (λ c κs. search rules) (λ c. search rules) (λ c κs. search rules) (λ c. search rules) (λ c. search rules) (λ c. search rules) returns
    returns-2)
