use native.Mathlib.Omega.{arith}
use Prim.Native.Nat.{◌-◌}
use borrow.Author.Rules.{rules}
use Rattle.pdu.proofs.Judging.{la-low, la-high}
use Rattle.pdu.proofs.wrong_la.Statement.{statement}
use Rattle.pdu.proofs.wrong_la.Tie as tie

returns : tie.Need-returns-then-la-after_locators
returns c = let a = c.before.before.before.before.args in la-low a.width a.c a.y.now _ c.before.after_locators.ensures.0 (omega (arith, c.if-la-after_locators.true))

returns-2 : tie.Need-returns
returns-2 c = let a = c.before.before.before.before.args in la-high a.width a.c a.y.now _ c.before.after_locators.ensures.0 (omega (arith, c.if-la-after_locators.false))

pub wrong_la_spec : {M : Type 1} → statement M
wrong_la_spec = tie.close (tie.spec (λ c. search rules) (λ c. search rules) (λ c κs. search rules) (λ c. search rules) returns returns-2)
