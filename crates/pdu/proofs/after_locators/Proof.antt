use Prim.Native.Nat.{◌-◌}
use borrow.Author.Rules.{rules}
use Rattle.pdu.proofs.Judging.{after-right}
use Rattle.pdu.proofs.after_locators.Statement.{statement}
use Rattle.pdu.proofs.after_locators.Tie as tie

returns : tie.Need-returns
returns c = let a = c.before.args in after-right a.width a.nop _ c.before.ranges.nop.fits c.locator_size.ensures

pub after_locators_spec : {M : Type 1} → statement M
after_locators_spec = tie.close (tie.spec (λ c κs. search rules) (λ c. search rules) (λ c. search rules) returns)
