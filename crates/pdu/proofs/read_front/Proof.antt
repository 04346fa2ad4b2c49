use native.Mathlib.Omega.{arith}
use mathlib.Core.Path.{ap}
use Rattle.expansion.specs.declared.Interpreted.{Interpreted}
use borrow.Author.Rules.{rules}
use Rattle.pdu.proofs.read_front.Statement.{statement}
use Rattle.pdu.proofs.read_front.Tie as tie

returns : tie.Need-returns
returns c =
    let x = c.before.before.before.expansion_of-x in (
      omega (arith, c.before.after_locators.ensures, x.ensures.0),
      (ap (λ (v : Interpreted). v.program) x.ensures.2, ap (λ (v : Interpreted). v.services) x.ensures.2),
    )

pub read_front_spec : {M : Type 1} → statement M
read_front_spec = tie.close (tie.spec (λ c κs. search rules) (λ c κs. search rules) (λ c. search rules) (λ c. search rules) returns)
