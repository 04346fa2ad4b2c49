-- `crc::fold8` meets its contract.
use native.Mathlib.Omega.{arith}
use mathlib.Core.Path.{refl}
use borrow.Author.Rules.{rules}
use Rattle.crc.specs.Ring.{over, within, folded}
use Rattle.crc.proofs.Folding.{folded-lt}
use Rattle.crc.proofs.fold8.Statement.{statement}
use Rattle.crc.proofs.fold8.Tie as tie

returns : tie.Need-returns
unfolding folded within over
returns c = (refl, folded-lt 8 4 4 3 5 (λ v. (omega arith, omega arith)) c.args.h c.args.l c.requires.0 c.requires.1)

pub fold8_spec : {M : Type 1} → statement M
fold8_spec = tie.close (tie.spec (λ c. search rules) (λ c. search rules) returns)
