-- `crc::fold64` meets its contract.
use native.Mathlib.Omega.{arith}
use mathlib.Core.Path.{refl}
use borrow.Author.Rules.{rules}
use Rattle.crc.specs.Ring.{over, within, folded}
use Rattle.crc.proofs.Folding.{folded-lt}
use Rattle.crc.proofs.fold64.Statement.{statement}
use Rattle.crc.proofs.fold64.Tie as tie

returns : tie.Need-returns
unfolding folded within over
returns c = (refl, folded-lt 64 32 32 24 40 (λ v. (omega arith, omega arith)) c.args.h c.args.l c.ranges.h.fits c.ranges.l.fits)

pub fold64_spec : {M : Type 1} → statement M
fold64_spec = tie.close (tie.spec (λ c. search rules) (λ c. search rules) returns)
