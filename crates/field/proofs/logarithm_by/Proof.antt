-- `field::logarithm_by` meets its contract, by the table's rule.
use native.Mathlib.Omega.{arith}
use borrow.Author.Rules.{rules}
use Rattle.field.proofs.logarithm_by.Statement.{statement}
use Rattle.field.proofs.logarithm_by.Tie as tie

cast-result : tie.Need-overflow_cast-result-2
cast-result c = omega (arith, c.before.before.requires.0.small c.before.before.args.x c.before.before.requires.1 c.before.before.ranges.x.fits)

returns : tie.Need-returns
returns c = (
  c.before.before.requires.0.small c.before.before.args.x c.before.before.requires.1 c.before.before.ranges.x.fits,
  c.before.before.requires.0.entry c.before.before.args.x c.before.before.requires.1 c.before.before.ranges.x.fits,
)

pub logarithm_by_spec : {M : Type 1} → statement M
logarithm_by_spec = tie.close (tie.spec (λ c. search rules) cast-result returns)
