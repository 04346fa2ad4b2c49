use mathlib.Core.Path.{refl}
use Rattle.crc.specs.Ring.{push_high}
use Rattle.crc.proofs.Ring.{high_fits}
use borrow.Author.Rules.{rules}
use Rattle.crc.proofs.push_high.Statement.{statement}
use Rattle.crc.proofs.push_high.Tie as tie

add-result : tie.Need-overflow_add-result
add-result c = record { fits = high_fits 8 56 c.args.h c.args.l c.ranges.l.fits }

returns : tie.Need-returns
unfolding push_high
returns c = (refl, high_fits 8 56 c.args.h c.args.l c.ranges.l.fits)

pub push_high_spec : {M : Type 1} → statement M
push_high_spec = tie.close (tie.spec (λ c. search rules) add-result returns)
