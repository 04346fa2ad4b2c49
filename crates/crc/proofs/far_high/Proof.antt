use mathlib.Core.Path.{refl}
use lib.Bits.{xor_lt}
use Rattle.crc.specs.Ring.{far_high}
use Rattle.crc.proofs.Ring.{high_fits}
use borrow.Author.Rules.{rules}
use Rattle.crc.proofs.far_high.Statement.{statement}
use Rattle.crc.proofs.far_high.Tie as tie

add-result : tie.Need-overflow_add-result
add-result c = record { fits = high_fits 2 62 c.args.h c.args.l c.ranges.l.fits }

returns : tie.Need-returns
unfolding far_high
returns c = (refl, xor_lt 64 _ c.args.a (high_fits 2 62 c.args.h c.args.l c.ranges.l.fits) c.ranges.a.fits)

pub far_high_spec : {M : Type 1} → statement M
far_high_spec = tie.close (tie.spec (λ c. search rules) add-result returns)
