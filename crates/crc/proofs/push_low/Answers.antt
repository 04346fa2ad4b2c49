use Rattle.std.proofs.Common.{arith, refl}
use lib.Bits.{xor_lt}
use Rattle.crc.specs.Ring.{push_low}
use Rattle.crc.proofs.Ring.{sum_fits, top-fits}
use Rattle.crc.proofs.push_low.Goals as goal

pub returns : goal.returns
unfolding push_low
returns c = rw c.from.ensures (refl, xor_lt 64 _ _ (sum_fits 8 56 c.args.l c.args.b c.ranges.b.fits) (top-fits 8 56 c.args.h (omega arith) c.ranges.h.fits))
