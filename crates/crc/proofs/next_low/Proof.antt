use native.Mathlib.Omega.{arith}
use mathlib.Core.Path.{refl}
use lib.Bits.{xor_lt}
use Rattle.crc.specs.Ring.{next_low}
use Rattle.crc.proofs.Ring.{low_fits, top-fits}
use borrow.Author.Rules.{rules}
use Rattle.crc.proofs.next_low.Statement.{statement}
use Rattle.crc.proofs.next_low.Tie as tie

returns : tie.Need-returns
unfolding next_low
returns c = (refl, xor_lt 64 _ c.args.b (xor_lt 64 _ _ (low_fits 1 63 c.args.l) (top-fits 1 63 c.args.h (omega arith) c.ranges.h.fits)) c.ranges.b.fits)

pub next_low_spec : {M : Type 1} → statement M
next_low_spec = tie.close (tie.spec (λ c. search rules) (λ c. search rules) returns)
