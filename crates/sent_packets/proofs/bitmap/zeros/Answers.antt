use Rattle.std.proofs.Common.{refl, arith, add-one}
use Rattle.sent_packets.specs.Bitmap.{zeros_below}
use Rattle.sent_packets.proofs.bitmap.zeros.Goals as goal

pub loop-index-init : goal.loop-index-init
unfolding zeros_below
loop-index-init c = record { bound = omega arith; value = refl }

pub loop-index-preserved : goal.loop-index-preserved
unfolding zeros_below
loop-index-preserved c = record { bound = omega arith; value = rw add-one (cc) }
