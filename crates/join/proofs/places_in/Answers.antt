use Rattle.join.proofs.Places.{places-begin}
use Rattle.join.proofs.places_in.Goals as goal

pub loop-i-init : goal.loop-i-init
loop-i-init c = places-begin c.args.log.now
