use Rattle.pdu.proofs.Filling.{filled-start}
use Rattle.receiver.proofs.marks_of.Goals as goal

pub loop-k-init : goal.loop-k-init
loop-k-init c = filled-start _
