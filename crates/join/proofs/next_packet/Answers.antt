use Rattle.std.proofs.Common.{sym, ◌∙◌}
use Rattle.join.proofs.Scanning.{numbers-next}
use Rattle.join.proofs.next_packet.Goals as goal

pub loop-i-preserved : goal.loop-i-preserved
loop-i-preserved c = numbers-next c.args.log.now c.loop-i.i c.loop-i-test.true (sym c.is_packet.ensures ∙ c.if-is_packet.false) ∙ c.loop-i.invariant
