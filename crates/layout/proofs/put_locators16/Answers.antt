use Rattle.std.proofs.Common.{◌*◌, ◌+◌, arith}
use Rattle.layout.proofs.LocatorWriting.{turn16, done, none16}
use Rattle.layout.proofs.put_locators16.Goals as goal

pub loop-k-preserved : goal.loop-k-preserved
loop-k-preserved c =
    rw (c.byte_from.ensures, c.byte_from-in-loop-k.ensures) (turn16 c.loop-k.pdu c.args.locators.now _ c.loop-k.k (omega arith) c.loop-k-test.true c.loop-k.invariant)

pub returns : goal.returns
returns c = done c.loop-k.pdu _ _ (14 + 2 * c.loop-k.k) (none16 c.args.locators.now c.loop-k.k c.loop-k-test.false) c.loop-k.invariant
