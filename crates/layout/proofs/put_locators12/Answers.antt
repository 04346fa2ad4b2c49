use Rattle.std.proofs.Common.{◌≡◌, ◌*◌, ◌+◌, ◌/◌, length, arith}
use Rattle.layout.proofs.LocatorWriting.{turn12, last12, done, none12}
use Rattle.layout.proofs.put_locators12.Goals as goal

pub loop-j-preserved : goal.loop-j-preserved
loop-j-preserved c =
    rw (c.byte_from.ensures, c.middle.ensures, c.byte_from-in-loop-j.ensures)
    (turn12 c.loop-j.pdu c.args.locators.now _ c.loop-j.j (omega arith) (omega arith) c.loop-j.invariant)

pub returns-then-locators-eq0 : goal.returns-then-locators-eq0
returns-then-locators-eq0 c = done c.loop-j.pdu _ _ (14 + 3 * c.loop-j.j) (none12 c.args.locators.now (2 * c.loop-j.j) (omega arith)) c.loop-j.invariant

pub returns : goal.returns
returns c =
    let e : c.loop-j.j ≡ length c.args.locators.now / 2 = omega arith in
    rw (c.byte_from-2.ensures, c.middle-2.ensures)
    (last12 c.loop-j.pdu c.args.locators.now _ (length c.args.locators.now / 2) (omega arith) (omega arith) (rw e at c.loop-j.invariant))
