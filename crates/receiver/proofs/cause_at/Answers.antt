use Rattle.receiver.proofs.Marks.{cause-right, cause-wrong}
use Rattle.receiver.proofs.cause_at.Goals as goal

pub returns-then-crc-y : goal.returns-then-crc-y
returns-then-crc-y c =
    let a = c.args in
    cause-right a.register a.y.now a.marks a.k c.from-a.result c.from-e.result c.crc8_from-crc.result c.from-a.ensures c.from-e.ensures c.crc8_from-crc.ensures c.if-crc-y.true

pub returns : goal.returns
returns c =
    let a = c.args in
    cause-wrong a.register a.y.now a.marks a.k c.from-a.result c.from-e.result c.crc8_from-crc.result c.from-a.ensures c.from-e.ensures c.crc8_from-crc.ensures c.if-crc-y.false
