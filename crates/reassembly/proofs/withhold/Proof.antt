use Rattle.reassembly.specs.Run.{Parsed}
use Rattle.reassembly.proofs.Whole.{note-room, continuing-room, continuing-did}
use native.Mathlib.Omega.{arith}
use Rattle.reassembly.proofs.withhold.Statement.{statement}
use Rattle.reassembly.proofs.withhold.Tie as tie

put-note-requires : tie.Need-put_note-m-requires
put-note-requires c κs =
    let p = c.before.before.before.before in
    let a = p.args in
    (omega arith, note-room a.head a.marks a.causes a.pdu.now a.run a.carry.now a.log.now p.requires.0.0 p.requires.0.1 p.requires.1.0 p.requires.1.1.1)

add-t13 : tie.Need-overflow_add-next
add-t13 c =
    let p = c.before.before.before.before.before.before.before in
    let a = p.args in
    omega (arith, c.before.before.put_note-m.ensures.0, note-room a.head a.marks a.causes a.pdu.now a.run a.carry.now a.log.now p.requires.0.0 p.requires.0.1 p.requires.1.0 p.requires.1.1.1)

continuing-requires : tie.Need-continuing-requires
continuing-requires c κs =
    let p = c.before.before.before.before.before.before.before.before.before in
    let a = p.args in
    let w : Parsed a.head a.pdu.now a.marks = p.requires.1.1.0 in
    let x = c.before.before.before.before.put_note-m in
    (p.requires.0, (p.requires.1.0, (w.size, (w.marked, continuing-room a.head a.marks a.causes a.pdu.now a.run a.carry.now a.log.now p.requires.0.0 p.requires.0.1 p.requires.1.0 p.requires.1.1.1 x.new.log x.result x.auto.log x.ensures.0 x.ensures.1))))

same_length : tie.Need-shape_of-carry
same_length c = omega (arith, c.before.before.before.before.continuing.auto.carry)

same-length-2 : tie.Need-shape_of-log
same-length-2 c = omega (arith, c.before.before.before.before.before.before.before.before.before.put_note-m.auto.log, c.before.before.before.before.continuing.auto.log)

returns : tie.Need-returns
returns c =
    let p = c.before.before.before.before.before.before.before.before.before.before.before.before.before.before in
    let a = p.args in
    let x = c.before.before.before.before.before.before.before.before.before.put_note-m in
    let q = c.before.before.before.before.continuing in
    continuing-did a.head a.marks a.causes a.pdu.now a.run a.carry.now a.log.now p.requires.0.0 p.requires.0.1 p.requires.1.0 p.requires.1.1.1 x.new.log x.result x.auto.log x.ensures.0 x.ensures.1 q.new.carry q.new.log q.result q.ensures

pub withhold_spec : {M : Type 1} → statement M
withhold_spec = tie.close (tie.spec put-note-requires add-t13 continuing-requires same_length same-length-2 returns)
