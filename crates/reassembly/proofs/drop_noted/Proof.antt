use Rattle.packet_log.specs.Log.{note}
use Rattle.reassembly.specs.Reassembly.{dropped}
use Rattle.reassembly.proofs.Laws.{room-entry, did-log}
use native.Mathlib.Omega.{arith}
use mathlib.Core.Path.{refl}
use borrow.Author.Rules.{rules}
use Rattle.reassembly.proofs.drop_noted.Statement.{statement}
use Rattle.reassembly.proofs.drop_noted.Tie as tie

put-note-requires : tie.Need-put_note-m-requires
put-note-requires c κs =
    let p = c.before.before in
    let a = p.args in
    (omega arith, room-entry (dropped a.cause a.piece) (note a.cause a.piece) a.at a.log.now refl p.requires.1)

add-t8 : tie.Need-overflow_add-result
add-t8 c =
    let p = c.before.before.before.before.before in
    let a = p.args in
    omega (arith, c.before.before.put_note-m.ensures.0, room-entry (dropped a.cause a.piece) (note a.cause a.piece) a.at a.log.now refl p.requires.1)

returns : tie.Need-returns
returns c =
    let p = c.before.before.before.before.before in
    let a = p.args in
    let q = c.before.before.put_note-m in
    λ cs. did-log (note a.cause a.piece) a.at q.result cs a.log.now _ q.ensures.0 q.ensures.1

pub drop_noted_spec : {M : Type 1} → statement M
drop_noted_spec = tie.close (tie.spec put-note-requires add-t8 (λ c. search rules) returns)
