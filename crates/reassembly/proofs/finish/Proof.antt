use lib.Seq.{length-take-le}
use Rattle.reassembly.proofs.Laws.{long-room, long-did, ended-room, ended-did, held-did}
use native.Mathlib.Omega.{arith}
use mathlib.Core.Path.{◌≡◌, sym}
use lib.ListN.{length, take}
use borrow.Author.Rules.{rules}
use Rattle.reassembly.proofs.finish.Statement.{statement}
use Rattle.reassembly.proofs.finish.Tie as tie

drop-noted-requires : tie.Need-drop_noted-requires
drop-noted-requires c κs =
    let p = c.before.before.before.before.before in
    let a = p.args in
    (omega arith, long-room a.n a.k a.ends a.from a.at a.carry.now a.piece.now a.log.now p.requires.0 p.requires.1.0 (omega arith) p.requires.1.1.1.1)

returns : tie.Need-returns-then-total-gt4096
returns c =
    let p = c.before.before.before.before.before.before.before.before in
    let a = p.args in
    let q = c.before.before.drop_noted in
    long-did a.n a.k a.ends a.from a.at a.carry.now a.piece.now a.log.now p.requires.0 p.requires.1.0 _ q.result (omega arith) (q.ensures a.carry.now)

slice-aggregate-put-packet : tie.Need-slice_bounds-put_packet-end-then-ends
slice-aggregate-put-packet c =
    let p = c.before.before.before.before.before.before in
    let a = p.args in
    sym (length-take-le a.from a.carry.now (omega arith))

put-packet-requires : tie.Need-put_packet-m-requires
put-packet-requires c κs =
    let p = c.before.before.before.before.before.before in
    let a = p.args in
    let l : length (take a.from a.carry.now) ≡ a.from = length-take-le a.from a.carry.now (omega arith) in
    (omega (arith, l), ended-room a.n a.k a.ends a.from a.at a.carry.now a.piece.now a.log.now p.requires.0 p.requires.1.0 c.before.if-ends.true (omega arith) p.requires.1.1.1.1)

add-t19 : tie.Need-overflow_add-result
add-t19 c =
    let p = c.before.before.before.before.before.before.before.before.before in
    let a = p.args in
    omega (arith, c.before.before.put_packet-m.ensures.0, ended-room a.n a.k a.ends a.from a.at a.carry.now a.piece.now a.log.now p.requires.0 p.requires.1.0 c.before.before.before.before.if-ends.true (omega arith) p.requires.1.1.1.1)

returns-2 : tie.Need-returns-then-ends
returns-2 c =
    let p = c.before.before.before.before.before.before.before.before.before in
    let a = p.args in
    let q = c.before.before.put_packet-m in
    ended-did a.n a.k a.ends a.from a.at a.carry.now a.piece.now a.log.now p.requires.0 p.requires.1.0 q.result _ c.before.before.before.before.if-ends.true (omega arith) q.ensures.0 q.ensures.1

returns-3 : tie.Need-returns
returns-3 c =
    let p = c.before.before.before.before.before.before.before.before.before in
    let a = p.args in
    held-did a.n a.k a.ends a.from a.at a.carry.now a.piece.now a.log.now p.requires.0 p.requires.1.0 _ c.before.before.before.before.if-ends.false (omega arith) c.before.before.put_bytes.ensures

pub finish_spec : {M : Type 1} → statement M
finish_spec =
    tie.close (tie.spec (λ c. search rules) drop-noted-requires (λ c. search rules) returns (λ c. search rules) slice-aggregate-put-packet put-packet-requires
    add-t19 (λ c. search rules) (λ c. search rules) returns-2 (λ c κs. search rules) (λ c. search rules) returns-3)
