use Rattle.layout.specs.Control.{piece_number}
use Rattle.reassembly.proofs.Laws.{did_nothing, same_outcome, same-room}
use Rattle.reassembly.proofs.Whole.{none-held, no-piece, one_piece}
use native.Mathlib.Omega.{arith}
use borrow.Author.Rules.{rules}
use Rattle.reassembly.proofs.continuing.Statement.{statement}
use Rattle.reassembly.proofs.continuing.Tie as tie

returns : tie.Need-returns-then-run-eq0
returns c =
    let p = c.before.before.before.before.before in
    let a = p.args in
    same_outcome (none-held (piece_number a.head.pfirst a.head.start 0) a.head.plast a.run.held a.run.number a.head.nop a.carry.now a.pdu.now a.marks a.causes (omega (arith, c.if-run-eq0.true))) (did_nothing a.run a.carry.now a.log.now (omega (arith, p.requires.0.0, p.requires.1.0)) p.requires.0.1)

returns-2 : tie.Need-returns-then-head-eq0
returns-2 c =
    let p = c.before.before.before.before.before.before.before in
    let a = p.args in
    same_outcome (no-piece (piece_number a.head.pfirst a.head.start 0) a.head.plast a.run.held a.run.number a.head.nop a.carry.now a.pdu.now a.marks a.causes c.if-head-eq0.true) (did_nothing a.run a.carry.now a.log.now (omega (arith, p.requires.0.0, p.requires.1.0)) p.requires.0.1)

piece-at-requires : tie.Need-piece_at-requires
piece-at-requires c κs =
    let p = c.before.before.before.before.before.before.before.before.before in
    let a = p.args in
    let some = c.before.before.if-head-eq0.false in
    (p.requires.0.0, (p.requires.1.0, (p.requires.1.1.0, ((omega (arith, some), p.requires.1.1.1.0), same-room a.run.at a.log.now (one_piece (piece_number a.head.pfirst a.head.start 0) a.head.plast a.run.held a.run.number a.head.nop a.carry.now a.pdu.now a.marks a.causes (omega (arith, c.before.before.before.before.if-run-eq0.false)) some) p.requires.1.1.1.1))))

returns-3 : tie.Need-returns
returns-3 c =
    let p = c.before.before.before.before.before.before.before.before.before.before.before.before.before.before in
    let a = p.args in
    same_outcome (one_piece (piece_number a.head.pfirst a.head.start 0) a.head.plast a.run.held a.run.number a.head.nop a.carry.now a.pdu.now a.marks a.causes (omega (arith, c.before.before.before.before.before.before.before.before.before.if-run-eq0.false)) c.before.before.before.before.before.before.before.if-head-eq0.false) c.before.before.before.before.piece_at.ensures

pub continuing_spec : {M : Type 1} → statement M
continuing_spec = tie.close (tie.spec returns returns-2 (λ c. omega arith) piece-at-requires (λ c. search rules) (λ c. search rules) returns-3)
