use Rattle.reassembly.specs.Run.{partial_of}
use Rattle.reassembly.proofs.Laws.{same_outcome, same-room, not_taken, alone, missing, together}
use native.Mathlib.Omega.{arith}
use borrow.Author.Rules.{rules}
use Rattle.reassembly.proofs.one_piece.Statement.{statement}
use Rattle.reassembly.proofs.one_piece.Tie as tie

drop-noted-requires : tie.Need-drop_noted-requires
drop-noted-requires c κs =
    let p = c.before.before.before.before.before in
    let a = p.args in
    (omega arith, same-room a.run.at a.log.now (not_taken a.n a.k a.continues a.ends (partial_of a.run.held a.run.number a.carry.now) a.piece.now a.cause c.before.if-cause-ne0.true) p.requires.1.1.1.1)

returns : tie.Need-returns-then-cause-ne0
returns c =
    let p = c.before.before.before.before.before.before.before.before in
    let a = p.args in
    same_outcome (not_taken a.n a.k a.continues a.ends (partial_of a.run.held a.run.number a.carry.now) a.piece.now a.cause c.before.before.before.before.if-cause-ne0.true) (c.before.before.drop_noted.ensures a.carry.now)

finish-requires : tie.Need-finish-requires
finish-requires c κs =
    let p = c.before.before.before.before.before.before.before in
    let a = p.args in
    (omega arith, (omega arith, (omega arith, (omega arith, same-room a.run.at a.log.now (alone a.n a.k a.continues a.ends (partial_of a.run.held a.run.number a.carry.now) a.piece.now a.cause c.before.before.before.if-cause-ne0.false (c.before.before.if-not-continues.true)) p.requires.1.1.1.1))))

returns-2 : tie.Need-returns-then-not-continues
returns-2 c =
    let p = c.before.before.before.before.before.before.before.before.before.before.before.before in
    let a = p.args in
    same_outcome (alone a.n a.k a.continues a.ends (partial_of a.run.held a.run.number a.carry.now) a.piece.now a.cause c.before.before.before.before.before.before.before.before.if-cause-ne0.false (c.before.before.before.before.before.before.before.if-not-continues.true)) c.before.before.before.before.finish.ensures

drop-noted-requires-2 : tie.Need-drop_noted-requires-then-held-eq0
drop-noted-requires-2 c κs =
    let p = c.before.before.before.before.before.before.before in
    let a = p.args in
    (omega arith, same-room a.run.at a.log.now (missing a.n a.k a.run.number a.continues a.ends a.cause a.run.held a.carry.now a.piece.now c.before.before.before.if-cause-ne0.false (c.before.before.if-not-continues.false) c.before.if-held-eq0.true) p.requires.1.1.1.1)

returns-3 : tie.Need-returns-then-held-eq0
returns-3 c =
    let p = c.before.before.before.before.before.before.before.before.before.before in
    let a = p.args in
    same_outcome (missing a.n a.k a.run.number a.continues a.ends a.cause a.run.held a.carry.now a.piece.now c.before.before.before.before.before.before.if-cause-ne0.false (c.before.before.before.before.before.if-not-continues.false) c.before.before.before.before.if-held-eq0.true) (c.before.before.drop_noted-then-held-eq0.ensures a.carry.now)

finish-requires-2 : tie.Need-finish-requires-2
finish-requires-2 c κs =
    let p = c.before.before.before.before.before.before.before.before in
    let a = p.args in
    (omega arith, (omega arith, (omega arith, (omega arith, same-room a.run.at a.log.now (together a.n a.k a.run.number a.continues a.ends a.cause a.run.held a.carry.now a.piece.now c.before.before.before.before.if-cause-ne0.false (c.before.before.before.if-not-continues.false) c.before.before.if-held-eq0.false) p.requires.1.1.1.1))))

returns-4 : tie.Need-returns
returns-4 c =
    let p = c.before.before.before.before.before.before.before.before.before.before.before.before.before in
    let a = p.args in
    same_outcome (together a.n a.k a.run.number a.continues a.ends a.cause a.run.held a.carry.now a.piece.now c.before.before.before.before.before.before.before.before.before.if-cause-ne0.false (c.before.before.before.before.before.before.before.before.if-not-continues.false) c.before.before.before.before.before.before.before.if-held-eq0.false) c.before.before.before.before.finish-2.ensures

pub one_piece_spec : {M : Type 1} → statement M
one_piece_spec =
    tie.close (tie.spec drop-noted-requires (λ c. search rules) returns finish-requires (λ c. search rules) (λ c. search rules) returns-2 drop-noted-requires-2
    (λ c. search rules) returns-3 finish-requires-2 (λ c. search rules) (λ c. search rules) returns-4)
