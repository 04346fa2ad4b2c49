use Rattle.std.proofs.Common.{ℕ, [], ◌≤◌, ◌<◌, ◌+◌, ◌-◌, length, sym, arith}
use Rattle.layout.specs.Control.{piece_number}
use Rattle.reassembly.specs.Reassembly.{Partial, Outcome, pieces_step}
use Rattle.reassembly.specs.Run.{partial_of, piece_at, pieces_from, Marked}
use Rattle.reassembly.proofs.Laws.{same_outcome, same-room}
use Rattle.reassembly.proofs.Runs.{this-is, piece-some, going_start, going-room, going-turn, going_end}
use Rattle.reassembly.proofs.pieces.Goals as goal

pub loop-k-init : goal.loop-k-init
loop-k-init c =
    let a = c.args in
    going_start (piece_number a.head.pfirst a.head.start) a.head.plast a.head.pfirst a.pdu.now a.marks a.causes a.head.nop (partial_of a.run.held a.run.number a.carry.now) a.carry.now a.log.now a.run c.requires.held_bound.0 c.requires.held_bound.1 c.requires.room

pub piece_at-cur-requires : goal.piece_at-cur-requires
piece_at-cur-requires c =
    let a = c.args in
    let o = c.loop-k in
    let k : ℕ = o.k in
    let more : k < a.head.nop = c.loop-k-test.true in
    let w : Marked a.pdu.now a.marks a.head.nop = c.requires.marked in
    let num : ℕ → ℕ = piece_number a.head.pfirst a.head.start in
    let h : Partial = partial_of o.cur.held o.cur.number o.carry in
    let whole : Outcome = pieces_step num 0 a.head.pfirst a.head.plast (partial_of a.run.held a.run.number a.carry.now) (pieces_from a.pdu.now a.marks a.causes 0 a.head.nop) in
    let some : 1 ≤ length (piece_at a.pdu.now a.marks k) = piece-some a.pdu.now a.marks a.head.nop k w more in
    let same = this-is num a.head.plast a.pdu.now a.marks a.causes k (a.head.nop - (k + 1)) o.continues h in
    let room = same-room o.cur.at o.log (sym same) (going-room num a.head.plast a.pdu.now a.marks a.causes a.head.nop k a.run.at o.continues whole a.carry.now a.log.now o.carry o.log [] [] o.cur o.cur more some o.invariant) in
    record { held_bound = o.invariant.small; in_bounds = omega (arith, c.requires.in_bounds, o.auto.carry); pdu_len_bound = c.requires.pdu_len_bound; k_lt_nop = (more, w); room = room }

pub loop-k-preserved : goal.loop-k-preserved
loop-k-preserved c =
    let a = c.args in
    let o = c.loop-k in
    let k : ℕ = o.k in
    let more : k < a.head.nop = c.loop-k-test.true in
    let w : Marked a.pdu.now a.marks a.head.nop = c.requires.marked in
    let num : ℕ → ℕ = piece_number a.head.pfirst a.head.start in
    let h : Partial = partial_of o.cur.held o.cur.number o.carry in
    let whole : Outcome = pieces_step num 0 a.head.pfirst a.head.plast (partial_of a.run.held a.run.number a.carry.now) (pieces_from a.pdu.now a.marks a.causes 0 a.head.nop) in
    let some : 1 ≤ length (piece_at a.pdu.now a.marks k) = piece-some a.pdu.now a.marks a.head.nop k w more in
    let same = this-is num a.head.plast a.pdu.now a.marks a.causes k (a.head.nop - (k + 1)) o.continues h in
    let q = c.piece_at-cur in
    going-turn num a.head.plast a.pdu.now a.marks a.causes a.head.nop k a.run.at o.continues whole a.carry.now a.log.now o.carry o.log q.new.carry q.new.log o.cur q.result more some q.auto.carry q.auto.log o.invariant (same_outcome (sym same) q.ensures)

pub returns : goal.returns
returns c =
    let a = c.args in
    let o = c.loop-k in
    going_end (piece_number a.head.pfirst a.head.start) a.head.plast o.continues a.pdu.now a.marks a.causes a.head.nop o.k a.run.at _ a.carry.now a.log.now o.carry o.log o.cur c.loop-k-test.false c.requires.in_bounds o.invariant
