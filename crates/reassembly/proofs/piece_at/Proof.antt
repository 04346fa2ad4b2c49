use Rattle.layout.specs.Control.{piece_number}
use Rattle.reassembly.specs.Run.{partial_of, ends_at, Marked}
use Rattle.reassembly.proofs.Laws.{same_outcome, same-room}
use Rattle.reassembly.proofs.Runs.{piece_is, part_small}
use native.Mathlib.Omega.{arith}
use mathlib.Core.Path.{◌≡◌, sym}
use Prim.Native.Nat.{ℕ, ◌+◌, ◌-◌, ◌≤◌, ◌<◌}
use lib.ListN.{length, get_or}
use mathlib.Core.List.{List}
use borrow.Author.Rules.{rules}
use Rattle.reassembly.proofs.piece_at.Statement.{statement}
use Rattle.reassembly.proofs.piece_at.Tie as tie

marked : (p : tie.Start) → Marked p.args.pdu.now p.args.marks p.args.head.nop
marked p = p.requires.1.1.1.0.1

-- the piece's bytes lie within the PDU
within : (p : tie.Start) (l r : ℕ) → l ≡ get_or p.args.marks p.args.k 0 → r ≡ get_or p.args.marks (p.args.k + 1) 0 → (l + 1 ≤ r) × (r ≤ length p.args.pdu.now)
within p l r e f =
    let more : p.args.k < p.args.head.nop = p.requires.1.1.1.0.0 in
    let up = (marked p).rising p.args.k more in
    let inside = (marked p).within p.args.k more in
    (omega (arith, up, e, f), omega (arith, inside, f))

add_a : tie.Need-overflow_add-a
add_a c =
    let p = c.before.before.before.before in
    let more : p.args.k < p.args.head.nop = p.requires.1.1.1.0.0 in
    omega (arith, (marked p).rising p.args.k more, (marked p).within p.args.k more, c.from-a.ensures)

one-piece-requires : tie.Need-one_piece-requires
one-piece-requires c κs =
    let p = c.before.before.before.before.before.before.before.before.before.before.before in
    let a = p.args in
    let m : List ℕ = a.marks in
    let more : a.k < a.head.nop = p.requires.1.1.1.0.0 in
    let w : Marked a.pdu.now m a.head.nop = p.requires.1.1.1.0.1 in
    let l = c.before.before.before.before.before.before.before.from-a in
    let r = c.before.before.before.before.before.before.from-e in
    let n = c.before.before.before.before.before.piece_number-n in
    let e = c.before.before.before.ends_here-ends in
    let same = piece_is a.pdu.now m a.k a.cause l.result r.result n.result (piece_number a.head.pfirst a.head.start a.k) a.continues e.result (ends_at a.head.plast (a.head.nop - (a.k + 1))) (partial_of a.run.held a.run.number a.carry.now) l.ensures r.ensures n.ensures e.ensures in
    let len = part_small a.pdu.now m a.head.nop a.k l.result r.result w more l.ensures r.ensures in
    (p.requires.0, (p.requires.1.0, (omega (arith, w.few), (omega (arith, len, p.requires.1.1.0), same-room a.run.at a.log.now (sym same) p.requires.1.1.1.1))))

returns : tie.Need-returns
returns c =
    let p = c.before.before.before.before.before.before.before.before.before.before.before.before.before.before.before.before in
    let a = p.args in
    let m : List ℕ = a.marks in
    let l = c.before.before.before.before.before.before.before.before.before.before.before.before.from-a in
    let r = c.before.before.before.before.before.before.before.before.before.before.before.from-e in
    let n = c.before.before.before.before.before.before.before.before.before.before.piece_number-n in
    let e = c.before.before.before.before.before.before.before.before.ends_here-ends in
    let same = piece_is a.pdu.now m a.k a.cause l.result r.result n.result (piece_number a.head.pfirst a.head.start a.k) a.continues e.result (ends_at a.head.plast (a.head.nop - (a.k + 1))) (partial_of a.run.held a.run.number a.carry.now) l.ensures r.ensures n.ensures e.ensures in
    same_outcome (sym same) c.before.before.before.before.one_piece.ensures

pub piece_at_spec : {M : Type 1} → statement M
piece_at_spec =
    tie.close (tie.spec (λ c. omega (arith, (marked c.before.before.before).few)) (λ c. omega (arith, (marked c.before.before.before).few))
    (λ c κs. search rules) add_a (λ c. omega (arith, (marked c.before.before.before.before).few))
    (λ c. omega (arith, (marked c.before.before.before.before).few)) (λ c. omega (arith, (marked c.before.before.before.before).few))
    (λ c κs. search rules) (λ c κs. omega (arith, (marked c.before.before.before.before.before).few))
    (λ c. omega (arith, (marked c.before.before.before.before.before.before).few))
    (λ c. omega (arith, c.before.before.before.before.before.before.before.requires.1.1.1.0.0)) (λ c κs. search rules)
    (λ c. omega (arith, within c.before.before.before.before.before.before.before.before _ _ c.before.before.before.before.from-a.ensures c.before.before.before.from-e.ensures))
    (λ c. omega (arith, within c.before.before.before.before.before.before.before.before _ _ c.before.before.before.before.from-a.ensures c.before.before.before.from-e.ensures))
    (λ c. omega (arith, within c.before.before.before.before.before.before.before.before _ _ c.before.before.before.before.from-a.ensures c.before.before.before.from-e.ensures))
    one-piece-requires (λ c. search rules) (λ c. search rules) returns)
