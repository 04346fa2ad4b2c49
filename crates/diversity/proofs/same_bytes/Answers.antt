use Rattle.std.proofs.Common.{get_or, eqb, arith}
use Rattle.diversity.proofs.Bytes.{and_comm, same-lengths, same_start, same_turn, same_end}
use Rattle.diversity.proofs.same_bytes.Goals as goal

pub returns-then-a-b : goal.returns-then-a-b
returns-then-a-b c = same-lengths _ _ c.if-a-b.true

pub loop-i-init : goal.loop-i-init
loop-i-init c = record { lengths = omega (arith, c.if-a-b.false); so_far = same_start c.args.a.now c.args.b.now }

pub loop-i-preserved : goal.loop-i-preserved
loop-i-preserved c =
    let l = c.loop-i in
    let e = same_turn l.i c.args.a.now c.args.b.now l.same c.loop-i-test.true l.invariant.lengths l.invariant.so_far in
    let s = and_comm l.same (eqb (get_or c.args.a.now l.i 0) (get_or c.args.b.now l.i 0)) in
    record { lengths = l.invariant.lengths; so_far = cc (e, s) }

pub returns : goal.returns
returns c =
    let l = c.loop-i in
    same_end l.i _ _ l.same (omega arith) l.invariant.lengths l.invariant.so_far
