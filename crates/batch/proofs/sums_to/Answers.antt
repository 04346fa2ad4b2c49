use Rattle.std.proofs.Common.{sym, arith}
use Rattle.batch.proofs.Sums.{same_test, none_left}
use Rattle.pieces.proofs.Cutting.{total-drop}
use Rattle.pieces.specs.Pieces.{total}
use borrow.Author.Tests.{ne_eqb}
use Rattle.batch.proofs.sums_to.Goals as goal

pub returns-then-left-n : goal.returns-then-left-n
returns-then-left-n c =
    let d = total-drop c.args.lengths.now c.loop-n.n-index c.loop-n-test.true in
    sym (ne_eqb (total c.args.lengths.now) c.args.bytes (λ q. omega (arith, q, d, c.loop-n.invariant, c.if-left-n.true)))

pub loop-n-preserved : goal.loop-n-preserved
loop-n-preserved c =
    let d = total-drop c.args.lengths.now c.loop-n.n-index c.loop-n-test.true in
    omega (arith, d, c.loop-n.invariant)

pub returns : goal.returns
returns c =
    let z = none_left c.args.lengths.now c.loop-n.n-index c.loop-n-test.false in
    same_test c.loop-n.left (total c.args.lengths.now) c.args.bytes (omega (arith, z, c.loop-n.invariant))
