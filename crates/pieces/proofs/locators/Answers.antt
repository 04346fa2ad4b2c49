use Rattle.std.proofs.Common.{◌+◌, ◌∙◌, get_or, arith, length-set}
use Rattle.pieces.proofs.Cutting.{total-drop, turn-locators, no-locator-left, filled}
use Rattle.pieces.proofs.locators.Goals as goal

pub overflow_add-place : goal.overflow_add-place
overflow_add-place c = omega (arith, total-drop c.args.lengths.now c.loop-k.k (omega arith))

pub overflow_add-place-in-loop-k : goal.overflow_add-place-in-loop-k
overflow_add-place-in-loop-k c = omega (arith, total-drop c.args.lengths.now c.loop-k.k (omega arith))

pub loop-k-preserved : goal.loop-k-preserved
loop-k-preserved c =
    let ls = c.args.lengths.now in
    let l = c.loop-k in record {
      size = length-set l.out l.k (l.place + get_or ls l.k 0) ∙ l.invariant.size;
      bound = omega (arith, total-drop ls l.k (omega arith));
      left = turn-locators l.out ls _ l.place l.k (omega arith) (omega arith) l.invariant.left;
    }

pub returns : goal.returns
returns c =
    let l = c.loop-k in
    let ls = c.args.lengths.now in
    (l.invariant.size, filled l.out _ ls c.args.at (no-locator-left l.out ls _ l.place l.k (omega arith) l.invariant.left))
