use Rattle.std.proofs.Common.{◌≡◌, ◌<◌, refl, arith, rules}
use Rattle.elimination.specs.Elimination.{begun, beside}
use Rattle.elimination.proofs.Solving.{chain_next, solved-full}
use Rattle.elimination.proofs.Steps.{pivot-beside, right-column, reduce-beside}
use Rattle.elimination.proofs.eliminate.Goals as goal

pub loop-k-init : goal.loop-k-init
loop-k-init c = (search rules, search rules, begun)

pub loop-k-preserved : goal.loop-k-preserved
loop-k-preserved c =
    let l = c.loop-k in
    let p = c.pivot-p.result in
    let d : ¬ (c.pivot-p.result ≡ 4) = c.if-p-eq4.false in
    let b : c.pivot-p.result < 4 = omega arith in (
      c.reduce-next.ensures.tall,
      c.reduce_right-next_right.ensures.long,
      chain_next _ (beside l.rows l.right) _ l.k p l.invariant.2 c.loop-k-test.true d refl (pivot-beside l.rows l.right l.k p c.loop-k-test.true c.pivot-p.ensures)
          (reduce-beside l.rows _ l.right _ l.k p l.invariant.0 l.invariant.1 c.loop-k-test.true b c.reduce-next.ensures c.reduce_right-next_right.ensures),
    )

pub returns : goal.returns
returns c = solved-full _ (beside c.loop-k.rows c.loop-k.right) c.loop-k.k _ c.loop-k.invariant.2 (omega arith) (right-column c.loop-k.rows c.loop-k.right c.loop-k.invariant.1)
