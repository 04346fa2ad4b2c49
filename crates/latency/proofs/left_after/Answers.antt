use Rattle.std.proofs.Common.{refl, arith}
use Rattle.latency.specs.Latency.{left}
use Rattle.latency.proofs.Ticks.{turn-fits, turn-left}
use Rattle.latency.proofs.left_after.Goals as goal

pub loop-t-init : goal.loop-t-init
unfolding left
loop-t-init c = refl

pub overflow_add-waiting : goal.overflow_add-waiting
overflow_add-waiting c =
    let a = c.args in
    let l = c.loop-t in
    omega (arith, turn-fits a.n a.counts.now a.v l.t l.kept c.added.result l.invariant c.added.ensures c.requires.tried (omega arith))

pub loop-t-preserved : goal.loop-t-preserved
loop-t-preserved c =
    let a = c.args in
    let l = c.loop-t in
    turn-left a.n a.counts.now a.v l.t l.kept c.added.result l.invariant c.added.ensures c.taken.result c.taken.ensures.0
