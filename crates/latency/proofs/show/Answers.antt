use Rattle.std.proofs.Common.{◌≡◌, ◌+◌, ◌∙◌, ap, arith}
use Rattle.latency.specs.Latency.{left}
use Rattle.latency.proofs.Ticks.{turn-waiting, turn-fits, turn-left}
use Rattle.latency.proofs.Turns.{row-turn, row-end}
use Rattle.latency.proofs.show.Goals as goal

pub overflow_add-waiting : goal.overflow_add-waiting
overflow_add-waiting c =
    let a = c.args in
    let l = c.loop-k in
    omega (arith, turn-fits a.n a.counts.now a.v (a.first + l.k) l.kept c.added.result l.invariant.waits c.added.ensures c.requires.tried (omega arith))

pub overflow_cast-row : goal.overflow_cast-row
overflow_cast-row c =
    let a = c.args in
    let l = c.loop-k in
    omega (arith, turn-fits a.n a.counts.now a.v (a.first + l.k) l.kept c.added.result l.invariant.waits c.added.ensures c.requires.tried (omega arith))

pub loop-k-preserved : goal.loop-k-preserved
loop-k-preserved c =
    let a = c.args in
    let l = c.loop-k in
    let next : a.first + l.k + 1 ≡ a.first + (l.k + 1) = omega arith in record {
      waits = turn-left a.n a.counts.now a.v (a.first + l.k) l.kept c.added.result l.invariant.waits c.added.ensures c.taken.result c.taken.ensures.0
          ∙ ap (left a.n a.counts.now a.v) next;
      shown = row-turn a.n a.counts.now a.v a.first l.k a.count _ l.row (l.kept + c.added.result) (omega arith) (omega arith)
          (turn-waiting a.n a.counts.now a.v (a.first + l.k) l.kept c.added.result l.invariant.waits c.added.ensures) l.invariant.shown;
    }

pub returns : goal.returns
returns c =
    let a = c.args in
    let l = c.loop-k in
    row-end a.n a.counts.now a.v (a.first + l.k) l.k a.count l.row (omega arith) ∙ l.invariant.shown
