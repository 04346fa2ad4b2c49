use Rattle.std.proofs.Common.{◌+◌, refl, ap, arith}
use Rattle.latency.specs.declared.Tally.{Tally}
use Rattle.latency.specs.Latency.{left, dry_ticks, most_waiting}
use Rattle.latency.proofs.Ticks.{ticks-most, turn-waiting, turn-fits, turn-left}
use Rattle.latency.proofs.Turns.{tally-turn, tally-small, one-most}
use Rattle.latency.proofs.run.Goals as goal

pub loop-t-init : goal.loop-t-init
unfolding left dry_ticks most_waiting
loop-t-init c = record { waits = refl; told = refl }

pub overflow_add-waiting : goal.overflow_add-waiting
overflow_add-waiting c =
    let a = c.args in
    let l = c.loop-t in
    omega (arith, turn-fits a.n a.counts.now a.v l.t l.kept c.added.result l.invariant.waits c.added.ensures c.requires (omega arith))

pub overflow_add-q : goal.overflow_add-q
overflow_add-q c =
    let a = c.args in
    let l = c.loop-t in
    omega (
      arith,
      (tally-small a.n a.counts.now c.requires a.v l.t).dry,
      ap (λ (q : Tally). q.dry) l.invariant.told,
      one-most c.one_if.result c.is_dry-dry.result c.one_if.ensures,
      ticks-most a.n a.counts.now c.requires,
    )

pub loop-t-preserved : goal.loop-t-preserved
loop-t-preserved c =
    let a = c.args in
    let l = c.loop-t in record {
      waits = turn-left a.n a.counts.now a.v l.t l.kept c.added.result l.invariant.waits c.added.ensures c.taken.result c.taken.ensures.0;
      told = tally-turn a.n a.counts.now a.v l.t l.q (l.kept + c.added.result) c.one_if.result c.first_of.result c.max.result c.is_dry-dry.result l.invariant.told
          (turn-waiting a.n a.counts.now a.v l.t l.kept c.added.result l.invariant.waits c.added.ensures)
          c.is_dry-dry.ensures c.one_if.ensures c.first_of.ensures c.max.ensures;
    }
