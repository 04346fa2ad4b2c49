use Rattle.std.proofs.Common.{refl, ap, ◌∙◌, ◌-◌, arith, length, drop, length-take, length-drop}
use Rattle.batch.proofs.Along.{at-start, at-end, ends-at-start, ends-at-end, stops, turns}
use Rattle.pieces.proofs.Cutting.{total-drop}
use Rattle.batch.specs.Batches.{one_by_one}
use Rattle.batch.specs.declared.Batch.{Batch}
use Rattle.batch.proofs.receive_each.Goals as goal

pub loop-i-init : goal.loop-i-init
loop-i-init c =
    let a = c.args in
    record {
      along = at-start a.lengths.now a.carry.now a.pdus.now a.log.now c.begun-b.result a.receiver c.begun-b.ensures c.requires;
      ends_along = refl;
    }

pub overflow_add-to : goal.overflow_add-to
overflow_add-to c =
    let d = total-drop c.args.lengths.now c.loop-i.i c.loop-i-test.true in
    omega (arith, d, c.loop-i.invariant.along.left)

pub slice_bounds-receive_next-end : goal.slice_bounds-receive_next-end
slice_bounds-receive_next-end c =
    let d = total-drop c.args.lengths.now c.loop-i.i c.loop-i-test.true in
    omega (arith, d, c.loop-i.invariant.along.left)

pub offset_bounds-log-at : goal.offset_bounds-log-at
offset_bounds-log-at c = omega (arith, c.loop-i.invariant.along.room)

pub slice_bounds-receive_next-count-in-loop-i : goal.slice_bounds-receive_next-count-in-loop-i
slice_bounds-receive_next-count-in-loop-i c = omega (arith, c.loop-i.invariant.along.room)

pub slice_bounds-receive_next-start-in-loop-i : goal.slice_bounds-receive_next-start-in-loop-i
slice_bounds-receive_next-start-in-loop-i c = omega (arith, c.loop-i.invariant.along.room)

pub receive_next-b-requires : goal.receive_next-b-requires
receive_next-b-requires c =
    let w = c.loop-i.b.words in
    let l = c.loop-i.log in
    record {
      taken_bound = omega (arith, c.loop-i.invariant.along.count);
      log_bound = omega (arith, length-take (length l - w) (drop w l), length-drop w l, c.loop-i.invariant.along.room);
    }

pub returns-then-b-ne0 : goal.returns-then-b-ne0
returns-then-b-ne0 c =
    let a = c.args in
    let o = c.loop-i in
    let r = c.receive_next-b in
    let s = stops a.lengths.now _ o.carry o.pdus o.log o.b o.from o.i o.invariant.along c.loop-i-test.true _ r.result r.new.carry r.new.pdu r.new.log r.ensures.value r.ensures.carry_after r.ensures.pdu_after r.ensures.log_after refl o.ends (λ q. omega (arith, q, c.if-b-ne0.true)) in
    record {
      log_after = s.0 ∙ ap (λ (x : Batch). one_by_one a.lengths.now x.receiver a.carry.now a.pdus.now a.log.now) c.begun-b.ensures;
      ends_after = s.1 ∙ o.invariant.ends_along ∙ ends-at-start a.ends.now a.lengths.now a.carry.now a.pdus.now a.log.now c.begun-b.result a.receiver c.begun-b.ensures;
    }

pub loop-i-preserved : goal.loop-i-preserved
loop-i-preserved c =
    let o = c.loop-i in
    let r = c.receive_next-b in
    let m = turns c.args.lengths.now _ o.carry o.pdus o.log o.b o.from o.i o.invariant.along c.loop-i-test.true _ r.result r.new.carry r.new.pdu r.new.log r.ensures.value r.ensures.carry_after r.ensures.pdu_after r.ensures.log_after refl o.ends c.note.new.list c.note.ensures r.auto.pdu r.auto.log (omega (arith, c.if-b-ne0.false)) in
    record { along = m.0; ends_along = m.1 ∙ o.invariant.ends_along }

pub returns : goal.returns
returns c =
    let a = c.args in
    let o = c.loop-i in
    record {
      log_after = at-end a.lengths.now _ o.carry o.pdus o.log o.b o.from o.i o.invariant.along c.loop-i-test.false ∙ ap (λ (x : Batch). one_by_one a.lengths.now x.receiver a.carry.now a.pdus.now a.log.now) c.begun-b.ensures;
      ends_after = ends-at-end o.ends a.lengths.now o.carry o.pdus o.log o.b o.from o.i c.loop-i-test.false ∙ o.invariant.ends_along ∙ ends-at-start a.ends.now a.lengths.now a.carry.now a.pdus.now a.log.now c.begun-b.result a.receiver c.begun-b.ensures;
    }
