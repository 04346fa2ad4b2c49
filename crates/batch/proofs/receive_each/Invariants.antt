-- The PDUs up to the i-th are received one by one.
use Rattle.std.proofs.Common.{◌≡◌}
use Rattle.batch.proofs.Along.{Along, ends_left}
use Rattle.batch.specs.Batches.{one_by_one}
use Rattle.batch.proofs.receive_each.Given as goal

abbrev pub invariant-loop-i : goal.invariant-loop-i
invariant-loop-i l = record {
  along : Along l.lengths (one_by_one l.lengths l.initial.b.receiver l.initial.carry l.initial.pdus l.initial.log) l.carry l.pdus l.log l.b l.from l.i;
  ends_along : ends_left l.ends l.lengths l.carry l.pdus l.log l.b l.from l.i ≡ ends_left l.initial.ends l.lengths l.initial.carry l.initial.pdus l.initial.log l.initial.b 0 0;
}
