use Rattle.std.proofs.Common.{◌≡◌, arith}
use Rattle.correction.specs.ErrorPlaces.{located}
use Rattle.correction.proofs.Searching.{loop-hit, loop-miss, loop-room}
use Rattle.correction.proofs.error_places.Goals as goal

-- there is room for a place that passes the test
pub bounds-places-count : goal.bounds-places-count
bounds-places-count c =
    loop-room (located c.args.marks.now c.args.coefficients c.args.degree) c.loop-m.m c.loop-m.count c.loop-m.places (omega arith) c.loop-m.invariant
    c.is_located.result c.is_located.ensures c.requires.below_len_bound c.if-is_located.true

pub loop-m-preserved-then-is_located : goal.loop-m-preserved-then-is_located
loop-m-preserved-then-is_located c =
    loop-hit (located c.args.marks.now c.args.coefficients c.args.degree) c.loop-m.m c.loop-m.count c.loop-m.places (omega arith) c.loop-m.invariant
    c.is_located.result c.is_located.ensures c.requires.below_len_bound c.if-is_located.true

pub loop-m-preserved : goal.loop-m-preserved
loop-m-preserved c =
    loop-miss (located c.args.marks.now c.args.coefficients c.args.degree) c.loop-m.m c.loop-m.count c.loop-m.places (omega arith) c.loop-m.invariant
    c.is_located.result c.is_located.ensures c.if-is_located.false

pub returns : goal.returns
returns c = let e : c.loop-m.m ≡ 0 = omega arith in rw e at c.loop-m.invariant
