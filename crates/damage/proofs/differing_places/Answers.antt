use Rattle.std.proofs.Common.{arith, length-set, ◌∙◌}
use Rattle.damage.proofs.Listing.{passed, listed, all_listed}
use Rattle.damage.proofs.differing_places.Goals as goal
use Rattle.damage.proofs.differing_places.Goals.{then-before-place, else-before-place}

pub loop-place-preserved : goal.loop-place-preserved
loop-place-preserved c =
    let l = c.loop-place in
    elim c.if-before-place.branch [
      | then-before-place w ↦ rw (w.places-is, w.count-is) (
        omega arith,
        length-set l.places l.count l.place ∙ l.invariant.1,
        listed c.args.before c.args.after l.place (omega arith) (omega arith) l.count l.places (omega arith) w.if-before-place.true l.invariant.2,
      )
      | else-before-place w ↦ rw (w.places-is, w.count-is) (
        omega arith,
        l.invariant.1,
        passed c.args.before c.args.after l.place (omega arith) (omega arith) l.count l.places w.if-before-place.false l.invariant.2,
      )
    ]

pub returns-clause-places_value : goal.returns-clause-places_value
returns-clause-places_value c =
    all_listed c.args.before c.args.after c.loop-place.place c.loop-place.count c.loop-place.places (omega arith) c.loop-place.invariant.2
