use Rattle.std.proofs.Common.{◌≡◌, ◌+◌, ◌-◌, refl, arith}
use Rattle.damage.proofs.Altered.{agree_on}
use Rattle.header.proofs.Distances.{distance_self}
use Rattle.damage.proofs.alter.Goals as goal

pub loop-place-init : goal.loop-place-init
loop-place-init c = let none = distance_self c.args.pdu.now in (omega arith, refl, omega arith)

pub returns-after-loop-place-clause-pdu_unchanged : goal.returns-after-loop-place-clause-pdu_unchanged
returns-after-loop-place-clause-pdu_unchanged c =
    let after = agree_on c.loop-place.pdu c.args.pdu.now c.loop-place.place (96 - c.loop-place.place) c.loop-place.invariant.1 in
    let ninety : c.loop-place.place + (96 - c.loop-place.place) ≡ 96 = omega arith in
    rw ninety at after

pub returns-then-left-eq0-clause-pdu_unchanged : goal.returns-then-left-eq0-clause-pdu_unchanged
returns-then-left-eq0-clause-pdu_unchanged c =
    let after = agree_on c.loop-place.pdu c.args.pdu.now c.loop-place.place (96 - c.loop-place.place) c.loop-place.invariant.1 in
    let ninety : c.loop-place.place + (96 - c.loop-place.place) ≡ 96 = omega arith in
    rw ninety at after
