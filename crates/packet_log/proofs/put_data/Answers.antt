-- Each call leaves the words that are still to come.
use Rattle.std.proofs.Common.{◌++◌, ◌+◌, ◌*◌, ◌≤◌, List, [], ℕ, length, arith, length-append}
use Rattle.packet_log.proofs.Filling.{none_left, behind, begun, in-second-list, both-length, left-length}
use Rattle.packet_log.proofs.put_data.Goals as goal

pub put_full-a-requires-clause-from_in_bounds_2 : goal.put_full-a-requires-clause-from_in_bounds_2
put_full-a-requires-clause-from_in_bounds_2 c = omega (arith, both-length c.args.first.now c.args.second.now)

pub put_one-requires-clause-second_in_bounds : goal.put_one-requires-clause-second_in_bounds
put_one-requires-clause-second_in_bounds c =
    omega (arith, both-length c.args.first.now c.args.second.now, left-length c.args.first.now c.args.second.now (3 * c.put_full-a.result))

pub returns-then-first-second-clause-value : goal.returns-then-first-second-clause-value
returns-then-first-second-clause-value c = omega (arith, both-length c.args.first.now c.args.second.now)

pub returns-then-first-second-clause-log_after : goal.returns-then-first-second-clause-log_after
returns-then-first-second-clause-log_after c =
    let t = c.args in
    let s : List ℕ = t.first.now ++ t.second.now in
    let a = c.put_full-a in
    let b : ℕ = a.result + c.put_one.result in
    none_left _ s _ (t.at + b) (3 * b) (omega (arith, length-append t.first.now t.second.now))
    (behind _ _ s _ t.at a.result c.put_one.result (begun _ _ s t.at a.result (a.ensures.leaves t.second.now)) c.put_one.ensures.second_after)

pub put_full-requires-clause-from_in_bounds_2 : goal.put_full-requires-clause-from_in_bounds_2
put_full-requires-clause-from_in_bounds_2 c = omega (arith, both-length c.args.first.now c.args.second.now)

pub put_one-requires-2-clause-second_in_bounds : goal.put_one-requires-2-clause-second_in_bounds
put_one-requires-2-clause-second_in_bounds c =
    let b : ℕ = c.put_full-a.result + c.put_one.result in
    omega (arith, both-length c.args.first.now c.args.second.now, left-length c.args.first.now c.args.second.now (3 * (b + c.put_full.result)))

pub returns-clause-value : goal.returns-clause-value
returns-clause-value c = omega (arith, both-length c.args.first.now c.args.second.now)

pub returns-clause-log_after : goal.returns-clause-log_after
returns-clause-log_after c =
    let t = c.args in
    let s : List ℕ = t.first.now ++ t.second.now in
    let a = c.put_full-a in
    let d = c.put_full in
    let b : ℕ = a.result + c.put_one.result in
    let w : ℕ = b + d.result + c.put_one-2.result in
    let n : length s ≤ 3 * w = omega (arith, length-append t.first.now t.second.now) in
    let past : length t.first.now ≤ 3 * b = omega arith in
    none_left _ s _ (t.at + w) (3 * w) n
    (behind _ _ s _ t.at (b + d.result) c.put_one-2.result
    (behind _ _ s _ t.at b d.result
    (behind _ _ s _ t.at a.result c.put_one.result (begun _ _ s t.at a.result (a.ensures.leaves t.second.now)) c.put_one.ensures.second_after)
    (in-second-list _ _ t.first.now t.second.now (t.at + b) (3 * b) d.result past (d.ensures.leaves [])))
    c.put_one-2.ensures.second_after)
