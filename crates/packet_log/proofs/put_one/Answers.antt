-- One word more, where a byte is left.
use Rattle.std.proofs.Common.{◌<◌, length, ◌++◌, arith, length-append}
use Rattle.packet_log.proofs.Filling.{one_more, counted}
use Rattle.packet_log.proofs.put_one.Goals as goal

pub bounds-log-at : goal.bounds-log-at
bounds-log-at c =
    let a = c.args in
    omega (arith, length-append a.first.now a.second.now, counted (a.first.now ++ a.second.now) a.i (omega (arith, length-append a.first.now a.second.now)))

pub returns-clause-second_after : goal.returns-clause-second_after
returns-clause-second_after c =
    let a = c.args in
    let more : a.i < length (a.first.now ++ a.second.now) = omega (arith, length-append a.first.now a.second.now) in
    one_more a.log.now (a.first.now ++ a.second.now) a.at a.i c.data_word.result more
    (omega (arith, counted (a.first.now ++ a.second.now) a.i more, c.requires.second_in_bounds)) c.data_word.ensures
