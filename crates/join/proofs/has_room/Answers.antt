use Rattle.std.proofs.Common.{◌≡◌, sym, ap, length, drop, arith}
use Rattle.join.proofs.Joining.{joined-size, joined_end}
use Rattle.join.specs.Scan.{joined_words}
use borrow.Author.Tests.{le-leb, lt-leb}
use Rattle.join.proofs.has_room.Goals as goal

pub returns-then-room-words : goal.returns-then-room-words
returns-then-room-words c =
    let a = c.args in
    let s = joined-size a.core.now a.enhanced.now c.loop-i.i c.loop-i-test.true in
    sym (lt-leb (length (joined_words a.enhanced.now a.core.now)) a.room (omega arith))

pub loop-i-preserved : goal.loop-i-preserved
loop-i-preserved c =
    let s = joined-size c.args.core.now c.args.enhanced.now c.loop-i.i c.loop-i-test.true in
    record { room = c.if-room-words.false; so_far = omega arith }

pub returns : goal.returns
returns c =
    let a = c.args in
    let s : length (joined_words a.enhanced.now (drop c.loop-i.i a.core.now)) ≡ 0 = ap length (joined_end a.core.now a.enhanced.now c.loop-i.i c.loop-i-test.false) in
    sym (le-leb (length (joined_words a.enhanced.now a.core.now)) a.room (omega arith))
