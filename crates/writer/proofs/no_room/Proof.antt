use Rattle.writer.proofs.Judging.{room-none, room-some}
use borrow.Author.Rules.{rules}
use Rattle.writer.proofs.no_room.Statement.{statement}
use Rattle.writer.proofs.no_room.Tie as tie

returns : tie.Need-returns-then-lengths-eq0
returns c = let a = c.before.before.before.args in room-none a.m a.extra a.size c.overhead.result a.lengths.now c.before.if-lengths-eq0.true c.overhead.ensures.0

returns-2 : tie.Need-returns
returns-2 c = let a = c.before.before.before.args in room-some a.m a.extra a.size c.overhead-2.result a.lengths.now c.before.if-lengths-eq0.false c.overhead-2.ensures.0

pub no_room_spec : {M : Type 1} → statement M
no_room_spec = tie.close (tie.spec (λ c κs. search rules) returns (λ c κs. search rules) (λ c. search rules) returns-2)
