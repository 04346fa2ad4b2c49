use Rattle.writer.proofs.Counting.{none-offered, first-offered}
use borrow.Author.Rules.{rules}
use Rattle.writer.proofs.wrong_unfinished.Statement.{statement}
use Rattle.writer.proofs.wrong_unfinished.Tie as tie

returns : tie.Need-returns-then-lengths-eq0
returns c = none-offered c.before.args.sent c.before.args.lengths.now c.if-lengths-eq0.true

returns-2 : tie.Need-returns
returns-2 c = first-offered c.before.before.args.sent c.before.before.args.lengths.now c.before.if-lengths-eq0.false

pub wrong_unfinished_spec : {M : Type 1} → statement M
wrong_unfinished_spec = tie.close (tie.spec returns (λ c. search rules) returns-2)
