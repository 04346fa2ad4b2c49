use borrow.Author.Rules.{rules}
use Rattle.batch.proofs.receive.Statement.{statement}
use Rattle.batch.proofs.receive.Tie as tie

returns : tie.Need-returns
returns c = let e = c.before.before.before.before.before.before.before.receive_with_ends.ensures in (e.0, (e.1.0, (e.1.1.0, e.1.1.1.0)))

pub receive_spec : {M : Type 1} → statement M
receive_spec = tie.close (tie.spec (λ c. search rules) (λ c κs. search rules) (λ c. search rules) (λ c. search rules) (λ c. search rules) returns)
