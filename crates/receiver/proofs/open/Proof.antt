use Rattle.receiver.specs.Receiving.{receiver_opened}
use borrow.Author.Rules.{rules}
use Rattle.receiver.proofs.open.Statement.{statement}
use Rattle.receiver.proofs.open.Tie as tie

returns : tie.Need-returns
unfolding receiver_opened
returns c = c.open_entitled.ensures

pub open_spec : {M : Type 1} → statement M
open_spec = tie.close (tie.spec (λ c. search rules) (λ c κs. search rules) returns)
