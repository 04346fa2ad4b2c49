use Rattle.diversity.proofs.Choosing.{choice-is}
use borrow.Author.Rules.{rules}
use Rattle.diversity.proofs.choice.Statement.{statement}
use Rattle.diversity.proofs.choice.Tie as tie

returns : tie.Need-returns
returns c =
    let b = c.before in
    let a = b.before in
    choice-is _ _ a.count-a.result b.count-b.result _ a.count-a.ensures b.count-b.ensures c.better_of.ensures

pub choice_spec : {M : Type 1} → statement M
choice_spec = tie.close (tie.spec (λ c κs. search rules) (λ c κs. search rules) (λ c κs. search rules) returns)
