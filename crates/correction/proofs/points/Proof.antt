use borrow.Author.Rules.{rules}
use Rattle.correction.proofs.points.Statement.{statement}
use Rattle.correction.proofs.points.Tie as tie

returns : tie.Need-returns
returns c = cc

pub points_spec : {M : Type 1} → statement M
points_spec =
    tie.close (tie.spec (λ c. search rules) (λ c κs. search rules) (λ c. search rules) (λ c κs. search rules) (λ c. search rules) (λ c κs. search rules)
    (λ c. search rules) (λ c κs. search rules) (λ c. search rules) (λ c κs. search rules) (λ c. search rules) (λ c κs. search rules) (λ c. search rules)
    (λ c κs. search rules) (λ c. search rules) (λ c κs. search rules) returns)
