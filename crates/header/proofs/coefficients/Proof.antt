use borrow.Author.Rules.{rules}
use Rattle.header.specs.Packed.{pack, low_coefficients}
use Rattle.header.proofs.coefficients.Statement.{statement}
use Rattle.header.proofs.coefficients.Tie as tie

returns : tie.Need-returns
unfolding pack low_coefficients
returns c = search rules

pub coefficients_spec : {M : Type 1} → statement M
coefficients_spec =
    tie.close (tie.spec (λ c κs. search rules) (λ c κs. search rules) (λ c. search rules) (λ c. search rules) (λ c κs. search rules) (λ c. search rules)
    (λ c. search rules) (λ c κs. search rules) (λ c. search rules) (λ c. search rules) (λ c κs. search rules) (λ c. search rules) (λ c. search rules)
    (λ c κs. search rules) (λ c. search rules) (λ c. search rules) (λ c κs. search rules) (λ c. search rules) (λ c. search rules) (λ c κs. search rules)
    (λ c. search rules) (λ c. search rules) returns)
