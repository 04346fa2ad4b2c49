-- `power_sums::sums_by` meets its contract.
use Rattle.header.specs.Header.{syndromes}
use borrow.Author.Rules.{rules}
use Rattle.power_sums.proofs.sums_by.Statement.{statement}
use Rattle.power_sums.proofs.sums_by.Tie as tie

returns : tie.Need-returns
unfolding syndromes
returns c = cc

pub sums_by_spec : {M : Type 1} → statement M
sums_by_spec =
    tie.close (tie.spec (λ c κs. search rules) (λ c κs. search rules) (λ c κs. search rules) (λ c κs. search rules) (λ c κs. search rules)
    (λ c κs. search rules) (λ c κs. search rules) (λ c κs. search rules) returns)
