-- `header::syndromes_by` meets its contract: a header has the syndromes of its remainder.
use mathlib.Core.Path.{◌∙◌, sym}
use native.Mathlib.Omega.{arith}
use Rattle.header.proofs.Packed.{values-zero}
use borrow.Author.Rules.{rules}
use Rattle.header.proofs.syndromes_by.Statement.{statement}
use Rattle.header.proofs.syndromes_by.Tie as tie

returns : tie.Need-returns-then-all_zero
returns c =
    let z = c.before in
    values-zero z.before.rest-e.result (omega arith) (sym z.all_zero.ensures ∙ c.if-all_zero.true) ∙ z.before.rest-e.ensures

returns-2 : tie.Need-returns
returns-2 c = c.sums.ensures ∙ c.before.before.before.before.rest-e.ensures

pub syndromes_by_spec : {M : Type 1} → statement M
syndromes_by_spec = tie.close (tie.spec (λ c κs. search rules) (λ c κs. search rules) returns (λ c. search rules) (λ c κs. search rules) returns-2)
