-- `header::rest` meets its contract: what is left of a header modulo the generator has its syndromes.
use mathlib.Core.Path.{ap, ◌∙◌}
use native.Mathlib.Omega.{arith}
use borrow.Author.Rules.{rules}
use Rattle.header.specs.Horner.{values}
use Rattle.header.proofs.Lanes.{rest-values}
use Rattle.header.proofs.rest.Statement.{statement}
use Rattle.header.proofs.rest.Tie as tie

returns : tie.Need-returns
returns c =
    let s = c.before.before.before in
    ap values c.unpack.ensures
    ∙ rest-values s.before.args.header.now c.before.before.word.result c.before.remainder.result (omega arith) (λ k. (s.shared_slice_known-1.given k).fits) c.before.before.word.ensures c.before.remainder.ensures

pub rest_spec : {M : Type 1} → statement M
rest_spec = tie.close (tie.spec (λ c κs. search rules) (λ c κs. search rules) (λ c κs. search rules) returns)
