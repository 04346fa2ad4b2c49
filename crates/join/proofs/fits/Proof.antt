use native.Mathlib.Omega.{arith}
use mathlib.Core.Path.{◌∙◌}
use Rattle.join.proofs.Tests.{head_of, fits_head, fits-data}
use borrow.Author.Rules.{rules}
use Rattle.join.proofs.fits.Statement.{statement}
use Rattle.join.proofs.fits.Tie as tie

returns : tie.Need-returns-then-left-eq0
returns c =
    let a = c.before.before.before.before.before.args in
    c.head_fits.ensures ∙ head_of _ _ _ a.w c.before.before.before.kind.ensures c.before.before.high.ensures c.before.low.ensures.0
    ∙ fits_head a.left a.w c.before.before.before.before.if-left-eq0.true

returns-2 : tie.Need-returns-then-left-lt3
returns-2 c = c.data_fits.ensures ∙ fits-data c.before.before.before.args.left c.before.before.before.args.w _ (omega arith) (omega arith)

returns-3 : tie.Need-returns
returns-3 c = c.data_fits-2.ensures ∙ fits-data c.before.before.before.args.left c.before.before.before.args.w _ (omega arith) (omega arith)

pub fits_spec : {M : Type 1} → statement M
fits_spec =
    tie.close (tie.spec (λ c κs. search rules) (λ c κs. search rules) (λ c κs. search rules) (λ c κs. search rules) returns (λ c κs. search rules) returns-2
    (λ c κs. search rules) returns-3)
