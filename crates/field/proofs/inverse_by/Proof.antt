-- `field::inverse_by` meets its contract: a to the power 255 less the logarithm is the byte whose product with x is 1.
use mathlib.Core.Path.{◌∙◌, ap, sym}
use Rattle.field.specs.Field.{inverse, pow}
use Rattle.field.proofs.Laws.{inverse-zero, inverse-only, pow-inverse, pow-lt}
use borrow.Author.Rules.{rules}
use Rattle.field.proofs.inverse_by.Statement.{statement}
use Rattle.field.proofs.inverse_by.Tie as tie

returns : tie.Need-returns-then-x-eq0
returns c = sym (ap inverse c.if-x-eq0.true ∙ inverse-zero)

returns-2 : tie.Need-returns
returns-2 c =
    let p = c.before.before in
    let m = c.before.complement.result in
    c.power_by.ensures
    ∙ sym (inverse-only p.before.before.args.x (pow m) p.before.before.ranges.x.fits (pow-lt m)
    (pow-inverse p.before.before.args.x p.logarithm_by.result m c.before.complement.ensures p.logarithm_by.ensures.1))

pub inverse_by_spec : {M : Type 1} → statement M
inverse_by_spec = tie.close (tie.spec returns (λ c κs. search rules) (λ c κs. search rules) (λ c κs. search rules) returns-2)
