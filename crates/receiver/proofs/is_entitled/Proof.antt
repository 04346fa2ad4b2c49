use mathlib.Core.Path.{sym, ap, ◌∙◌}
use Rattle.receiver.specs.Entitling.{entitles}
use Rattle.receiver.proofs.Withholding.{bit-zero, no_program}
use Rattle.receiver.proofs.is_entitled.Statement.{statement}
use Rattle.receiver.proofs.is_entitled.Tie as tie

returns : tie.Need-returns-in-0
returns c = bit-zero c.before.args.mask ∙ ap (entitles c.before.args.mask) (sym c.in-0.is)

returns-5 : tie.Need-returns-in-4
unfolding entitles
returns-5 c = ap (entitles c.before.args.mask) (sym c.in-4.is)

returns-9 : tie.Need-returns-in_default
returns-9 c = no_program c.before.args.mask c.before.args.program c.in_default.in_default-own.rest.0.0.0.0.0.0.0.1 c.in_default.in_default-own.rest.0.0.0.0.0.0.1 c.in_default.in_default-own.rest.0.0.0.0.0.1 c.in_default.in_default-own.rest.0.0.0.0.1 c.in_default.in_default-own.rest.0.0.0.1 c.in_default.in_default-own.rest.0.0.1 c.in_default.in_default-own.rest.0.1 c.in_default.in_default-own.rest.1

pub is_entitled_spec : {M : Type 1} → statement M
unfolding entitles
is_entitled_spec =
    tie.close (tie.spec returns
    (λ c. ap (entitles c.before.args.mask) (sym c.in-1.is))
    (λ c. ap (entitles c.before.args.mask) (sym c.in-2.is))
    (λ c. ap (entitles c.before.args.mask) (sym c.in-3.is))
    returns-5
    (λ c. ap (entitles c.before.args.mask) (sym c.in-5.is))
    (λ c. ap (entitles c.before.args.mask) (sym c.in-6.is))
    (λ c. ap (entitles c.before.args.mask) (sym c.in-7.is))
    returns-9)
