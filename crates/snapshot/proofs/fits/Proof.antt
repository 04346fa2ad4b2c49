use mathlib.Core.Path.{ap, ◌∙◌}
use Prim.Native.Nat.{ℕ}
use Rattle.snapshot.specs.Steps.{byte_fits}
use Rattle.snapshot.proofs.Tests.{none-to-come, some-to-come}
use borrow.Author.Rules.{rules}
use Rattle.snapshot.proofs.fits.Statement.{statement}
use Rattle.snapshot.proofs.fits.Tie as tie

returns : tie.Need-returns-then-left-eq0
returns c = none-to-come c.before.args.w c.before.args.left c.if-left-eq0.true

returns-2 : tie.Need-returns
returns-2 c =
    let a = c.before.before.before.args in
    c.byte_fits.ensures ∙ ap (λ (n : ℕ). byte_fits n a.w) c.before.count_of.ensures.0 ∙ some-to-come a.w a.left c.before.before.if-left-eq0.false

pub fits_spec : {M : Type 1} → statement M
fits_spec = tie.close (tie.spec returns (λ c κs. search rules) (λ c κs. search rules) returns-2)
