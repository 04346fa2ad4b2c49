use mathlib.Core.Path.{ap, sym, ◌∙◌}
use Prim.Native.Nat.{ℕ, ◌/◌}
use Rattle.join.proofs.Tests.{other-kind, other-count, right-count}
use Rattle.join.specs.Scan.{unused_zero}
use borrow.Author.Rules.{rules}
use Rattle.join.proofs.data_fits.Statement.{statement}
use Rattle.join.proofs.data_fits.Tie as tie

returns : tie.Need-returns-then-kind-ne1
returns c = other-kind c.before.before.args.n c.before.before.args.w (λ e. c.if-kind-ne1.true (c.before.kind.ensures ∙ e))

returns-2 : tie.Need-returns-then-high-n
returns-2 c = other-count c.before.before.before.before.args.n c.before.before.before.before.args.w (sym c.before.before.before.kind.ensures ∙ c.before.before.if-kind-ne1.false) (λ e. c.if-high-n.true (ap (λ (h : ℕ). h / 256) c.before.high.ensures ∙ e))

returns-3 : tie.Need-returns
returns-3 c =
    let a = c.before.before.before.before.before.before.args in
    c.unused_zero.ensures ∙ ap (unused_zero a.n) c.before.low.ensures.0
    ∙ right-count a.n a.w (sym c.before.before.before.before.before.kind.ensures ∙ c.before.before.before.before.if-kind-ne1.false)
    (ap (λ (h : ℕ). h / 256) (sym c.before.before.before.high.ensures) ∙ c.before.before.if-high-n.false)

pub data_fits_spec : {M : Type 1} → statement M
data_fits_spec = tie.close (tie.spec (λ c κs. search rules) returns (λ c κs. search rules) returns-2 (λ c κs. search rules) (λ c κs. search rules) returns-3)
