-- `header::coefficient` meets its contract.
use native.Mathlib.Omega.{arith}
use mathlib.Core.Path.{ap, ◌∙◌}
use Prim.Native.Nat.{ℕ}
use lib.ListN.{get_or}
use borrow.Author.Rules.{rules}
use Rattle.header.specs.Header.{exponents}
use Rattle.header.proofs.coefficient.Statement.{statement}
use Rattle.header.proofs.coefficient.Tie as tie

returns : tie.Need-returns
returns c =
    let s = c.before.before.before in
    let e = c.before.before.before.exponent in
    (c.wide.ensures.0 ∙ ap (λ (n : ℕ). get_or s.before.args.powers.now n 0) e.ensures.0 ∙ s.before.requires.0.entry (get_or exponents s.before.args.k 0) (omega (arith, e.ensures.0, e.ensures.1)), c.wide.ensures.1)

pub coefficient_spec : {M : Type 1} → statement M
coefficient_spec = tie.close (tie.spec (λ c κs. search rules) (λ c. search rules) (λ c κs. search rules) returns)
