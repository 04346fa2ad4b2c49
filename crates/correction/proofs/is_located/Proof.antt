use mathlib.Core.Path.{ap, sym, ◌∙◌}
use Prim.Native.Nat.{ℕ}
use borrow.Author.Rules.{rules}
use mathlib.Core.Bool.{Bool, ◌||◌}
use lib.Dec.{eqb}
use Rattle.correction.specs.ErrorPlaces.{root, value_from}
use Rattle.correction.proofs.is_located.Statement.{statement}
use Rattle.correction.proofs.is_located.Tie as tie

returns : tie.Need-returns-then-is_marked
returns c = ap (λ (b : Bool). b || root c.before.before.before.args.coefficients c.before.before.before.args.degree c.before.before.before.args.i) (sym c.if-is_marked.true ∙ c.before.is_marked.ensures)

returns-2 : tie.Need-returns
returns-2 c =
    let m = c.before.before.before in
    let a = m.before.before.args in
    ap (λ (v : ℕ). eqb v 0) (c.evaluate-v.ensures ∙ ap (λ (x : ℕ). value_from a.coefficients x 0 a.degree) c.before.power_by-x.ensures)
    ∙ ap (λ (b : Bool). b || root a.coefficients a.degree a.i) (sym c.before.before.if-is_marked.false ∙ m.is_marked.ensures)

pub is_located_spec : {M : Type 1} → statement M
is_located_spec = tie.close (tie.spec (λ c κs. search rules) returns (λ c κs. search rules) (λ c κs. search rules) returns-2)
