-- `field::product_by` meets its contract: a product of powers is the power of the sum.
use mathlib.Core.Path.{◌∙◌, ap, ap₂, sym}
use Prim.Native.Nat.{ℕ, ◌+◌}
use native.Mathlib.Omega.{arith}
use Rattle.field.specs.Field.{mul}
use Rattle.field.proofs.Laws.{pow-add, mul-zero-l, mul-zero-r}
use borrow.Author.Rules.{rules}
use Rattle.field.proofs.product_by.Statement.{statement}
use Rattle.field.proofs.product_by.Tie as tie

returns : tie.Need-returns-then-x-eq0
returns c = sym (ap (λ (x : ℕ). mul x c.before.args.y) c.if-x-eq0.true ∙ mul-zero-l c.before.args.y)

returns-2 : tie.Need-returns-then-y-eq0
returns-2 c = sym (ap (mul c.before.before.args.x) c.if-y-eq0.true ∙ mul-zero-r c.before.before.args.x)

returns-3 : tie.Need-returns
returns-3 c =
    let l = c.before in
    l.before.before.before.before.before.requires.0.entry (l.before.before.logarithm_by.result + l.before.logarithm_by-2.result)
    (omega (arith, l.before.before.logarithm_by.ensures.0, l.before.logarithm_by-2.ensures.0))
    ∙ pow-add l.before.before.logarithm_by.result l.before.logarithm_by-2.result
    ∙ ap₂ mul l.before.before.logarithm_by.ensures.1 l.before.logarithm_by-2.ensures.1

pub product_by_spec : {M : Type 1} → statement M
product_by_spec = tie.close (tie.spec returns returns-2 (λ c κs. search rules) (λ c κs. search rules) (λ c. search rules) (λ c. search rules) returns-3)
