-- `header::x8` meets its contract.
use mathlib.Core.Path.{◌∙◌, ap}
use borrow.Author.Rules.{rules}
use Rattle.header.specs.Packed.{unpacked}
use Rattle.header.proofs.Lanes.{generator-packed}
use Rattle.header.proofs.x8.Statement.{statement}
use Rattle.header.proofs.x8.Tie as tie

returns : tie.Need-returns
returns c = ap unpacked c.coefficients.ensures ∙ generator-packed

pub x8_spec : {M : Type 1} → statement M
x8_spec = tie.close (tie.spec (λ c κs. search rules) (λ c κs. search rules) returns)
