-- `header::point` meets its contract: the table is computed.
use mathlib.Core.Path.{refl}
use Rattle.field.specs.Field.{times_a, shift, pow}
use Rattle.header.specs.Horner.{points}
use borrow.Author.Rules.{rules}
use Rattle.header.proofs.point.Statement.{statement}
use Rattle.header.proofs.point.Tie as tie

returns : tie.Need-returns
unfolding points pow shift times_a
returns c = refl

pub point_spec : {M : Type 1} → statement M
point_spec = tie.close (tie.spec (λ c. search rules) returns)
