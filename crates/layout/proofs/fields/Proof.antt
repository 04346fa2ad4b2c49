use mathlib.Core.Path.{refl}
use borrow.Author.Rules.{rules}
use Rattle.layout.specs.Control.{control_of}
use Rattle.layout.proofs.fields.Statement.{statement}
use Rattle.layout.proofs.fields.Tie as tie

returns : tie.Need-returns
unfolding control_of
returns c = refl

pub fields_spec : {M : Type 1} → statement M
fields_spec =
    tie.close (tie.spec (λ c. search rules) (λ c. search rules) (λ c. search rules) (λ c. search rules) (λ c. search rules) (λ c. search rules) returns)
