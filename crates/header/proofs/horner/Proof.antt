use mathlib.Core.Path.{◌∙◌, ap}
use lib.Bits.{bit_xor}
use lib.ListN.{get_or}
use Rattle.field.specs.Field.{mul}
use Rattle.header.specs.Horner.{horner_at}
use borrow.Author.Rules.{rules}
use Rattle.header.proofs.horner.Statement.{statement}
use Rattle.header.proofs.horner.Tie as tie

returns : tie.Need-returns
unfolding horner_at
returns c =
    let a = c.before.before.args in
    ap (bit_xor a.b) (c.product_by.ensures ∙ ap (mul (get_or a.s a.k 0)) c.before.point.ensures)

pub horner_spec : {M : Type 1} → statement M
horner_spec = tie.close (tie.spec (λ c. search rules) (λ c κs. search rules) (λ c κs. search rules) returns)
