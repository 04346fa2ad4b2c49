use mathlib.Core.Path.{ap, sym, ◌∙◌}
use Prim.Native.Nat.{ℕ}
use lib.ListN.{length}
use borrow.Author.Rules.{rules}
use Rattle.join.proofs.Refusing.{refused_all, fits-room, joined-all}
use Rattle.join.proofs.join.Statement.{statement}
use Rattle.join.proofs.join.Tie as tie

returns : tie.Need-returns-then-n-ne0
returns c =
    let a = c.before.before.before.before.before.before.before.args in
    refused_all a.core.now a.enhanced.now a.res.now c.before.refusal-n.result c.before.refusal-n.ensures c.if-n-ne0.true

put-joined-requires : tie.Need-put_joined-words-requires
put-joined-requires c κs =
    let a = c.before.before.before.before.before.before.before.before.before.args in
    (fits-room a.core.now a.enhanced.now (length a.res.now) (sym c.before.before.if-n-ne0.false ∙ c.before.before.before.refusal-n.ensures), c.before.before.before.before.before.places_in-places.ensures)

returns-2 : tie.Need-returns
returns-2 c =
    let a = c.before.before.before.before.before.before.before.before.before.before.before.before.args in
    let g = c.before.before.put_joined-words in
    let j = joined-all a.core.now a.enhanced.now a.res.now (sym c.before.before.before.before.before.if-n-ne0.false ∙ c.before.before.before.before.before.before.refusal-n.ensures) in
    (ap (λ (n : ℕ). record { refusal = 0; words = n }) g.ensures.0 ∙ j.0, g.ensures.1 ∙ j.1)

pub join_spec : {M : Type 1} → statement M
join_spec =
    tie.close (tie.spec (λ c κs. search rules) (λ c. search rules) (λ c κs. search rules) returns (λ c. search rules) put-joined-requires (λ c. search rules)
    returns-2)
