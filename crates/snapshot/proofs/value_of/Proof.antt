use native.Mathlib.Omega.{arith}
use borrow.Author.Rules.{rules}
use Rattle.snapshot.proofs.Reading.{value-one, value_none}
use Rattle.snapshot.proofs.value_of.Statement.{statement}
use Rattle.snapshot.proofs.value_of.Tie as tie

returns : tie.Need-returns-then-words-at
returns c =
    let p = c.before.place_of-at in
    let a = c.before.before.before.args in
    value_none a.kind p.result a.words.now p.ensures.0 (omega (arith, c.if-words-at.true))

returns-2 : tie.Need-returns
returns-2 c =
    let p = c.before.before.place_of-at in
    let a = c.before.before.before.before.args in
    value-one a.kind p.result a.words.now p.ensures.0 (omega (arith, c.before.if-words-at.false))

pub value_of_spec : {M : Type 1} → statement M
value_of_spec = tie.close (tie.spec (λ c κs. search rules) returns (λ c. search rules) (λ c. search rules) returns-2)
