use native.Mathlib.Omega.{arith}
use borrow.Author.Rules.{rules}
use Rattle.snapshot.proofs.Reading.{has_one, has-none}
use Rattle.snapshot.proofs.has.Statement.{statement}
use Rattle.snapshot.proofs.has.Tie as tie

returns : tie.Need-returns-then-words-place_of
returns c =
    let p = c.before.place_of in
    let a = c.before.before.before.args in
    has-none a.kind p.result a.words.now p.ensures.0 (omega (arith, c.if-words-place_of.true))

returns-2 : tie.Need-returns
returns-2 c =
    let p = c.before.place_of in
    let a = c.before.before.before.args in
    has_one a.kind p.result a.words.now p.ensures.0 (omega (arith, c.if-words-place_of.false))

pub has_spec : {M : Type 1} → statement M
has_spec = tie.close (tie.spec (λ c κs. search rules) returns returns-2)
