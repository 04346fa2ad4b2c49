use native.Mathlib.Omega.{arith}
use Rattle.pair.proofs.Judging.{lengths_differ, bytes-differ}
use borrow.Author.Rules.{rules}
use Rattle.pair.proofs.differs.Statement.{statement}
use Rattle.pair.proofs.differs.Tie as tie

returns : tie.Need-returns-then-first-second
returns c =
    let a = c.before.before.before.args in
    lengths_differ a.first.now a.second.now (omega (arith, c.if-first-second.true))

returns-2 : tie.Need-returns
returns-2 c =
    let d = c.before.before.before in
    let e = d.before in
    let i = e.before in
    let a = i.before.before.before.args in
    bytes-differ a.first.now a.second.now e.after_la-a.result d.after_la-e.result _ (omega (arith, i.if-first-second.false)) e.after_la-a.ensures.0 d.after_la-e.ensures.0 c.same_bytes.ensures

pub differs_spec : {M : Type 1} → statement M
differs_spec =
    tie.close (tie.spec returns (λ c κs. search rules) (λ c κs. search rules) (λ c. search rules) (λ c. search rules) (λ c. search rules) (λ c. search rules)
    (λ c. search rules) (λ c. search rules) (λ c κs. search rules) returns-2)
