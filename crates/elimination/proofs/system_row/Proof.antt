use borrow.Author.Rules.{rules}
use borrow.Author.Tests.{lt-ltb, le-ltb}
use Rattle.elimination.proofs.system_row.Statement.{statement}
use Rattle.elimination.proofs.system_row.Tie as tie

returns : tie.Need-returns-then-r-h
returns c = simp (lt-ltb c.before.args.r c.before.args.h c.if-r-h.true)

returns-2 : tie.Need-returns
returns-2 c = simp (le-ltb c.before.args.r c.before.args.h c.if-r-h.false)

pub system_row_spec : {M : Type 1} → statement M
system_row_spec =
    tie.close (tie.spec (λ c. search rules) (λ c. search rules) (λ c. search rules) (λ c. search rules) (λ c. search rules) (λ c. search rules)
    (λ c. search rules) returns returns-2)
