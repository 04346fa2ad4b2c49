use Rattle.snapshot.specs.Steps.{kinds}
use Rattle.snapshot.proofs.Parts.{head-count}
use native.Mathlib.Omega.{arith}
use borrow.Author.Rules.{rules}
use Rattle.snapshot.proofs.head_length.Statement.{statement}
use Rattle.snapshot.proofs.head_length.Tie as tie

returns : tie.Need-returns
returns c =
    let a = c.before.before.before.before.before.args in
    (omega (arith, head-count (kinds a.register a.programs) a.r), omega arith)

pub head_length_spec : {M : Type 1} → statement M
head_length_spec =
    tie.close (tie.spec (λ c κs. search rules) (λ c. search rules) (λ c κs. search rules) (λ c. search rules) (λ c κs. search rules) (λ c. search rules)
    (λ c κs. search rules) (λ c. search rules) returns)
