use Rattle.std.proofs.Common.{arith, rules}
use Rattle.damage.proofs.Altered.{passed, altered}
use Rattle.damage.proofs.turn.Statement.{statement}
use Rattle.damage.proofs.turn.Tie as tie

returns : tie.Need-returns-then-left-below
returns c = passed _ _ _ _ (omega arith)

returns-2 : tie.Need-returns
returns-2 c = altered _ _ _ _ _ (omega arith) c.another.ensures (omega arith) (omega arith)

pub turn_spec : {M : Type 1} → statement M
turn_spec =
    tie.close (tie.spec (λ c κs. search rules) (λ c κs. search rules) returns (λ c κs. search rules) (λ c. search rules) (λ c κs. search rules)
    (λ c κs. search rules) (λ c. search rules) (λ c. search rules) (λ c. search rules) returns-2)
