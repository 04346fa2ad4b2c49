use borrow.Author.Rules.{rules}
use native.Mathlib.Omega.{arith}
use Rattle.noise.proofs.Laws.{hit-inside, passed-by}
use Rattle.noise.proofs.turn.Statement.{statement}
use Rattle.noise.proofs.turn.Tie as tie

returns : tie.Need-returns-then-end-from
returns c = passed-by _ _ _ _ c.missed.ensures

returns-2 : tie.Need-returns-then-pdu-end
returns-2 c = passed-by _ _ _ _ c.missed-then-pdu-end.ensures

returns-3 : tie.Need-returns-then-happens
returns-3 c = (hit-inside _ _ _ _ _ c.before.before.strike-last.ensures (omega arith), omega arith)

returns-4 : tie.Need-returns
returns-4 c = passed-by _ _ _ _ c.missed-2.ensures

pub turn_spec : {M : Type 1} → statement M
turn_spec =
    tie.close (tie.spec (λ c κs. search rules) (λ c. search rules) (λ c κs. search rules) (λ c κs. search rules) returns (λ c κs. search rules) returns-2
    (λ c κs. search rules) (λ c κs. search rules) (λ c. search rules) returns-3 (λ c κs. search rules) returns-4)
