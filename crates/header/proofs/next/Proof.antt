-- `header::next` meets its contract.
use native.Mathlib.Omega.{arith}
use mathlib.Core.Path.{ap, ◌∙◌}
use borrow.Author.Rules.{rules}
use Rattle.header.specs.Packed.{times_all}
use Rattle.header.proofs.Lanes.{next-step}
use Rattle.header.proofs.next.Statement.{statement}
use Rattle.header.proofs.next.Tie as tie

returns : tie.Need-returns
returns c = next-step c.before.before.args.r c.by_byte.result (omega arith) (c.by_byte.ensures ∙ ap (times_all _) c.before.x8.ensures)

pub next_spec : {M : Type 1} → statement M
next_spec = tie.close (tie.spec (λ c. search rules) (λ c κs. search rules) (λ c κs. search rules) returns)
