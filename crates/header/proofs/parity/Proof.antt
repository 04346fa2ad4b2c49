-- `header::parity` meets its contract.
use mathlib.Core.Path.{◌∙◌}
use borrow.Author.Rules.{rules}
use Rattle.header.proofs.parity.Statement.{statement}
use Rattle.header.proofs.parity.Tie as tie

returns : tie.Need-returns
returns c = c.unpack.ensures ∙ c.before.remainder-r.ensures

pub parity_spec : {M : Type 1} → statement M
parity_spec = tie.close (tie.spec (λ c κs. search rules) (λ c κs. search rules) returns)
