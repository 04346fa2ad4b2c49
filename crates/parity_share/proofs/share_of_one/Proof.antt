-- `parity_share::share_of_one` meets its contract, by the table's rule.
use native.Mathlib.Omega.{arith}
use borrow.Author.Rules.{rules}
use Rattle.parity_share.proofs.Table.{share_table, table-share}
use Rattle.parity_share.proofs.share_of_one.Statement.{statement}
use Rattle.parity_share.proofs.share_of_one.Tie as tie

returns : tie.Need-returns
unfolding share_table
returns c = table-share c.before.before.args.place (omega arith) (omega arith)

pub share_of_one_spec : {M : Type 1} → statement M
share_of_one_spec = tie.close (tie.spec (λ c. search rules) (λ c. search rules) (λ c. search rules) returns)
