-- `field::powers` meets its contract, by the table's rule.
use Rattle.field.proofs.Tables.{long_table, long-rule}
use Rattle.field.proofs.powers.Statement.{statement}
use Rattle.field.proofs.powers.Tie as tie

returns : tie.Need-returns
unfolding long_table
returns c = record { entry = long-rule }

pub powers_spec : {M : Type 1} → statement M
powers_spec = tie.close (tie.spec returns)
