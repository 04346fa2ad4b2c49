-- `field::logarithms` meets its contract, by the table's rule.
use Rattle.field.proofs.Tables.{log_table, log-lt, log-rule}
use Rattle.field.proofs.logarithms.Statement.{statement}
use Rattle.field.proofs.logarithms.Tie as tie

returns : tie.Need-returns
unfolding log_table
returns c = record { small = log-lt; entry = log-rule }

pub logarithms_spec : {M : Type 1} → statement M
logarithms_spec = tie.close (tie.spec returns)
