use Rattle.crc32.proofs.Entries.{table, rules}
use Rattle.crc32.proofs.tables.Statement.{statement}
use Rattle.crc32.proofs.tables.Tie as tie

returns : tie.Need-returns
unfolding table
returns c = rules

pub tables_spec : {M : Type 1} → statement M
tables_spec = tie.close (tie.spec returns)
