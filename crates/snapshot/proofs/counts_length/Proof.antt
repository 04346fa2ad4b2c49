use native.Mathlib.Omega.{arith}
use mathlib.Core.Path.{ap, sym}
use lib.ListN.{length}
use Rattle.snapshot.proofs.Counts.{counts-none, counts_some}
use Rattle.snapshot.proofs.counts_length.Statement.{statement}
use Rattle.snapshot.proofs.counts_length.Tie as tie

returns : tie.Need-returns-then-r-ne0
returns c = (sym (ap length (counts_some c.before.before.args.r c.if-r-ne0.true)), omega arith)

returns-2 : tie.Need-returns
returns-2 c = (sym (ap length (counts-none c.before.before.args.r c.if-r-ne0.false)), omega arith)

pub counts_length_spec : {M : Type 1} → statement M
counts_length_spec = tie.close (tie.spec returns returns-2)
