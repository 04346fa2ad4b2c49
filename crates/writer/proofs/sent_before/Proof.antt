use borrow.Author.Tests.{eq-eqb, ne_eqb}
use lib.Dec.{eqb}
use mathlib.Core.Bool.{true, false}
use native.Mathlib.Omega.{arith}
use mathlib.Core.Path.{◌≡◌}
use Rattle.writer.proofs.sent_before.Statement.{statement}
use Rattle.writer.proofs.sent_before.Tie as tie

returns : tie.Need-returns-then-ended-eq0
returns c = let t : eqb c.before.args.ended 0 ≡ true = eq-eqb c.before.args.ended 0 c.if-ended-eq0.true in (rw t, omega arith)

returns-2 : tie.Need-returns
returns-2 c = let t : eqb c.before.args.ended 0 ≡ false = ne_eqb c.before.args.ended 0 c.if-ended-eq0.false in (rw t, omega arith)

pub sent_before_spec : {M : Type 1} → statement M
sent_before_spec = tie.close (tie.spec returns returns-2)
