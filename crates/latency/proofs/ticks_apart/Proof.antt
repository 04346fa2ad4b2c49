use native.Mathlib.Omega.{arith}
use borrow.Author.Tests.{eq-eqb, ne_eqb}
use Rattle.latency.proofs.ticks_apart.Statement.{statement}
use Rattle.latency.proofs.ticks_apart.Tie as tie

returns : tie.Need-returns-then-m-eq8
returns c = simp (eq-eqb c.before.before.args.m.sequences 8 (omega arith))

returns-2 : tie.Need-returns
returns-2 c = simp (ne_eqb c.before.before.args.m.sequences 8 (λ e. omega arith))

pub ticks_apart_spec : {M : Type 1} → statement M
ticks_apart_spec = tie.close (tie.spec returns returns-2)
