use borrow.Author.Tests.{eq-eqb, ne_eqb}
use native.Mathlib.Omega.{arith}
use mathlib.Core.Path.{refl}
use Rattle.reassembly.proofs.missed_before.Statement.{statement}
use Rattle.reassembly.proofs.missed_before.Tie as tie

returns : tie.Need-returns-then-t-eq0
returns c = rw (eq-eqb c.before.before.args.t.delivered 0 (omega (arith, c.if-t-eq0.true))) (refl, omega arith)

sub-result : tie.Need-overflow_sub-result
sub-result c = omega (arith, c.before.before.before.requires)

returns-2 : tie.Need-returns
returns-2 c = rw (ne_eqb c.before.before.before.args.t.delivered 0 (omega (arith, c.before.if-t-eq0.false))) (refl, omega arith)

pub missed_before_spec : {M : Type 1} → statement M
missed_before_spec = tie.close (tie.spec returns (λ c. omega arith) (λ c. omega arith) sub-result returns-2)
