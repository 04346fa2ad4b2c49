use borrow.Author.Tests.{eq-eqb, ne_eqb}
use native.Mathlib.Omega.{arith}
use mathlib.Core.Path.{refl}
use Rattle.reassembly.proofs.count_psd.Statement.{statement}
use Rattle.reassembly.proofs.count_psd.Tie as tie

returns : tie.Need-returns-then-n-eq0
returns c = rw (eq-eqb c.before.args.n 0 c.if-n-eq0.true) (refl, omega arith)

returns-2 : tie.Need-returns
returns-2 c = rw (ne_eqb c.before.args.n 0 c.if-n-eq0.false) (refl, omega arith)

pub count_psd_spec : {M : Type 1} → statement M
count_psd_spec = tie.close (tie.spec returns (λ c. omega arith) (λ c. omega arith) returns-2)
