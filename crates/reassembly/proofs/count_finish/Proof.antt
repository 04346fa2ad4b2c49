use borrow.Author.Tests.{lt-ltb, le-ltb}
use Rattle.reassembly.specs.Count.{count_finish}
use native.Mathlib.Omega.{arith}
use Rattle.reassembly.proofs.count_finish.Statement.{statement}
use Rattle.reassembly.proofs.count_finish.Tie as tie

returns : tie.Need-returns-then-n-gt4096
unfolding count_finish
returns c = simp (lt-ltb _ _ c.if-n-gt4096.true)

returns-2 : tie.Need-returns-then-ends
unfolding count_finish
returns-2 c = simp (le-ltb _ _ c.before.if-n-gt4096.false, c.if-ends.true)

returns-3 : tie.Need-returns
unfolding count_finish
returns-3 c = simp (le-ltb _ _ c.before.if-n-gt4096.false, c.if-ends.false)

pub count_finish_spec : {M : Type 1} → statement M
count_finish_spec = tie.close (tie.spec returns (λ c. omega arith) (λ c. omega arith) returns-2 returns-3)
