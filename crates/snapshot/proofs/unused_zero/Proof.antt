use Rattle.snapshot.proofs.Tests.{unused-two, unused-one, unused-none}
use Rattle.snapshot.proofs.unused_zero.Statement.{statement}
use Rattle.snapshot.proofs.unused_zero.Tie as tie

returns : tie.Need-returns-then-n-eq1
returns c = unused-two c.before.args.w c.before.args.n c.if-n-eq1.true

returns-2 : tie.Need-returns-then-n-eq2
returns-2 c = unused-one c.before.before.args.w c.before.before.args.n c.before.if-n-eq1.false c.if-n-eq2.true

returns-3 : tie.Need-returns
returns-3 c = unused-none c.before.before.args.w c.before.before.args.n c.before.if-n-eq1.false c.if-n-eq2.false

pub unused_zero_spec : {M : Type 1} → statement M
unused_zero_spec = tie.close (tie.spec returns returns-2 returns-3)
