use Rattle.reassembly.specs.Run.{ends_at}
use Rattle.reassembly.proofs.Laws.{some_after}
use mathlib.Core.Path.{refl}
use Rattle.reassembly.proofs.ends_here.Statement.{statement}
use Rattle.reassembly.proofs.ends_here.Tie as tie

returns : tie.Need-returns-then-left-eq0
unfolding ends_at
returns c = rw c.if-left-eq0.true refl

returns-2 : tie.Need-returns
returns-2 c = some_after c.before.args.plast c.before.args.left c.if-left-eq0.false

pub ends_here_spec : {M : Type 1} → statement M
ends_here_spec = tie.close (tie.spec returns returns-2)
