use borrow.Author.Rules.{rules}
use mathlib.Core.Path.{ap}
use lib.Dec.{ltb}
use Rattle.latency.specs.declared.Tally.{Tally}
use Rattle.latency.specs.Latency.{runs_dry}
use Rattle.latency.proofs.runs_dry.Statement.{statement}
use Rattle.latency.proofs.runs_dry.Tie as tie

returns : tie.Need-returns
unfolding runs_dry
returns c = ap (λ (q : Tally). ltb 0 q.dry) c.before.run-q.ensures

pub runs_dry_spec : {M : Type 1} → statement M
runs_dry_spec = tie.close (tie.spec (λ c κs. search rules) returns)
