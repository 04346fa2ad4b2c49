use mathlib.Core.Path.{◌∙◌}
use Rattle.latency.proofs.Counts.{every-tried}
use Rattle.latency.proofs.Reports.{trial-by}
use borrow.Author.Rules.{rules}
use Rattle.latency.proofs.try_latency.Statement.{statement}
use Rattle.latency.proofs.try_latency.Tie as tie

trial-of-requires : tie.Need-trial_of-requires
trial-of-requires c κs =
    let u = c.before in
    let a = u.before.before.args in
    every-tried a.mode a.stream a.counts.now _ _ u.spacing_for.ensures c.in-Every.is

returns : tie.Need-returns-in-Refused
returns c =
    let u = c.before in
    let a = u.before.before.args in
    trial-by a.mode a.stream a.counts.now _ _ u.spacing_for.ensures c.in-Refused.is a.v

returns-2 : tie.Need-returns-in-Every
returns-2 c =
    let u = c.before.before in
    let a = u.before.before.args in
    c.trial_of.ensures ∙ trial-by a.mode a.stream a.counts.now _ _ u.spacing_for.ensures c.before.in-Every.is a.v

pub try_latency_spec : {M : Type 1} → statement M
try_latency_spec = tie.close (tie.spec (λ c κs. search rules) (λ c. search rules) (λ c. search rules) trial-of-requires returns returns-2)
