use mathlib.Core.Path.{◌∙◌}
use Rattle.latency.proofs.Counts.{every-tried}
use Rattle.latency.proofs.Reports.{answer-by}
use borrow.Author.Rules.{rules}
use Rattle.latency.proofs.smallest.Statement.{statement}
use Rattle.latency.proofs.smallest.Tie as tie

smallest-of-requires : tie.Need-smallest_of-requires
smallest-of-requires c κs =
    let u = c.before in
    let a = u.before.before.args in
    every-tried a.mode a.stream a.counts.now _ _ u.spacing_for.ensures c.in-Every.is

returns : tie.Need-returns-in-Refused
returns c =
    let u = c.before in
    let a = u.before.before.args in
    answer-by a.mode a.stream a.counts.now _ _ u.spacing_for.ensures c.in-Refused.is

returns-2 : tie.Need-returns-in-Every
returns-2 c =
    let u = c.before.before in
    let a = u.before.before.args in
    c.smallest_of.ensures ∙ answer-by a.mode a.stream a.counts.now _ _ u.spacing_for.ensures c.before.in-Every.is

pub smallest_spec : {M : Type 1} → statement M
smallest_spec = tie.close (tie.spec (λ c κs. search rules) (λ c. search rules) (λ c. search rules) smallest-of-requires returns returns-2)
