use mathlib.Core.Path.{refl, sym, ◌∙◌}
use Rattle.latency.proofs.Counts.{spacing-by, listed-refused, listed-every}
use borrow.Author.Rules.{rules}
use Rattle.latency.proofs.spacing_for.Statement.{statement}
use Rattle.latency.proofs.spacing_for.Tie as tie

returns : tie.Need-returns-then-counts_refused
returns c =
    let u = c.before.before.before in
    let a = u.before.before.args in
    spacing-by a.mode a.stream a.counts.now _ _ _ u.look_up.ensures c.before.before.in-Listed.is
    (listed-refused a.mode a.stream a.counts.now c.before.before.in-Listed.m (sym c.before.counts_refused.ensures ∙ c.if-counts_refused.true))

returns-2 : tie.Need-returns-in-Refused
returns-2 c =
    let u = c.before in
    let a = u.before.before.args in
    spacing-by a.mode a.stream a.counts.now _ _ _ u.look_up.ensures c.in-Refused.is refl

returns-3 : tie.Need-returns-else-counts_refused
returns-3 c =
    let r = c.before.before in
    let u = r.before.before in
    let a = u.before.before.args in
    spacing-by a.mode a.stream a.counts.now _ _ _ u.look_up.ensures c.before.before.before.in-Listed.is
    (listed-every a.mode a.stream a.counts.now c.before.before.before.in-Listed.m _ c.ticks_apart.ensures (sym r.counts_refused.ensures ∙ c.before.if-counts_refused.false))

pub spacing_for_spec : {M : Type 1} → statement M
spacing_for_spec =
    tie.close (tie.spec (λ c κs. search rules) (λ c. search rules) (λ c. search rules) (λ c κs. search rules) returns (λ c κs. search rules) returns-2
    returns-3)
