use Rattle.receiver.proofs.Losing.{unlisted-lost}
use mathlib.Core.Path.{sym, ◌∙◌}
use borrow.Author.Rules.{rules}
use Rattle.receiver.proofs.Receiver.mark_lost.Statement.{statement}
use Rattle.receiver.proofs.Receiver.mark_lost.Tie as tie

lose-listed-requires : tie.Need-lose_listed-requires
lose-listed-requires c κs =
    let g = c.before.before in
    sym g.look_up.ensures ∙ c.before.in-Listed.is

returns : tie.Need-returns-in-Listed
returns c = c.before.before.lose_listed.ensures

returns-2 : tie.Need-returns-in-Refused
returns-2 c =
    let l = c.before.before.before in
    let a = l.before.args in
    unlisted-lost a.log.now a.self _ _ c.refused.result c.before.before.look_up.ensures c.in-Refused.is c.refused.ensures

pub mark_lost_spec : {M : Type 1} → statement M
mark_lost_spec =
    tie.close (tie.spec (λ c κs. search rules) (λ c. search rules) lose-listed-requires (λ c. search rules) (λ c κs. search rules) (λ c. search rules) returns
    returns-2)
