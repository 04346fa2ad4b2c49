use mathlib.Core.Path.{sym, ◌∙◌}
use Rattle.pair.proofs.Calling.{unlisted-call}
use borrow.Author.Rules.{rules}
use Rattle.pair.proofs.receive.Statement.{statement}
use Rattle.pair.proofs.receive.Tie as tie

receive-listed-requires : tie.Need-receive_listed-requires
receive-listed-requires c κs =
    let k = c.before.before.before.before.before in
    sym k.look_up.ensures ∙ c.before.before.before.before.in-Listed.is

returns-2 : tie.Need-returns-in-Refused
returns-2 c =
    let k = c.before.before.before in
    let a = k.before.before.before.before.args in
    unlisted-call a.carry.now a.first.now a.second.now a.log.now a.receiver _ _ c.refused.result c.before.before.look_up.ensures c.before.in-Refused.is c.refused.ensures

pub receive_spec : {M : Type 1} → statement M
receive_spec =
    tie.close (tie.spec (λ c κs. search rules) (λ c. search rules) receive-listed-requires (λ c. search rules) (λ c κs. search rules) (λ c. search rules)
    (λ c. search rules) (λ c. search rules) (λ c. search rules) (λ c. search rules) returns-2)
