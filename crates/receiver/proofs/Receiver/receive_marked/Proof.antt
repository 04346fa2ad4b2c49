use Rattle.receiver.proofs.Calling.{unlisted-call}
use mathlib.Core.Path.{sym, ◌∙◌}
use borrow.Author.Rules.{rules}
use Rattle.receiver.proofs.Receiver.receive_marked.Statement.{statement}
use Rattle.receiver.proofs.Receiver.receive_marked.Tie as tie

receive-listed-requires : tie.Need-receive_listed-requires
receive-listed-requires c κs =
    let g = c.before.before.before.before in
    sym g.look_up.ensures ∙ c.before.before.before.in-Listed.is

returns : tie.Need-returns-in-Listed
returns c = c.before.before.before.before.before.before.receive_listed.ensures

returns-2 : tie.Need-returns-in-Refused
returns-2 c =
    let l = c.before.before.before in
    let a = l.before.before.before.before.args in
    unlisted-call a.marks.now a.carry.now a.pdu.now a.log.now a.self _ _ c.refused.result c.before.before.look_up.ensures c.in-Refused.is c.refused.ensures

pub receive_marked_spec : {M : Type 1} → statement M
receive_marked_spec =
    tie.close (tie.spec (λ c κs. search rules) (λ c. search rules) receive-listed-requires (λ c. search rules) (λ c κs. search rules) (λ c. search rules)
    (λ c. search rules) (λ c. search rules) returns returns-2)
