use mathlib.Core.Path.{sym, ◌∙◌}
use Rattle.join.proofs.Refusing.{core-no-log, enhanced-no-log, not-in-order, too_short, accepted}
use borrow.Author.Rules.{rules}
use Rattle.join.proofs.refusal.Statement.{statement}
use Rattle.join.proofs.refusal.Tie as tie

returns : tie.Need-returns-then-not-is_log
returns c = core-no-log c.before.before.before.before.before.args.core.now c.before.before.before.before.before.args.enhanced.now c.before.before.before.before.before.args.room (sym c.before.is_log.ensures ∙ c.if-not-is_log.true)

returns-2 : tie.Need-returns-then-not-is_log-2
returns-2 c =
    let a = c.before.before.before.before.before.before.before.args in
    enhanced-no-log a.core.now a.enhanced.now a.room (sym c.before.before.before.is_log.ensures ∙ c.before.before.if-not-is_log.false)
    (sym c.before.is_log-2.ensures ∙ c.if-not-is_log-2.true)

returns-3 : tie.Need-returns-then-out_of_order
returns-3 c =
    let a = c.before.before.before.before.before.before.before.before.before.args in
    not-in-order a.core.now a.enhanced.now (sym c.before.before.before.before.before.is_log.ensures ∙ c.before.before.before.before.if-not-is_log.false)
    (sym c.before.before.before.is_log-2.ensures ∙ c.before.before.if-not-is_log-2.false) a.room (sym c.before.out_of_order.ensures ∙ c.if-out_of_order.true)

returns-4 : tie.Need-returns-then-not-has_room
returns-4 c =
    let a = c.before.before.before.before.before.before.before.before.before.before.before.args in
    too_short a.core.now a.enhanced.now (sym c.before.before.before.before.before.before.before.is_log.ensures ∙ c.before.before.before.before.before.before.if-not-is_log.false)
    (sym c.before.before.before.before.before.is_log-2.ensures ∙ c.before.before.before.before.if-not-is_log-2.false) a.room (sym c.before.before.before.out_of_order.ensures ∙ c.before.before.if-out_of_order.false)
    (sym c.before.has_room.ensures ∙ c.if-not-has_room.true)

returns-5 : tie.Need-returns
returns-5 c =
    let a = c.before.before.before.before.before.before.before.before.before.before.before.args in
    accepted a.core.now a.enhanced.now (sym c.before.before.before.before.before.before.before.is_log.ensures ∙ c.before.before.before.before.before.before.if-not-is_log.false)
    (sym c.before.before.before.before.before.is_log-2.ensures ∙ c.before.before.before.before.if-not-is_log-2.false) a.room (sym c.before.before.before.out_of_order.ensures ∙ c.before.before.if-out_of_order.false)
    (sym c.before.has_room.ensures ∙ c.if-not-has_room.false)

pub refusal_spec : {M : Type 1} → statement M
refusal_spec =
    tie.close (tie.spec (λ c κs. search rules) returns (λ c κs. search rules) returns-2 (λ c κs. search rules) returns-3 (λ c κs. search rules) returns-4
    returns-5)
