use mathlib.Core.Path.{sym, ap, ◌∙◌}
use Rattle.receiver.specs.declared.Receiver.{Receiver}
use Rattle.receiver.proofs.Opening.{opens, programs-refused, mode-refused}
use borrow.Author.Rules.{rules}
use Rattle.receiver.proofs.open_entitled.Statement.{statement}
use Rattle.receiver.proofs.open_entitled.Tie as tie

returns : tie.Need-returns-then-allowed
returns c =
    let a = c.before.before.before.before.before.before.before.args in
    let k = c.before.before.before.allowed in
    ap (λ (x : Receiver). record { refusal = 0; receiver = x }) c.fresh.ensures
    ∙ opens a.mode a.stream a.register a.programs.now _ c.before.before.before.before.before.look_up.ensures _ c.before.mask_of.result c.in-Listed.is (sym k.ensures ∙ c.before.before.if-allowed.true) c.before.mask_of.ensures

returns-2 : tie.Need-returns-else-allowed
returns-2 c =
    let a = c.before.before.before.before.before.before.args in
    let k = c.before.before.allowed in
    c.not_opened.ensures ∙ programs-refused a.mode a.stream a.register a.programs.now _ c.before.before.before.before.look_up.ensures _ c.in-Listed.is (sym k.ensures ∙ c.before.if-allowed.false)

returns-3 : tie.Need-returns-in-Refused
returns-3 c =
    let a = c.before.before.before.before.args in
    c.not_opened-in-Refused.ensures ∙ mode-refused a.mode a.stream a.register a.programs.now _ c.before.before.look_up.ensures _ c.before.in-Refused.is

pub open_entitled_spec : {M : Type 1} → statement M
open_entitled_spec =
    tie.close (tie.spec (λ c κs. search rules) (λ c. search rules) (λ c κs. search rules) (λ c κs. search rules) (λ c κs. search rules) returns
    (λ c κs. search rules) (λ c. search rules) (λ c κs. search rules) returns-2 returns-3)
