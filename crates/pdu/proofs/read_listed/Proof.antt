use mathlib.Core.Path.{sym, ◌∙◌}
use Prim.Native.Nat.{◌-◌}
use borrow.Author.Rules.{rules}
use Rattle.pdu.proofs.Assembling.{none-wrong, listed-accepted, listed-refused}
use Rattle.pdu.proofs.read_listed.Statement.{statement}
use Rattle.pdu.proofs.read_listed.Tie as tie

accepted-reading-requires : tie.Need-accepted_reading-requires
accepted-reading-requires c κs =
    let j = c.before.before in
    let a = j.before.before.args in
    (j.before.before.requires, none-wrong a.m a.c a.y.now (sym j.judge-v.ensures.0 ∙ c.if-v-eq0.true))

returns : tie.Need-returns-then-v-eq0
returns c =
    let j = c.before.before.before in
    let a = j.before.before.args in
    listed-accepted a.m a.c a.y.now _ (sym j.judge-v.ensures.0 ∙ c.before.if-v-eq0.true) c.accepted_reading.ensures

returns-2 : tie.Need-returns
returns-2 c =
    let j = c.before.before.before.before in
    let a = j.before.before.args in
    listed-refused a.m a.c a.y.now _ _ _ j.judge-v.ensures.0 c.before.before.if-v-eq0.false j.judge-v.ensures.1 c.refused_reading.ensures

pub read_listed_spec : {M : Type 1} → statement M
read_listed_spec = tie.close (tie.spec (λ c κs. search rules) accepted-reading-requires returns (λ c. search rules) (λ c κs. search rules) returns-2)
