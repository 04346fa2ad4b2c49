use mathlib.Core.Path.{sym, ◌∙◌}
use Prim.Native.Nat.{◌-◌}
use borrow.Author.Rules.{rules}
use mathlib.Core.Path.{sym, ◌∙◌}
use Rattle.pdu.proofs.Restoring.{taken, turned_down}
use Rattle.pdu.proofs.read.Statement.{statement}
use Rattle.pdu.proofs.read.Tie as tie

returns : tie.Need-returns-in-Corrected
returns c =
    let f = c.before.before in
    let g = f.before.before.before in
    let k = g.before.before.before.before in
    let h = k.before.before in
    taken _ _ _ _ _ _ (λ i. (h.slice_known-1.given i).fits) (sym c.before.before.before.before.before.before.before.before.correct-answer.ensures.0 ∙ c.before.before.before.before.before.in-Corrected.is) c.before.before.before.before.before.before.before.before.before.before.header_of-before.ensures c.before.before.before.before.before.before.before.before.correct-answer.ensures.1
    f.read_or_restore.ensures.0 f.read_or_restore.ensures.1

returns-2 : tie.Need-returns-in-Refused
returns-2 c =
    let g = c.before.before in
    let k = g.before.before.before.before in
    turned_down _ _ _ _ (sym c.before.before.before.before.correct-answer.ensures.0 ∙ c.before.in-Refused.is) c.refused_reading.ensures c.before.before.before.before.correct-answer.ensures.1

pub read_spec : {M : Type 1} → statement M
read_spec =
    tie.close (tie.spec (λ c κs. search rules) (λ c κs. search rules) (λ c. search rules) (λ c κs. search rules) (λ c. search rules) (λ c κs. search rules)
    (λ c. search rules) returns (λ c. search rules) returns-2)
