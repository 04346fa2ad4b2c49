use mathlib.Core.Path.{refl}
use Prim.Native.Nat.{◌-◌}
use borrow.Author.Rules.{rules}
use Rattle.pdu.proofs.Assembling.{accepted-parts}
use Rattle.pdu.proofs.accepted_reading.Statement.{statement}
use Rattle.pdu.proofs.accepted_reading.Tie as tie

returns : tie.Need-returns
returns c =
    let s = c.before.before in
    let q = s.before in
    let l = q.before.before in
    let f = l.before in
    let x = f.before.before in
    let a = x.before.before.args in
    accepted-parts a.width a.c a.y.now _ _ _ _ _ _ _ _ x.expansion_of-x.ensures.2 f.answered_fields-fields.ensures
    l.after_locators.ensures.0 x.expansion_of-x.ensures.0 refl q.psd_part-psd.ensures.0 q.psd_part-psd.ensures.1 s.piece_spans-spans.ensures.0 s.piece_spans-spans.ensures.1

pub accepted_reading_spec : {M : Type 1} → statement M
accepted_reading_spec =
    tie.close (tie.spec (λ c κs. search rules) (λ c κs. search rules) (λ c κs. search rules) (λ c. search rules) (λ c. search rules) (λ c κs. search rules)
    (λ c κs. search rules) returns)
