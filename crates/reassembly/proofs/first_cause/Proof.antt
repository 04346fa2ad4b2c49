use Rattle.reassembly.specs.Run.{first_cause}
use mathlib.Core.Path.{refl, sym, ◌∙◌}
use borrow.Author.Rules.{rules}
use Rattle.reassembly.proofs.first_cause.Statement.{statement}
use Rattle.reassembly.proofs.first_cause.Tie as tie

returns : tie.Need-returns-then-continued
unfolding first_cause
returns c =
    let q = c.before.before.before in
    let e = sym q.in_sequence.ensures ∙ c.before.before.if-in_sequence.true in
    let f = sym c.before.continued.ensures ∙ c.if-continued.true in
    rw (e, f) refl

returns-2 : tie.Need-returns-then-in_sequence
unfolding first_cause
returns-2 c =
    let q = c.before.before.before in
    let e = sym q.in_sequence.ensures ∙ c.before.before.if-in_sequence.true in
    let f = sym c.before.continued.ensures ∙ c.if-continued.false in
    rw (e, f) refl

returns-3 : tie.Need-returns
unfolding first_cause
returns-3 c =
    let e = sym c.before.in_sequence.ensures ∙ c.if-in_sequence.false in
    rw e refl

pub first_cause_spec : {M : Type 1} → statement M
first_cause_spec = tie.close (tie.spec (λ c κs. search rules) (λ c κs. search rules) returns returns-2 returns-3)
