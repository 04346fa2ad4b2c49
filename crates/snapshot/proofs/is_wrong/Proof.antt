use mathlib.Core.Path.{refl}
use borrow.Author.Rules.{rules}
use Rattle.snapshot.specs.Snapshot.{has}
use Rattle.snapshot.proofs.Calls.{wrong-form, wrong-state}
use Rattle.snapshot.proofs.is_wrong.Statement.{statement}
use Rattle.snapshot.proofs.is_wrong.Tie as tie

returns : tie.Need-returns-then-not-is_form
returns c =
    let q = c.before in
    let s = q.before.before in
    wrong-form s.args.words.now s.args.r (has 3 s.args.words.now) (has 4 s.args.words.now) s.requires refl refl q.is_form.result q.is_form.ensures (c.if-not-is_form.true)

returns-2 : tie.Need-returns
returns-2 c =
    let q = c.before.before in
    let s = q.before.before in
    wrong-state s.args.words.now s.args.r (has 3 s.args.words.now) (has 4 s.args.words.now) s.requires refl refl q.is_form.result q.is_form.ensures c.state_refusal.result (c.before.if-not-is_form.false) c.state_refusal.ensures

pub is_wrong_spec : {M : Type 1} → statement M
is_wrong_spec = tie.close (tie.spec (λ c κs. search rules) returns (λ c κs. search rules) returns-2)
