-- `header::step` meets its contract.
use mathlib.Core.Path.{ap, ◌∙◌}
use borrow.Author.Rules.{rules}
use Rattle.header.specs.Packed.{times_all}
use Rattle.header.proofs.Lanes.{eight-parts}
use Rattle.header.proofs.step.Statement.{statement}
use Rattle.header.proofs.step.Tie as tie

returns : tie.Need-returns
returns c =
    let s = c.before.before.before.before.before.before.before.before in
    eight-parts s.args.v c.before.before.before.before.before.before.before.by_byte.result c.before.before.before.before.before.before.by_byte-2.result c.before.before.before.before.before.by_byte-3.result c.before.before.before.before.by_byte-4.result c.before.before.before.by_byte-5.result c.before.before.by_byte-6.result c.before.by_byte-7.result c.by_byte-8.result
    (c.before.before.before.before.before.before.before.by_byte.ensures ∙ ap (times_all _) s.requires.0.0)
    (c.before.before.before.before.before.before.by_byte-2.ensures ∙ ap (times_all _) s.requires.0.1)
    (c.before.before.before.before.before.by_byte-3.ensures ∙ ap (times_all _) s.requires.0.2)
    (c.before.before.before.before.by_byte-4.ensures ∙ ap (times_all _) s.requires.0.3)
    (c.before.before.before.by_byte-5.ensures ∙ ap (times_all _) s.requires.1.0)
    (c.before.before.by_byte-6.ensures ∙ ap (times_all _) s.requires.1.1)
    (c.before.by_byte-7.ensures ∙ ap (times_all _) s.requires.1.2)
    (c.by_byte-8.ensures ∙ ap (times_all _) s.requires.1.3)

pub step_spec : {M : Type 1} → statement M
step_spec =
    tie.close (tie.spec (λ c κs. search rules) (λ c κs. search rules) (λ c κs. search rules) (λ c κs. search rules) (λ c κs. search rules)
    (λ c κs. search rules) (λ c κs. search rules) (λ c κs. search rules) returns)
