use Rattle.header.specs.Horner.{horner_step}
use borrow.Author.Rules.{rules}
use Rattle.header.proofs.horner_step.Statement.{statement}
use Rattle.header.proofs.horner_step.Tie as tie

returns : tie.Need-returns
unfolding horner_step
returns c =
    simp (
      c.before.before.before.before.before.before.before.horner.ensures,
      c.before.before.before.before.before.before.horner-2.ensures,
      c.before.before.before.before.before.horner-3.ensures,
      c.before.before.before.before.horner-4.ensures,
      c.before.before.before.horner-5.ensures,
      c.before.before.horner-6.ensures,
      c.before.horner-7.ensures,
      c.horner-8.ensures,
    )

pub horner_step_spec : {M : Type 1} → statement M
horner_step_spec =
    tie.close (tie.spec (λ c κs. search rules) (λ c κs. search rules) (λ c κs. search rules) (λ c κs. search rules) (λ c κs. search rules)
    (λ c κs. search rules) (λ c κs. search rules) (λ c κs. search rules) returns)
