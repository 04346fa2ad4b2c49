use mathlib.Core.Path.{◌∙◌}
use borrow.Author.Rules.{rules}
use Rattle.correction.proofs.Answers.{no-marks-answer, no-marks-pdu}
use Rattle.correction.proofs.correct.Statement.{statement}
use Rattle.correction.proofs.correct.Tie as tie

returns : tie.Need-returns
returns c = let m = c.before.before in (m.correct_marked.ensures.0 ∙ no-marks-answer _, m.correct_marked.ensures.1 ∙ no-marks-pdu _)

pub correct_spec : {M : Type 1} → statement M
correct_spec = tie.close (tie.spec (λ c. search rules) (λ c. search rules) (λ c κs. search rules) (λ c. search rules) returns)
