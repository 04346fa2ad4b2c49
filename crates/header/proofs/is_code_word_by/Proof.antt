-- `header::is_code_word_by` meets its contract.
use mathlib.Core.Path.{ap, ◌∙◌}
use borrow.Author.Rules.{rules}
use Rattle.header.specs.Header.{is_code_word, all_zero}
use Rattle.header.proofs.is_code_word_by.Statement.{statement}
use Rattle.header.proofs.is_code_word_by.Tie as tie

returns : tie.Need-returns
unfolding is_code_word
returns c = c.all_zero.ensures ∙ ap all_zero c.before.syndromes_by.ensures

pub is_code_word_by_spec : {M : Type 1} → statement M
is_code_word_by_spec = tie.close (tie.spec (λ c κs. search rules) (λ c κs. search rules) returns)
