use native.Mathlib.Omega.{arith}
use mathlib.Core.Path.{◌∙◌}
use Rattle.snapshot.proofs.Tests.{other_word, right-word}
use borrow.Author.Rules.{rules}
use Rattle.snapshot.proofs.byte_fits.Statement.{statement}
use Rattle.snapshot.proofs.byte_fits.Tie as tie

returns : tie.Need-returns-then-w-n
returns c = other_word c.before.args.w c.before.args.n (λ e. omega arith)

returns-2 : tie.Need-returns
returns-2 c = c.unused_zero.ensures ∙ right-word c.before.before.args.w c.before.before.args.n (omega arith)

pub byte_fits_spec : {M : Type 1} → statement M
byte_fits_spec = tie.close (tie.spec (λ c. search rules) returns (λ c κs. search rules) returns-2)
