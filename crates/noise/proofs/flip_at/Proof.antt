use borrow.Author.Rules.{rules}
use native.Mathlib.Omega.{arith}
use mathlib.Core.Path.{sym}
use lib.Seq.{set_out}
use Rattle.noise.specs.Noise.{flipped_at}
use Rattle.noise.proofs.flip_at.Statement.{statement}
use Rattle.noise.proofs.flip_at.Tie as tie

returns : tie.Need-returns-then-pdu-place
unfolding flipped_at
returns c = sym (set_out _ _ _ (omega arith))

returns-2 : tie.Need-returns
unfolding flipped_at
returns-2 c = search rules

pub flip_at_spec : {M : Type 1} → statement M
flip_at_spec = tie.close (tie.spec returns (λ c. search rules) (λ c. search rules) (λ c. search rules) returns-2)
