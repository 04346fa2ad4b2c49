use mathlib.Core.Path.{refl}
use borrow.Author.Rules.{rules}
use Rattle.reassembly.proofs.in_sequence.Statement.{statement}
use Rattle.reassembly.proofs.in_sequence.Tie as tie

returns : tie.Need-returns-then-known
returns c = rw (c.before.if-known.true, c.next_sequence.ensures) refl

returns-2 : tie.Need-returns
returns-2 c = rw c.if-known.false refl

pub in_sequence_spec : {M : Type 1} → statement M
in_sequence_spec = tie.close (tie.spec (λ c κs. search rules) returns returns-2)
