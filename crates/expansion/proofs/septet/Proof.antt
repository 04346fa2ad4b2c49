use native.Mathlib.Omega.{arith}
use mathlib.Core.Path.{ap, ◌∙◌}
use Prim.Native.Nat.{ℕ}
use borrow.Author.Rules.{rules}
use lib.Dec.{lit<}
use Prim.Native.Nat.{◌%◌}
use Rattle.expansion.proofs.Absorbing.{septet-inside, septet-outside}
use Rattle.expansion.proofs.septet.Statement.{statement}
use Rattle.expansion.proofs.septet.Tie as tie

returns : tie.Need-returns-then-j-n
returns c = (ap (λ (x : ℕ). x % 128) c.byte_at.ensures ∙ septet-inside _ _ _ _ c.before.if-j-n.true, omega arith)

returns-2 : tie.Need-returns
returns-2 c = (septet-outside _ _ _ _ c.if-j-n.false, lit< tt)

pub septet_spec : {M : Type 1} → statement M
septet_spec = tie.close (tie.spec (λ c. search rules) (λ c κs. search rules) returns returns-2)
