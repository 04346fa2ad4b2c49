-- `field::power_by` meets its contract: the table's rule at the exponent modulo 255.
use mathlib.Core.Path.{◌∙◌}
use Prim.Native.Nat.{◌%◌, ◌<◌}
use native.Mathlib.Nat.{mod-lt}
use lib.Dec.{lit<}
use native.Mathlib.Omega.{arith}
use Rattle.field.proofs.Laws.{pow-mod}
use borrow.Author.Rules.{rules}
use Rattle.field.proofs.power_by.Statement.{statement}
use Rattle.field.proofs.power_by.Tie as tie

returns : tie.Need-returns
returns c =
    c.before.before.requires.entry (c.before.before.args.k % 255) (let m : c.before.before.args.k % 255 < 255 = mod-lt c.before.before.args.k (lit< tt) in omega arith) ∙ pow-mod c.before.before.args.k

pub power_by_spec : {M : Type 1} → statement M
power_by_spec = tie.close (tie.spec (λ c. search rules) returns)
