use mathlib.Core.Path.{refl}
use Prim.Native.Nat.{◌-◌, ◌≤◌}
use native.Mathlib.Omega.{arith}
use borrow.Author.Rules.{rules}
use Rattle.elimination.specs.Elimination.{Column}
use Rattle.elimination.proofs.Steps.{column-next, column-end}
use Rattle.elimination.proofs.column.Statement.{statement}
use Rattle.elimination.proofs.column.Tie as tie

abbrev invariant-loop : tie.invariant-loop-i
invariant-loop k rows out₀ i₀ out i = (i ≤ k) × Column rows k out i

abbrev decreases-loop : tie.decreases-loop-i
decreases-loop k rows out₀ i₀ out i = k - i

loop-holds : tie.Need-loop-i-init invariant-loop decreases-loop
loop-holds c = (omega arith, record { long = search rules; taken = λ i l. absurd (omega arith) })

loop-again : tie.Need-loop-i-preserved invariant-loop decreases-loop
loop-again c = (omega arith, column-next _ _ c.before.before.loop-i.out _ _ (omega arith) c.before.before.loop-i.invariant.1 refl)

returns : tie.Need-returns invariant-loop decreases-loop
returns c = column-end _ _ _ c.before.loop-i.i (omega arith) c.before.loop-i.invariant.1

pub column_spec : {M : Type 1} → statement M
column_spec =
    tie.close (tie.spec invariant-loop decreases-loop
    loop-holds (λ c. search rules) (λ c. search rules) (λ c. search rules) (λ c. search rules) (λ c. search rules) (λ c. search rules) loop-again returns)
