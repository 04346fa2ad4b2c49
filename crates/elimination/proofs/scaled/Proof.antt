use mathlib.Core.Path.{◌∙◌, ap}
use Prim.Native.Nat.{ℕ, ◌-◌, ◌≤◌}
use native.Mathlib.Omega.{arith}
use lib.ListN.{get_or}
use borrow.Author.Rules.{rules}
use Rattle.field.specs.Field.{mul}
use Rattle.elimination.specs.Elimination.{Row, scaled_by}
use Rattle.elimination.proofs.Steps.{begin, grow, finish}
use Rattle.elimination.proofs.scaled.Statement.{statement}
use Rattle.elimination.proofs.scaled.Tie as tie

abbrev invariant-loop : tie.invariant-loop-i
invariant-loop powers logarithms b row v out₀ i₀ out i = (i ≤ 4) × Row 4 (scaled_by row b) out i

abbrev decreases-loop : tie.decreases-loop-i
decreases-loop powers logarithms b row v out₀ i₀ out i = 4 - i

loop-holds : tie.Need-loop-i-init invariant-loop decreases-loop
loop-holds c = (omega arith, begin _ _ _ (search rules))

loop-again : tie.Need-loop-i-preserved invariant-loop decreases-loop
loop-again c = (
  omega arith,
  grow 4 (scaled_by c.before.before.before.before.args.row c.before.before.before.before.args.b) c.before.before.loop-i.out c.before.before.loop-i.i c.product_by.result
      (omega arith) c.before.before.loop-i.invariant.1 (c.product_by.ensures ∙ ap (λ (v : ℕ). mul v (get_or c.before.before.before.before.args.row c.before.before.loop-i.i 0)) c.before.before.before.inverse_by-v.ensures),
)

returns : tie.Need-returns invariant-loop decreases-loop
returns c = finish _ _ _ c.before.loop-i.i (omega arith) c.before.loop-i.invariant.1

pub scaled_spec : {M : Type 1} → statement M
scaled_spec =
    tie.close (tie.spec invariant-loop decreases-loop
    (λ c κs. search rules) loop-holds (λ c. search rules) (λ c κs. search rules) (λ c. search rules) (λ c. search rules) (λ c. search rules) loop-again returns)
