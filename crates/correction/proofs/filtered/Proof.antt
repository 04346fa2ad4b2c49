use mathlib.Core.Path.{ap}
use Prim.Native.Nat.{ℕ, ◌+◌, ◌-◌, ◌≤◌}
use native.Mathlib.Omega.{arith}
use lib.ListN.{get_or}
use lib.Bits.{bit_xor}
use borrow.Author.Rules.{rules}
use Rattle.correction.specs.ErrorValues.{Filtered}
use Rattle.correction.proofs.Filtering.{filtered-next, filtered-end}
use Rattle.correction.proofs.filtered.Statement.{statement}
use Rattle.correction.proofs.filtered.Tie as tie

abbrev invariant-loop : tie.invariant-loop-j
invariant-loop powers logarithms x t out₀ j₀ out j = (j ≤ 7) × Filtered t x out j

abbrev decreases-loop : tie.decreases-loop-j
decreases-loop powers logarithms x t out₀ j₀ out j = 7 - j

loop-holds : tie.Need-loop-j-init invariant-loop decreases-loop
loop-holds c = (omega arith, record { long = search rules; last = search rules; entry = λ i l. absurd (omega arith) })

loop-again : tie.Need-loop-j-preserved invariant-loop decreases-loop
loop-again c = (
  omega arith,
  filtered-next _ _ c.before.before.loop-j.out c.before.before.loop-j.j _ (omega arith) c.before.before.loop-j.invariant.1
      (ap (λ (u : ℕ). bit_xor (get_or c.before.before.before.args.t (c.before.before.loop-j.j + 1) 0) u) c.product_by.ensures),
)

returns : tie.Need-returns invariant-loop decreases-loop
returns c = filtered-end _ _ _ c.before.loop-j.j (omega arith) c.before.loop-j.invariant.1

pub filtered_spec : {M : Type 1} → statement M
filtered_spec =
    tie.close (tie.spec invariant-loop decreases-loop
    loop-holds (λ c. search rules) (λ c. search rules) (λ c. search rules) (λ c κs. search rules) (λ c. search rules) (λ c. search rules) (λ c. search rules)
    loop-again returns)
