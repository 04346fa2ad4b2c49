use mathlib.Core.Path.{ap}
use Prim.Native.Nat.{ℕ, ◌-◌, ◌≤◌}
use native.Mathlib.Omega.{arith}
use lib.ListN.{get_or}
use lib.Bits.{bit_xor}
use borrow.Author.Rules.{rules}
use Rattle.elimination.specs.Elimination.{Row, cleared_by}
use Rattle.elimination.proofs.Steps.{begin, grow, finish}
use Rattle.elimination.proofs.cleared.Statement.{statement}
use Rattle.elimination.proofs.cleared.Tie as tie

abbrev invariant-loop : tie.invariant-loop-i
invariant-loop powers logarithms k row p b out₀ i₀ out i = (i ≤ 4) × Row 4 (cleared_by row p k) out i

abbrev decreases-loop : tie.decreases-loop-i
decreases-loop powers logarithms k row p b out₀ i₀ out i = 4 - i

loop-holds : tie.Need-loop-i-init invariant-loop decreases-loop
loop-holds c = (omega arith, begin _ _ _ (search rules))

loop-again : tie.Need-loop-i-preserved invariant-loop decreases-loop
loop-again c = (
  omega arith,
  grow 4 (cleared_by c.before.before.before.args.row c.before.before.before.args.p c.before.before.before.args.k) c.before.before.loop-i.out c.before.before.loop-i.i
      (bit_xor (get_or c.before.before.before.args.row c.before.before.loop-i.i 0) c.product_by.result)
      (omega arith) c.before.before.loop-i.invariant.1 (ap (λ (v : ℕ). bit_xor (get_or c.before.before.before.args.row c.before.before.loop-i.i 0) v) c.product_by.ensures),
)

returns : tie.Need-returns invariant-loop decreases-loop
returns c = finish _ _ _ c.before.loop-i.i (omega arith) c.before.loop-i.invariant.1

pub cleared_spec : {M : Type 1} → statement M
cleared_spec =
    tie.close (tie.spec invariant-loop decreases-loop
    (λ c. search rules) loop-holds (λ c. search rules) (λ c. search rules) (λ c κs. search rules) (λ c. search rules) (λ c. search rules) (λ c. search rules)
    loop-again returns)
