-- `power_sums::same` meets its contract: no two sums differ.
use borrow.Author.Rules.{rules}
use native.Mathlib.Omega.{arith}
use mathlib.Core.Path.{◌≡◌, ap}
use Prim.Native.Nat.{ℕ, ◌-◌, ◌≤◌}
use lib.ListN.{get_or}
use mathlib.Core.List.{List}
use Rattle.power_sums.proofs.Theorem.{same-sums}
use Rattle.power_sums.proofs.same.Statement.{statement}
use Rattle.power_sums.proofs.same.Tie as tie

abbrev invariant-loop : tie.invariant-loop-k
invariant-loop header one other k₀ k = (k ≤ 8) × (one ≡ other)

abbrev decreases-loop : tie.decreases-loop-k
decreases-loop header one other k₀ k = 8 - k

loop-holds : tie.Need-loop-k-init invariant-loop decreases-loop
loop-holds c = (omega arith, same-sums c.before.before.args.header.now c.before.sums-one.result c.syndromes-other.result c.before.sums-one.ensures c.syndromes-other.ensures)

returns : tie.Need-returns-then-one-k invariant-loop decreases-loop
returns c =
    let l = c.before.before in
    absurd (c.if-one-k.true (ap (λ (s : List ℕ). get_or s l.loop-k.k 0) l.loop-k.invariant.1))

pub same_spec : {M : Type 1} → statement M
same_spec =
    tie.close (tie.spec invariant-loop decreases-loop
    (λ c κs. search rules) (λ c κs. search rules) loop-holds (λ c. search rules) (λ c. search rules) returns (λ c. search rules) (λ c. search rules)
    (λ c. search rules) (λ c. search rules))
