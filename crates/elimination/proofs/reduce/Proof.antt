use Prim.Native.Nat.{◌-◌, ◌≤◌}
use native.Mathlib.Omega.{arith}
use mathlib.Core.Logic.{⊎_elim}
use borrow.Author.Rules.{rules}
use Rattle.elimination.proofs.Steps.{Clear, clear-begin, clear-skip, clear-row, reduce-end}
use Rattle.elimination.proofs.reduce.Statement.{statement}
use Rattle.elimination.proofs.reduce.Tie as tie

abbrev invariant-loop : tie.invariant-loop-r
invariant-loop powers logarithms k p b top out₀ r₀ out r = (r ≤ 4) × Clear out₀ top k out r

abbrev decreases-loop : tie.decreases-loop-r
decreases-loop powers logarithms k p b top out₀ r₀ out r = 4 - r

loop-holds : tie.Need-loop-r-init invariant-loop decreases-loop
loop-holds c = (omega arith, clear-begin c.before.before.before.args.m _ _ _ _ (omega arith) (search rules))

loop-again : tie.Need-loop-r-preserved invariant-loop decreases-loop
loop-again c = (
  omega arith,
  ⊎_elim
      (λ w. rw w.out-is (clear-row _ _ _ c.before.before.loop-r.out c.before.before.loop-r.r _ c.before.before.loop-r.invariant.1 (omega arith) w.if-r-k.true w.cleared.ensures))
      (λ w. rw w.out-is (clear-skip _ _ _ c.before.before.loop-r.out c.before.before.loop-r.r c.before.before.loop-r.invariant.1 w.if-r-k.false))
      c.if-r-k.branch-raw,
)

returns : tie.Need-returns invariant-loop decreases-loop
returns c = reduce-end _ _ _ _ _ c.before.loop-r.r (omega arith) c.before.before.before.scaled-top.ensures c.before.loop-r.invariant.1

pub reduce_spec : {M : Type 1} → statement M
reduce_spec =
    tie.close (tie.spec invariant-loop decreases-loop
    (λ c. search rules) (λ c. search rules) (λ c. search rules) (λ c κs. search rules) (λ c. search rules) (λ c. search rules) (λ c. search rules)
    (λ c. search rules) (λ c. search rules) (λ c. search rules) loop-holds (λ c. search rules) (λ c. search rules) (λ c κs. search rules) (λ c. search rules)
    (λ c. search rules) (λ c. search rules) (λ c. search rules) loop-again returns)
