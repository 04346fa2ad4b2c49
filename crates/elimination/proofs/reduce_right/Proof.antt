use borrow.Author.Rules.{rules}
use native.Mathlib.Omega.{arith}
use mathlib.Core.Path.{ap, ◌∙◌}
use Prim.Native.Nat.{ℕ, ◌-◌, ◌≤◌}
use lib.ListN.{get_or}
use mathlib.Core.List.{[]}
use mathlib.Core.Logic.{⊎_elim}
use lib.Bits.{bit_xor}
use Rattle.field.specs.Field.{mul}
use Rattle.elimination.proofs.Steps.{ClearRight, right-begin, right-skip, right-row, right_end}
use Rattle.elimination.proofs.reduce_right.Statement.{statement}
use Rattle.elimination.proofs.reduce_right.Tie as tie

abbrev invariant-loop : tie.invariant-loop-r
invariant-loop powers logarithms k p v top rows out₀ r₀ out r = (r ≤ 4) × ClearRight out₀ (λ i. get_or (get_or rows i []) k 0) top k out r

abbrev decreases-loop : tie.decreases-loop-r
decreases-loop powers logarithms k p v top rows out₀ r₀ out r = 4 - r

loop-holds : tie.Need-loop-r-init invariant-loop decreases-loop
loop-holds c = (omega arith, right-begin c.before.before.before.before.args.right _ _ _ _ _ (omega arith) (search rules))

loop-again : tie.Need-loop-r-preserved invariant-loop decreases-loop
loop-again c = (
  omega arith,
  ⊎_elim
      (λ w. rw w.out-is (right-row _ _ _ _ c.before.before.loop-r.out c.before.before.loop-r.r _ c.before.before.loop-r.invariant.1 (omega arith) w.if-r-k.true
      (ap (bit_xor (get_or c.before.before.loop-r.out c.before.before.loop-r.r 0)) w.product_by.ensures)))
      (λ w. rw w.out-is (right-skip _ _ _ _ c.before.before.loop-r.out c.before.before.loop-r.r c.before.before.loop-r.invariant.1 w.if-r-k.false))
      c.if-r-k.branch-raw,
)

returns : tie.Need-returns invariant-loop decreases-loop
returns c =
    right_end _ _ _ _ c.before.before.before.product_by-top.result _ c.before.loop-r.r (omega arith)
    (c.before.before.before.product_by-top.ensures ∙ ap (λ (v : ℕ). mul v (get_or c.before.before.before.before.before.before.args.right c.before.before.before.before.before.before.args.p 0)) c.before.before.before.before.inverse_by-v.ensures) c.before.loop-r.invariant.1

pub reduce_right_spec : {M : Type 1} → statement M
reduce_right_spec =
    tie.close (tie.spec invariant-loop decreases-loop
    (λ c. search rules) (λ c. search rules) (λ c. search rules) (λ c κs. search rules) (λ c. search rules) (λ c κs. search rules) (λ c. search rules)
    (λ c. search rules) (λ c. search rules) (λ c. search rules) (λ c. search rules) (λ c. search rules) (λ c. search rules) loop-holds (λ c. search rules)
    (λ c. search rules) (λ c. search rules) (λ c. search rules) (λ c κs. search rules) (λ c. search rules) (λ c. search rules) (λ c. search rules) loop-again
    returns)
