use mathlib.Core.Logic.{⊎_elim}
use Prim.Native.Nat.{◌-◌, ◌≤◌}
use native.Mathlib.Omega.{arith}
use borrow.Author.Rules.{rules}
use Rattle.correction.proofs.Filtering.{Working, working-start, working-skip, working-next, working-end}
use Rattle.correction.proofs.error_value.Statement.{statement}
use Rattle.correction.proofs.error_value.Tie as tie

abbrev invariant-loop : tie.invariant-loop-q
invariant-loop powers logarithms m k z at t₀ f₀ q₀ t f q = (q ≤ m) × Working t₀ z k q t f

abbrev decreases-loop : tie.decreases-loop-q
decreases-loop powers logarithms m k z at t₀ f₀ q₀ t f q = m - q

loop-holds : tie.Need-loop-q-init invariant-loop decreases-loop
loop-holds c = (omega arith, working-start _ _ _)

loop-again : tie.Need-loop-q-preserved invariant-loop decreases-loop
loop-again c = (
  omega arith,
  ⊎_elim
      (λ w. rw (w.t-is, w.f-is) (working-next _ _ _ c.before.before.loop-q.q c.before.before.loop-q.t _ c.before.before.loop-q.f _ c.before.before.loop-q.invariant.1 w.if-q-k.true w.filtered-next.ensures w.product_by-f.ensures))
      (λ w. rw (w.t-is, w.f-is) (working-skip _ _ _ c.before.before.loop-q.q c.before.before.loop-q.t c.before.before.loop-q.f c.before.before.loop-q.invariant.1 w.if-q-k.false))
      c.if-q-k.branch-raw,
)

returns : tie.Need-returns invariant-loop decreases-loop
returns c = working-end c.before.before.before.before.args.s c.before.before.before.before.args.z c.before.before.before.before.args.k c.before.before.before.loop-q.q c.before.before.before.before.args.m c.before.before.before.loop-q.t c.before.before.before.loop-q.f _ c.before.inverse_by-v.result
    (omega arith) (omega arith) (omega arith) c.before.before.before.loop-q.invariant.1 c.before.inverse_by-v.ensures c.product_by.ensures

pub error_value_spec : {M : Type 1} → statement M
error_value_spec =
    tie.close (tie.spec invariant-loop decreases-loop
    (λ c. search rules) loop-holds (λ c. search rules) (λ c κs. search rules) (λ c κs. search rules) (λ c. search rules) (λ c. search rules) loop-again
    (λ c κs. search rules) (λ c. search rules) (λ c κs. search rules) returns)
