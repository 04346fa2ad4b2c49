use borrow.Author.Rules.{rules}
use native.Mathlib.Omega.{arith}
use mathlib.Core.Path.{ap, ◌∙◌}
use Prim.Native.Nat.{ℕ, ◌-◌, ◌≤◌}
use lib.ListN.{get_or}
use mathlib.Core.List.{List}
use lib.Bits.{bit_xor}
use Rattle.correction.specs.ErrorValues.{value_at, Repaired}
use Rattle.correction.proofs.Repairing.{repaired-start, repaired-next, repaired-end}
use Rattle.correction.proofs.repaired.Statement.{statement}
use Rattle.correction.proofs.repaired.Tie as tie

abbrev invariant-loop : tie.invariant-loop-k
invariant-loop powers logarithms s m header places z out₀ k₀ out k = (k ≤ m) × Repaired header s places m k out

abbrev decreases-loop : tie.decreases-loop-k
decreases-loop powers logarithms s m header places z out₀ k₀ out k = m - k

loop-holds : tie.Need-loop-k-init invariant-loop decreases-loop
loop-holds c = (omega arith, repaired-start _ _ _ _ (omega arith))

array-read-out : tie.Need-bounds-header-at invariant-loop decreases-loop
array-read-out c = c.before.before.before.requires.1.0.inside c.before.loop-k.k c.loop-k-test.true

array-write-out : tie.Need-bounds-out-at invariant-loop decreases-loop
array-write-out c = c.before.before.before.before.requires.1.0.inside c.before.before.loop-k.k c.before.loop-k-test.true

loop-again : tie.Need-loop-k-preserved invariant-loop decreases-loop
loop-again c =
    let p = c.before.before in
    let a = p.before.before.args in (
      omega arith,
      repaired-next a.header a.s a.places a.m p.loop-k.k _ p.loop-k.out c.before.loop-k-test.true p.before.before.requires.1.0 p.loop-k.invariant.1
          (ap (bit_xor (get_or a.header (get_or a.places p.loop-k.k 0) 0)) (c.error_value.ensures ∙ ap (λ (z : List ℕ). value_at a.s z a.m p.loop-k.k) p.before.points-z.ensures)),
    )

returns : tie.Need-returns invariant-loop decreases-loop
returns c = repaired-end _ _ _ _ c.before.loop-k.k _ (omega arith) c.before.loop-k.invariant.1

pub repaired_spec : {M : Type 1} → statement M
repaired_spec =
    tie.close (tie.spec invariant-loop decreases-loop
    (λ c κs. search rules) loop-holds (λ c. search rules) (λ c. search rules) array-read-out (λ c κs. search rules) array-write-out (λ c. search rules)
    (λ c. search rules) loop-again returns)
