use Rattle.std.proofs.Common.{◌≡◌, length}
use Rattle.elimination.specs.Elimination.{Chain, beside}
use Rattle.elimination.proofs.eliminate.Given as goal

abbrev pub invariant-loop-k : goal.invariant-loop-k
invariant-loop-k l = (length l.rows ≡ 4) × (length l.right ≡ 4) × Chain (beside l.initial.rows l.initial.right) l.k (beside l.rows l.right)
