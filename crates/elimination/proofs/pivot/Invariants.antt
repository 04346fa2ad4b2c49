use Rattle.std.proofs.Common.{◌≡◌, ◌<◌, ◌≤◌, ℕ, [], get_or}
use Rattle.elimination.proofs.pivot.Given as goal

abbrev pub invariant-loop-r : goal.invariant-loop-r
invariant-loop-r l = (i : ℕ) → l.k ≤ i → i < l.r → get_or (get_or l.m i []) l.k 0 ≡ 0
