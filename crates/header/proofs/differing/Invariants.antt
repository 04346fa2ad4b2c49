-- with the bytes left, the count comes to that of all
use Rattle.std.proofs.Common.{◌≡◌, ◌≤◌, ◌+◌, drop}
use Rattle.header.specs.Header.{distance}
use Rattle.header.proofs.differing.Given as goal

abbrev pub invariant-loop-place : goal.invariant-loop-place
invariant-loop-place l = (l.n ≤ l.place) × (l.n + distance (drop l.place l.u) (drop l.place l.v) ≡ distance l.u l.v)
