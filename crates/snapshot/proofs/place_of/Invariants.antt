-- No word of the kind so far.
use Rattle.std.proofs.Common.{◌≡◌, drop}
use Rattle.snapshot.specs.Snapshot.{from_kind}
use Rattle.snapshot.proofs.place_of.Given as goal

abbrev pub invariant-loop-i : goal.invariant-loop-i
invariant-loop-i l = from_kind l.kind (drop l.i l.words) ≡ from_kind l.kind l.words
