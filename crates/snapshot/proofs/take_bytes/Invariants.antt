-- The bytes that are left come behind those copied.
use Rattle.std.proofs.Common.{◌≡◌, drop}
use Rattle.buffer.specs.Buffer.{put_at}
use Rattle.snapshot.specs.Snapshot.{bytes_in}
use Rattle.snapshot.proofs.take_bytes.Given as goal

abbrev pub invariant-loop-j : goal.invariant-loop-j
invariant-loop-j l = put_at l.carry l.j (drop l.j (bytes_in (drop l.from l.words))) ≡ put_at l.initial.carry 0 (bytes_in (drop l.from l.words))
