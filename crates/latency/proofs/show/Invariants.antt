-- What waits after the ticks so far; what waits at those that are left comes behind what is shown.
use Rattle.std.proofs.Common.{◌≡◌, ◌+◌, ◌-◌}
use Rattle.buffer.specs.Buffer.{put_at}
use Rattle.latency.specs.Latency.{left, waiting_from}
use Rattle.latency.proofs.show.Given as goal

abbrev pub invariant-loop-k : goal.invariant-loop-k
invariant-loop-k l = record {
  waits : l.kept ≡ left l.n l.counts l.v (l.first + l.k);
  shown : put_at l.row l.k (waiting_from l.n l.counts l.v (l.first + l.k) (l.count - l.k)) ≡ put_at l.initial.row 0 (waiting_from l.n l.counts l.v l.first l.count);
}
