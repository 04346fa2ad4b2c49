-- What the pieces so far come to, followed by the others, is the whole.
use Rattle.std.proofs.Common.{◌≡◌, ◌≤◌, ◌-◌}
use Rattle.layout.specs.Control.{piece_number}
use Rattle.reassembly.specs.Count.{count_from, Bounded}
use Rattle.reassembly.proofs.count_pieces.Given as goal

abbrev pub invariant-loop-k : goal.invariant-loop-k
invariant-loop-k l = record {
  few : l.kept ≤ 4096;
  bounded : Bounded l.k l.sum;
  so_far : count_from (piece_number l.head.pfirst l.head.start) l.marks l.causes l.head.plast l.k (l.head.nop - l.k) l.continues l.kept l.sum ≡ count_from (piece_number l.head.pfirst l.head.start) l.marks l.causes l.head.plast 0 l.head.nop l.initial.continues l.held l.initial.sum;
}
