-- What the pieces so far come to, followed by the others, is the whole.
use Rattle.std.proofs.Common.{◌-◌}
use Rattle.layout.specs.Control.{piece_number}
use Rattle.reassembly.specs.Reassembly.{pieces_step}
use Rattle.reassembly.specs.Run.{partial_of, pieces_from}
use Rattle.reassembly.proofs.Runs.{Going}
use Rattle.reassembly.proofs.pieces.Given as goal

abbrev pub invariant-loop-k : goal.invariant-loop-k
invariant-loop-k l =
    Going (pieces_step (piece_number l.head.pfirst l.head.start) 0 l.initial.continues l.head.plast (partial_of l.initial.cur.held l.initial.cur.number l.initial.carry) (pieces_from l.pdu l.marks l.causes 0 l.head.nop))
    (pieces_step (piece_number l.head.pfirst l.head.start) l.k l.continues l.head.plast (partial_of l.cur.held l.cur.number l.carry) (pieces_from l.pdu l.marks l.causes l.k (l.head.nop - l.k))) l.initial.cur.at l.initial.carry l.initial.log l.carry l.log l.cur
