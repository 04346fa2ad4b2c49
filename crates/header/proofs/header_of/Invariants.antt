-- The bytes so far, over zeros.
use Rattle.std.proofs.Common.{◌≡◌, replicate}
use lib.Seq.{paste}
use Rattle.header.proofs.header_of.Given as goal

abbrev pub invariant-loop-i : goal.invariant-loop-i
invariant-loop-i l = l.header ≡ paste (replicate 96 0) 0 l.pdu l.i
