-- The entries so far.
use Rattle.std.proofs.Common.{◌≡◌, length, take}
use Rattle.panel.specs.Panel.{entries_from}
use Rattle.panel.proofs.pieces_of.Given as goal

abbrev pub invariant-loop-k : goal.invariant-loop-k
invariant-loop-k l = record { size : length l.pieces ≡ 64; entries : take l.k l.pieces ≡ entries_from l.register l.y 0 l.k }
