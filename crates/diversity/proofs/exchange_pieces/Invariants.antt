-- The pieces so far are exchanged.
use Rattle.std.proofs.Common.{◌≡◌}
use Rattle.diversity.specs.Steps.{mixed, exchanged}
use Rattle.diversity.proofs.exchange_pieces.Given as goal

abbrev pub invariant-loop-k : goal.invariant-loop-k
invariant-loop-k l = record {
  first_so_far : l.first ≡ mixed (exchanged l.marks l.causes l.k) l.initial.first l.initial.second;
  second_so_far : l.second ≡ mixed (exchanged l.marks l.causes l.k) l.initial.second l.initial.first;
}
