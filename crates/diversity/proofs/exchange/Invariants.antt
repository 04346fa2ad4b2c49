-- The bytes so far are exchanged.
use Rattle.std.proofs.Common.{◌≡◌}
use Rattle.diversity.specs.Steps.{mixed, in_places}
use Rattle.diversity.proofs.exchange.Given as goal

abbrev pub invariant-loop-i : goal.invariant-loop-i
invariant-loop-i l = record {
  first_so_far : l.first ≡ mixed (in_places l.from l.i) l.initial.first l.initial.second;
  second_so_far : l.second ≡ mixed (in_places l.from l.i) l.initial.second l.initial.first;
}
