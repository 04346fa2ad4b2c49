use Rattle.correction.specs.ErrorPlaces.{Search, located}
use Rattle.correction.proofs.error_places.Given as goal

abbrev pub invariant-loop-m : goal.invariant-loop-m
invariant-loop-m l = Search (located l.marks l.coefficients l.degree) l.m l.count l.places
