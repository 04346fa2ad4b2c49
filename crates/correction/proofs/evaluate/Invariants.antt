use Rattle.correction.proofs.Searching.{Evaluated}
use Rattle.correction.proofs.evaluate.Given as goal

abbrev pub invariant-loop-i : goal.invariant-loop-i
invariant-loop-i l = Evaluated l.coefficients l.degree l.x l.i l.v
