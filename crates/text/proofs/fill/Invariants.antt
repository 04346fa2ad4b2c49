use Rattle.io.specs.Counts.{IsPrefixLen}
use Rattle.text.proofs.fill.Given as goal

abbrev pub invariant-loop-byte : goal.invariant-loop-byte
invariant-loop-byte l = IsPrefixLen l.n l.out
