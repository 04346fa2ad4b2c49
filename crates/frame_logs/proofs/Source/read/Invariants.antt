use Rattle.io.specs.Counts.{IsPrefixLen}
use Rattle.frame_logs.proofs.Source.read.Given as goal

abbrev pub invariant-loop : goal.invariant-loop
invariant-loop l = IsPrefixLen l.frame.words l.log
