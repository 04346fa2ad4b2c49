use Rattle.std.proofs.Common.{◌≡◌, length}
use Rattle.examples.proofs.generator.Given as goal

abbrev pub invariant-loop-i : goal.invariant-loop-i
invariant-loop-i l = length l.word ≡ 96
