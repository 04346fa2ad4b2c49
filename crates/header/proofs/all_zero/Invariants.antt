use Rattle.std.proofs.Common.{◌≡◌, drop}
use Rattle.header.specs.Header.{all_zero}
use Rattle.header.proofs.all_zero.Given as goal

abbrev pub invariant-loop-x : goal.invariant-loop-x
invariant-loop-x l = all_zero (drop l.x-index l.fn.s) ≡ all_zero l.fn.s
