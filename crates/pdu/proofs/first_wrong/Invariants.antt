-- No locator so far is wrong.
use Rattle.std.proofs.Common.{◌≡◌, false}
use Rattle.pdu.specs.Reading.{any_below, wrong_locator}
use Rattle.pdu.proofs.first_wrong.Given as goal

abbrev pub invariant-loop-k : goal.invariant-loop-k
invariant-loop-k l = any_below l.k (wrong_locator l.width l.c l.y) ≡ false
