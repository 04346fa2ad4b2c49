-- The words that are left, from the column so far, are all of them from the first.
use Rattle.std.proofs.Common.{◌≡◌, drop}
use Rattle.loss.specs.Column.{tally_in, after_words}
use Rattle.loss.proofs.after.Given as goal

abbrev pub invariant-loop-i : goal.invariant-loop-i
invariant-loop-i l = after_words (tally_in l.l) (drop l.i l.log) ≡ after_words (tally_in l.initial.l) l.log
