use Rattle.std.proofs.Common.{ℕ, List, ◌≡◌, ◌+◌, ◌<◌, ◌∙◌, length, get_or, drop, arith}
use Rattle.reassembly.specs.Tally.{Tally}
use Rattle.loss.specs.Column.{tally_in, after_word, after_words}
use Rattle.loss.proofs.Words.{words-next, words-end}
use Rattle.loss.proofs.after.Goals as goal

-- the word that a turn adds is the one at its place
next : (log : List ℕ) (i w : ℕ) (t u : Tally) → i < length log → u ≡ after_word t w → w ≡ get_or log i 0 → after_words u (drop (i + 1) log) ≡ after_words t (drop i log)
next log i w t u h f e = rw (f, e) (words-next log i t h)

pub loop-i-preserved : goal.loop-i-preserved
loop-i-preserved c = next c.args.log.now c.loop-i.i _ (tally_in c.loop-i.l) _ (omega arith) c.after_word-l.ensures (omega arith) ∙ c.loop-i.invariant

pub returns : goal.returns
returns c = words-end c.args.log.now c.loop-i.i (tally_in c.loop-i.l) (omega arith) ∙ c.loop-i.invariant
