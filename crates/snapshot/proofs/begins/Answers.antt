use Rattle.std.proofs.Common.{◌∙◌, arith}
use Rattle.snapshot.proofs.Reading.{begins-short, begins-stop, begins-next, begins-end}
use Rattle.snapshot.proofs.begins.Goals as goal

pub returns-then-words-front : goal.returns-then-words-front
returns-then-words-front c = begins-short c.args.front.now c.args.words.now (omega arith)

pub returns-then-words-i : goal.returns-then-words-i
returns-then-words-i c = begins-stop c.args.front.now c.args.words.now c.loop-i.i (omega arith) (omega arith) (λ e. omega arith) ∙ c.loop-i.invariant

pub loop-i-preserved : goal.loop-i-preserved
loop-i-preserved c = begins-next c.args.front.now c.args.words.now c.loop-i.i (omega arith) (omega arith) (omega arith) ∙ c.loop-i.invariant

pub returns : goal.returns
returns c = begins-end c.args.front.now c.args.words.now c.loop-i.i (omega arith) ∙ c.loop-i.invariant
