use Rattle.word_bytes.proofs.Words.{no_bytes, all-bytes}
use Rattle.word_bytes.proofs.put.Goals as goal

pub returns-then-out-words-clause-value : goal.returns-then-out-words-clause-value
returns-then-out-words-clause-value c = (no_bytes c.args.out.now c.args.words.now c.if-out-words.true).0

pub returns-then-out-words-clause-out_after : goal.returns-then-out-words-clause-out_after
returns-then-out-words-clause-out_after c = (no_bytes c.args.out.now c.args.words.now c.if-out-words.true).1

pub returns-clause-value : goal.returns-clause-value
returns-clause-value c = (all-bytes c.args.out.now _ c.args.words.now c.if-out-words.false c.put_words.ensures).0

pub returns-clause-out_after : goal.returns-clause-out_after
returns-clause-out_after c = (all-bytes c.args.out.now _ c.args.words.now c.if-out-words.false c.put_words.ensures).1
