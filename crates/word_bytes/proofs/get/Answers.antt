use Rattle.word_bytes.proofs.Words.{no_words, left_over, no_room, all_words}
use Rattle.word_bytes.proofs.get.Goals as goal

pub returns-then-bytes-ne0-clause-value : goal.returns-then-bytes-ne0-clause-value
returns-then-bytes-ne0-clause-value c = (no_words c.args.words.now c.args.bytes.now (left_over c.args.words.now c.args.bytes.now c.if-bytes-ne0.true)).0

pub returns-then-bytes-ne0-clause-words_after : goal.returns-then-bytes-ne0-clause-words_after
returns-then-bytes-ne0-clause-words_after c = (no_words c.args.words.now c.args.bytes.now (left_over c.args.words.now c.args.bytes.now c.if-bytes-ne0.true)).1

pub returns-then-words-bytes-clause-value : goal.returns-then-words-bytes-clause-value
returns-then-words-bytes-clause-value c =
    (no_words c.args.words.now c.args.bytes.now (no_room c.args.words.now c.args.bytes.now c.if-bytes-ne0.false c.if-words-bytes.true)).0

pub returns-then-words-bytes-clause-words_after : goal.returns-then-words-bytes-clause-words_after
returns-then-words-bytes-clause-words_after c =
    (no_words c.args.words.now c.args.bytes.now (no_room c.args.words.now c.args.bytes.now c.if-bytes-ne0.false c.if-words-bytes.true)).1

pub returns-clause-value : goal.returns-clause-value
returns-clause-value c = (all_words c.args.words.now _ c.args.bytes.now c.if-bytes-ne0.false c.if-words-bytes.false c.get_words.ensures).0

pub returns-clause-words_after : goal.returns-clause-words_after
returns-clause-words_after c = (all_words c.args.words.now _ c.args.bytes.now c.if-bytes-ne0.false c.if-words-bytes.false c.get_words.ensures).1
