-- The first word stands before the words of the bytes.
use Rattle.std.proofs.Common.{◌≡◌, length, ◌++◌, ◌∙◌, ◌∷◌, List, ℕ, ap, arith, length-append, length-set}
use Rattle.buffer.specs.Buffer.{put_at}
use Rattle.buffer.proofs.Laws.{put-cons}
use Rattle.packet_log.specs.Log.{word, data_words, entry_words}
use Rattle.packet_log.proofs.put_packet.Goals as goal

pub bounds-log-at : goal.bounds-log-at
unfolding entry_words
bounds-log-at c = let h = c.requires.second_in_bounds in omega (arith, h)

pub put_bytes-n-requires-clause-second_in_bounds : goal.put_bytes-n-requires-clause-second_in_bounds
unfolding entry_words
put_bytes-n-requires-clause-second_in_bounds c = let h = c.requires.second_in_bounds in simp length-set (omega (arith, h))

pub overflow_add-result : goal.overflow_add-result
unfolding entry_words
overflow_add-result c = let h = c.requires.second_in_bounds in omega (arith, h)

pub returns-clause-value : goal.returns-clause-value
unfolding entry_words
returns-clause-value c = omega arith

pub returns-clause-log_after : goal.returns-clause-log_after
unfolding entry_words
returns-clause-log_after c =
    let a = c.args in
    let h = c.requires.second_in_bounds in
    let s : List ℕ = a.first.now ++ a.second.now in
    let e : c.word_of.result ≡ word 0 a.number (length s) = simp (c.word_of.ensures, c.from.ensures, length-append) in
    c.put_bytes-n.ensures.log_after ∙ put-cons a.log.now (data_words s) a.at c.word_of.result (omega (arith, h)) ∙ ap (λ (x : ℕ). put_at a.log.now a.at (x ∷ data_words s)) e
