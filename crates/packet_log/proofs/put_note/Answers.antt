-- A note is one word.
use Rattle.std.proofs.Common.{◌∙◌, ◌∷◌, [], ℕ, ap, sym, arith}
use Rattle.buffer.specs.Buffer.{put_at}
use Rattle.buffer.proofs.Laws.{put_one}
use Rattle.packet_log.specs.Log.{entry_words}
use Rattle.packet_log.proofs.Words.{note-length}
use Rattle.packet_log.proofs.put_note.Goals as goal

pub bounds-log-at : goal.bounds-log-at
bounds-log-at c = omega (arith, note-length c.args.cause c.args.piece, c.requires.piece_in_bounds)

pub returns-clause-value : goal.returns-clause-value
returns-clause-value c = sym (note-length c.args.cause c.args.piece)

pub returns-clause-log_after : goal.returns-clause-log_after
unfolding entry_words
returns-clause-log_after c =
    put_one c.args.log.now c.args.at c.word_of.result (omega (arith, note-length c.args.cause c.args.piece, c.requires.piece_in_bounds))
    ∙ ap (λ (x : ℕ). put_at c.args.log.now c.args.at (x ∷ [])) (simp (c.word_of.ensures, c.from.ensures))
