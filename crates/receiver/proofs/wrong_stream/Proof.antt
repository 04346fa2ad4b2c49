use Rattle.receiver.proofs.Rows.{stream-listed, stream-refused}
use mathlib.Core.Path.{sym, ◌∙◌}
use borrow.Author.Rules.{rules}
use Rattle.receiver.proofs.wrong_stream.Statement.{statement}
use Rattle.receiver.proofs.wrong_stream.Tie as tie

returns : tie.Need-returns-then-other_stream
returns c =
    let s = c.before.before.before.before in
    sym (stream-listed s.args.r s.args.c _ _ c.before.before.before.look_up-listing.ensures c.in-Listed.is ∙ rw (sym c.before.other_stream.ensures ∙ c.if-other_stream.true))

returns-2 : tie.Need-returns-else-other_stream
returns-2 c =
    let s = c.before.before.before.before in
    sym (stream-listed s.args.r s.args.c _ _ c.before.before.before.look_up-listing.ensures c.in-Listed.is ∙ rw (sym c.before.other_stream.ensures ∙ c.if-other_stream.false))

returns-3 : tie.Need-returns-in-Refused
returns-3 c =
    let s = c.before.before in
    stream-refused s.args.r s.args.c _ _ c.before.look_up-listing.ensures c.in-Refused.is

pub wrong_stream_spec : {M : Type 1} → statement M
wrong_stream_spec = tie.close (tie.spec (λ c κs. search rules) (λ c. search rules) (λ c κs. search rules) returns (λ c. search rules) returns-2 returns-3)
