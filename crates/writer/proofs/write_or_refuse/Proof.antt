use Rattle.writer.proofs.Calling.{accepted-call, refused-call}
use mathlib.Core.Path.{sym, ◌∙◌}
use lib.ListN.{length}
use borrow.Author.Rules.{rules}
use Rattle.writer.proofs.write_or_refuse.Statement.{statement}
use Rattle.writer.proofs.write_or_refuse.Tie as tie

returns : tie.Need-returns-then-n-eq0
returns c =
    let a = c.before.before.before.before.before.before.before.before.before.before.args in
    accepted-call a.s a.psd.now a.lengths.now a.bytes.now (length a.pdu.now) a.w a.pdu.now a.m c.before.before.write_listed.result c.before.before.write_listed.new.pdu (sym c.before.before.before.before.before.refusal-n.ensures ∙ c.before.before.before.before.if-n-eq0.true) c.before.before.write_listed.ensures.0 c.before.before.write_listed.ensures.1

returns-2 : tie.Need-returns
returns-2 c =
    let a = c.before.before.before.before.before.before.before.args in
    refused-call a.s a.psd.now a.lengths.now a.bytes.now (length a.pdu.now) a.w a.pdu.now a.m c.before.before.refusal-n.result c.refused.result c.before.before.refusal-n.ensures c.before.if-n-eq0.false c.refused.ensures

pub write_or_refuse_spec : {M : Type 1} → statement M
write_or_refuse_spec = tie.close (tie.spec (λ c κs. search rules) (λ c κs. search rules) (λ c. search rules) returns (λ c κs. search rules) returns-2)
