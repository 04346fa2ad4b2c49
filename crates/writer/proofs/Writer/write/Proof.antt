use Rattle.writer.proofs.Calling.{called}
use mathlib.Core.Path.{refl, sym, ◌∙◌}
use lib.ListN.{length}
use borrow.Author.Rules.{rules}
use Rattle.writer.proofs.Writer.write.Statement.{statement}
use Rattle.writer.proofs.Writer.write.Tie as tie

write-or-refuse-requires : tie.Need-write_or_refuse-requires
write-or-refuse-requires c κs = sym c.before.before.look_up.ensures ∙ c.before.in-Listed.is

returns : tie.Need-returns-in-Listed
returns c =
    let a = c.before.before.before.before.before.before.before.before.before.before.args in
    called a.settings a.psd.now a.lengths.now a.bytes.now (length a.pdu.now) a.self a.pdu.now _ _ _ _ c.before.before.before.before.before.look_up.ensures c.before.before.before.before.in-Listed.is c.before.before.write_or_refuse.ensures

returns-2 : tie.Need-returns-in-Refused
returns-2 c =
    let a = c.before.before.before.before.before.before.before.args in
    called a.settings a.psd.now a.lengths.now a.bytes.now (length a.pdu.now) a.self a.pdu.now _ _ _ _ c.before.before.look_up.ensures c.before.in-Refused.is (c.refused.ensures, refl)

pub write_spec : {M : Type 1} → statement M
write_spec =
    tie.close (tie.spec (λ c κs. search rules) (λ c. search rules) write-or-refuse-requires (λ c. search rules) (λ c κs. search rules) (λ c. search rules)
    returns returns-2)
