use Rattle.writer.proofs.Opening.{opened-by}
use borrow.Author.Rules.{rules}
use Rattle.writer.proofs.open.Statement.{statement}
use Rattle.writer.proofs.open.Tie as tie

returns : tie.Need-returns-in-Listed
returns c = opened-by _ _ c.before.before.args.mode c.before.before.args.stream c.before.before.args.register c.before.look_up.ensures c.in-Listed.is

returns-2 : tie.Need-returns-in-Refused
returns-2 c = opened-by _ _ c.before.before.args.mode c.before.before.args.stream c.before.before.args.register c.before.look_up.ensures c.in-Refused.is

pub open_spec : {M : Type 1} → statement M
open_spec = tie.close (tie.spec (λ c κs. search rules) (λ c. search rules) (λ c. search rules) returns returns-2)
