use borrow.Author.Rules.{rules}
use Rattle.crc32.proofs.Laws.{looked-up}
use Rattle.crc32.proofs.with_byte.Statement.{statement}
use Rattle.crc32.proofs.with_byte.Tie as tie

returns : tie.Need-returns
returns c =
    let e = c.before.before in
    looked-up e.before.args.tables.now e.before.requires e.before.args.register e.before.args.byte c.before.before.place.result c.before.before.place.ensures.0

pub with_byte_spec : {M : Type 1} → statement M
with_byte_spec = tie.close (tie.spec (λ c κs. search rules) (λ c. search rules) (λ c. search rules) returns)
