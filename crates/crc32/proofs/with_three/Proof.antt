use borrow.Author.Rules.{rules}
use Rattle.crc32.proofs.Laws.{three-looked-up}
use Rattle.crc32.proofs.with_three.Statement.{statement}
use Rattle.crc32.proofs.with_three.Tie as tie

returns : tie.Need-returns
returns c =
    let y = c.before.before.before in
    let x = y.before.before in
    let e = x.before in
    three-looked-up e.before.args.tables.now e.before.requires e.before.args.register e.before.args.first e.before.args.second e.before.args.third x.before.place.result y.place-2.result c.before.place-3.result
    x.before.place.ensures.0 y.place-2.ensures.0 c.before.place-3.ensures.0

pub with_three_spec : {M : Type 1} → statement M
with_three_spec =
    tie.close (tie.spec (λ c κs. search rules) (λ c. search rules) (λ c. search rules) (λ c. search rules) (λ c κs. search rules) (λ c. search rules)
    (λ c. search rules) (λ c. search rules) (λ c κs. search rules) (λ c. search rules) (λ c. search rules) returns)
