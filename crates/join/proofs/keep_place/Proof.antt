use native.Mathlib.Omega.{arith}
use mathlib.Core.Path.{sym, ◌∙◌}
use borrow.Author.Rules.{rules}
use Rattle.join.proofs.Places.{place-passed, place_kept}
use Rattle.join.proofs.keep_place.Statement.{statement}
use Rattle.join.proofs.keep_place.Tie as tie

returns : tie.Need-returns-then-not-is_packet
returns c =
    let s = c.before.before.before.before.before in
    place-passed s.args.places.now s.args.log.now s.args.i (omega arith) s.requires.1 (sym c.before.is_packet.ensures ∙ c.if-not-is_packet.true)

returns-2 : tie.Need-returns
returns-2 c =
    let s = c.before.before.before.before.before.before in
    place_kept s.args.places.now s.args.log.now s.args.i (omega arith) s.requires.1 c.number-n.result c.number-n.ensures.0 c.number-n.ensures.1
    (sym c.before.before.is_packet.ensures ∙ c.before.if-not-is_packet.false)

pub keep_place_spec : {M : Type 1} → statement M
keep_place_spec =
    tie.close (tie.spec (λ c. search rules) (λ c. search rules) (λ c κs. search rules) returns (λ c κs. search rules) (λ c. search rules) (λ c. search rules)
    (λ c. search rules) (λ c. search rules) returns-2)
