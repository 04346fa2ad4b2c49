-- `header::by_byte` meets its contract.
use native.Mathlib.Omega.{arith}
use borrow.Author.Rules.{rules}
use lib.Dec.{lit<}
use Rattle.field.specs.Field.{times_a}
use Rattle.header.proofs.Lanes.{once, twice, halves}
use Rattle.header.proofs.by_byte.Statement.{statement}
use Rattle.header.proofs.by_byte.Tie as tie

returns : tie.Need-returns
unfolding times_a
returns c =
    let w = c.before.before.before.before.before.before.args.w in
    let h = c.before.before.doubled-high in
    let e = twice w _ h.result 8 (lit< tt) h.ensures
    (twice w _ _ 4 (lit< tt) c.before.before.before.doubled-3.ensures
    (twice w _ _ 2 (lit< tt) c.before.before.before.before.doubled-2.ensures
    (twice w w _ 1 (lit< tt) c.before.before.before.before.before.doubled.ensures (once w)))) in
    halves w h.result c.before.before.before.before.before.before.args.b c.before.by_half.result c.by_half-2.result (omega arith) e c.before.by_half.ensures c.by_half-2.ensures

pub by_byte_spec : {M : Type 1} → statement M
by_byte_spec =
    tie.close (tie.spec (λ c κs. search rules) (λ c κs. search rules) (λ c κs. search rules) (λ c κs. search rules) (λ c κs. search rules)
    (λ c κs. search rules) returns)
