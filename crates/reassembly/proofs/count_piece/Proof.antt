use borrow.Author.Tests.{eq-eqb, ne_eqb}
use lib.Dec.{eqb}
use mathlib.Core.Bool.{true, false}
use Rattle.reassembly.specs.Count.{count_piece}
use native.Mathlib.Omega.{arith}
use mathlib.Core.Path.{◌≡◌, refl}
use Rattle.reassembly.proofs.count_piece.Statement.{statement}
use Rattle.reassembly.proofs.count_piece.Tie as tie

returns : tie.Need-returns-then-cause-ne0
unfolding count_piece
returns c = simp (ne_eqb _ _ c.if-cause-ne0.true)

returns-2 : tie.Need-returns-then-not-continues
unfolding count_piece
returns-2 c =
    let a = c.before.before.before.args in
    let z : eqb a.cause 0 ≡ true = eq-eqb a.cause 0 c.before.before.if-cause-ne0.false in
    rw (z, c.before.if-not-continues.true) c.count_finish.ensures

returns-3 : tie.Need-returns-then-held-eq0
unfolding count_piece
returns-3 c =
    let a = c.before.before.before.args in
    let z : eqb a.cause 0 ≡ true = eq-eqb a.cause 0 c.before.before.if-cause-ne0.false in
    let y : eqb a.held 0 ≡ true = eq-eqb a.held 0 c.if-held-eq0.true in
    rw (z, c.before.if-not-continues.false, y) refl

returns-4 : tie.Need-returns
unfolding count_piece
returns-4 c =
    let a = c.before.before.before.before.args in
    let z : eqb a.cause 0 ≡ true = eq-eqb a.cause 0 c.before.before.before.if-cause-ne0.false in
    let y : eqb a.held 0 ≡ false = ne_eqb a.held 0 c.before.if-held-eq0.false in
    rw (z, c.before.before.if-not-continues.false, y) c.count_finish-2.ensures

pub count_piece_spec : {M : Type 1} → statement M
count_piece_spec = tie.close (tie.spec returns (λ c κs. omega arith) returns-2 returns-3 (λ c. omega arith) (λ c κs. omega arith) returns-4)
