use native.Mathlib.Omega.{arith}
use Rattle.diversity.proofs.Pairing.{second-cause, taken-cause, first-cause, apart-cause}
use borrow.Author.Rules.{rules}
use Rattle.diversity.proofs.pair_cause.Statement.{statement}
use Rattle.diversity.proofs.pair_cause.Tie as tie

returns : tie.Need-returns-then-cause-ne0
returns c =
    let s = c.before.before.before.before in
    let a = s.args in
    second-cause a.register a.first.now a.second.now a.marks a.k a.cause s.requires.1.1 _ c.before.if-cause-ne0.true c.cause_at.ensures

returns-2 : tie.Need-returns-then-same_piece
returns-2 c =
    let p = c.before in
    let s = p.before.before.before.before in
    let a = s.args in
    taken-cause a.register a.first.now a.second.now a.marks a.k a.cause s.requires.1.1 (omega (arith, p.before.if-cause-ne0.false)) _ p.same_piece.ensures c.if-same_piece.true

returns-3 : tie.Need-returns-then-cause_at-ne0
returns-3 c =
    let q = c.before in
    let p = q.before.before in
    let s = p.before.before.before.before in
    let a = s.args in
    first-cause a.register a.first.now a.second.now a.marks a.k a.cause s.requires.1.1 (omega (arith, p.before.if-cause-ne0.false)) _ q.cause_at-2.ensures (omega (arith, c.if-cause_at-ne0.true))

returns-4 : tie.Need-returns
returns-4 c =
    let q = c.before in
    let p = q.before.before in
    let s = p.before.before.before.before in
    let a = s.args in
    apart-cause a.register a.first.now a.second.now a.marks a.k a.cause s.requires.1.1 (omega (arith, p.before.if-cause-ne0.false)) _ _ q.cause_at-2.ensures c.if-cause_at-ne0.false p.same_piece.ensures q.before.if-same_piece.false

pub pair_cause_spec : {M : Type 1} → statement M
pair_cause_spec = tie.close (tie.spec (λ c κs. search rules) returns (λ c κs. search rules) returns-2 (λ c κs. search rules) returns-3 returns-4)
