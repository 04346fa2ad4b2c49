use mathlib.Core.Path.{◌≡◌, refl, sym, ◌∙◌}
use native.Mathlib.Omega.{arith}
use Rattle.pair.proofs.Lowest.{lower-is-zero}
use Rattle.pair.proofs.Judging.{right-copy, la-inside, judged-call, differs-call, alike-call}
use borrow.Author.Rules.{rules}
use Rattle.pair.proofs.receive_both.Statement.{statement}
use Rattle.pair.proofs.receive_both.Tie as tie

returns : tie.Need-returns-then-v-ne0
returns c =
    let v = c.before.before.before.before in
    let s = v.before.before.before.before.before in
    let a = s.args in
    (judged-call a.m a.r a.carry.now a.first.now a.second.now a.log.now v.judge_pair-v.result c.refused.result v.judge_pair-v.ensures c.before.before.if-v-ne0.true c.refused.ensures, (refl, refl))

differs-requires : tie.Need-differs-requires
differs-requires c κs =
    let e = c.before.before in
    let v = e.before.before in
    let s = v.before.before.before in
    let a = s.args in
    let none : c.before.before.judge_pair-v.result.number ≡ 0 = omega (arith, c.if-v-ne0.false) in
    let z = lower-is-zero _ _ (sym c.before.before.judge_pair-v.ensures.0 ∙ none) in
    (la-inside a.m a.r a.first.now s.requires.0 z.0, la-inside a.m a.r a.second.now s.requires.0 z.1)

returns-2 : tie.Need-returns-then-differs
returns-2 c =
    let d = c.before.before in
    let e = d.before.before.before in
    let v = e.before.before in
    let s = v.before.before.before in
    let a = s.args in
    (differs-call a.m a.r a.carry.now a.first.now a.second.now a.log.now (sym c.before.before.before.before.before.judge_pair-v.ensures.0 ∙ c.before.before.before.if-v-ne0.false) _ c.refused-then-differs.result d.differs.ensures c.before.if-differs.true c.refused-then-differs.ensures, (refl, refl))

receive-alike-requires : tie.Need-receive_alike-requires
receive-alike-requires c κs =
    let i = c.before.before.before.before in
    let d = i.before in
    let e = d.before.before.before in
    let v = e.before.before in
    let s = v.before.before.before in
    let a = s.args in
    let z = lower-is-zero _ _ (sym c.before.before.before.before.before.before.before.before.judge_pair-v.ensures.0 ∙ c.before.before.before.before.before.before.if-v-ne0.false) in
    (s.requires.1.0, (s.requires.1.1, (right-copy a.m a.r a.first.now s.requires.0 z.0, sym d.differs.ensures ∙ i.if-differs.false)))

returns-3 : tie.Need-returns
returns-3 c =
    let f = c.before.before.before.before.before.before.before.before in
    let i = f.before.before.before.before.before in
    let d = i.before in
    let e = d.before.before.before in
    let v = e.before.before in
    let s = v.before.before.before in
    let a = s.args in
    (alike-call a.m a.r a.carry.now a.first.now a.second.now a.log.now (sym c.before.before.before.before.before.before.before.before.before.before.before.before.before.before.before.before.before.judge_pair-v.ensures.0 ∙ c.before.before.before.before.before.before.before.before.before.before.before.before.before.before.before.if-v-ne0.false) _ f.receive_alike.result f.receive_alike.new.carry f.receive_alike.new.log d.differs.ensures i.if-differs.false f.receive_alike.ensures.0, f.receive_alike.ensures.1)

pub receive_both_spec : {M : Type 1} → statement M
receive_both_spec =
    tie.close (tie.spec (λ c κs. search rules) (λ c. search rules) (λ c κs. search rules) (λ c. search rules) (λ c. search rules) returns differs-requires
    (λ c κs. search rules) (λ c. search rules) (λ c. search rules) returns-2 receive-alike-requires (λ c. search rules) (λ c. search rules) (λ c. search rules)
    (λ c. search rules) returns-3)
