use Rattle.std.proofs.Common.{List, ℕ, ◌+◌, get_or, sym, ap, ◌∙◌, arith}
use Rattle.correction.proofs.MarkLists.{marks-from}
use Rattle.receiver.specs.Entitling.{is_listed}
use Rattle.receiver.proofs.Programs.{over-seven, repeated, allowed-past, all-allowed}
use Rattle.receiver.proofs.allowed.Goals as goal

pub returns-then-p-gt7 : goal.returns-then-p-gt7
returns-then-p-gt7 c = over-seven c.args.programs.now c.loop-i.i c.loop-i.invariant c.loop-i-test.true (omega (arith, c.if-p-gt7.true))

pub returns-then-is_listed : goal.returns-then-is_listed
returns-then-is_listed c =
    let ps = c.args.programs.now in
    let i = c.loop-i.i in
    repeated ps i c.loop-i.invariant c.loop-i-test.true (omega (arith, c.if-p-gt7.false))
    (sym (sym c.if-is_listed.true ∙ c.is_listed.ensures ∙ ap (λ (ms : List ℕ). is_listed ms (get_or ps i 0)) (marks-from ps (i + 1))))

pub loop-i-preserved : goal.loop-i-preserved
loop-i-preserved c =
    let ps = c.args.programs.now in
    let i = c.loop-i.i in
    allowed-past ps i c.loop-i.invariant c.loop-i-test.true (omega (arith, c.if-p-gt7.false))
    (sym (sym c.if-is_listed.false ∙ c.is_listed.ensures ∙ ap (λ (ms : List ℕ). is_listed ms (get_or ps i 0)) (marks-from ps (i + 1))))

pub returns : goal.returns
returns c = all-allowed _ c.loop-i.i c.loop-i.invariant c.loop-i-test.false
