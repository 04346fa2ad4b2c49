use Rattle.std.proofs.Common.{◌≡◌, length, sym, ◌∙◌, ap, arith}
use Rattle.std.proofs.Math.Seq.{slice}
use Rattle.join.proofs.Scanning.{run-first, run-next, run-stop, run-last}
use Rattle.join.proofs.run_end.Goals as goal

pub loop-i-init : goal.loop-i-init
loop-i-init c = run-first c.args.log.now c.args.from

pub returns-then-kind-ne1-clause-log_value : goal.returns-then-kind-ne1-clause-log_value
returns-then-kind-ne1-clause-log_value c =
    let l = c.loop-i in
    sym l.invariant ∙ run-stop c.args.log.now l.i c.loop-i-test.true c.args.from (λ e. c.if-kind-ne1.true (c.kind.ensures ∙ e))

pub loop-i-preserved : goal.loop-i-preserved
loop-i-preserved c =
    let l = c.loop-i in
    run-next c.args.log.now l.i c.loop-i-test.true c.args.from l.auto.i (sym c.kind.ensures ∙ c.if-kind-ne1.false) ∙ l.invariant

pub returns-clause-log_value : goal.returns-clause-log_value
returns-clause-log_value c =
    let l = c.loop-i in
    let e : l.i ≡ length c.args.log.now = omega arith in
    sym l.invariant ∙ run-last c.args.log.now l.i c.loop-i-test.false c.args.from ∙ ap (λ k. slice c.args.from k c.args.log.now) e
