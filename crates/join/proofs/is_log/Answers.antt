use Rattle.std.proofs.Common.{ap, sym, ◌∙◌, ◌+◌, drop}
use Rattle.join.proofs.Reading.{scan-log}
use Rattle.join.proofs.Scanning.{formed-stop, formed-next, formed-end}
use Rattle.join.specs.Scan.{is_rest}
use Rattle.join.proofs.is_log.Goals as goal

pub loop-w-init : goal.loop-w-init
loop-w-init c = scan-log c.args.log.now

pub returns-then-not-fits : goal.returns-then-not-fits
returns-then-not-fits c =
    let l = c.loop-w in
    formed-stop c.args.log.now l.w-index c.loop-w-test.true l.left (sym c.fits.ensures ∙ c.if-not-fits.true) ∙ l.invariant

pub loop-w-preserved : goal.loop-w-preserved
loop-w-preserved c =
    let l = c.loop-w in
    ap (λ k. is_rest k (drop (l.w-index + 1) c.args.log.now)) c.left_after-left.ensures
    ∙ formed-next c.args.log.now l.w-index c.loop-w-test.true l.left (sym c.fits.ensures ∙ c.if-not-fits.false) ∙ l.invariant

pub returns : goal.returns
returns c = formed-end c.args.log.now c.loop-w.w-index c.loop-w-test.false c.loop-w.left ∙ c.loop-w.invariant
