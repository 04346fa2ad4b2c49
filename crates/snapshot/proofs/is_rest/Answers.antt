use Rattle.std.proofs.Common.{◌∙◌, ◌+◌, ap, sym, drop}
use Rattle.snapshot.specs.Steps.{are_bytes}
use Rattle.snapshot.proofs.Reading.{rest-stop, rest-next, rest_end}
use Rattle.snapshot.proofs.is_rest.Goals as goal

pub returns-then-not-fits : goal.returns-then-not-fits
returns-then-not-fits c = rest-stop c.args.words.now c.loop-i.i c.loop-i-test.true c.loop-i.left (sym c.fits.ensures ∙ c.if-not-fits.true) ∙ c.loop-i.invariant

pub loop-i-preserved : goal.loop-i-preserved
loop-i-preserved c =
    ap (λ k. are_bytes k (drop (c.loop-i.i + 1) c.args.words.now)) c.left_after-left.ensures
    ∙ rest-next c.args.words.now c.loop-i.i c.loop-i-test.true c.loop-i.left (sym c.fits.ensures ∙ c.if-not-fits.false) ∙ c.loop-i.invariant

pub returns : goal.returns
returns c = rest_end c.args.words.now c.loop-i.i c.loop-i-test.false c.loop-i.left ∙ c.loop-i.invariant
