use Rattle.std.proofs.Common.{◌+◌, ◌∙◌, sym, arith}
use Rattle.packing.proofs.Fitting.{fit-room, part_none, part-some}
use Rattle.packing.proofs.part_after.Goals as goal

pub returns-then-not-fits : goal.returns-then-not-fits
returns-then-not-fits c = part_none c.args.width c.args.extra c.args.size c.args.k c.args.used (sym c.fits.ensures ∙ c.if-not-fits.true)

pub overflow_sub-result : goal.overflow_sub-result
overflow_sub-result c =
    let a = c.args in
    omega (arith, fit-room a.width a.extra a.size (a.k + 1) (a.used + 2) (sym c.fits.ensures ∙ c.if-not-fits.false))

pub returns : goal.returns
returns c =
    let a = c.args in
    omega (arith, c.overhead.ensures.0, part-some a.width a.extra a.size a.k a.used (sym c.fits.ensures ∙ c.if-not-fits.false))
