use Rattle.std.proofs.Common.{◌+◌, ◌∙◌, ℕ, leb, ap, sym, leb-true}
use Rattle.packing.specs.Packing.{most_pieces}
use Rattle.packing.proofs.Fitting.{fit-within, fit-past}
use Rattle.packing.proofs.fits.Goals as goal

pub returns-then-not-within_limit : goal.returns-then-not-within_limit
returns-then-not-within_limit c =
    fit-past c.args.width c.args.extra c.args.size c.args.k c.args.used (sym c.within_limit.ensures ∙ c.if-not-within_limit.true)

pub returns : goal.returns
returns c =
    let a = c.args in
    ap (λ (n : ℕ). leb (n + a.used) a.size) c.overhead.ensures.0
    ∙ fit-within a.width a.extra a.size a.k a.used (leb-true a.k (most_pieces a.width a.extra) (sym c.within_limit.ensures ∙ c.if-not-within_limit.false))
