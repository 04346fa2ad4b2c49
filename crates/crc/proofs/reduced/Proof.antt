-- `crc::reduced` meets its contract.
use mathlib.Core.Path.{ap, sym, ◌∙◌}
use borrow.Author.Rules.{rules}
use Rattle.crc.specs.Ring.{red}
use Rattle.crc.proofs.Folding.{fold-64}
use Rattle.crc.proofs.reduced.Statement.{statement}
use Rattle.crc.proofs.reduced.Tie as tie

returns : tie.Need-returns
returns c =
    let a = c.before.before in
    c.reduced64.ensures ∙ ap (red 64) c.before.fold64.ensures.0 ∙ sym (fold-64 a.args.h a.args.l a.ranges.h.fits)

pub reduced_spec : {M : Type 1} → statement M
reduced_spec = tie.close (tie.spec (λ c κs. search rules) (λ c κs. search rules) returns)
