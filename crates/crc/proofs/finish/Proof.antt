-- `crc::finish` meets its contract.
use mathlib.Core.Path.{◌∙◌}
use borrow.Author.Rules.{rules}
use mathlib.Core.Path.{ap₂}
use lib.Bits.{xor_zero_r}
use lib.Dec.{lit<}
use Rattle.crc.specs.Ring.{shifts, val}
use Rattle.crc.proofs.Ring.{push}
use Rattle.crc.proofs.finish.Statement.{statement}
use Rattle.crc.proofs.finish.Tie as tie

returns : tie.Need-returns
returns c =
    let a = c.before.before.before in
    c.reduced.ensures
    ∙ ap₂ val c.before.before.push_high.ensures.0 c.before.push_low.ensures.0
    ∙ push a.args.h a.args.l 0 a.ranges.h.fits a.ranges.l.fits (lit< tt)
    ∙ xor_zero_r (shifts 8 (val a.args.h a.args.l))

pub finish_spec : {M : Type 1} → statement M
finish_spec = tie.close (tie.spec (λ c κs. search rules) (λ c κs. search rules) (λ c κs. search rules) returns)
