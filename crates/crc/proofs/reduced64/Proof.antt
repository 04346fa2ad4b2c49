-- `crc::reduced64` meets its contract.
use borrow.Author.Rules.{rules}
use Rattle.crc.proofs.Folding.{reduced-red}
use Rattle.crc.proofs.reduced64.Statement.{statement}
use Rattle.crc.proofs.reduced64.Tie as tie

returns : tie.Need-returns
returns c =
    let a = c.before.before.before in
    let d = c.before.before.fold32-d in
    let s = c.before.fold16-s in
    reduced-red a.args.w d.result s.result c.fold8.result a.ranges.w.fits
    d.ensures.0 d.ensures.1 s.ensures.0 s.ensures.1 c.fold8.ensures.0 c.fold8.ensures.1

pub reduced64_spec : {M : Type 1} → statement M
reduced64_spec = tie.close (tie.spec (λ c κs. search rules) (λ c κs. search rules) (λ c κs. search rules) (λ c. search rules) returns)
