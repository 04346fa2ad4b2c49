use Rattle.join.proofs.Tests.{psd-wide, psd-length}
use Rattle.join.proofs.psd_fits.Statement.{statement}
use Rattle.join.proofs.psd_fits.Tie as tie

returns : tie.Need-returns-then-h-ne0
returns c = psd-wide c.before.args.h c.before.args.l c.if-h-ne0.true

returns-2 : tie.Need-returns
returns-2 c = psd-length c.before.args.h c.before.args.l c.if-h-ne0.false

pub psd_fits_spec : {M : Type 1} → statement M
psd_fits_spec = tie.close (tie.spec returns returns-2)
