use Rattle.join.proofs.Tests.{packet-wide, packet-empty, packet-length}
use native.Mathlib.Omega.{arith}
use Rattle.join.proofs.packet_fits.Statement.{statement}
use Rattle.join.proofs.packet_fits.Tie as tie

returns : tie.Need-returns-then-h-ge64
returns c = packet-wide c.before.args.h c.before.args.l (omega arith)

returns-2 : tie.Need-returns-then-l-eq0
returns-2 c = packet-empty c.before.before.args.h c.before.before.args.l (omega arith) (omega arith)

returns-3 : tie.Need-returns
returns-3 c = packet-length c.before.before.args.h c.before.before.args.l (omega arith) (omega arith)

pub packet_fits_spec : {M : Type 1} → statement M
packet_fits_spec = tie.close (tie.spec returns returns-2 returns-3)
