use native.Mathlib.Omega.{arith}
use Prim.Native.Nat.{◌-◌}
use Rattle.pdu.proofs.Judging.{flags-some, flags-none}
use Rattle.pdu.proofs.wrong_flags.Statement.{statement}
use Rattle.pdu.proofs.wrong_flags.Tie as tie

returns : tie.Need-returns-then-nop-gt0
returns c = flags-some c.before.args.c (omega (arith, c.if-nop-gt0.true))

returns-2 : tie.Need-returns
returns-2 c = flags-none c.before.before.args.c (omega (arith, c.before.if-nop-gt0.false))

pub wrong_flags_spec : {M : Type 1} → statement M
wrong_flags_spec = tie.close (tie.spec returns returns-2)
