-- `header::doubled` meets its contract.
use lib.Bits.{and_le_r}
use Rattle.header.proofs.Lanes.{doubled-bytes}
use native.Mathlib.Omega.{arith}
use Rattle.header.proofs.doubled.Statement.{statement}
use Rattle.header.proofs.doubled.Tie as tie

mul-result : tie.Need-overflow_mul-result
mul-result c = omega (arith, and_le_r c.args.w 0x7f7f7f7f7f7f7f7f)

mul-result-2 : tie.Need-overflow_mul-result-2
mul-result-2 c = omega (arith, and_le_r c.args.w 0x8080808080808080)

returns : tie.Need-returns
returns c = doubled-bytes c.args.w

pub doubled_spec : {M : Type 1} → statement M
doubled_spec = tie.close (tie.spec mul-result mul-result-2 returns)
