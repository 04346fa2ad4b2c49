-- the bits kept have the register, and with the bytes left the CRC of all bytes
use Rattle.std.proofs.Common.{◌≡◌, ◌+◌, ◌*◌, ◌^◌, ◌<◌, drop}
use Rattle.crc.specs.Crc.{crc_from}
use Rattle.crc.specs.Ring.{red}
use Rattle.crc.proofs.few.Given as goal

abbrev pub invariant-loop-b : goal.invariant-loop-b
invariant-loop-b l = (l.w < 2 ^ (8 + 8 * l.b-index)) × (crc_from (red 64 l.w) (drop l.b-index l.bytes) ≡ crc_from l.start l.bytes)
