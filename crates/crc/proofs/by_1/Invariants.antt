-- the bits kept, and the bytes left, have the CRC of all
use Rattle.std.proofs.Common.{◌≡◌, ◌<◌, drop}
use Rattle.crc.specs.Ring.{shifts, val, horner}
use Rattle.crc.proofs.by_1.Given as goal

abbrev pub invariant-loop-i : goal.invariant-loop-i
invariant-loop-i l =
    (l.h < 18446744073709551616)
    × (l.l < 18446744073709551616)
    × (shifts 8 (horner (val l.h l.l) (drop l.i l.bytes)) ≡ shifts 8 (horner (val l.fn.h l.fn.l) (drop l.from l.bytes)))
