-- Document 02, Ask 12: bursts in the audio. In each received PDU each piece may also have altered bits, all at byte 96 or later and inside eight consecutive bits of
-- that piece with its CRC byte, top bit of each byte first (burst/specs/Burst.antt). The packets, the writing calls, the run and the calls that go through it,
-- batches, pairs, lost PDUs and refused calls among them, are demand 3's (Delivery.antt), and the receiver is entitled to any list of programs (Entitlement.antt).
use Rattle.burst.specs.Burst.{InEight}
use Rattle.delivery.specs.Delivery.{defined, Holds}
use Rattle.delivery.specs.Copies.{sealed_piece, Damage, Damaged}
use Rattle.delivery.specs.Entitlement.{for_programs}

-- the bits that are altered of a piece with its CRC byte, from byte 96 on, lie inside eight consecutive bits
abbrev pub Hit : Damage
Hit register width p y k = InEight (sealed_piece width p p k) (sealed_piece width p y k)

-- of demand 3's packets, those that begin in a PDU not withheld and none of whose pieces was hit, where a PDU came as a pair none in both copies; for every register
-- that CRCs start with, and every list of programs that is not refused with 22
abbrev pub BurstDelivery : Type 0
BurstDelivery = Holds (for_programs (Damaged Hit)) defined
