-- Delivery over a channel that alters pieces too: one claim for demand 3 and for what document 02 adds to it. A piece that is not as sent has a wrong CRC or a burst;
-- each PDU of a run comes with marks, alone, in a batch or as a pair, or is marked lost; and the receiver is entitled to any list of programs.
use Rattle.std.specs.Prelude.{◌⊎◌}
use Rattle.delivery.specs.Delivery.{defined, Holds}
use Rattle.delivery.specs.Copies.{Damage, Damaged}
use Rattle.delivery.specs.Entitlement.{for_programs}
use Rattle.delivery.specs.Diversity.{WrongCrc}
use Rattle.delivery.specs.Bursts.{Hit}

abbrev pub WrongOrHit : Damage
WrongOrHit register width p y k = WrongCrc register width p y k ⊎ Hit register width p y k

abbrev pub ChannelDelivery : Type 0
ChannelDelivery = Holds (for_programs (Damaged WrongOrHit)) defined
