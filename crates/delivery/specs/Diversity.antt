-- Document 02, Ask 5: a run of pairs. Each PDU of a run of demand 3 comes as two copies, or as one, alone or in a batch, or is marked lost; the list's other
-- calls are refused ones, of any kind. The packets, the writing calls, the run, the fresh receiver and the sizes of the buffers are demand 3's (Delivery.antt).
use Rattle.std.specs.Prelude.{◌≡◌, false, List, ◌++◌, map, ℕ, replicate}
use Rattle.crc.specs.Crc.{crc_from}
use Rattle.receiver.specs.Entitling.{all_programs}
use Rattle.runs.specs.Transmissions.{gone}
use Rattle.runs.specs.Spans.{lies, due_at, whole_indices}
use Rattle.runs.specs.Withheld.{fate_in}
use Rattle.delivery.specs.Delivery.{defined, Run, spans, Asked, Claim, Holds}
use Rattle.delivery.specs.Copies.{bytes_at, crc_at, Damage, Damaged, width_in, ways_of}
use Rattle.delivery.specs.Entitlement.{for_programs}

-- every piece that is still damaged once the copy is corrected has a wrong CRC, by the register that CRCs start with
abbrev pub WrongCrc : Damage
WrongCrc register width p y k = ¬ (crc_from register (bytes_at width p y k) ≡ crc_at width p y k)

-- the packets with every byte in PDUs of the run, each of whose pieces is, once corrected, as sent in one copy at least; PDUs before the run count as lost
abbrev pub arrived_pieces : Run → List ℕ
arrived_pieces r = whole_indices (due_at (lies r.packets (spans r) (map (fate_in false) (replicate r.first gone ++ ways_of r)))) 0 0 r.packets

abbrev pub pairs : Claim
pairs = record { asked = λ r b. (r.programs ≡ all_programs) × Asked r (Damaged WrongCrc r.register (width_in r)) b; due = arrived_pieces }

-- the promise over a run of pairs, for a receiver that is entitled to all programs
abbrev pub PairDelivery : Type 0
PairDelivery = Holds pairs defined

-- document 02, Ask 10: of these packets, those that begin in a pair not withheld, for every list of programs that is not refused with 22
abbrev pub EntitledPairDelivery : Type 0
EntitledPairDelivery = Holds (for_programs (Damaged WrongCrc)) defined
