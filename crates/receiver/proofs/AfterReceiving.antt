-- What a receiving call logs and remembers where its PDU is accepted.
use mathlib.Core.List.{List}
use mathlib.Core.Option.{Option}
use Prim.Native.Nat.{ℕ}
use Rattle.packet_log.specs.Log.{log_words}
use Rattle.reassembly.specs.Reassembly.{Memory, remembered}
use Rattle.reassembly.specs.Tally.{Tally}
use Rattle.receiver.specs.Receiving.{memory_of, mode_of, kept_by, tally_by, come, said, outcome}
use Rattle.receiver.specs.declared.Receiver.{Receiver}

module _ (marks carry pdu log : List ℕ) (r : Receiver) where
  abbrev pub received_words : List ℕ
  received_words = log_words (outcome marks carry pdu log r).entries

  abbrev pub memory_after : Memory
  memory_after = remembered (mode_of r).sequences (memory_of r carry) (said marks carry pdu log r)

  abbrev pub kept_services : Option ℕ
  kept_services = kept_by (mode_of r).sequences r carry (come marks carry pdu log r)

  abbrev pub tally_after : Tally
  tally_after = tally_by (mode_of r).sequences (come marks carry pdu log r) r carry log
