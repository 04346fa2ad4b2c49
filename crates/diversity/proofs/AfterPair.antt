-- What receiving a pair logs and remembers where both copies are accepted.
use mathlib.Core.List.{List}
use mathlib.Core.Option.{Option}
use Prim.Native.Nat.{ℕ}
use Rattle.packet_log.specs.Log.{log_words}
use Rattle.reassembly.specs.Reassembly.{Said, Memory, remembered}
use Rattle.reassembly.specs.Tally.{Tally}
use Rattle.receiver.specs.Receiving.{memory_of, mode_of, shown, kept_by, tally_by}
use Rattle.receiver.specs.declared.Receiver.{Receiver}
use Rattle.diversity.specs.Diversity.{pair_as, pair_outcome}

module _ (carry first second log : List ℕ) (r : Receiver) where
  abbrev pub pair_told : Said
  pair_told = shown (mode_of r).sequences r carry (pair_as carry first second log r)

  abbrev pub pair_words : List ℕ
  pair_words = log_words (pair_outcome carry first second log r).entries

  abbrev pub pair_memory : Memory
  pair_memory = remembered (mode_of r).sequences (memory_of r carry) pair_told

  abbrev pub pair_services : Option ℕ
  pair_services = kept_by (mode_of r).sequences r carry (pair_as carry first second log r)

  abbrev pub pair_tally : Tally
  pair_tally = tally_by (mode_of r).sequences (pair_as carry first second log r) r carry log
