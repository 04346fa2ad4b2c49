-- A receiver after document 02, a call at a time: what it logs of a list of events, and what it is after them.
use mathlib.Core.List.{List, [], ◌∷◌, ◌++◌}
use mathlib.Core.Option.{none}
use Prim.Native.Nat.{ℕ}
use Rattle.packet_log.specs.Log.{Entry}
use Rattle.reassembly.specs.Reassembly.{received, remembered, lost_entries, forgotten}
use Rattle.reassembly.specs.Rights.{Rights, kept_after}
use Rattle.reassembly.specs.Tally.{no_tally, tallied}
use Rattle.reassembly.specs.Holder.{Come, Holder, value_for, said_to}

pub data Event : Type 0 where
  lost : Event
  came : Come → Event

-- just opened
abbrev pub opened_holder : Holder
opened_holder = record { memory = forgotten; kept = none; tally = no_tally }

module _ (rights : Rights) (range : ℕ) where
  abbrev pub entries_for : Holder → Event → List Entry
  entries_for x lost = lost_entries
  entries_for x (came d) = (received range x.memory (said_to rights range x d)).entries

  -- marking lost keeps the counts
  abbrev pub holder_for : Holder → Event → Holder
  holder_for x lost = record { memory = forgotten; kept = none; tally = tallied x.tally lost_entries }
  holder_for x (came d) = record {
    memory = remembered range x.memory (said_to rights range x d);
    kept = kept_after rights.keeps (value_for rights range x d);
    tally = tallied x.tally (received range x.memory (said_to rights range x d)).entries;
  }

  -- the joined entries of a list of events, and the receiver after it
  unfoldable pub logged : Holder → List Event → List Entry
  logged x [] = []
  logged x (v ∷ vs) = entries_for x v ++ logged (holder_for x v) vs

  unfoldable pub after : Holder → List Event → Holder
  after x [] = x
  after x (v ∷ vs) = after (holder_for x v) vs
