-- A receiver after document 02: what it remembers, the applied services that it keeps (Ask 10), and its counts (Ask 14); what a PDU says to it.
use Rattle.std.proofs.Math.Option.{Option}
use Rattle.std.specs.Prelude.{ℕ}
use Rattle.reassembly.specs.Reassembly.{Said, Memory}
use Rattle.reassembly.specs.Rights.{Rights, Label, forgetting, in_force, withheld_by, under}
use Rattle.reassembly.specs.Tally.{Tally}

-- a PDU as it comes: its own field `withheld` counts for nothing
pub record Come : Type 0 where
  pub said : Said
  pub label : Label

pub record Holder : Type 0 where
  pub memory : Memory
  pub kept : Option ℕ
  pub tally : Tally

module _ (rights : Rights) (range : ℕ) where
  -- the value in force at a PDU
  abbrev pub value_for : Holder → Come → Option ℕ
  value_for x d =
      in_force rights.keeps d.said.sequence d.label.services (forgetting range x.memory.last d.said.sequence x.kept)

  abbrev pub said_to : Holder → Come → Said
  said_to x d = under (withheld_by rights.entitled d.label.program (value_for x d)) d.said
