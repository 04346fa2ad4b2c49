-- PDUs that come alike but for the bytes of pieces that are not taken leave the same log and the same receiver, withheld or not.
use Prim.Native.Nat.{ℕ}
use mathlib.Core.Path.{◌≡◌, ap, ap₂}
use mathlib.Core.Bool.{false}
use mathlib.Core.Option.{Option, some}
use Rattle.reassembly.specs.Reassembly.{Said, received, remembered}
use Rattle.reassembly.specs.Rights.{Rights, Label, forgetting, in_force, kept_after, withheld_by, under}
use Rattle.reassembly.specs.Tally.{tallied}
use Rattle.reassembly.specs.Holder.{Come, Holder, value_for, said_to}
use Rattle.reassembly.proofs.Blind.{blank_said, received-blind}
use Rattle.runs.proofs.Events.{came, holder_for}

module _ (rights : Rights) (range : ℕ) (x : Holder) (a b : Come) (said : blank_said a.said ≡ blank_said (under false b.said)) (label : a.label ≡ b.label) where
  sequence-same : a.said.sequence ≡ b.said.sequence
  sequence-same = ap (λ (d : Said). d.sequence) said

  value_same : value_for rights range x a ≡ value_for rights range x b
  value_same = ap₂ (λ (q : ℕ) (l : Label). in_force rights.keeps q l.services (forgetting range x.memory.last q x.kept)) sequence-same label

  withheld-same : withheld_by rights.entitled a.label.program (value_for rights range x a) ≡ withheld_by rights.entitled b.label.program (value_for rights range x b)
  withheld-same = ap₂ (λ (l : Label) (v : Option ℕ). withheld_by rights.entitled l.program v) label value_same

  shown-same : blank_said (said_to rights range x a) ≡ blank_said (said_to rights range x b)
  shown-same = λ i. under (withheld-same i) (said i)

  pub received-same : received range x.memory (said_to rights range x a) ≡ received range x.memory (said_to rights range x b)
  received-same = received-blind range x.memory (said_to rights range x a) (said_to rights range x b) shown-same

  pub holder-same : holder_for rights range x (came a) ≡ holder_for rights range x (came b)
  unfolding remembered
  holder-same = λ i. record {
    memory = record { last = some (sequence-same i); partial = (received-same i).partial };
    kept = kept_after rights.keeps (value_same i);
    tally = tallied x.tally (received-same i).entries;
  }
