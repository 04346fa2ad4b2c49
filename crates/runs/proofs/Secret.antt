-- Document 02, Ask 10: two withheld PDUs that differ only in PSD and pieces, with nothing to continue, leave the same log and the same receiver.
use Prim.Native.Nat.{ℕ}
use mathlib.Core.Path.{◌≡◌, sym, ap, ap₂, ◌∙◌}
use mathlib.Core.Bool.{true}
use mathlib.Core.Option.{Option, some}
use Rattle.reassembly.specs.Reassembly.{nothing, Outcome, sequence_step, beginning_step, received, remembered}
use Rattle.reassembly.specs.Rights.{Rights, Label, forgetting, in_force, kept_after, withheld_by}
use Rattle.reassembly.specs.Tally.{tallied}
use Rattle.reassembly.specs.Holder.{Come, Holder, value_for, said_to}
use Rattle.reassembly.proofs.Withheld.{nothing-shown}
use Rattle.runs.proofs.Events.{came, entries_for, holder_for}

module _ (rights : Rights) (range : ℕ) (x : Holder) (d e : Come) (q : d.said.sequence ≡ e.said.sequence) (p : d.said.pfirst ≡ e.said.pfirst) (s : d.said.start ≡ e.said.start) (l : d.label ≡ e.label)
    (w : withheld_by rights.entitled d.label.program (value_for rights range x d) ≡ true)
    (n : (beginning_step d.said.pfirst d.said.start (sequence_step range x.memory.last d.said.sequence x.memory.partial).partial).partial ≡ nothing) where
  -- the second is withheld as the first is
  value_same : value_for rights range x d ≡ value_for rights range x e
  value_same = ap₂ (λ (a : ℕ) (b : Label). in_force rights.keeps a b.services (forgetting range x.memory.last a x.kept)) q l

  withheld-too : withheld_by rights.entitled e.label.program (value_for rights range x e) ≡ true
  withheld-too = ap₂ (λ (b : Label) (v : Option ℕ). withheld_by rights.entitled b.program v) (sym l) (sym value_same) ∙ w

  outcome-same : received range x.memory (said_to rights range x d) ≡ received range x.memory (said_to rights range x e)
  outcome-same = nothing-shown range x.memory (said_to rights range x d) (said_to rights range x e) w withheld-too q p s n

  pub same_log : entries_for rights range x (came d) ≡ entries_for rights range x (came e)
  same_log = ap (λ (o : Outcome). o.entries) outcome-same

  pub same-receiver : holder_for rights range x (came d) ≡ holder_for rights range x (came e)
  unfolding remembered
  same-receiver = λ i. record {
    memory = record { last = some (q i); partial = (outcome-same i).partial };
    kept = kept_after rights.keeps (value_same i);
    tally = tallied x.tally (outcome-same i).entries;
  }
