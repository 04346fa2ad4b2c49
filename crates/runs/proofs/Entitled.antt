-- Which PDUs a receiver withholds in a run is what the calls and the sent values tell.
use Prim.Native.Nat.{ℕ, ◌+◌}
use mathlib.Core.Path.{◌≡◌, refl, ap, ◌∙◌}
use mathlib.Core.Bool.{true, false}
use mathlib.Core.List.{List, [], ◌∷◌, ◌++◌}
use mathlib.Core.Option.{none, some}
use borrow.Author.Tests.{eq-eqb}
use lib.ListN.{drop}
use Rattle.packet_log.specs.Log.{Entry, packets_of}
use Rattle.reassembly.specs.Reassembly.{following, in_sequence, remembered, received}
use Rattle.reassembly.specs.Rights.{Rights, in_force, withheld_by}
use Rattle.reassembly.specs.Holder.{Come, Holder}
use Rattle.runs.proofs.Events.{lost, came, opened_holder, entries_for, holder_for, logged}
use Rattle.runs.specs.Spans.{lose}
use Rattle.runs.proofs.Model.{sent_after, said_of, event_of as event_in, events, run_marks, wanted, AllFit, Sized, logged as logged_of}
use Rattle.runs.specs.Transmissions.{Way, gone, here}
use Rattle.runs.proofs.Transmissions.{Transmission, plan_of, fate_of, kept_of, plans_from, event_of, events_from}
use Rattle.runs.proofs.Theorem.{run-delivers}

module _ (rights : Rights) (range : ℕ) where
  -- the receiver takes q for the next sequence
  abbrev Next : Holder → ℕ → Type 0
  Next x q = in_sequence range x.memory.last q ≡ true

  next-came : (q : ℕ) → in_sequence range (some q) (following range q) ≡ true
  next-came q = eq-eqb (following range q) (following range q) refl

  same_log : (cs : List Transmission) (x : Holder) (q i s : ℕ) (rest : List (List ℕ)) → Next x q
      → logged rights range x (events_from rights range q i s rest cs) ≡ logged_of range x.memory (events range q i s rest (plans_from rights range q x.kept cs))
  unfolding logged logged_of events_from events plans_from received
  same_log [] x q i s rest e = refl
  same_log (c ∷ cs) x q i s rest e = go c.way (λ y g. same_log cs y (following range q) (i + c.whole) (sent_after s c.whole c.over) (drop c.whole rest) g)
    where
      go : (w : Way)
          → ((y : Holder) → Next y (following range q)
          → logged rights range y (events_from rights range (following range q) (i + c.whole) (sent_after s c.whole c.over) (drop c.whole rest) cs)
          ≡ logged_of range y.memory (events range (following range q) (i + c.whole) (sent_after s c.whole c.over) (drop c.whole rest) (plans_from rights range (following range q) y.kept cs)))
          → logged rights range x (event_of rights range q i s c w rest ∷ events_from rights range (following range q) (i + c.whole) (sent_after s c.whole c.over) (drop c.whole rest) cs)
          ≡ logged_of range x.memory (event_in q i s (plan_of c (fate_of rights range q x.kept c.label w)) (fate_of rights range q x.kept c.label w) rest ∷ events range (following range q) (i + c.whole) (sent_after s c.whole c.over) (drop c.whole rest) (plans_from rights range (following range q) (kept_of rights range q x.kept c.label w) cs))
      go gone ih = ap (λ (l : List Entry). ◌++◌ {A = Entry} (entries_for rights range x lost) l) (ih (holder_for rights range x lost) refl)
      go (here f) ih =
          let d : Come = record { said = said_of q i s (plan_of c lose) false f rest; label = c.label } in
          let h = ih (holder_for rights range x (came d)) (unfold remembered in next-came q) in
          rw e (ap (λ (l : List Entry). ◌++◌ {A = Entry} (received range x.memory (said_of q i s (plan_of c lose) (withheld_by rights.entitled c.label.program (in_force rights.keeps q c.label.services x.kept)) f rest)).entries l) (rw e at h))

-- A fresh receiver with these rights: the packets logged are those whose bytes were all taken and that begin in a PDU not withheld, in order.
pub entitled-run : (rights : Rights) (range : ℕ) (ps : List (List ℕ)) (cs : List Transmission) → AllFit 0 ps (plans_from rights range 0 none cs) → Sized ps
    → packets_of (logged rights range opened_holder (events_from rights range 0 0 0 ps cs)) ≡ wanted 0 ps (run_marks 0 ps (plans_from rights range 0 none cs))
entitled-run rights range ps cs h z = ap packets_of (same_log rights range cs opened_holder 0 0 0 ps refl) ∙ run-delivers range ps (plans_from rights range 0 none cs) h z
