-- Which PDUs are withheld, looking back from each (runs/specs/Withheld.antt), is what a receiver finds that keeps a value from PDU to PDU.
use Prim.Native.Nat.{ℕ, ◌+◌}
use mathlib.Core.Path.{◌≡◌, refl, sym, ap, ap₂, ◌∙◌}
use mathlib.Core.Bool.{Bool, true, false, cond}
use mathlib.Core.List.{List, [], ◌∷◌}
use mathlib.Core.Option.{Option, none, some}
use borrow.Author.Tests.{eq-eqb}
use lib.Dec.{eqb}
use lib.ListN.{drop}
use Rattle.reassembly.specs.Reassembly.{following, in_sequence, remembered}
use Rattle.reassembly.specs.Rights.{Rights, Label, in_force, kept_after, withheld_by}
use Rattle.reassembly.specs.Holder.{Come, Holder, value_for}
use Rattle.runs.proofs.Events.{lost, came, opened_holder, holder_for, after}
use Rattle.runs.specs.Spans.{Fate, lose, read}
use Rattle.runs.proofs.Model.{said_of, sent_after}
use Rattle.runs.specs.Transmissions.{Way, gone, here}
use Rattle.runs.proofs.Transmissions.{fate_of, kept_of, plan_of}
use Rattle.runs.proofs.Calls.{Load, transmission_of, speeches_from, heard, fates_along, labels_of}
use Rattle.runs.specs.Withheld.{Arrival, arrivals_from, last_sent, withheld_at, fate_in, fates_told}

module _ (rights : Rights) (range : ℕ) where
  -- what is kept after these PDUs
  abbrev pub kept_back : List Arrival → Option ℕ
  kept_back before = kept_after rights.keeps (last_sent before)

  -- the value in force at a PDU, from the one kept before it
  value-kept : (b : Bool) (q v : ℕ) (known : Option ℕ) → cond b (cond (eqb q 0) (some v) known) (some v) ≡ in_force b q v (kept_after b known)
  value-kept true q v known = refl
  value-kept false q v known = refl

  kept-kept : (b : Bool) (q v : ℕ) (known : Option ℕ) → kept_after b (cond (eqb q 0) (some v) known) ≡ kept_after b (in_force b q v (kept_after b known))
  kept-kept true q v known = refl
  kept-kept false q v known = refl

  forgotten-back : (b : Bool) → kept_after b none ≡ none
  forgotten-back true = refl
  forgotten-back false = refl

  fate-is : (w : Way) (q : ℕ) (l : Label) (before : List Arrival) → let t : Arrival = record { sequence = q; label = l; way = w } in fate_in (withheld_at rights t before) w ≡ fate_of rights range q (kept_back before) l w
  fate-is gone q l before = refl
  fate-is (here f) q l before = ap (λ (v : Option ℕ). read (withheld_by rights.entitled l.program v) f) (value-kept rights.keeps q l.services (last_sent before))

  next-kept : (w : Way) (q : ℕ) (l : Label) (before : List Arrival) → kept_back (record { sequence = q; label = l; way = w } ∷ before) ≡ kept_of rights range q (kept_back before) l w
  next-kept gone q l before = forgotten-back rights.keeps
  next-kept (here f) q l before = kept-kept rights.keeps q l.services (last_sent before)

  told-along : (ls : List Label) (ws : List Way) (q : ℕ) (before : List Arrival) → fates_told rights before (arrivals_from range q ws ls) ≡ fates_along rights range q (kept_back before) ws ls
  unfolding fates_along
  told-along [] [] q before = refl
  told-along [] (w ∷ ws) q before = refl
  told-along (l ∷ ls) [] q before = refl
  told-along (l ∷ ls) (w ∷ ws) q before =
      let t : Arrival = record { sequence = q; label = l; way = w } in
      ap₂ (λ (a : Fate) (r : List Fate). a ∷ r) (fate-is w q l before)
      (told-along ls ws (following range q) (t ∷ before) ∙ ap (λ (k : Option ℕ). fates_along rights range (following range q) k ws ls) (next-kept w q l before))

  -- from opening on
  pub told_is : (ls : List Label) (ws : List Way) → fates_told rights [] (arrivals_from range 0 ws ls) ≡ fates_along rights range 0 none ws ls
  told_is ls ws = told-along ls ws 0 [] ∙ ap (λ (k : Option ℕ). fates_along rights range 0 k ws ls) (forgotten-back rights.keeps)

  -- ---- the value that a receiver keeps after PDUs of a run is the one that these tell

  -- PDUs, the latest first, after these
  abbrev pub backwards : List Arrival → List Arrival → List Arrival
  backwards before [] = before
  backwards before (t ∷ ts) = backwards (t ∷ before) ts

  -- the receiver takes q for the next sequence, and keeps what the PDUs before tell
  record Keeps (x : Holder) (q : ℕ) (before : List Arrival) : Type 0 where
    next : in_sequence range x.memory.last q ≡ true
    kept : x.kept ≡ kept_back before

  kept_on : (cs : List Load) (ws : List Way) (x : Holder) (q i s : ℕ) (rest : List (List ℕ)) (before : List Arrival) → Keeps x q before
      → (after rights range x (heard ws (speeches_from range q i s rest cs))).kept ≡ kept_back (backwards before (arrivals_from range q ws (labels_of cs)))
  unfolding after heard speeches_from
  kept_on [] [] x q i s rest before h = h.kept
  kept_on [] (w ∷ ws) x q i s rest before h = h.kept
  kept_on (c ∷ cs) [] x q i s rest before h = h.kept
  kept_on (c ∷ cs) (gone ∷ ws) x q i s rest before h =
      kept_on cs ws (holder_for rights range x lost) (following range q) (i + c.whole) (sent_after s c.whole c.over) (drop c.whole rest) (record { sequence = q; label = c.label; way = gone } ∷ before)
      (record { next = refl; kept = sym (forgotten-back rights.keeps) })
  kept_on (c ∷ cs) (here f ∷ ws) x q i s rest before h =
      let d : Come = record { said = said_of q i s (plan_of (transmission_of c gone) lose) false f rest; label = c.label } in
      let e : value_for rights range x d ≡ in_force rights.keeps q c.label.services x.kept = ap (λ (b : Bool). in_force rights.keeps q c.label.services (cond b x.kept none)) h.next in
      kept_on cs ws (holder_for rights range x (came d)) (following range q) (i + c.whole) (sent_after s c.whole c.over) (drop c.whole rest) (record { sequence = q; label = c.label; way = here f } ∷ before)
      (record {
        next = unfold remembered in eq-eqb (following range q) (following range q) refl;
        kept = ap (kept_after rights.keeps) (e ∙ ap (in_force rights.keeps q c.label.services) h.kept) ∙ sym (next-kept (here f) q c.label before);
      })

  -- from opening on
  pub kept-told : (cs : List Load) (ws : List Way) (ps : List (List ℕ)) → (after rights range opened_holder (heard ws (speeches_from range 0 0 0 ps cs))).kept ≡ kept_back (backwards [] (arrivals_from range 0 ws (labels_of cs)))
  kept-told cs ws ps = kept_on cs ws opened_holder 0 0 0 ps [] (record { next = refl; kept = sym (forgotten-back rights.keeps) })
