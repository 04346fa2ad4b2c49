-- A run for a receiver that withholds (document 02, Ask 10): which PDUs are withheld, going along with the receiver; what comes to it; and which packets are due,
-- by their indices.
use Prim.Native.Nat.{ℕ, suc, ◌+◌}
use mathlib.Core.Bool.{false, cond}
use mathlib.Core.List.{List, [], ◌∷◌, ◌++◌}
use mathlib.Core.Option.{Option, none}
use lib.ListN.{length, drop}
use Rattle.reassembly.specs.Reassembly.{following}
use Rattle.reassembly.specs.Rights.{Rights, Label, in_force, kept_after, withheld_by}
use Rattle.runs.proofs.Events.{Event, lost, came}
use Rattle.runs.specs.Spans.{Fate, lose, read, Mark}
use Rattle.runs.specs.Transmissions.{Way, gone, here}
use Rattle.runs.proofs.Model.{Plan, said_of, sent_after, is_due}

pub record Transmission : Type 0 where
  pub whole : ℕ
  pub over : ℕ
  pub psd_bytes : List ℕ
  pub label : Label
  pub way : Way

abbrev pub plan_of : Transmission → Fate → Plan
plan_of c w = record { whole = c.whole; over = c.over; psd_bytes = c.psd_bytes; fate = w }

module _ (rights : Rights) (range : ℕ) where
  -- ---- which are withheld

  -- the PDU of sequence q, where `kept` is the value kept from the PDUs of the run before it
  abbrev pub fate_of : ℕ → Option ℕ → Label → Way → Fate
  fate_of q kept l gone = lose
  fate_of q kept l (here f) = read (withheld_by rights.entitled l.program (in_force rights.keeps q l.services kept)) f

  -- a lost one forgets it
  abbrev pub kept_of : ℕ → Option ℕ → Label → Way → Option ℕ
  kept_of q kept l gone = none
  kept_of q kept l (here f) = kept_after rights.keeps (in_force rights.keeps q l.services kept)

  unfoldable pub plans_from : ℕ → Option ℕ → List Transmission → List Plan
  plans_from q kept [] = []
  plans_from q kept (c ∷ cs) = plan_of c (fate_of q kept c.label c.way) ∷ plans_from (following range q) (kept_of q kept c.label c.way) cs

  -- ---- what comes to the receiver

  abbrev pub event_of : ℕ → ℕ → ℕ → Transmission → Way → List (List ℕ) → Event
  event_of q i sent c gone rest = lost
  event_of q i sent c (here f) rest = came (record { said = said_of q i sent (plan_of c lose) false f rest; label = c.label })

  unfoldable pub events_from : ℕ → ℕ → ℕ → List (List ℕ) → List Transmission → List Event
  events_from q i sent rest [] = []
  events_from q i sent rest (c ∷ cs) =
      event_of q i sent c c.way rest ∷ events_from (following range q) (i + c.whole) (sent_after sent c.whole c.over) (drop c.whole rest) cs

-- ---- the packets that are due, by their indices

unfoldable pub due_from : ℕ → List (List ℕ) → List Mark → List ℕ
due_from i [] m = []
due_from i (p ∷ ps) m = cond (is_due (length p) m) (i ∷ []) [] ++ due_from (suc i) ps (drop (length p) m)
