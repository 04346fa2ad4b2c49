-- Document 02, Ask 10: which PDUs of a run are withheld, looking back from each. It is told by what was sent with the PDUs, by the entitled programs and by
-- which PDUs were lost; no receiver stands here.
use Rattle.std.specs.Prelude.{Bool, cond, List, [], ◌∷◌, ℕ, eqb}
use Rattle.std.proofs.Math.Option.{Option, none, some}
use Rattle.reassembly.specs.Reassembly.{following}
use Rattle.reassembly.specs.Rights.{Rights, Label, withheld_by}
use Rattle.runs.specs.Spans.{Fate, lose, read}
use Rattle.runs.specs.Transmissions.{Way, gone, here}

-- a PDU: its sequence, what was sent with it, and how it came
pub record Arrival : Type 0 where
  pub sequence : ℕ
  pub label : Label
  pub way : Way

-- PDUs that a writer makes one after another, from sequence q on, as far as both lists go: 0 follows the last sequence of its range
abbrev pub arrivals_from : ℕ → ℕ → List Way → List Label → List Arrival
arrivals_from range q ws [] = []
arrivals_from range q [] (l ∷ ls) = []
arrivals_from range q (w ∷ ws) (l ∷ ls) = record { sequence = q; label = l; way = w } ∷ arrivals_from range (following range q) ws ls

-- a PDU that was lost leaves nothing known; one of sequence 0 brings its applied services; any other leaves what was known before it
abbrev pub known_after : Way → Arrival → Option ℕ → Option ℕ
known_after gone t before = none
known_after (here f) t before = cond (eqb t.sequence 0) (some t.label.services) before

-- so, of PDUs in reverse order, the latest first: the applied services sent last with sequence 0, where no PDU was lost since; nothing at opening
abbrev pub last_sent : List Arrival → Option ℕ
last_sent [] = none
last_sent (t ∷ before) = known_after t.way t (last_sent before)

-- lost, or read: withheld or not, with the causes of its pieces
abbrev pub fate_in : (withheld : Bool) → Way → Fate
fate_in withheld gone = lose
fate_in withheld (here f) = read withheld f

module _ (rights : Rights) where
  -- the value in force at a PDU that came, after these: core PDUs of sequence range 0-7 take the one sent last with sequence 0, others their own
  abbrev pub services_at : Arrival → List Arrival → Option ℕ
  services_at t before = cond rights.keeps (last_sent (t ∷ before)) (some t.label.services)

  abbrev pub withheld_at : Arrival → List Arrival → Bool
  withheld_at t before = withheld_by rights.entitled t.label.program (services_at t before)

  -- what came of PDUs, after these
  abbrev pub fates_told : List Arrival → List Arrival → List Fate
  fates_told before [] = []
  fates_told before (t ∷ ts) = fate_in (withheld_at t before) t.way ∷ fates_told (t ∷ before) ts
