-- One notion of a call for the PDUs of a run. A call hands over some of them, in order: one (alone, with marks, as a pair of copies), several (a
-- batch), or none (a refused call, an interruption). Each comes to the receiver in some way: lost, or with a cause for each of its pieces.
-- What states and calls are, and how a call hands PDUs over, is a parameter.
use Prim.Native.Nat.{ℕ, ◌+◌}
use mathlib.Core.Path.{◌≡◌}
use mathlib.Core.Bool.{true, false}
use mathlib.Core.List.{List, [], ◌∷◌, ◌++◌}
use mathlib.Core.Option.{Option, none}
use lib.ListN.{length, drop, replicate}
use Rattle.packet_log.specs.Log.{log_words}
use Rattle.packet_log.proofs.Packets.{FitAll}
use Rattle.reassembly.specs.Reassembly.{following}
use Rattle.reassembly.specs.Rights.{Rights, Label}
use Rattle.reassembly.specs.Tally.{Tally, Grows}
use Rattle.reassembly.specs.Holder.{Come, Holder}
use Rattle.runs.proofs.Events.{Event, lost, came, logged, after}
use Rattle.runs.proofs.Model.{cut, Fits, sent_after, said_of, bytes_in, fates_of}
use Rattle.runs.specs.Spans.{Fate, lose, Span}
use Rattle.runs.specs.Transmissions.{Way, gone, here}
use Rattle.runs.proofs.Transmissions.{Transmission, plan_of, fate_of, kept_of, plans_from}
use Rattle.runs.specs.Withheld.{fate_in}

-- ---- the writer's PDUs

pub record Load : Type 0 where
  pub whole : ℕ
  pub over : ℕ
  pub psd_bytes : List ℕ
  pub label : Label

abbrev pub transmission_of : Load → Way → Transmission
transmission_of c w = record { whole = c.whole; over = c.over; psd_bytes = c.psd_bytes; label = c.label; way = w }

-- PDUs with their ways, as far as these go
unfoldable pub transmissions_of : List Way → List Load → List Transmission
transmissions_of ws [] = []
transmissions_of [] (c ∷ cs) = []
transmissions_of (w ∷ ws) (c ∷ cs) = transmission_of c w ∷ transmissions_of ws cs

-- each fits the packets that are left
abbrev pub LoadsFit : ℕ → List (List ℕ) → List Load → Type 0
LoadsFit sent rest [] = Unit {0}
LoadsFit sent rest (c ∷ cs) = Fits sent c.whole c.over rest × LoadsFit (sent_after sent c.whole c.over) (drop c.whole rest) cs

-- where the bytes of each stand
unfoldable pub spans_from : ℕ → ℕ → List (List ℕ) → List Load → List Span
spans_from g s rest [] = []
spans_from g s rest (c ∷ cs) =
    let n = bytes_in (cut s c.whole c.over rest) in
    record { from = g; count = n } ∷ spans_from (g + n) (sent_after s c.whole c.over) (drop c.whole rest) cs

-- what a PDU says, by the causes of its pieces
abbrev pub Speech : Type 0
Speech = (ℕ → ℕ) → Come

unfoldable pub speeches_from : ℕ → ℕ → ℕ → ℕ → List (List ℕ) → List Load → List Speech
speeches_from range q i s rest [] = []
speeches_from range q i s rest (c ∷ cs) =
    (λ f. record { said = said_of q i s (plan_of (transmission_of c gone) lose) false f rest; label = c.label })
    ∷ speeches_from range (following range q) (i + c.whole) (sent_after s c.whole c.over) (drop c.whole rest) cs

-- ---- what comes to the receiver

abbrev pub event_by : Way → Speech → Event
event_by gone d = lost
event_by (here f) d = came (d f)

unfoldable pub heard : List Way → List Speech → List Event
heard [] ds = []
heard (w ∷ ws) [] = []
heard (w ∷ ws) (d ∷ ds) = event_by w d ∷ heard ws ds

-- what came of each of the writer's PDUs up to the run's end: the run begins at PDU `first`, and those before it count as lost
abbrev pub fates_from : Rights → ℕ → ℕ → List Way → List Load → List Fate
fates_from rights range first ways loads = fates_of (plans_from rights range 0 none (transmissions_of (replicate first gone ++ ways) loads))

-- the same from the ways and the labels alone
unfoldable pub fates_along : Rights → ℕ → ℕ → Option ℕ → List Way → List Label → List Fate
fates_along rights range q kept ws [] = []
fates_along rights range q kept [] (l ∷ ls) = []
fates_along rights range q kept (w ∷ ws) (l ∷ ls) = fate_of rights range q kept l w ∷ fates_along rights range (following range q) (kept_of rights range q kept l w) ws ls

abbrev pub labels_of : List Load → List Label
labels_of [] = []
labels_of (c ∷ cs) = c.label ∷ labels_of cs

-- where nothing is withheld
abbrev pub plain_fate : Way → Fate
plain_fate = fate_in false

unfoldable pub plain_fates : List Way → List Label → List Fate
plain_fates ws [] = []
plain_fates [] (l ∷ ls) = []
plain_fates (w ∷ ws) (l ∷ ls) = plain_fate w ∷ plain_fates ws ls

-- every program is entitled
abbrev pub AllEntitled : Rights → List Label → Type 0
AllEntitled rights [] = Unit {0}
AllEntitled rights (l ∷ ls) = (rights.entitled l.program ≡ true) × AllEntitled rights ls

-- ---- calls

-- each of these PDUs says this
abbrev pub Matching : {P : Type 0} → (P → Speech → Type 0) → List P → List Speech → Type 0
Matching Says [] [] = Unit {0}
Matching Says [] (d ∷ ds) = ⊥
Matching Says (p ∷ ps) [] = ⊥
Matching Says (p ∷ ps) (d ∷ ds) = Says p d × Matching Says ps ds

-- a machine: states, calls, the state after a call, and a call's log words as far as its answer counts
pub record Machine : Type 1 where
  pub State : Type 0
  pub Call : Type 0
  pub next : State → Call → State
  pub words : State → Call → List ℕ

-- what a call for PDUs of a run does to a state that stands for y
pub record Serves (rights : Rights) (range : ℕ) (M : Machine) (Stands : M.State → Holder → Type 0) (x : M.State) (y : Holder) (c : M.Call) (vs : List Event) : Type 0 where
  pub log : M.words x c ≡ log_words (logged rights range y vs)
  pub fit : FitAll (logged rights range y vs)
  pub stands : Stands (M.next x c) (after rights range y vs)

-- How a machine's calls hand over PDUs. `serves` is all that a new kind of call has to prove.
pub record Bridge (rights : Rights) (range : ℕ) (M : Machine) : Type 1 where
  pub Pdu : Type 0
  pub Says : Pdu → Speech → Type 0  -- a PDU as it was written, and what it says
  pub Stands : M.State → Holder → Type 0
  pub Hands : M.State → M.Call → List Pdu → List Way → Type 0
  pub Good : M.State → M.Call → List Pdu → Type 0  -- what is promised of its answer: none of these is refused
  pub Within : Tally → Type 0  -- the counts that the receiver can have
  pub within-less : (t u : Tally) → Grows t u → Within u → Within t
  pub as_many : (x : M.State) (c : M.Call) (ps : List Pdu) (ws : List Way) → Hands x c ps ws → length ws ≡ length ps
  pub serves : (x : M.State) (y : Holder) (c : M.Call) (ps : List Pdu) (ws : List Way) (ds : List Speech) → Stands x y → Hands x c ps ws → Matching Says ps ds
      → Within (after rights range y (heard ws ds)).tally → Good x c ps × Serves rights range M Stands x y c (heard ws ds)

module _ {rights : Rights} {range : ℕ} {M : Machine} (B : Bridge rights range M) where
  pub record Step : Type 0 where
    pub call : M.Call
    pub pdus : List B.Pdu
    pub ways : List Way

  abbrev pub handed : List Step → List B.Pdu
  handed [] = []
  handed (s ∷ ss) = s.pdus ++ handed ss

  abbrev pub ways_handed : List Step → List Way
  ways_handed [] = []
  ways_handed (s ∷ ss) = s.ways ++ ways_handed ss

  abbrev pub Through : M.State → List Step → Type 0
  Through x [] = Unit {0}
  Through x (s ∷ ss) = B.Hands x s.call s.pdus s.ways × Through (M.next x s.call) ss

  -- the logs, joined, and the state after
  abbrev pub logs_from : M.State → List Step → List ℕ
  logs_from x [] = []
  logs_from x (s ∷ ss) = M.words x s.call ++ logs_from (M.next x s.call) ss

  abbrev pub finally : M.State → List Step → M.State
  finally x [] = x
  finally x (s ∷ ss) = finally (M.next x s.call) ss

  abbrev pub AllGood : M.State → List Step → Type 0
  AllGood x [] = Unit {0}
  AllGood x (s ∷ ss) = B.Good x s.call s.pdus × AllGood (M.next x s.call) ss
