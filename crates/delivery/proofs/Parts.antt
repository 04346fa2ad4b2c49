-- A run by its parts: what Delivery.antt and Entitlement.antt define of a run, with the mode, the stream and the rest as arguments, and of the packets as they are
-- logged.
use mathlib.Core.Path.{subst}
use mathlib.Core.Bool.{Bool, true, false, not, ◌||◌}
use mathlib.Core.List.{List, [], ◌∷◌, map}
use Prim.Native.Nat.{ℕ}
use lib.Dec.{eqb}
use Rattle.modes.specs.Modes.{listing}
use Rattle.pdu.specs.Reading.{mode_in}
use Rattle.packet_log.specs.Log.{Entry}
use Rattle.reassembly.specs.Tally.{no_tally, tallied, Countable}
use Rattle.writer.specs.Writing.{writer_opened}
use Rattle.runs.specs.Spans.{Span, every, whole_indices, entries_at}
use Rattle.runs.specs.Transmissions.{Way, gone, here}
use Rattle.runs.proofs.Model.{whole_packets}
use Rattle.runs.proofs.Promise.{arrived_by, indices}
use Rattle.runs.proofs.Spans.{entries-are}
use Rattle.batch.specs.declared.Batch.{Batch}
use Rattle.delivery.specs.Delivery.{Writing, pdus_from, spans_from, Station, Call, Behaviour, effect_of, HeaderAltered, Step, taken_by, Through as ThroughBy, seen_from, logs_in, Each, Run, run_of, Asked as AskedBy, in_received}
use Rattle.delivery.specs.Entitlement.{labels_from, rights_for}

abbrev pub run_with : (mode stream register : ℕ) (programs : List ℕ) (packets : List (List ℕ)) (writings : List Writing) (first count : ℕ) (carry : List ℕ) (steps : List Step) → Run
run_with mode stream register programs packets writings first count carry steps =
    record { mode = mode; stream = stream; register = register; programs = programs; packets = packets; writings = writings; first = first; count = count; carry = carry; steps = steps }

abbrev pub made : (mode stream register : ℕ) → List Writing → List (List ℕ)
made mode stream register writings = pdus_from (writer_opened mode stream register).writer writings

-- the counts of these packets do not pass their limit
abbrev pub EntriesFit : List Entry → Type 0
EntriesFit es = Countable (tallied no_tally es)

-- ---- the calls

abbrev pub answer_of : Station → Call → Batch
answer_of x c = (effect_of x c).answer

abbrev pub carry_of : Station → Call → List ℕ
carry_of x c = (effect_of x c).carry

abbrev pub log_of : Station → Call → List ℕ
log_of x c = (effect_of x c).log

module _ (b : Behaviour) where
  abbrev pub fresh_station : (mode stream register : ℕ) (programs carry : List ℕ) → Station
  fresh_station mode stream register programs carry = record { receiver = b.opening mode stream register programs; carry = carry }

  abbrev pub Through : Station → List (List ℕ) → List Step → Type 0
  Through = ThroughBy b HeaderAltered

  abbrev pub log_counts : Station → Call → Bool
  log_counts x c = eqb (b.effect x c).answer.refusal 0 || not (eqb (taken_by b x c) 0)

  abbrev pub logs_from : Station → List Call → List ℕ
  logs_from x cs = logs_in (seen_from b x cs)

  -- each answer to the calls of a list of steps is as promised
  abbrev pub NoneRefused : {S : Type 0} → (S → Call) → (S → Batch → Type 0) → Station → List S → Type 0
  NoneRefused call takes x ss = Each takes ss (seen_from b x (map call ss))

  abbrev pub Asked : (mode stream register : ℕ) (programs : List ℕ) (packets : List (List ℕ)) (writings : List Writing) (first count : ℕ) (carry : List ℕ) (steps : List Step) → Type 0
  Asked mode stream register programs packets writings first count carry steps = AskedBy (run_with mode stream register programs packets writings first count carry steps) HeaderAltered b

-- ---- the packets

module _ (mode stream : ℕ) (packets : List (List ℕ)) (writings : List Writing) where
  abbrev pub spans : List Span
  spans = spans_from mode stream packets 0 writings

  abbrev pub arrived_entries : (first count : ℕ) (received : List Bool) → List Entry
  arrived_entries first count received = whole_packets (every (in_received (run_of first count spans) received)) 0 0 packets

-- the PDUs of the run come in these ways
module _ (mode stream : ℕ) (programs : List ℕ) (packets : List (List ℕ)) (writings : List Writing) where
  abbrev pub due_entries : (first : ℕ) (ways : List Way) → List Entry
  due_entries first ways =
      arrived_by (rights_for mode stream programs) (mode_in (listing mode stream)).sequences first packets (spans mode stream packets writings) (labels_from mode stream packets 0 writings) ways

  abbrev pub due_indices : (first : ℕ) (ways : List Way) → List ℕ
  due_indices first ways =
      indices (rights_for mode stream programs) (mode_in (listing mode stream)).sequences first packets (spans mode stream packets writings) (labels_from mode stream packets 0 writings) ways

-- received with every piece taken, or marked lost
abbrev pub way_by : Bool → Way
way_by true = here (λ k. 0)
way_by false = gone

abbrev pub ways_by : List Bool → List Way
ways_by [] = []
ways_by (b ∷ bs) = way_by b ∷ ways_by bs

pub fit-entries : (f : ℕ → ℕ → Bool) (packets : List (List ℕ)) → Countable (tallied no_tally (entries_at packets (whole_indices f 0 0 packets))) → EntriesFit (whole_packets f 0 0 packets)
fit-entries f packets = subst EntriesFit (entries-are f packets)
