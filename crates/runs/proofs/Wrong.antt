-- Small runs, computed, at which a wrong definition is refused first; and wrong receivers, each with a run on which it does not log the packets that arrived whole.
use mathlib.Core.Path.{◌≡◌, refl, ap}
use mathlib.Core.Bool.{Bool, true, false, cond}
use mathlib.Core.List.{List, [], ◌∷◌, ◌++◌, map}
use mathlib.Core.Option.{Option, none, some}
use Prim.Native.Nat.{ℕ}
use native.Mathlib.Omega.{arith}
use lib.Dec.{eqb}
use lib.ListN.{length, replicate}
use Rattle.packet_log.specs.Log.{Entry, packet, note, packets_of}
use Rattle.reassembly.specs.Reassembly.{Memory, sequence_step, beginning_step, psd_entries, finished, joined, piece_step, pieces_step, continuing_step, contents_step, received, remembered, forgotten}
use Rattle.reassembly.specs.Rights.{Rights, Label}
use Rattle.runs.specs.Transmissions.{Way, gone, here}
use Rattle.runs.specs.Spans.{Span, lies, due_at, Fate, lose, read, whole_indices, entries_at}
use Rattle.runs.proofs.Model.{whole_packets, Event, lost, came, entries_for, memory_for, logged, cut, Plan, read_pieces, events, marks, run_marks, wanted}
use Rattle.runs.proofs.Calls.{fates_along}
use Rattle.runs.specs.Withheld.{arrivals_from, fates_told}

abbrev taken : Fate
taken = read false (λ k. 0)

-- packets of 5, 2 and 3 bytes in four PDUs: 3 bytes; 2 and 1; 1 and 2; 1
abbrev three : List (List ℕ)
three = (1 ∷ 2 ∷ 3 ∷ 4 ∷ 5 ∷ []) ∷ (6 ∷ 7 ∷ []) ∷ (8 ∷ 9 ∷ 10 ∷ []) ∷ []

abbrev four : Fate → Fate → Fate → Fate → List Plan
four a b c d =
    record { whole = 0; over = 3; psd_bytes = []; fate = a }
    ∷ record { whole = 1; over = 1; psd_bytes = []; fate = b }
    ∷ record { whole = 1; over = 2; psd_bytes = []; fate = c }
    ∷ record { whole = 1; over = 0; psd_bytes = []; fate = d }
    ∷ []

-- a packet of 8 bytes in four PDUs
abbrev one : List (List ℕ)
one = (1 ∷ 2 ∷ 3 ∷ 4 ∷ 5 ∷ 6 ∷ 7 ∷ 8 ∷ []) ∷ []

abbrev long : Fate → Fate → List Plan
long b c =
    record { whole = 0; over = 2; psd_bytes = []; fate = taken }
    ∷ record { whole = 0; over = 2; psd_bytes = []; fate = b }
    ∷ record { whole = 0; over = 2; psd_bytes = []; fate = c }
    ∷ record { whole = 1; over = 0; psd_bytes = []; fate = taken }
    ∷ []

-- ---- the receiver, with a sequence of one bit

all-arrive : logged 2 forgotten (events 2 0 0 0 three (four taken taken taken taken)) ≡ packet 0 (1 ∷ 2 ∷ 3 ∷ 4 ∷ 5 ∷ []) ∷ packet 1 (6 ∷ 7 ∷ []) ∷ packet 2 (8 ∷ 9 ∷ 10 ∷ []) ∷ []
unfolding logged events read_pieces cut received contents_step remembered sequence_step beginning_step psd_entries pieces_step piece_step joined finished
all-arrive = refl

-- the second lost: its packets are gone, and the third's first piece continues nothing
second-lost : logged 2 forgotten (events 2 0 0 0 three (four taken lose taken taken)) ≡ note 6 0 ∷ note 3 0 ∷ packet 2 (8 ∷ 9 ∷ 10 ∷ []) ∷ []
unfolding logged events read_pieces cut received contents_step remembered sequence_step beginning_step psd_entries pieces_step piece_step joined finished
second-lost = refl

-- a piece with a wrong CRC
second-bad : logged 2 forgotten (events 2 0 0 0 three (four taken (read false (λ k. 2)) taken taken)) ≡ note 2 0 ∷ note 2 1 ∷ note 3 0 ∷ packet 2 (8 ∷ 9 ∷ 10 ∷ []) ∷ []
unfolding logged events read_pieces cut received contents_step remembered sequence_step beginning_step psd_entries pieces_step piece_step joined finished
second-bad = refl

-- a wrong CRC comes before nothing held
bad-and-nothing-held : logged 2 forgotten (events 2 0 0 0 three (four lose (read false (λ k. 2)) taken taken)) ≡ note 6 0 ∷ note 2 0 ∷ note 2 1 ∷ note 3 0 ∷ packet 2 (8 ∷ 9 ∷ 10 ∷ []) ∷ []
unfolding logged events read_pieces cut received contents_step remembered sequence_step beginning_step psd_entries pieces_step piece_step joined finished
bad-and-nothing-held = refl

-- two lost: the fourth PDU's sequence follows the first's, and nothing is joined
two-lost : logged 2 forgotten (events 2 0 0 0 one (long lose lose)) ≡ note 6 0 ∷ note 6 0 ∷ note 3 0 ∷ []
unfolding logged events read_pieces cut received contents_step remembered sequence_step beginning_step psd_entries pieces_step piece_step joined finished
two-lost = refl

-- ---- withheld PDUs

abbrev kept_back : Fate
kept_back = read true (λ k. 0)

-- the second withheld: the packet that it continues is delivered, the one that it begins is not, and the third's first piece continues nothing
second-withheld : logged 2 forgotten (events 2 0 0 0 three (four taken kept_back taken taken)) ≡ note 8 0 ∷ packet 0 (1 ∷ 2 ∷ 3 ∷ 4 ∷ 5 ∷ []) ∷ note 3 0 ∷ packet 2 (8 ∷ 9 ∷ 10 ∷ []) ∷ []
unfolding logged events read_pieces cut received contents_step continuing_step remembered sequence_step beginning_step psd_entries pieces_step piece_step joined finished
second-withheld = refl

-- a packet through two withheld PDUs follows the right of the PDU in which it began
held-through : logged 2 forgotten (events 2 0 0 0 one (long kept_back kept_back)) ≡ note 8 0 ∷ note 8 0 ∷ packet 0 (1 ∷ 2 ∷ 3 ∷ 4 ∷ 5 ∷ 6 ∷ 7 ∷ 8 ∷ []) ∷ []
unfolding logged events read_pieces cut received contents_step continuing_step remembered sequence_step beginning_step psd_entries pieces_step piece_step joined finished
held-through = refl

-- ---- what is asked for

-- the second lost, or withheld
asked-lost : wanted 0 three (run_marks 0 three (four taken lose taken taken)) ≡ packet 2 (8 ∷ 9 ∷ 10 ∷ []) ∷ []
unfolding wanted run_marks marks cut
asked-lost = refl

asked-withheld : wanted 0 three (run_marks 0 three (four taken kept_back taken taken)) ≡ packet 0 (1 ∷ 2 ∷ 3 ∷ 4 ∷ 5 ∷ []) ∷ packet 2 (8 ∷ 9 ∷ 10 ∷ []) ∷ []
unfolding wanted run_marks marks cut
asked-withheld = refl

asked-number : wanted 64 ((1 ∷ []) ∷ []) (record { taken = true; free = true } ∷ []) ≡ packet 0 (1 ∷ []) ∷ []
unfolding wanted
asked-number = refl

-- the same by bytes: the second withheld, or lost; its second piece wrong
abbrev four_spans : List Span
four_spans = record { from = 0; count = 3 } ∷ record { from = 3; count = 3 } ∷ record { from = 6; count = 3 } ∷ record { from = 9; count = 1 } ∷ []

whole-withheld : whole_packets (due_at (lies three four_spans (taken ∷ kept_back ∷ taken ∷ taken ∷ []))) 0 0 three ≡ packet 0 (1 ∷ 2 ∷ 3 ∷ 4 ∷ 5 ∷ []) ∷ packet 2 (8 ∷ 9 ∷ 10 ∷ []) ∷ []
unfolding whole_packets
whole-withheld = refl

whole-lost : whole_packets (due_at (lies three four_spans (taken ∷ lose ∷ taken ∷ taken ∷ []))) 0 0 three ≡ packet 2 (8 ∷ 9 ∷ 10 ∷ []) ∷ []
unfolding whole_packets
whole-lost = refl

-- packet 64 has number 0, and the first has index 0
number-again : entries_at (replicate 65 (1 ∷ [])) (64 ∷ []) ≡ packet 0 (1 ∷ []) ∷ []
number-again = refl

first-index : whole_indices (λ o n. true) 0 0 ((1 ∷ []) ∷ []) ≡ 0 ∷ []
unfolding whole_indices
first-index = refl

whole-wrong : whole_packets (due_at (lies three four_spans (taken ∷ read false (λ k. cond (eqb k 1) 2 0) ∷ taken ∷ taken ∷ []))) 0 0 three ≡ packet 0 (1 ∷ 2 ∷ 3 ∷ 4 ∷ 5 ∷ []) ∷ packet 2 (8 ∷ 9 ∷ 10 ∷ []) ∷ []
unfolding whole_packets
whole-wrong = refl

-- ---- which are withheld, for core of sequence range 0-7 and a program that is not entitled

abbrev no_rights : Rights
no_rights = record { entitled = λ p. false; keeps = true }

abbrev with-services : ℕ → Label
with-services v = record { program = 1; services = v }

-- the value sent with sequence 0 is in force, and marking lost forgets it
value-forgotten : fates_along no_rights 8 0 none (here (λ k. 0) ∷ gone ∷ here (λ k. 0) ∷ []) (with-services 0 ∷ with-services 0 ∷ with-services 0 ∷ []) ≡ taken ∷ lose ∷ kept_back ∷ []
unfolding fates_along
value-forgotten = refl

-- one sent with sequence 1 is not taken
pub value_stays : fates_along no_rights 8 0 none (here (λ k. 0) ∷ here (λ k. 0) ∷ []) (with-services 0 ∷ with-services 1 ∷ []) ≡ taken ∷ taken ∷ []
unfolding fates_along
value_stays = refl

-- ---- the same, looking back from each PDU

abbrev seen : Way
seen = here (λ k. 0)

-- the PDUs from sequence q on, with these applied services
abbrev looking_back : Bool → ℕ → List Way → List ℕ → List Fate
looking_back keeps q ws vs = fates_told (record { entitled = λ p. false; keeps = keeps }) [] (arrivals_from 8 q ws (map with-services vs))

-- a lost PDU leaves the value unknown, until the next of sequence 0
pub lost-unknown : looking_back true 0 (seen ∷ gone ∷ seen ∷ seen ∷ seen ∷ seen ∷ seen ∷ seen ∷ seen ∷ seen ∷ []) (0 ∷ 0 ∷ 0 ∷ 0 ∷ 0 ∷ 0 ∷ 0 ∷ 0 ∷ 0 ∷ 1 ∷ [])
    ≡ taken ∷ lose ∷ kept_back ∷ kept_back ∷ kept_back ∷ kept_back ∷ kept_back ∷ kept_back ∷ taken ∷ taken ∷ []
lost-unknown = refl

-- a value sent with another sequence is not taken: neither 0 nor 1
pub others-left : looking_back true 0 (seen ∷ seen ∷ seen ∷ []) (1 ∷ 0 ∷ 0 ∷ []) ≡ kept_back ∷ kept_back ∷ kept_back ∷ []
others-left = refl

-- at opening nothing is known
pub unknown-withheld : looking_back true 3 (seen ∷ []) (0 ∷ []) ≡ kept_back ∷ []
unknown-withheld = refl

-- applied services 2 to 7 withhold nothing
pub two-given : looking_back true 0 (seen ∷ seen ∷ []) (2 ∷ 1 ∷ []) ≡ taken ∷ taken ∷ []
two-given = refl

-- other modes and streams go by the PDU's own value
pub own_value : looking_back false 1 (seen ∷ gone ∷ seen ∷ []) (1 ∷ 0 ∷ 0 ∷ []) ≡ kept_back ∷ lose ∷ taken ∷ []
own_value = refl

-- ---- wrong receivers

-- what a receiver logs of an event, and what it remembers
record Rule : Type 0 where
  entries : Memory → Event → List Entry
  memory : Memory → Event → Memory

logged_by : Rule → Memory → List Event → List Entry
logged_by r x [] = []
logged_by r x (v ∷ vs) = r.entries x v ++ logged_by r (r.memory x v) vs

-- an empty log for everything
abbrev silent : Rule
silent = record { entries = λ x v. []; memory = λ x v. memory_for 2 x v }

-- one fixed packet
abbrev fixed : Rule
fixed = record { entries = λ x v. packet 0 (1 ∷ []) ∷ []; memory = λ x v. memory_for 2 x v }

-- joins in the first PDU, and then only advances
abbrev only_first : Option ℕ → List Entry → List Entry
only_first none es = es
only_first (some q) es = []

abbrev idle : Rule
idle = record { entries = λ x v. only_first x.last (entries_for 2 x v); memory = λ x v. memory_for 2 x v }

-- marking lost forgets nothing
abbrev keeping : Memory → Event → Memory
keeping x lost = x
keeping x (came d) = remembered 2 x d

abbrev joining : Rule
joining = record { entries = λ x v. entries_for 2 x v; memory = keeping }

silent-wrong : ¬ (packets_of (logged_by silent forgotten (events 2 0 0 0 three (four taken taken taken taken))) ≡ wanted 0 three (run_marks 0 three (four taken taken taken taken)))
unfolding logged_by events packets_of wanted run_marks marks cut
silent-wrong e = let h : ◌≡◌ {A = ℕ} 0 3 = ap length e in absurd (omega (arith, h))

fixed-wrong : ¬ (packets_of (logged_by fixed forgotten (events 2 0 0 0 three (four taken taken taken taken))) ≡ wanted 0 three (run_marks 0 three (four taken taken taken taken)))
unfolding logged_by events packets_of wanted run_marks marks cut
fixed-wrong e = let h : ◌≡◌ {A = ℕ} 4 3 = ap length e in absurd (omega (arith, h))

idle-wrong : ¬ (packets_of (logged_by idle forgotten (events 2 0 0 0 three (four taken taken taken taken))) ≡ wanted 0 three (run_marks 0 three (four taken taken taken taken)))
unfolding logged_by events read_pieces cut received contents_step remembered sequence_step beginning_step psd_entries pieces_step piece_step joined finished packets_of wanted run_marks marks
idle-wrong e = let h : ◌≡◌ {A = ℕ} 0 3 = ap length e in absurd (omega (arith, h))

-- a packet glued from the ends of one that did not arrive
glued : packets_of (logged_by joining forgotten (events 2 0 0 0 one (long lose lose))) ≡ packet 0 (1 ∷ 2 ∷ 7 ∷ 8 ∷ []) ∷ []
unfolding logged_by events read_pieces cut received contents_step remembered sequence_step beginning_step psd_entries pieces_step piece_step joined finished packets_of
glued = refl

joining-wrong : ¬ (packets_of (logged_by joining forgotten (events 2 0 0 0 one (long lose lose))) ≡ wanted 0 one (run_marks 0 one (long lose lose)))
unfolding logged_by events read_pieces cut received contents_step remembered sequence_step beginning_step psd_entries pieces_step piece_step joined finished packets_of wanted run_marks marks
joining-wrong e = let h : ◌≡◌ {A = ℕ} 1 0 = ap length e in absurd (omega (arith, h))
