-- Document 02, Ask 10: a run in mode 1, core, whose sequence range is 0-7, for a receiver that is entitled to program 3 alone. Applied services change from 0 to 1
-- with the second PDU of sequence 0, one sent with sequence 1 is not taken, and the third PDU is lost.
use mathlib.Core.Path.{◌≡◌, refl, sym, ap, ◌∙◌}
use mathlib.Core.Bool.{Bool, true, false}
use mathlib.Core.List.{List, [], ◌∷◌, ◌++◌, map}
use Prim.Native.Nat.{ℕ, zero, suc, ◌+◌, ◌≤◌}
use native.Mathlib.Omega.{arith}
use lib.ListN.{length, replicate, length-take}
use Rattle.modes.specs.Modes.{listing}
use Rattle.settings.specs.Settings.{fields_for}
use Rattle.settings.specs.declared.Settings.{Settings}
use Rattle.expansion.specs.Expansion.{chained}
use Rattle.expansion.specs.Writing.{expansion_bytes}
use Rattle.packing.specs.Packing.{largest_up_to, most_pieces, fit, wholes_from, part_after, part_from}
use Rattle.pieces.specs.Pieces.{total}
use Rattle.packet_log.specs.Log.{packet, log_words, packet_words}
use Rattle.reassembly.specs.Rights.{Label}
use Rattle.writer.specs.Writing.{writer_opened, write_answer}
use Rattle.receiver.specs.Entitling.{allowed_programs}
use Rattle.runs.specs.Spans.{Span}
use Rattle.runs.proofs.Model.{whole_packets}
use Rattle.runs.proofs.Promise.{arrived_by}
use Rattle.delivery.specs.Delivery.{Packets, Writing, spans_from, InOrder, defined, Step, call_of, run_of}
use Rattle.delivery.proofs.Parts.{fresh_station, logs_from, made, spans, due_entries, ways_by, run_with}
use Rattle.delivery.specs.Entitlement.{labels_from, rights_for}
use Rattle.delivery.proofs.Channel.{made-right}
use Rattle.delivery.proofs.Possible.{verbatim, told-receptions, steps_of, possible}
use Rattle.delivery.proofs.SmallRuns.{carry, carry-room}
use Rattle.delivery.proofs.Claimed.{altered-says}
use Rattle.delivery.proofs.Damages.{entitled-delivers}

-- settings for a program of class 1 with these applied services, and for one that is free
abbrev pub paid : ℕ → ℕ → Settings
paid program services = record { blend = 0; gain = 0; common = 0; latency = 0; classed = true; class = 1; programmed = true; program = program; displaced = false; typed = true; access = 1; ptype = 0; serviced = true; services = services; marker = 0 }

abbrev pub free : ℕ → Settings
free program = record { blend = 0; gain = 0; common = 0; latency = 0; classed = false; class = 0; programmed = true; program = program; displaced = false; typed = false; access = 0; ptype = 0; serviced = false; services = 0; marker = 0 }

-- a call for a PDU of 96 bytes that offers one packet
abbrev pub sending : Settings → List ℕ → Writing
sending s p = record { settings = s; psd = []; lengths = length p ∷ []; bytes = p ++ []; buffer = replicate 96 0; psd-bytes = tt }

-- three equal bytes
abbrev pub triple : ℕ → List ℕ
triple v = v ∷ v ∷ v ∷ []

-- n of them, from one on
abbrev pub triples_from : ℕ → ℕ → List (List ℕ)
triples_from v zero = []
triples_from v (suc n) = triple v ∷ triples_from (suc v) n

pub triples-right : (n v : ℕ) → v + n ≤ 256 → Packets (triples_from v n)
triples-right zero v h = tt
triples-right (suc n) v h = (omega arith, omega arith, (omega arith, (omega arith, (omega arith, tt))), triples-right n (suc v) (omega arith))

abbrev pub ten : List (List ℕ)
ten = triples_from 0 10

abbrev pub calls : List Writing
calls =
    sending (paid 1 0) (triple 0)
    ∷ sending (paid 1 1) (triple 1)
    ∷ sending (paid 1 0) (triple 2)
    ∷ sending (paid 1 0) (triple 3)
    ∷ sending (free 3) (triple 4)
    ∷ sending (paid 1 0) (triple 5)
    ∷ sending (paid 1 0) (triple 6)
    ∷ sending (paid 1 0) (triple 7)
    ∷ sending (paid 1 1) (triple 8)
    ∷ sending (paid 1 0) (triple 9)
    ∷ []

-- a PDU has one packet
abbrev spans_of : ℕ → ℕ → List Span
spans_of g zero = []
spans_of g (suc n) = record { from = g; count = 3 } ∷ spans_of (suc (suc (suc g))) n

spans-are : spans 1 0 ten calls ≡ spans_of 0 10
unfolding spans_from write_answer listing fields_for expansion_bytes chained total largest_up_to most_pieces fit wholes_from part_after part_from
spans-are = refl

abbrev label : ℕ → ℕ → Label
label program services = record { program = program; services = services }

abbrev ten_labels : List Label
ten_labels = label 1 0 ∷ label 1 1 ∷ label 1 0 ∷ label 1 0 ∷ label 3 0 ∷ label 1 0 ∷ label 1 0 ∷ label 1 0 ∷ label 1 1 ∷ label 1 0 ∷ []

labels-are : labels_from 1 0 ten 0 calls ≡ ten_labels
unfolding labels_from write_answer listing fields_for expansion_bytes chained total largest_up_to most_pieces fit wholes_from part_after part_from
labels-are = refl

pub in_order : InOrder 1 0 ten 0 calls
unfolding write_answer listing fields_for expansion_bytes chained total largest_up_to most_pieces fit wholes_from part_after part_from
in_order = ((1, refl, refl), ((1, refl, refl), ((1, refl, refl), ((1, refl, refl), ((1, refl, refl), ((1, refl, refl), ((1, refl, refl), ((1, refl, refl), ((1, refl, refl), ((1, refl, refl), tt))))))))))

pub right : Packets ten
right = triples-right 10 0 (omega arith)

pub opens : (writer_opened 1 0 0).refusal ≡ 0
unfolding writer_opened listing
opens = refl

-- program 3
abbrev pub third : List ℕ
third = 3 ∷ []

third-allowed : allowed_programs third ≡ true
unfolding allowed_programs
third-allowed = refl

-- all but the third received
abbrev received : List Bool
received = true ∷ true ∷ false ∷ true ∷ true ∷ true ∷ true ∷ true ∷ true ∷ true ∷ []

abbrev pub paid_calls : List Step
paid_calls = steps_of 1 0 0 ten calls opens right in_order 0 10 received

-- The first two go by the value 0 sent with sequence 0, and are given. After the lost one the value is unknown, and only the PDU of program 3 is given. With the
-- next sequence 0 comes the value 1
due-are : due_entries 1 0 third ten calls 0 (ways_by received) ≡ packet 0 (triple 0) ∷ packet 1 (triple 1) ∷ packet 4 (triple 4) ∷ []
unfolding listing whole_packets
due-are = (λ i. arrived_by (rights_for 1 0 third) 8 0 ten (spans-are i) (labels-are i) (ways_by received)) ∙ refl

ten-made : length (run_of 0 10 (made 1 0 0 calls)) ≡ 10
ten-made =
    let e : length (spans_of 0 10) ≡ length (made 1 0 0 calls) = sym (ap length spans-are) ∙ (made-right 1 0 0 ten calls opens right in_order).as_many in
    let t = length-take 10 (made 1 0 0 calls) in
    omega (arith, e, t)

pub paid-run : packet_words (logs_from defined (fresh_station defined 1 0 0 third carry) (map call_of paid_calls)) ≡ log_words (packet 0 (triple 0) ∷ packet 1 (triple 1) ∷ packet 4 (triple 4) ∷ [])
paid-run =
    (altered-says defined entitled-delivers (run_with 1 0 0 third ten calls 0 10 carry paid_calls) (let n : length ten ≡ 10 = refl in omega (arith, n)) third-allowed
    (possible 1 0 0 ten calls opens right in_order defined third 0 10 carry received carry-room)).log
    ∙ ap (λ (bs : List Bool). log_words (due_entries 1 0 third ten calls 0 (ways_by bs))) (told-receptions [] verbatim [] (run_of 0 10 (made 1 0 0 calls)) received refl (sym ten-made))
    ∙ ap log_words due-are
