-- Document 02, Ask 10: delivery to a receiver that is entitled to some programs. Which PDUs of a run are withheld from it is told by the writing calls, the list
-- of programs and which PDUs were marked lost (runs/specs/Withheld.antt). Of demand 3's packets it logs those that begin in a PDU not withheld. The packets,
-- the writing calls, the run and the calls that go through it are demand 3's (Delivery.antt).
use Rattle.std.specs.Prelude.{◌≡◌, true, ◌&&◌, cond, List, [], ◌∷◌, ◌++◌, ℕ, ◌+◌, eqb, replicate}
use Rattle.modes.specs.Modes.{listing}
use Rattle.pdu.specs.Reading.{mode_in}
use Rattle.settings.specs.Settings.{program_of}
use Rattle.settings.specs.declared.Settings.{Settings}
use Rattle.reassembly.specs.Rights.{Rights, Label}
use Rattle.receiver.specs.Entitling.{is_listed, allowed_programs}
use Rattle.runs.specs.Transmissions.{gone}
use Rattle.runs.specs.Spans.{Fate, lies, due_at, whole_indices}
use Rattle.runs.specs.Withheld.{arrivals_from, fates_told}
use Rattle.delivery.specs.Delivery.{Writing, refused_at, placed_at, HeaderAltered, Coming, defined, Run, spans, Asked, Claim, Holds}
use Rattle.delivery.specs.Copies.{width_in, ways_of}

-- ---- what is sent with the PDUs

-- program and applied services, each 0 where not sent
abbrev pub label_of : Settings → Label
label_of s = record { program = program_of s; services = cond s.serviced s.services 0 }

-- of each PDU that a list of calls makes, by G, as `spans_from` has it
unfoldable pub labels_from : (mode stream : ℕ) → List (List ℕ) → ℕ → List Writing → List Label
labels_from mode stream packets g [] = []
labels_from mode stream packets g (a ∷ al) =
    cond (refused_at mode stream packets g a) (labels_from mode stream packets g al) (label_of a.settings ∷ labels_from mode stream packets (g + placed_at mode stream packets g a) al)

-- ---- which packets are due

-- the listed programs; core of sequence range 0-7 goes by the value sent with sequence 0
abbrev pub rights_for : (mode stream : ℕ) (programs : List ℕ) → Rights
rights_for mode stream programs = record { entitled = is_listed programs; keeps = eqb stream 0 && eqb (mode_in (listing mode stream)).sequences 8 }

-- what came of each PDU of a run; those before it count as lost
abbrev pub fates : Run → List Fate
fates r =
    fates_told (rights_for r.mode r.stream r.programs) []
    (arrivals_from (mode_in (listing r.mode r.stream)).sequences 0 (replicate r.first gone ++ ways_of r) (labels_from r.mode r.stream r.packets 0 r.writings))

-- the packets with every byte in a piece that is taken, of a PDU of the run, that begin in a PDU not withheld
abbrev pub due : Run → List ℕ
due r = whole_indices (due_at (lies r.packets (spans r) (fates r))) 0 0 r.packets

-- ---- the claim

-- the PDUs come so; for every list of programs that is not refused with 22
abbrev pub for_programs : ((register width : ℕ) → Coming) → Claim
for_programs comes = record { asked = λ r b. (allowed_programs r.programs ≡ true) × Asked r (comes r.register (width_in r)) b; due = due }

-- a run with lost PDUs
abbrev pub EntitledDelivery : Type 0
EntitledDelivery = Holds (for_programs (λ register width. HeaderAltered)) defined
