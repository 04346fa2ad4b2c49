-- What a claim over whole runs says of a run of few packets, by the packets as they are logged: for the runs that are computed, and for those that wrong receivers
-- fail at.
use mathlib.Core.Path.{◌≡◌, refl, sym, ap, subst, ◌∙◌}
use mathlib.Core.Bool.{Bool, true}
use mathlib.Core.List.{List, map}
use Prim.Native.Nat.{ℕ, ◌≤◌}
use lib.ListN.{length}
use Rattle.packet_log.specs.Log.{Entry, log_words, packet_words}
use Rattle.reassembly.specs.Tally.{no_tally, tallied}
use Rattle.receiver.specs.Entitling.{all_programs, allowed_programs}
use Rattle.receiver.specs.Receiving.{tally_of}
use Rattle.runs.specs.Spans.{lies, every, due_at, whole_indices, entries_at}
use Rattle.runs.specs.Transmissions.{Way}
use Rattle.runs.proofs.Model.{whole_packets}
use Rattle.runs.proofs.Spans.{entries-are}
use Rattle.delivery.specs.Delivery.{Writing, HeaderAltered, Coming, Station, Behaviour, Step, call_of, NotRefused, receptions, finally, in_received, Run, run_of, fresh_station as fresh_in, spans as spans_in, made as made_in, Asked as AskedBy, Claim, Holds, demand3, Demand3For}
use Rattle.delivery.specs.Copies.{width_in, ways_of}
use Rattle.delivery.specs.Entitlement.{fates, for_programs}
use Rattle.delivery.proofs.Parts.{run_with, fresh_station, EntriesFit, NoneRefused, logs_from, spans, arrived_entries, due_entries, ways_by, Asked}
use Rattle.delivery.proofs.Counted.{whole-fit}
use Rattle.delivery.proofs.Theorem.{same-ways}

-- what a claim says of a run of so few packets, by the packets as they are logged
pub record Logged (b : Behaviour) (x : Station) (steps : List Step) (es : List Entry) : Type 0 where
  pub accepted : NoneRefused b call_of NotRefused x steps
  pub log : packet_words (logs_from b x (map call_of steps)) ≡ log_words es
  pub counts : tally_of (finally b x (map call_of steps)).receiver ≡ tallied no_tally es

pub logged-by : (k : Claim) (b : Behaviour) → Holds k b → (r : Run) (f : ℕ → ℕ → Bool) → k.due r ≡ whole_indices f 0 0 r.packets → k.asked r b → length r.packets ≤ 4294967295
    → Logged b (fresh_in r b) r.steps (whole_packets f 0 0 r.packets)
logged-by k b claim r f e a few =
    let d = claim r a (subst (λ (l : List ℕ). EntriesFit (entries_at r.packets l)) (sym e) (whole-fit f r.packets few)) in
    let w : entries_at r.packets (k.due r) ≡ whole_packets f 0 0 r.packets = ap (entries_at r.packets) e ∙ entries-are f r.packets in
    record { accepted = d.accepted; log = d.log ∙ ap log_words w; counts = d.counts ∙ ap (tallied no_tally) w }

-- demand 3
pub demand3-says : (b : Behaviour) → Demand3For b → (mode stream register : ℕ) (packets : List (List ℕ)) (writings : List Writing) (first count : ℕ) (carry : List ℕ) (steps : List Step)
    → length packets ≤ 4294967295 → Asked b mode stream register all_programs packets writings first count carry steps
    → Logged b (fresh_station b mode stream register all_programs carry) steps (arrived_entries mode stream packets writings first count (receptions steps))
demand3-says b claim mode stream register packets writings first count carry steps few d =
    logged-by demand3 b claim (run_with mode stream register all_programs packets writings first count carry steps) (every (in_received (run_of first count (spans mode stream packets writings)) (receptions steps))) refl (refl, d) few

-- for a list of programs, the PDUs of the run coming so
pub entitled-says : (comes : (register width : ℕ) → Coming) (b : Behaviour) → Holds (for_programs comes) b → (r : Run) → length r.packets ≤ 4294967295 → allowed_programs r.programs ≡ true
    → AskedBy r (comes r.register (width_in r)) b → Logged b (fresh_in r b) r.steps (due_entries r.mode r.stream r.programs r.packets r.writings r.first (ways_of r))
entitled-says comes b claim r few a d = logged-by (for_programs comes) b claim r (due_at (lies r.packets (spans_in r) (fates r))) refl (a, d) few

-- and each PDU as it was sent but for its header
pub altered-says : (b : Behaviour) → Holds (for_programs (λ register width. HeaderAltered)) b → (r : Run) → length r.packets ≤ 4294967295 → allowed_programs r.programs ≡ true
    → AskedBy r HeaderAltered b → Logged b (fresh_in r b) r.steps (due_entries r.mode r.stream r.programs r.packets r.writings r.first (ways_by (receptions r.steps)))
altered-says b claim r few a d =
    subst (λ (ws : List Way). Logged b (fresh_in r b) r.steps (due_entries r.mode r.stream r.programs r.packets r.writings r.first ws))
    (same-ways b (width_in r) r.steps (fresh_in r b) (run_of r.first r.count (made_in r)) d.through)
    (entitled-says (λ register width. HeaderAltered) b claim r few a d)
