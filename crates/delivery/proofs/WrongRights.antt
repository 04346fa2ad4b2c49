-- Document 02, Ask 10: the promise is false of a receiver for which applied services that are unknown count as 0, and of one that keeps them over a lost PDU.
use mathlib.Core.Path.{◌≡◌, refl, sym, ap, ap₂, subst, subst₂, ◌∙◌}
use mathlib.Core.Bool.{Bool, true, false}
use mathlib.Core.List.{List, [], ◌∷◌, ◌++◌, map}
use mathlib.Core.Option.{some}
use Prim.Native.Nat.{ℕ, ◌<◌}
use native.Mathlib.Omega.{arith}
use lib.ListN.{length, take, drop}
use Rattle.refusal.specs.Refusal.{first_of}
use Rattle.modes.specs.Modes.{listing}
use Rattle.modes.specs.declared.Mode.{Mode}
use Rattle.modes.specs.declared.Listing.TheVariants.{Listed}
use Rattle.buffer.proofs.Laws.{put-nil}
use Rattle.settings.specs.Settings.{fields_for}
use Rattle.expansion.specs.Expansion.{chained}
use Rattle.expansion.specs.Writing.{expansion_bytes}
use Rattle.packing.specs.Packing.{largest_up_to, most_pieces, fit, wholes_from, part_after, part_from}
use Rattle.pieces.specs.Pieces.{total}
use Rattle.packet_log.specs.Log.{Entry, packet, data_words, entry_words, log_words, packet_words_after, packet_words}
use Rattle.packet_log.proofs.Packets.{FitAll}
use Rattle.reassembly.specs.Reassembly.{Piece, lost_entries, forgotten, received, remembered, contents_step, sequence_step, beginning_step, psd_entries, pieces_step, piece_step, joined as joined_step, finished}
use Rattle.reassembly.specs.Rights.{Label}
use Rattle.reassembly.specs.Tally.{Tally, no_tally, counted, tallied, Countable}
use Rattle.reassembly.specs.Holder.{Holder}
use Rattle.writer.specs.Writing.{writer_opened, writer_tests, ended_of, part_of, pdu_of, write_answer, written_pdu}
use Rattle.receiver.specs.Entitling.{allowed_programs, mask_of, entitles}
use Rattle.receiver.specs.Receiving.{fresh as fresh_for, memory_of, remembering}
use Rattle.receiver.specs.declared.Receiver.{Receiver}
use Rattle.runs.proofs.Model.{cut, read_pieces, said_of, whole_packets}
use Rattle.runs.specs.Transmissions.{Way, here}
use Rattle.runs.proofs.Promise.{arrived_by}
use Rattle.runs.proofs.Calls.{Speech, heard}
use Rattle.runs.proofs.Theorem.{Unfinished}
use Rattle.runs.proofs.Events.{opened_holder, logged, after}
use Rattle.delivery.specs.Delivery.{Packets, concatenated, Writing, pdus_from, spans_from, InOrder, Behaviour, Station, receive, mark_lost, defined, Step, call_of, station_after, logged_by, receptions, run_of, HeaderAltered, Holds, alone}
use Rattle.delivery.proofs.Parts.{fresh_station, logs_from, made, spans, Asked, due_entries, ways_by, run_with}
use Rattle.delivery.proofs.SoundSteps.{causes_for}
use Rattle.delivery.specs.Entitlement.{labels_from, rights_for, for_programs}
use Rattle.delivery.proofs.FaultyReceivers.{assumed, supposing, services_kept, keeping}
use Rattle.delivery.proofs.Calling.{state_at}
use Rattle.delivery.proofs.Made.{Says, load_of, plan_for, made as made_of}
use Rattle.delivery.proofs.Copies.{struck-read}
use Rattle.delivery.proofs.Serving.{rights_by, Shows, shows-put, lost-logged}
use Rattle.delivery.proofs.Bridge.{no_causes as all_taken, Speaks, copied, altered-copy, serves}
use Rattle.delivery.proofs.Channel.{fresh-receiver, shows-fresh}
use Rattle.delivery.proofs.Possible.{words, log-room, verbatim, as-sent, steps_for, possible}
use Rattle.delivery.proofs.Claimed.{altered-says}
use Rattle.delivery.proofs.SmallRuns.{carry, carry-room}
use Rattle.delivery.proofs.EntitledRuns.{paid, sending, triple, triples_from, triples-right, opens}

-- ---- three PDUs of mode 1, core, each with a packet of program 1, applied services 0, for a receiver that is entitled to no program

abbrev three : List (List ℕ)
three = triples_from 0 3

abbrev calls : List Writing
calls = sending (paid 1 0) (triple 0) ∷ sending (paid 1 0) (triple 1) ∷ sending (paid 1 0) (triple 2) ∷ []

abbrev m : Mode
m = record { width = 12; sequences = 8; limit = 21; psd = true }

listed : listing 1 0 ≡ Listed m
unfolding listing
listed = refl

range : 0 < 8
range = omega arith

right : Packets three
right = triples-right 3 0 (omega arith)

in_order : InOrder 1 0 three 0 calls
unfolding write_answer listing fields_for expansion_bytes chained total largest_up_to most_pieces fit wholes_from part_after part_from
in_order = ((1, refl, refl), ((1, refl, refl), ((1, refl, refl), tt)))

none_allowed : allowed_programs [] ≡ true
unfolding allowed_programs
none_allowed = refl

abbrev pdu_at : ℕ → List ℕ
pdu_at v = pdu_of (paid 1 0) [] (3 ∷ []) (triple v) 96 m (state_at 1 0 0 v v 0)

three_made : made 1 0 0 calls ≡ pdu_at 0 ∷ pdu_at 1 ∷ pdu_at 2 ∷ []
unfolding pdus_from writer_opened write_answer written_pdu listing fields_for expansion_bytes chained total largest_up_to most_pieces fit wholes_from part_after part_from
three_made = refl

three_spans : spans 1 0 three calls ≡ record { from = 0; count = 3 } ∷ record { from = 3; count = 3 } ∷ record { from = 6; count = 3 } ∷ []
unfolding spans_from write_answer listing fields_for expansion_bytes chained total largest_up_to most_pieces fit wholes_from part_after part_from
three_spans = refl

abbrev label : Label
label = record { program = 1; services = 0 }

three_labels : labels_from 1 0 three 0 calls ≡ label ∷ label ∷ label ∷ []
unfolding labels_from write_answer listing fields_for expansion_bytes chained total largest_up_to most_pieces fit wholes_from part_after part_from
three_labels = refl

-- what is asked for of the third alone, and of all with the second lost: unknown, the third is withheld
last-due : due_entries 1 0 [] three calls 2 (ways_by (true ∷ [])) ≡ []
unfolding listing whole_packets
last-due = (λ i. arrived_by (rights_for 1 0 []) 8 2 three (three_spans i) (three_labels i) (ways_by (true ∷ []))) ∙ refl

first-due : due_entries 1 0 [] three calls 0 (ways_by (true ∷ false ∷ true ∷ [])) ≡ packet 0 (triple 0) ∷ []
unfolding listing whole_packets
first-due = (λ i. arrived_by (rights_for 1 0 []) 8 0 three (three_spans i) (three_labels i) (ways_by (true ∷ false ∷ true ∷ []))) ∙ refl

-- ---- what PDU v says, and what is logged of it

abbrev mask : ℕ
mask = mask_of []

abbrev speech : ℕ → Speech
speech v f = record { said = said_of v v 0 (plan_for (load_of 1 0 [] label)) false f (drop v three); label = label }

abbrev came : List Way
came = here (causes_for (λ k. true)) ∷ []

module _ (v : ℕ) (small : v < 8) (bytes : List ℕ) (next : take 1 (drop v three) ≡ bytes ∷ []) (is : pdu_of (paid 1 0) [] (map length (bytes ∷ [])) (concatenated (bytes ∷ [])) 96 m (state_at 1 0 0 v v 0) ≡ pdu_at v)
    (u : Unfinished 0 (drop v three))
    (t : first_of (writer_tests (paid 1 0) [] (map length (take 1 (drop v three))) (concatenated (take 1 (drop v three))) 96 m (state_at 1 0 0 v v 0)) ≡ 0)
    (one : ended_of (paid 1 0) [] (map length (take 1 (drop v three))) (concatenated (take 1 (drop v three))) 96 m (state_at 1 0 0 v v 0) ≡ 1)
    (none : part_of (paid 1 0) [] (map length (take 1 (drop v three))) (concatenated (take 1 (drop v three))) 96 m (state_at 1 0 0 v v 0) ≡ 0) where
  says : Says 1 0 0 12 (pdu_at v) (speech v all_taken)
  says =
      subst (λ (p : List ℕ). Says 1 0 0 12 p (speech v all_taken)) (ap (λ (os : List (List ℕ)). pdu_of (paid 1 0) [] (map length os) (concatenated os) 96 m (state_at 1 0 0 v v 0)) next ∙ is)
      (subst₂ (λ (a b : ℕ). Says 1 0 0 12 (pdu_of (paid 1 0) [] (map length (take 1 (drop v three))) (concatenated (take 1 (drop v three))) 96 m (state_at 1 0 0 v v 0)) (record { said = said_of v v 0 (plan_for (load_of a b [] label)) false (λ k. 0) (drop v three); label = label })) one none
      (made_of 1 0 0 m listed three v v 0 (paid 1 0) [] 1 96 tt right u small t).says)

  speaks : Speaks 1 0 0 mask m listed range (pdu_at v) (speech v)
  speaks = record {
    says = says;
    below = small;
    struck = λ s. ap (λ (b : List Piece). record { sequence = v; pfirst = false; plast = false; start = (said_of v v 0 (plan_for (load_of 1 0 [] label)) false (λ k. 0) (drop v three)).start; psd_bytes = []; pieces = b; withheld = false }) (struck-read s (cut 0 1 0 (drop v three)));
    labels = λ f. refl;
  }

  -- by a station that stands for y
  module _ (x : Station) (y : Holder) (s : Shows 1 0 0 mask m listed range x y) (fits : Countable (after (rights_by mask 0 m) 8 y (heard came (speech v ∷ []))).tally) where
    abbrev entries : List Entry
    entries = logged (rights_by mask 0 m) 8 y (heard came (speech v ∷ []))

    all : (logged_by defined x (receive (alone [] (pdu_at v)) words) ≡ log_words entries) × FitAll entries × Shows 1 0 0 mask m listed range (station_after defined x (receive (alone [] (pdu_at v)) words)) (after (rights_by mask 0 m) 8 y (heard came (speech v ∷ [])))
    all =
        let r = serves 1 0 0 mask m listed range x y (receive (alone [] (pdu_at v)) words) (pdu_at v ∷ []) came (speech v ∷ []) s
        (copied (altered-copy 0 12 [] (pdu_at v) (pdu_at v) (as-sent (pdu_at v) (says.bytes, says.least, says.most, says.code))) log-room) (speaks, tt) fits in
        (r.1.log, r.1.fit, r.1.stands)

-- the first and the third
passes : (first_of (writer_tests (paid 1 0) [] (3 ∷ []) (triple 0) 96 m (state_at 1 0 0 0 0 0)) ≡ 0) × (first_of (writer_tests (paid 1 0) [] (3 ∷ []) (triple 2) 96 m (state_at 1 0 0 2 2 0)) ≡ 0)
unfolding fields_for expansion_bytes chained total largest_up_to most_pieces fit wholes_from part_after part_from
passes = (refl, refl)

-- a packet ends, and no part follows
ends : (v : ℕ) → (ended_of (paid 1 0) [] (3 ∷ []) (triple v) 96 m (state_at 1 0 0 v v 0) ≡ 1) × (part_of (paid 1 0) [] (3 ∷ []) (triple v) 96 m (state_at 1 0 0 v v 0) ≡ 0)
unfolding fields_for expansion_bytes chained largest_up_to most_pieces fit wholes_from part_after part_from
ends v = (refl, refl)

abbrev Logs : ℕ → Station → Holder → Type 0
Logs v x y =
    (logged_by defined x (receive (alone [] (pdu_at v)) words) ≡ log_words (logged (rights_by mask 0 m) 8 y (heard came (speech v ∷ [])))) × FitAll (logged (rights_by mask 0 m) 8 y (heard came (speech v ∷ [])))
    × Shows 1 0 0 mask m listed range (station_after defined x (receive (alone [] (pdu_at v)) words)) (after (rights_by mask 0 m) 8 y (heard came (speech v ∷ [])))

-- one packet delivered, of number 0
abbrev one : Tally
one = record { delivered = 1; missing = 0; last = 0 }

-- a receiver that knows the value 0, and has counted so far
abbrev knowing : Tally → Holder
knowing t = record { memory = forgotten; kept = some 0; tally = t }

third-given : (t : Tally) → (logged (rights_by mask 0 m) 8 (knowing t) (heard came (speech 2 ∷ [])) ≡ packet 2 (triple 2) ∷ []) × ((after (rights_by mask 0 m) 8 (knowing t) (heard came (speech 2 ∷ []))).tally ≡ counted t 2)
unfolding logged after heard received contents_step remembered sequence_step beginning_step psd_entries pieces_step piece_step joined_step finished read_pieces cut entitles mask_of tallied
third-given t = (refl, refl)

first-given : (logged (rights_by mask 0 m) 8 opened_holder (heard came (speech 0 ∷ [])) ≡ packet 0 (triple 0) ∷ []) × ((after (rights_by mask 0 m) 8 opened_holder (heard came (speech 0 ∷ []))).kept ≡ some 0)
    × ((after (rights_by mask 0 m) 8 opened_holder (heard came (speech 0 ∷ []))).tally ≡ one)
unfolding logged after heard received contents_step remembered sequence_step beginning_step psd_entries pieces_step piece_step joined_step finished read_pieces cut entitles mask_of tallied counted
first-given = (refl, refl, refl)

first-logs : (x : Station) → Shows 1 0 0 mask m listed range x opened_holder → Logs 0 x opened_holder
first-logs x s = all 0 (omega arith) (triple 0) refl refl (omega arith) passes.0 (ends 0).0 (ends 0).1 x opened_holder s (subst Countable (sym first-given.2) (omega arith, omega arith))

third-logs : (x : Station) (t : Tally) → Shows 1 0 0 mask m listed range x (knowing t) → Countable (counted t 2) → Logs 2 x (knowing t)
third-logs x t s c = all 2 (omega arith) (triple 2) refl refl (omega arith) passes.1 (ends 2).0 (ends 2).1 x (knowing t) s (subst Countable (sym (third-given t).1) c)

-- the third packet as the first delivery, or after the packet of number 0
few-counted : Countable (counted no_tally 2) × Countable (counted one 2)
unfolding counted
few-counted = ((omega arith, omega arith), (omega arith, omega arith))

-- ---- the claim

abbrev EntitledFor : Behaviour → Type 0
EntitledFor = Holds (for_programs (λ register width. HeaderAltered))

module _ (b : Behaviour) (claim : EntitledFor b) (first count : ℕ) (bs : List Bool) where
  abbrev steps : List Step
  steps = steps_for [] verbatim [] (run_of first count (pdu_at 0 ∷ pdu_at 1 ∷ pdu_at 2 ∷ [])) bs

  claimed : packet_words (logs_from b (fresh_station b 1 0 0 [] carry) (map call_of steps)) ≡ log_words (due_entries 1 0 [] three calls first (ways_by (receptions steps)))
  claimed =
      (altered-says b claim (run_with 1 0 0 [] three calls first count carry steps) (let n : length three ≡ 3 = refl in omega (arith, n)) none_allowed
      (subst (λ (ps : List (List ℕ)). Asked b 1 0 0 [] three calls first count carry (steps_for [] verbatim [] (run_of first count ps) bs)) three_made (possible 1 0 0 three calls opens right in_order b [] first count carry bs carry-room))
      ).log

abbrev fresh : Station
fresh = record { receiver = fresh_for 1 0 0 mask; carry = carry }

fresh-is : fresh_station defined 1 0 0 [] carry ≡ fresh
fresh-is = ap (λ (r : Receiver). record { receiver = r; carry = carry }) (fresh-receiver 1 0 0 [] m listed none_allowed)

-- ---- unknown counts as 0: the third PDU alone

assumed-shows : Shows 1 0 0 mask m listed range (assumed fresh) (knowing no_tally)
unfolding listing memory_of
assumed-shows = record { same_mode = refl; same_stream = refl; same_register = refl; same_entitled = refl; right = refl; room = carry-room; memory = refl; kept = refl; tally = refl; sane = tt; fair = (omega arith, refl); counted = record { last = omega arith; none = λ e. (refl, refl) } }

-- nothing is asked for, and its packet is logged
pub supposing-wrong : ¬ EntitledFor supposing
unfolding steps_for log_words entry_words data_words packet_words_after
supposing-wrong claim =
    let asked : packet_words (logged_by defined (assumed fresh) (receive (alone [] (pdu_at 2)) words) ++ []) ≡ [] =
    ap (λ (x : Station). packet_words (logged_by defined (assumed x) (receive (alone [] (pdu_at 2)) words) ++ [])) (sym fresh-is) ∙ claimed supposing claim 2 1 (true ∷ []) ∙ ap log_words last-due in
    let found : logged_by defined (assumed fresh) (receive (alone [] (pdu_at 2)) words) ≡ log_words (packet 2 (triple 2) ∷ []) = (third-logs (assumed fresh) no_tally assumed-shows few-counted.0).0 ∙ ap log_words (third-given no_tally).0 in
    let h : ◌≡◌ {A = ℕ} 2 0 = ap length (ap (λ (l : List ℕ). packet_words (l ++ [])) (sym found) ∙ asked) in
    absurd (omega (arith, h))

-- ---- the value kept over a lost PDU: the second lost

-- after the first PDU, and after the lost one
abbrev begun : Station → Station
begun x = station_after defined x (receive (alone [] (pdu_at 0)) words)

abbrev kept : Station → Station
kept x = record { receiver = services_kept (begun x); carry = (begun x).carry }

begun-shows : Shows 1 0 0 mask m listed range (begun fresh) (after (rights_by mask 0 m) 8 opened_holder (heard came (speech 0 ∷ [])))
begun-shows = (first-logs fresh (shows-fresh 1 0 0 mask m listed range carry carry-room)).2

kept-shows : Shows 1 0 0 mask m listed range (kept fresh) (knowing one)
kept-shows =
    let s = begun-shows in
    let r : Receiver = (begun fresh).receiver in
    let e : remembering r forgotten (some 0) one ≡ services_kept (begun fresh) = ap₂ (remembering r forgotten) (sym (s.kept ∙ first-given.1)) (sym (s.tally ∙ first-given.2)) in
    subst (λ (x : Station). Shows 1 0 0 mask m listed range x (knowing one)) (ap₂ (λ (a : Receiver) (c : List ℕ). record { receiver = a; carry = c }) e (put-nil (begun fresh).carry 0))
    (shows-put 1 0 0 mask m listed range r (begun fresh).carry (knowing one) s.same_mode s.same_stream s.same_register s.same_entitled s.room tt tt (omega arith, refl) (record { last = omega arith; none = λ e. absurd (omega (arith, e)) }))

-- the first packet is asked for, and the third is logged too
pub keeping-wrong : ¬ EntitledFor keeping
unfolding steps_for log_words entry_words data_words packet_words_after
keeping-wrong claim =
    let asked : packet_words (logged_by defined fresh (receive (alone [] (pdu_at 0)) words) ++ (logged_by defined (begun fresh) (mark_lost words) ++ (logged_by defined (kept fresh) (receive (alone [] (pdu_at 2)) words) ++ []))) ≡ log_words (packet 0 (triple 0) ∷ []) =
    ap (λ (x : Station). packet_words (logged_by defined x (receive (alone [] (pdu_at 0)) words) ++ (logged_by defined (begun x) (mark_lost words) ++ (logged_by defined (kept x) (receive (alone [] (pdu_at 2)) words) ++ [])))) (sym fresh-is)
    ∙ claimed keeping claim 0 3 (true ∷ false ∷ true ∷ [])
    ∙ ap log_words first-due in
    let a : logged_by defined fresh (receive (alone [] (pdu_at 0)) words) ≡ log_words (packet 0 (triple 0) ∷ []) = (first-logs fresh (shows-fresh 1 0 0 mask m listed range carry carry-room)).0 ∙ ap log_words first-given.0 in
    let b : logged_by defined (begun fresh) (mark_lost words) ≡ log_words lost_entries = lost-logged 1 0 0 mask m listed range (begun fresh) _ begun-shows words log-room in
    let c : logged_by defined (kept fresh) (receive (alone [] (pdu_at 2)) words) ≡ log_words (packet 2 (triple 2) ∷ []) = (third-logs (kept fresh) one kept-shows few-counted.1).0 ∙ ap log_words (third-given one).0 in
    let h : ◌≡◌ {A = ℕ} 4 2 = ap length (sym (λ i. packet_words (a i ++ (b i ++ (c i ++ [])))) ∙ asked) in
    absurd (omega (arith, h))
