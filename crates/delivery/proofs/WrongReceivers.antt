-- Demand 3 is false of wrong receivers: for each, small calls for which the claim asks for other packets than it logs.
use mathlib.Core.Path.{◌≡◌, refl, sym, ap, ap₂, subst, ◌∙◌}
use mathlib.Core.Bool.{Bool, true, false, not, ◌||◌, cond}
use mathlib.Core.List.{List, [], ◌∷◌, ◌++◌, map, append-nil}
use Prim.Native.Nat.{ℕ, zero, suc, ◌≤◌}
use native.Mathlib.Omega.{arith}
use native.Mathlib.Nat.{not-suc-le-zero, le_of_suc-le-suc}
use lib.Dec.{eqb}
use borrow.Author.Tests.{eq-eqb, eqb-false}
use lib.ListN.{length, get_or, take, replicate, length-take}
use Rattle.buffer.specs.Buffer.{put_at}
use Rattle.buffer.proofs.Laws.{take_put}
use Rattle.modes.specs.Modes.{listing}
use Rattle.settings.specs.Settings.{fields_for}
use Rattle.expansion.specs.Expansion.{chained}
use Rattle.expansion.specs.Writing.{expansion_bytes}
use Rattle.packing.specs.Packing.{largest_up_to, most_pieces, fit, wholes_from, part_after, part_from}
use Rattle.pieces.specs.Pieces.{cut_by, piece_bytes, locators_from, total}
use Rattle.packet_log.specs.Log.{packet, data_words, entry_words, log_words, kind_of, of_packet, packet_words_after, packet_words, packets_of}
use Rattle.packet_log.proofs.Packets.{Fit, packet-words}
use Rattle.reassembly.specs.Reassembly.{lost_entries, remembered}
use Rattle.writer.specs.Writing.{writer_opened, pdu_of, write_answer, written_pdu}
use Rattle.receiver.specs.Entitling.{allowed_programs, all_programs}
use Rattle.receiver.specs.Receiving.{opening_number, opened_for, tally_of, remembering, receive_number, receive_answer, lost_number, lost_answer, log_after_lost}
use Rattle.runs.specs.Spans.{Span, every}
use Rattle.reassembly.specs.Tally.{Tally, no_tally, counted, tallied}
use Rattle.batch.specs.declared.Batch.{Batch}
use Rattle.delivery.specs.Delivery.{Packets, Writing, buffer_after, pdus_from, spans_from, InOrder, Behaviour, Station, Call, receive, mark_lost, defined, call_of, NotRefused, receptions, station_after, logged_by, finally, in_received, run_of, Demand3For, alone}
use Rattle.delivery.proofs.Parts.{fresh_station, NoneRefused, log_counts, logs_from, made, spans, arrived_entries, Asked, answer_of, log_of}
use Rattle.runs.proofs.Model.{whole_packets}
use Rattle.delivery.proofs.FaultyReceivers.{with_words, lent_log, silent, untouched, fixed_words, fixed, inventing, advancing, joining, resetting}
use Rattle.delivery.proofs.Serving.{logged_alone}
use Rattle.delivery.proofs.Possible.{words, verbatim, steps_for, possible}
use Rattle.delivery.proofs.Claimed.{Logged, demand3-says}
use Rattle.delivery.proofs.Theorem.{delivers}
use Rattle.delivery.proofs.SmallRuns.{three, small-run, spans-are, six, offering, opens, packets-right, in_order, carry, carry-room, calls, run_length, told, asked_for, asked_is, bytes_same}

-- ---- what is asked for of the five PDUs, all received, and of the second alone

abbrev all : List Bool
all = true ∷ true ∷ true ∷ true ∷ true ∷ []

all_asked : asked_for 0 5 all ≡ log_words (packet 0 (replicate 20 1) ∷ packet 1 (replicate 300 2) ∷ packet 2 (replicate 10 3) ∷ [])
unfolding whole_packets
all_asked = asked_is 0 5 all (packet 0 (replicate 20 1) ∷ packet 1 (replicate 300 2) ∷ packet 2 (replicate 10 3) ∷ []) refl

-- 114 words, of which the first is that of packet 0, of 20 bytes
all_words : (length (asked_for 0 5 all) ≡ 114) × (get_or (asked_for 0 5 all) 0 0 ≡ 20)
unfolding log_words entry_words data_words
all_words = (ap length all_asked, ap (λ (l : List ℕ). get_or l 0 0) all_asked)

second-asked : asked_for 1 1 (true ∷ []) ≡ []
unfolding whole_packets log_words
second-asked = asked_is 1 1 (true ∷ []) [] refl

-- the claim for these calls
module _ (b : Behaviour) (claim : Demand3For b) where
  claimed : (first count : ℕ) (bs : List Bool) → Logged b (fresh_station b 0 0 0 all_programs carry) (calls first count bs) (arrived_entries 0 0 three six first count (receptions (calls first count bs)))
  claimed first count bs = small-run b claim first count carry (calls first count bs) (possible 0 0 0 three six opens packets-right in_order b all_programs first count carry bs carry-room)

  all-logged : packet_words (logs_from b (fresh_station b 0 0 0 all_programs carry) (map call_of (calls 0 5 all))) ≡ asked_for 0 5 all
  all-logged = (claimed 0 5 all).log ∙ ap (asked_for 0 5) (told 0 5 all refl)

-- ---- an empty log for everything

nothing-counted : (b : Bool) (l : List ℕ) → cond b (take 0 l) [] ≡ []
nothing-counted true l = refl
nothing-counted false l = refl

nothing-logged : (cs : List Call) (x : Station) → logs_from silent x cs ≡ []
nothing-logged [] x = refl
nothing-logged (c ∷ cs) x = ap₂ (λ (l m : List ℕ). l ++ m) (nothing-counted (log_counts silent x c) (lent_log c)) (nothing-logged cs (station_after silent x c))

pub silent-wrong : ¬ Demand3For silent
unfolding packet_words_after
silent-wrong claim =
    let e : [] ≡ asked_for 0 5 all = ap packet_words (sym (nothing-logged (map call_of (calls 0 5 all)) (fresh_station silent 0 0 0 all_programs carry))) ∙ all-logged silent claim in
    let h : ◌≡◌ {A = ℕ} 0 114 = ap length e ∙ all_words.0 in
    absurd (omega (arith, h))

-- ---- the log untouched: words of zero, however many are counted

abbrev Zeros : List ℕ → Type 0
Zeros [] = Unit {0}
Zeros (w ∷ ws) = (w ≡ 0) × Zeros ws

zeros-append : (a b : List ℕ) → Zeros a → Zeros b → Zeros (a ++ b)
zeros-append [] b g h = h
zeros-append (w ∷ a) b g h = (g.0, zeros-append a b g.1 h)

zeros-take : (n m : ℕ) → Zeros (take n (replicate m 0))
zeros-take zero m = tt
zeros-take (suc n) zero = tt
zeros-take (suc n) (suc m) = (refl, zeros-take n m)

zeros-if : (b : Bool) (l : List ℕ) → Zeros l → Zeros (cond b l [])
zeros-if true l h = h
zeros-if false l h = tt

zeros-logged : (pdus : List (List ℕ)) (bs : List Bool) (x : Station) → Zeros (logs_from untouched x (map call_of (steps_for [] verbatim [] pdus bs)))
unfolding steps_for
zeros-logged [] bs x = tt
zeros-logged (p ∷ ps) [] x =
    zeros-append (logged_by untouched x (mark_lost words)) _ (zeros-if (log_counts untouched x (mark_lost words)) _ (zeros-take (answer_of x (mark_lost words)).words 8400)) (zeros-logged ps [] (station_after untouched x (mark_lost words)))
zeros-logged (p ∷ ps) (true ∷ bs) x =
    zeros-append (logged_by untouched x (receive (alone [] p) words)) _ (zeros-if (log_counts untouched x (receive (alone [] p) words)) _ (zeros-take (answer_of x (receive (alone [] p) words)).words 8400)) (zeros-logged ps bs (station_after untouched x (receive (alone [] p) words)))
zeros-logged (p ∷ ps) (false ∷ bs) x =
    zeros-append (logged_by untouched x (mark_lost words)) _ (zeros-if (log_counts untouched x (mark_lost words)) _ (zeros-take (answer_of x (mark_lost words)).words 8400)) (zeros-logged ps bs (station_after untouched x (mark_lost words)))

zeros-first : (l : List ℕ) → Zeros l → get_or (packet_words l) 0 0 ≡ 0
unfolding packet_words_after
zeros-first [] h = refl
zeros-first (w ∷ l) h = rw h.0 refl

pub untouched-wrong : ¬ Demand3For untouched
untouched-wrong claim =
    let z = zeros-logged (run_of 0 5 (made 0 0 0 six)) all (fresh_station untouched 0 0 0 all_programs carry) in
    let h : ◌≡◌ {A = ℕ} 0 20 = sym (zeros-first (logs_from untouched (fresh_station untouched 0 0 0 all_programs carry) (map call_of (calls 0 5 all))) z) ∙ ap (λ (l : List ℕ). get_or l 0 0) (all-logged untouched claim) ∙ all_words.1 in
    absurd (omega (arith, h))

-- ---- one fixed packet for every PDU received, or for every one marked lost: of the second PDU alone, none is asked for

second-lost : asked_for 1 1 (false ∷ []) ≡ []
unfolding whole_packets log_words
second-lost = asked_is 1 1 (false ∷ []) [] refl

module _ (number : ℕ) (bytes : List ℕ) (fits : Fit (packet number bytes)) where
  -- an accepted call that counts its words logs the packet
  one-logged : (a : Batch) → a.refusal ≡ 0 → ¬ (packet_words (logged_alone (with_words (length (fixed_words number bytes)) a) (put_at words 0 (fixed_words number bytes)) ++ []) ≡ [])
  unfolding log_words entry_words packets_of
  one-logged a r e =
      let w : List ℕ = fixed_words number bytes in
      let t : eqb a.refusal 0 ≡ true = eq-eqb a.refusal 0 r in
      let l : logged_alone (with_words (length w) a) (put_at words 0 w) ++ [] ≡ w ++ [] =
      ap (λ (b : Bool). cond (b || not (eqb (cond b 1 0) 0)) (take (length w) (put_at words 0 w)) [] ++ []) t ∙ ap (λ (l : List ℕ). l ++ []) (take_put words w) in
      let h : w ≡ [] = sym (packet-words false (packet number bytes ∷ []) (fits, tt)) ∙ ap packet_words (sym (append-nil w)) ∙ ap packet_words (sym l) ∙ e in
      let z : ◌≡◌ {A = ℕ} (length w) 0 = ap length h in
      absurd (omega (arith, z))

  pub fixed-wrong : ¬ Demand3For (fixed number bytes)
  unfolding steps_for
  fixed-wrong claim =
      go (run_of 1 1 (made 0 0 0 six)) (run_length 1 1 1 refl) (claimed defined delivers 1 1 (true ∷ [])).accepted ((claimed (fixed number bytes) claim 1 1 (true ∷ [])).log ∙ ap (asked_for 1 1) (told 1 1 (true ∷ []) refl) ∙ second-asked)
    where
      go : (pdus : List (List ℕ)) → length pdus ≡ 1 → NoneRefused defined call_of NotRefused (fresh_station defined 0 0 0 all_programs carry) (steps_for [] verbatim [] pdus (true ∷ []))
          → ¬ (packet_words (logs_from (fixed number bytes) (fresh_station defined 0 0 0 all_programs carry) (map call_of (steps_for [] verbatim [] pdus (true ∷ [])))) ≡ [])
      go [] n a e = absurd (omega (arith, n))
      go (p ∷ q ∷ ps) n a e = absurd (omega (arith, n))
      go (p ∷ []) n a e = one-logged (answer_of (fresh_station defined 0 0 0 all_programs carry) (receive (alone [] p) words)) a.0 e

  -- whatever it says of PDUs taken
  pub inventing-wrong : ¬ Demand3For (inventing number bytes)
  unfolding steps_for
  inventing-wrong claim =
      go (run_of 1 1 (made 0 0 0 six)) (run_length 1 1 1 refl) (claimed defined delivers 1 1 (false ∷ [])).accepted ((claimed (inventing number bytes) claim 1 1 (false ∷ [])).log ∙ ap (asked_for 1 1) (told 1 1 (false ∷ []) refl) ∙ second-lost)
    where
      go : (pdus : List (List ℕ)) → length pdus ≡ 1 → NoneRefused defined call_of NotRefused (fresh_station defined 0 0 0 all_programs carry) (steps_for [] verbatim [] pdus (false ∷ []))
          → ¬ (packet_words (logs_from (inventing number bytes) (fresh_station defined 0 0 0 all_programs carry) (map call_of (steps_for [] verbatim [] pdus (false ∷ [])))) ≡ [])
      go [] n a e = absurd (omega (arith, n))
      go (p ∷ q ∷ ps) n a e = absurd (omega (arith, n))
      go (p ∷ []) n a e = one-logged (answer_of (fresh_station defined 0 0 0 all_programs carry) (mark_lost words)) a.0 e

-- ---- joins in the first PDU, and then only advances

known-after : (x : Station) (marks p log : List ℕ) → (answer_of x (receive (alone marks p) log)).refusal ≡ 0 → (answer_of x (receive (alone marks p) log)).receiver.known ≡ true
unfolding receive_answer remembering remembered
known-after x marks p log = go (eqb (receive_number marks x.carry p log x.receiver) 0) refl
  where
    go : (b : Bool) → eqb (receive_number marks x.carry p log x.receiver) 0 ≡ b → (answer_of x (receive (alone marks p) log)).refusal ≡ 0 → (answer_of x (receive (alone marks p) log)).receiver.known ≡ true
    go true e h = rw e refl
    go false e h = absurd (eqb-false (receive_number marks x.carry p log x.receiver) 0 e (rw e at h))

known_kept : (x : Station) (marks p log : List ℕ) → x.receiver.known ≡ true → (answer_of x (receive (alone marks p) log)).receiver.known ≡ true
unfolding receive_answer remembering remembered
known_kept x marks p log h = go (eqb (receive_number marks x.carry p log x.receiver) 0) refl
  where
    go : (b : Bool) → eqb (receive_number marks x.carry p log x.receiver) 0 ≡ b → (answer_of x (receive (alone marks p) log)).receiver.known ≡ true
    go true e = rw e refl
    go false e = rw e h

only-advances : (n : ℕ) (pdus : List (List ℕ)) (x : Station) → length pdus ≤ n → x.receiver.known ≡ true → logs_from advancing x (map call_of (steps_for [] verbatim [] pdus (replicate n true))) ≡ []
unfolding steps_for
only-advances n [] x l h = refl
only-advances zero (p ∷ ps) x l h = absurd (not-suc-le-zero l)
only-advances (suc n) (p ∷ ps) x l h =
    ap₂ (λ (l m : List ℕ). l ++ m)
    (ap (λ (b : Bool). logged_alone (cond b (with_words 0 (answer_of x (receive (alone [] p) words))) (answer_of x (receive (alone [] p) words))) (log_of x (receive (alone [] p) words))) h
    ∙ nothing-counted (log_counts defined x (receive (alone [] p) words)) (log_of x (receive (alone [] p) words)))
    (only-advances n ps (station_after advancing x (receive (alone [] p) words)) (le_of_suc-le-suc l) (ap (λ (b : Bool). (cond b (with_words 0 (answer_of x (receive (alone [] p) words))) (answer_of x (receive (alone [] p) words))).receiver.known) h ∙ known_kept x [] p words h))

first-asked : asked_for 0 1 (true ∷ []) ≡ log_words (packet 0 (replicate 20 1) ∷ [])
unfolding whole_packets
first-asked = asked_is 0 1 (true ∷ []) (packet 0 (replicate 20 1) ∷ []) refl

abbrev fresh : Station
fresh = fresh_station defined 0 0 0 all_programs carry

fresh-unknown : fresh.receiver.known ≡ false
unfolding opened_for opening_number allowed_programs listing
fresh-unknown = refl

pub advancing-wrong : ¬ Demand3For advancing
unfolding steps_for log_words entry_words data_words
advancing-wrong claim =
    go (made 0 0 0 six) (run_length 0 5 5 refl) (claimed defined delivers 0 1 (true ∷ [])).accepted ((claimed defined delivers 0 1 (true ∷ [])).log ∙ ap (asked_for 0 1) (told 0 1 (true ∷ []) refl) ∙ first-asked) (all-logged advancing claim)
  where
    go : (ps : List (List ℕ)) → length (run_of 0 5 ps) ≡ 5 → NoneRefused defined call_of NotRefused fresh (steps_for [] verbatim [] (run_of 0 1 ps) (true ∷ []))
        → packet_words (logs_from defined fresh (map call_of (steps_for [] verbatim [] (run_of 0 1 ps) (true ∷ [])))) ≡ log_words (packet 0 (replicate 20 1) ∷ [])
        → ¬ (packet_words (logs_from advancing fresh (map call_of (steps_for [] verbatim [] (run_of 0 5 ps) all))) ≡ asked_for 0 5 all)
    go [] n a l e = absurd (omega (arith, n))
    go (p ∷ ps) n a l e =
        let c : Call = receive (alone [] p) words in
        let first : logged_by advancing fresh c ≡ logged_by defined fresh c =
        ap (λ (b : Bool). logged_alone (cond b (with_words 0 (answer_of fresh c)) (answer_of fresh c)) (log_of fresh c)) fresh-unknown in
        let known : (station_after advancing fresh c).receiver.known ≡ true =
        ap (λ (b : Bool). (cond b (with_words 0 (answer_of fresh c)) (answer_of fresh c)).receiver.known) fresh-unknown ∙ known-after fresh [] p words a.0 in
        let few : length (take 4 ps) ≤ 4 = (let t = length-take 4 ps in omega (arith, t)) in
        let logs : logs_from advancing fresh (map call_of (steps_for [] verbatim [] (run_of 0 5 (p ∷ ps)) all)) ≡ logged_by defined fresh c ++ [] =
        ap₂ (λ (u v : List ℕ). u ++ v) first (only-advances 4 (take 4 ps) (station_after advancing fresh c) few known) in
        let h : ◌≡◌ {A = ℕ} 8 114 = ap length (sym l ∙ ap packet_words (sym logs) ∙ e) ∙ all_words.0 in
        absurd (omega (arith, h))

-- ---- joins across PDUs marked lost

-- a packet of 300 bytes in four PDUs, and one of 142 bytes, its two ends, in two. Mode 0, core, has a sequence of one bit, so the second of these two
-- is the last of the four
abbrev long : List (List ℕ)
long = replicate 300 2 ∷ []

abbrev pub short : List (List ℕ)
short = replicate 142 2 ∷ []

abbrev four_times : List Writing
four_times = offering 96 long ∷ offering 96 long ∷ offering 96 long ∷ offering 96 long ∷ []

abbrev pub twice : List Writing
twice = offering 96 short ∷ offering 96 short ∷ []

-- the PDU that a writer writes with this sequence and so many bytes sent
abbrev pub written_at : List (List ℕ) → ℕ → ℕ → List ℕ
written_at ps q s = buffer_after (record { mode = 0; stream = 0; register = 0; sequence = q; number = 0; sent = s }) (offering 96 ps)

same_first : written_at short 0 0 ≡ written_at long 0 0
unfolding written_pdu pdu_of listing fields_for expansion_bytes chained largest_up_to most_pieces fit wholes_from part_after part_from cut_by piece_bytes locators_from total
same_first = refl

same-last : written_at short 1 79 ≡ written_at long 1 237
unfolding written_pdu pdu_of listing fields_for expansion_bytes chained largest_up_to most_pieces fit wholes_from part_after part_from cut_by piece_bytes locators_from total
same-last = refl

long-made : made 0 0 0 four_times ≡ written_at long 0 0 ∷ written_at long 1 79 ∷ written_at long 0 158 ∷ written_at long 1 237 ∷ []
unfolding pdus_from writer_opened write_answer listing fields_for expansion_bytes chained total largest_up_to most_pieces fit wholes_from part_after part_from
long-made = refl

pub two_made : made 0 0 0 twice ≡ written_at short 0 0 ∷ written_at short 1 79 ∷ []
unfolding pdus_from writer_opened write_answer listing fields_for expansion_bytes chained total largest_up_to most_pieces fit wholes_from part_after part_from
two_made = refl

short-made : made 0 0 0 twice ≡ written_at long 0 0 ∷ written_at long 1 237 ∷ []
short-made = two_made ∙ ap₂ (λ (p q : List ℕ). p ∷ q ∷ []) same_first same-last

long-right : Packets long
long-right = (omega arith, omega arith, bytes_same 300 2 (omega arith), tt)

pub short-right : Packets short
short-right = (omega arith, omega arith, bytes_same 142 2 (omega arith), tt)

long_order : InOrder 0 0 long 0 four_times
unfolding write_answer listing fields_for expansion_bytes chained total largest_up_to most_pieces fit wholes_from part_after part_from
long_order = ((1, refl, refl), ((1, refl, refl), ((1, refl, refl), ((1, refl, refl), tt))))

pub short-order : InOrder 0 0 short 0 twice
unfolding write_answer listing fields_for expansion_bytes chained total largest_up_to most_pieces fit wholes_from part_after part_from
short-order = ((1, refl, refl), ((1, refl, refl), tt))

abbrev long_spans : List Span
long_spans = record { from = 0; count = 79 } ∷ record { from = 79; count = 79 } ∷ record { from = 158; count = 79 } ∷ record { from = 237; count = 63 } ∷ []

long-spans : spans 0 0 long four_times ≡ long_spans
unfolding spans_from write_answer listing fields_for expansion_bytes chained total largest_up_to most_pieces fit wholes_from part_after part_from
long-spans = refl

abbrev pub short_spans : List Span
short_spans = record { from = 0; count = 79 } ∷ record { from = 79; count = 63 } ∷ []

pub short-few : length short ≤ 4294967295
short-few = let n : length short ≡ 1 = refl in omega (arith, n)

long-few : length long ≤ 4294967295
long-few = let n : length long ≡ 1 = refl in omega (arith, n)

pub short-spans : spans 0 0 short twice ≡ short_spans
unfolding spans_from write_answer listing fields_for expansion_bytes chained total largest_up_to most_pieces fit wholes_from part_after part_from
short-spans = refl

-- the claim for PDUs that are written so
module _ (b : Behaviour) (claim : Demand3For b) (packets : List (List ℕ)) (writings : List Writing) (z : Packets packets) (o : InOrder 0 0 packets 0 writings) (few : length packets ≤ 4294967295) (pdus : List (List ℕ)) (e : made 0 0 0 writings ≡ pdus) where
  delivered : (count : ℕ) (bs : List Bool)
      → Logged b (fresh_station b 0 0 0 all_programs carry) (steps_for [] verbatim [] (run_of 0 count pdus) bs) (arrived_entries 0 0 packets writings 0 count (receptions (steps_for [] verbatim [] (run_of 0 count pdus) bs)))
  delivered count bs =
      demand3-says b claim 0 0 0 packets writings 0 count carry (steps_for [] verbatim [] (run_of 0 count pdus) bs) few
      (subst (λ (ps : List (List ℕ)). Asked b 0 0 0 all_programs packets writings 0 count carry (steps_for [] verbatim [] (run_of 0 count ps) bs)) e (possible 0 0 0 packets writings opens z o b all_programs 0 count carry bs carry-room))

-- words with no packet among them change nothing
pub no-packet : (l r : List ℕ) → packet_words l ≡ [] → packet_words (l ++ r) ≡ packet_words r
unfolding packet_words_after
no-packet [] r h = refl
no-packet (w ∷ l) r h = go (of_packet (kind_of w) false) (no-packet l r) h
  where
    go : (now : Bool) → (packet_words_after false l ≡ [] → packet_words_after false (l ++ r) ≡ packet_words_after false r) → cond now (w ∷ packet_words_after now l) (packet_words_after now l) ≡ []
        → cond now (w ∷ packet_words_after now (l ++ r)) (packet_words_after now (l ++ r)) ≡ packet_words_after false r
    go true more e = let z : ◌≡◌ {A = ℕ} (suc (length (packet_words_after true l))) 0 = ap length e in absurd (omega (arith, z))
    go false more e = more e

lost-words : (x : Station) (log : List ℕ) → (answer_of x (mark_lost log)).refusal ≡ 0 → logged_by defined x (mark_lost log) ≡ log_words lost_entries
unfolding lost_answer log_after_lost
lost-words x log = go (eqb (lost_number log x.receiver) 0) refl
  where
    go : (b : Bool) → eqb (lost_number log x.receiver) 0 ≡ b → (answer_of x (mark_lost log)).refusal ≡ 0 → logged_by defined x (mark_lost log) ≡ log_words lost_entries
    go true e h = rw e (take_put log (log_words lost_entries))
    go false e h = absurd (eqb-false (lost_number log x.receiver) 0 e (rw e at h))

-- after the first PDU
abbrev begun : Station
begun = station_after defined fresh (receive (alone [] (written_at long 0 0)) words)

-- what is logged of the first PDU, and of the last one after it
abbrev first_log : List ℕ
first_log = logged_by defined fresh (receive (alone [] (written_at long 0 0)) words)

abbrev last_log : List ℕ
last_log = logged_by defined begun (receive (alone [] (written_at long 1 237)) words)

first-none : packet_words first_log ≡ []
unfolding steps_for whole_packets log_words
first-none =
    ap packet_words (sym (append-nil first_log))
    ∙ (delivered defined delivers short twice short-right short-order short-few _ short-made 1 (true ∷ [])).log
    ∙ ap (λ (l : List Span). log_words (whole_packets (every (in_received (run_of 0 1 l) (true ∷ []))) 0 0 short)) short-spans

both-joined : packet_words (first_log ++ (last_log ++ [])) ≡ log_words (packet 0 (replicate 142 2) ∷ [])
unfolding steps_for whole_packets
both-joined =
    (delivered defined delivers short twice short-right short-order short-few _ short-made 2 (true ∷ true ∷ [])).log
    ∙ ap (λ (l : List Span). log_words (whole_packets (every (in_received (run_of 0 2 l) (true ∷ true ∷ []))) 0 0 short)) short-spans

begun-lost : logged_by defined begun (mark_lost words) ≡ log_words lost_entries
unfolding steps_for
begun-lost = lost-words begun words (delivered defined delivers long four_times long-right long_order long-few _ long-made 2 (true ∷ false ∷ [])).accepted.1.0

-- the second and the third of four lost: nothing is asked for, and a packet of 142 bytes is logged
pub joining-wrong : ¬ Demand3For joining
unfolding steps_for whole_packets log_words entry_words data_words packet_words_after
joining-wrong claim =
    let lost : List ℕ = logged_by defined begun (mark_lost words) in
    let asked : packet_words (first_log ++ (lost ++ (lost ++ (last_log ++ [])))) ≡ [] =
    (delivered joining claim long four_times long-right long_order long-few _ long-made 4 (true ∷ false ∷ false ∷ true ∷ [])).log
    ∙ ap (λ (l : List Span). log_words (whole_packets (every (in_received (run_of 0 4 l) (true ∷ false ∷ false ∷ true ∷ []))) 0 0 long)) long-spans in
    let found : packet_words (first_log ++ (lost ++ (lost ++ (last_log ++ [])))) ≡ packet_words (last_log ++ []) =
    no-packet first_log (lost ++ (lost ++ (last_log ++ []))) first-none ∙ ap (λ (l : List ℕ). packet_words (l ++ (l ++ (last_log ++ [])))) begun-lost in
    let h : ◌≡◌ {A = ℕ} 49 0 = ap length (sym both-joined ∙ no-packet first_log (last_log ++ []) first-none ∙ sym found ∙ asked) in
    absurd (omega (arith, h))

-- ---- the counts set back by marking lost: the first PDU delivers a packet, and the second is lost

abbrev first_of_two : List Bool
first_of_two = true ∷ false ∷ []

one-due : arrived_entries 0 0 three six 0 2 first_of_two ≡ packet 0 (replicate 20 1) ∷ []
unfolding whole_packets
one-due = ap (λ (l : List Span). whole_packets (every (in_received (run_of 0 2 l) first_of_two)) 0 0 three) spans-are ∙ refl

set_back : (pdus : List (List ℕ)) → length pdus ≡ 2 → tally_of (finally resetting (fresh_station resetting 0 0 0 all_programs carry) (map call_of (steps_for [] verbatim [] pdus first_of_two))).receiver ≡ no_tally
unfolding steps_for
set_back [] n = absurd (omega (arith, n))
set_back (p ∷ []) n = absurd (omega (arith, n))
set_back (p ∷ q ∷ []) n = refl
set_back (p ∷ q ∷ r ∷ ps) n = absurd (omega (arith, n))

pub resetting-wrong : ¬ Demand3For resetting
unfolding tallied counted
resetting-wrong claim =
    let h : no_tally ≡ tallied no_tally (packet 0 (replicate 20 1) ∷ []) =
    sym (set_back (run_of 0 2 (made 0 0 0 six)) (run_length 0 2 2 refl))
    ∙ (claimed resetting claim 0 2 first_of_two).counts
    ∙ ap (λ (bs : List Bool). tallied no_tally (arrived_entries 0 0 three six 0 2 bs)) (told 0 2 first_of_two refl)
    ∙ ap (tallied no_tally) one-due in
    let z : ◌≡◌ {A = ℕ} 0 1 = ap (λ (t : Tally). t.delivered) h in
    absurd (omega (arith, z))
