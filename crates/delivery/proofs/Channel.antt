-- Delivery by which pieces are sound (SoundSteps.antt), from the general theorem of runs.
use mathlib.Core.Path.{◌≡◌, refl, sym, ap, subst, ◌∙◌}
use mathlib.Core.Bool.{true, false, ◌&&◌, ◌||◌, cond}
use mathlib.Core.List.{List, [], ◌∷◌, ◌++◌, map}
use mathlib.Core.Option.{none}
use Prim.Native.Nat.{ℕ, suc, ◌+◌, ◌-◌, ◌*◌, ◌%◌, ◌<◌, ◌≤◌}
use native.Mathlib.Omega.{arith}
use lib.Dec.{eqb, ltb, leb}
use borrow.Author.Tests.{lt-leb}
use lib.ListN.{length, take, drop, take-append-drop}
use lib.Seq.{drop-drop}
use Rattle.algebra.specs.Places.{All}
use Rattle.header.specs.Header.{is_code_word}
use Rattle.modes.specs.Modes.{listing}
use Rattle.modes.specs.declared.Mode.{Mode}
use Rattle.modes.specs.declared.Listing.{Listing}
use Rattle.modes.specs.declared.Listing.TheVariants.{Listed, Refused}
use Rattle.modes.proofs.Lines.{refusal-five}
use Rattle.modes.proofs.Listable.{listable}
use Rattle.packet_log.specs.Log.{log_words, packet_words}
use Rattle.pdu.specs.Reading.{mode_in}
use Rattle.reassembly.specs.Reassembly.{Piece, following}
use Rattle.reassembly.specs.Tally.{no_tally, tallied}
use Rattle.writer.specs.Writing.{writer_opened, opened_as as writer_opened_as}
use Rattle.writer.specs.RoundTrip.{Bytes}
use Rattle.writer.specs.declared.Writer.{Writer}
use Rattle.receiver.specs.Entitling.{allowed_programs, mask_of}
use Rattle.receiver.specs.Receiving.{fresh as fresh_for, opening_number, opened_for, memory_of, tally_of}
use Rattle.receiver.specs.declared.Receiver.{Receiver}
use Rattle.runs.proofs.Model.{cut, sent_after, Sized, bytes_in}
use Rattle.runs.specs.Transmissions.{Way, gone, here}
use Rattle.runs.specs.Spans.{Span}
use Rattle.runs.proofs.Promise.{arrived_by, indices}
use Rattle.runs.proofs.Calls.{Load, labels_of, LoadsFit, Machine, spans_from as spans_of_loads, speeches_from, Matching, Bridge, Step as Part, handed, ways_handed, Through as Goes, logs_from as logs_of, finally as last_of, AllGood}
use Rattle.runs.proofs.General.{Asked as RunAsked, general}
use Rattle.runs.proofs.Promised.{arrivals-told, promised}
use Rattle.runs.proofs.Events.{opened_holder}
use Rattle.delivery.specs.Delivery.{Packets, Writing, pdus_from, spans_from, InOrder, Station, receive, mark_lost, defined, station_after, logged_by, finally, run_of, alone, paired}
use Rattle.delivery.proofs.Parts.{fresh_station, NoneRefused, logs_from, made as made_by, spans as spans_of, EntriesFit, due_entries, due_indices}
use Rattle.delivery.proofs.SoundSteps.{causes_for, Came, Step, receives, pairs, batches, stops, loses, refuses, call_of, AllCopies, Through, Takes, ways_in, ways, Asked, Delivered, SoundDelivery}
use Rattle.delivery.specs.Entitlement.{labels_from, rights_for}
use Rattle.runs.proofs.Spans.{stands-first}
use Rattle.delivery.proofs.Calling.{state_at, next-in-range}
use Rattle.delivery.proofs.Made.{SaneLabel, sized_of}
use Rattle.delivery.proofs.Entitling.{mask-lists}
use Rattle.delivery.proofs.Course.{Course, done, next, Runs, course}
use Rattle.delivery.proofs.Serving.{rights_by, Shows}
use Rattle.delivery.proofs.Bridge.{Speaks}
use Rattle.delivery.proofs.Batching.{EachCopy, Handing, receiving, pairing, batching, stopping, missing, declining, steps as step_machine, stepping}
use Rattle.delivery.proofs.Copies.{struck-read}
use Rattle.delivery.proofs.Lies.{Following}
use Rattle.delivery.proofs.Counted.{adds-along}

-- a PDU that can be received
abbrev pub Usable : List ℕ → Type 0
Usable p = Bytes p × (96 ≤ length p) × (length p ≤ 20480) × (is_code_word (take 96 p) ≡ true)

-- ---- what holds along a course

module _ (mode stream register : ℕ) (m : Mode) (ps : List (List ℕ)) where
  loads-fit : {q g i s : ℕ} {pdus : List (List ℕ)} {spans : List Span} {cs : List Load} → Course mode stream register m ps q g i s pdus spans cs → LoadsFit s (drop i ps) cs
  loads-fit done = tt
  loads-fit (next {i = i} {s = s} {e = e} {t = t} {loads = cs} f h r) = (f, subst (λ (l : List (List ℕ)). LoadsFit (sent_after s e t) l cs) (sym (drop-drop e i ps)) (loads-fit r))

  spans-are : {q g i s : ℕ} {pdus : List (List ℕ)} {spans : List Span} {cs : List Load} → Course mode stream register m ps q g i s pdus spans cs → spans ≡ spans_of_loads g s (drop i ps) cs
  unfolding spans_of_loads
  spans-are done = refl
  spans-are (next {g = g} {i = i} {s = s} {e = e} {t = t} {loads = cs} f h r) =
      ap (λ (l : List Span). record { from = g; count = bytes_in (cut s e t (drop i ps)) } ∷ l)
      (spans-are r ∙ ap (λ (l : List (List ℕ)). spans_of_loads (g + bytes_in (cut s e t (drop i ps))) (sent_after s e t) l cs) (sym (drop-drop e i ps)))

  spans-follow : {q g i s : ℕ} {pdus : List (List ℕ)} {spans : List Span} {cs : List Load} → Course mode stream register m ps q g i s pdus spans cs → Following g spans
  spans-follow done = tt
  spans-follow (next f h r) = (refl, spans-follow r)

  speaking : (entitled : ℕ) (l : listing mode stream ≡ Listed m) (range : 0 < m.sequences) {q g i s : ℕ} {pdus : List (List ℕ)} {spans : List Span} {cs : List Load} → q < m.sequences → Course mode stream register m ps q g i s pdus spans cs
      → Matching (Speaks mode stream register entitled m l range) pdus (speeches_from m.sequences q i s (drop i ps) cs)
  unfolding speeches_from
  speaking entitled l range h done = tt
  speaking entitled l range h (next {q = q} {i = i} {s = s} {e = e} {t = t} {psd = psd} {pdus = pdus} {loads = cs} f d r) = (
    record {
      says = d;
      below = h;
      struck = λ v. ap (λ (b : List Piece). record { sequence = q; pfirst = ltb 0 s; plast = ltb 0 t; start = (i + cond (ltb 0 s) 1 0) % 64; psd_bytes = psd; pieces = b; withheld = false }) (struck-read v (cut s e t (drop i ps)));
      labels = λ f. refl;
    },
    subst (λ (rest : List (List ℕ)). Matching (Speaks mode stream register entitled m l range) pdus (speeches_from m.sequences (following m.sequences q) (i + e) (sent_after s e t) rest cs)) (sym (drop-drop e i ps)) (speaking entitled l range (next-in-range m.sequences q h) r),
  )

-- ---- the calls, with the PDUs that they are for

-- the first PDUs, as many as came in a batch
first-copies : (register width : ℕ) (cs : List Came) (ps : List (List ℕ)) → AllCopies register width ps cs → EachCopy register width (take (length cs) ps) cs
first-copies register width [] ps h = tt
first-copies register width (c ∷ cs) [] h = absurd h
first-copies register width (c ∷ cs) (p ∷ ps) h = (h.0, first-copies register width cs ps h.1)

-- a batch has 8,400 words for each of its PDUs
batch-room : (register width : ℕ) (x : Station) (ps : List (List ℕ)) (cs : List Came) (log : List ℕ) (ss : List Step) → Through register width x ps (batches cs log ∷ ss) → 8400 * length cs ≤ length log
batch-room register width x ps cs log ss t = let r = t.1 in omega (arith, r)

module _ (mode stream register entitled : ℕ) (m : Mode) (l : listing mode stream ≡ Listed m) (range : 0 < m.sequences) where
  abbrev all : Bridge (rights_by entitled stream m) m.sequences (step_machine mode stream register entitled m l range)
  all = stepping mode stream register entitled m l range

  parts : List Step → List (List ℕ) → List (Part all)
  parts [] pdus = []
  parts (receives n q log v ∷ ss) pdus = record { call = receives n q log v; pdus = take 1 pdus; ways = here (causes_for v) ∷ [] } ∷ parts ss (drop 1 pdus)
  parts (pairs q r log u v ∷ ss) pdus = record { call = pairs q r log u v; pdus = take 1 pdus; ways = here (causes_for (λ k. u k || v k)) ∷ [] } ∷ parts ss (drop 1 pdus)
  parts (batches cs log ∷ ss) pdus = record { call = batches cs log; pdus = take (length cs) pdus; ways = ways_in cs } ∷ parts ss (drop (length cs) pdus)
  parts (stops cs ls bytes log ∷ ss) pdus = record { call = stops cs ls bytes log; pdus = take (length cs) pdus; ways = ways_in cs } ∷ parts ss (drop (length cs) pdus)
  parts (loses log ∷ ss) pdus = record { call = loses log; pdus = take 1 pdus; ways = gone ∷ [] } ∷ parts ss (drop 1 pdus)
  parts (refuses c ∷ ss) pdus = record { call = refuses c; pdus = []; ways = [] } ∷ parts ss pdus

  record Parted (x : Station) (ss : List Step) (pdus : List (List ℕ)) (gs : List (Part all)) : Type 0 where
    through : Goes all x gs
    pdus' : handed all gs ≡ pdus
    ways : ways_handed all gs ≡ ways ss
    logs : logs_of all x gs ≡ logs_from defined x (map call_of ss)
    final : last_of all x gs ≡ finally defined x (map call_of ss)
    good : AllGood all x gs → NoneRefused defined call_of Takes x ss

  -- a call, and those after it
  module _ (s : Step) (ss : List Step) (x : Station) (ps qs : List (List ℕ)) (ws : List Way) (hands : Handing mode stream register entitled m l range x s ps ws) (gs : List (Part all)) (r : Parted (station_after defined x (call_of s)) ss qs gs) where
    with_call : (pdus : List (List ℕ)) → ps ++ qs ≡ pdus → ways (s ∷ ss) ≡ ws ++ ways ss → Parted x (s ∷ ss) pdus (record { call = s; pdus = ps; ways = ws } ∷ gs)
    with_call pdus e f = record {
      through = (hands, r.through);
      pdus' = ap (λ (k : List (List ℕ)). ps ++ k) r.pdus' ∙ e;
      ways = ap (λ (k : List Way). ws ++ k) r.ways ∙ sym f;
      logs = ap (λ (w : List ℕ). logged_by defined x (call_of s) ++ w) r.logs;
      final = r.final;
      good = λ g. (g.0, r.good g.1);
    }

  parted : (ss : List Step) (x : Station) (pdus : List (List ℕ)) → Through register m.width x pdus ss → Parted x ss pdus (parts ss pdus)
  unfolding parts
  parted [] x [] t = record { through = tt; pdus' = refl; ways = refl; logs = refl; final = refl; good = λ g. tt }
  parted [] x (p ∷ pdus) t = absurd t
  parted (receives n q log v ∷ ss) x [] t = absurd t
  parted (receives n q log v ∷ ss) x (p ∷ pdus) t =
      with_call (receives n q log v) ss x (p ∷ []) pdus (here (causes_for v) ∷ []) (receiving t.0 t.1) (parts ss pdus) (parted ss (station_after defined x (receive (alone n q) log)) pdus t.2) (p ∷ pdus) refl refl
  parted (pairs q r log u v ∷ ss) x [] t = absurd t
  parted (pairs q r log u v ∷ ss) x (p ∷ pdus) t =
      with_call (pairs q r log u v) ss x (p ∷ []) pdus (here (causes_for (λ k. u k || v k)) ∷ []) (pairing t.0 t.1 t.2) (parts ss pdus) (parted ss (station_after defined x (receive (paired q r) log)) pdus t.3) (p ∷ pdus) refl refl
  parted (batches cs log ∷ ss) x pdus t =
      with_call (batches cs log) ss x (take (length cs) pdus) (drop (length cs) pdus) (ways_in cs) (batching (first-copies register m.width cs pdus t.0) (batch-room register m.width x pdus cs log ss t)) (parts ss (drop (length cs) pdus))
      (parted ss (station_after defined x (call_of (batches cs log))) (drop (length cs) pdus) t.2) pdus (take-append-drop (length cs) pdus) refl
  parted (stops cs ls bytes log ∷ ss) x pdus t =
      with_call (stops cs ls bytes log) ss x (take (length cs) pdus) (drop (length cs) pdus) (ways_in cs) (stopping (first-copies register m.width cs pdus t.0) t.1 t.2) (parts ss (drop (length cs) pdus))
      (parted ss (station_after defined x (call_of (stops cs ls bytes log))) (drop (length cs) pdus) t.3) pdus (take-append-drop (length cs) pdus) refl
  parted (loses log ∷ ss) x [] t = absurd t
  parted (loses log ∷ ss) x (p ∷ pdus) t =
      with_call (loses log) ss x (p ∷ []) pdus (gone ∷ []) (missing t.0) (parts ss pdus) (parted ss (station_after defined x (mark_lost log)) pdus t.1) (p ∷ pdus) refl refl
  parted (refuses c ∷ ss) x pdus t =
      with_call (refuses c) ss x [] pdus [] (declining t.0) (parts ss pdus) (parted ss (station_after defined x c) pdus t.1) pdus refl refl

-- ---- a fresh writer and a fresh receiver

pub record Fresh (mode stream register : ℕ) : Type 0 where
  pub line : Mode
  pub listed : listing mode stream ≡ Listed line
  pub writer : (writer_opened mode stream register).writer ≡ state_at mode stream register 0 0 0

pub some-range : (mode stream register : ℕ) (x : Fresh mode stream register) → 0 < x.line.sequences
some-range mode stream register x = let h = (listable mode stream x.line x.listed).least in omega (arith, h)

pub fresh-writer : (mode stream register : ℕ) → (writer_opened mode stream register).refusal ≡ 0 → Fresh mode stream register
unfolding writer_opened
fresh-writer mode stream register e = go (listing mode stream) refl e
  where
    go : (k : Listing) → listing mode stream ≡ k → (writer_opened_as k mode stream register).refusal ≡ 0 → Fresh mode stream register
    go (Refused n) h z = absurd (omega (arith, refusal-five mode stream n h, z))
    go (Listed m) h z = record { line = m; listed = h; writer = ap (λ (k : Listing). (writer_opened_as k mode stream register).writer) h }

-- where neither 5 nor 22 applies
pub fresh-receiver : (mode stream register : ℕ) (programs : List ℕ) (m : Mode) → listing mode stream ≡ Listed m → allowed_programs programs ≡ true
    → (opened_for mode stream register programs).receiver ≡ fresh_for mode stream register (mask_of programs)
unfolding opened_for opening_number
fresh-receiver mode stream register programs m l a = rw (l, a)

pub shows-fresh : (mode stream register entitled : ℕ) (m : Mode) (l : listing mode stream ≡ Listed m) (range : 0 < m.sequences) (carry : List ℕ) → 4096 ≤ length carry
    → Shows mode stream register entitled m l range (record { receiver = fresh_for mode stream register entitled; carry = carry }) opened_holder
unfolding memory_of
shows-fresh mode stream register entitled m l range carry big =
    let q : leb m.sequences 0 ≡ false = lt-leb m.sequences 0 range in
    record { same_mode = refl; same_stream = refl; same_register = refl; same_entitled = refl; right = rw (l, q); room = big; memory = refl; kept = refl; tally = refl; sane = tt; fair = tt; counted = record { last = omega arith; none = λ e. (refl, refl) } }

-- ---- the calls of a run

module _ (mode stream register : ℕ) (programs : List ℕ) (packets : List (List ℕ)) (writings : List Writing) (first count : ℕ) (carry : List ℕ) (steps : List Step)
    (d : Asked mode stream register programs packets writings first count carry steps) (x : Fresh mode stream register) where
  abbrev m : Mode
  m = x.line

  abbrev mask : ℕ
  mask = mask_of programs

  range : 0 < m.sequences
  range = some-range mode stream register x

  sized : Sized packets
  sized = sized_of packets d.sized

  abbrev made : List (List ℕ)
  made = pdus_from (state_at mode stream register 0 0 0) writings

  whole : Runs mode stream register m x.listed packets d.sized 0 0 0 0 made (spans_from mode stream packets 0 writings) (labels_from mode stream packets 0 writings)
  whole = course mode stream register m x.listed packets d.sized writings 0 0 0 0 range (stands-first packets sized) d.offered

  abbrev cs : List Load
  cs = whole.loads

  abbrev station : Station
  station = record { receiver = fresh_for mode stream register mask; carry = carry }

  station-is : fresh_station defined mode stream register programs carry ≡ station
  station-is = ap (λ (r : Receiver). record { receiver = r; carry = carry }) (fresh-receiver mode stream register programs m x.listed d.allowed)

  through : Through register m.width station (run_of first count made) steps
  through =
      subst (λ (k : Listing). Through register (mode_in k).width station (run_of first count made) steps) x.listed
      (subst (λ (s : Station). Through register (mode_in (listing mode stream)).width s (run_of first count made) steps) station-is
      (subst (λ (ps : List (List ℕ)). Through register (mode_in (listing mode stream)).width (fresh_station defined mode stream register programs carry) (run_of first count ps) steps) (ap (λ (w : Writer). pdus_from w writings) x.writer) d.through))

  abbrev bridge : Bridge (rights_by mask stream m) m.sequences (step_machine mode stream register mask m x.listed range)
  bridge = all mode stream register mask m x.listed range

  abbrev gs : List (Part bridge)
  gs = parts mode stream register mask m x.listed range steps (run_of first count made)

  split : Parted mode stream register mask m x.listed range station steps (run_of first count made) gs
  split = parted mode stream register mask m x.listed range steps station (run_of first count made) through

  -- the rights by the mask are those by the list
  rights-are : rights_by mask stream m ≡ rights_for mode stream programs
  rights-are =
      let e : Listed m ≡ listing mode stream = sym x.listed in
      λ i. record { entitled = mask-lists programs d.allowed i; keeps = eqb stream 0 && eqb (mode_in (e i)).sequences 8 }

  spans-told : spans_of_loads 0 0 packets cs ≡ spans_from mode stream packets 0 writings
  spans-told = sym (spans-are mode stream register m packets whole.course)

  due-are : arrived_by (rights_by mask stream m) m.sequences first packets (spans_of_loads 0 0 packets cs) (labels_of cs) (ways_handed bridge gs) ≡ due_entries mode stream programs packets writings first (ways steps)
  due-are =
      let e : Listed m ≡ listing mode stream = sym x.listed in
      λ i. arrived_by (rights-are i) (mode_in (e i)).sequences first packets (spans-told i) (whole.labelled i) (split.ways i)

  indices-are : indices (rights_by mask stream m) m.sequences first packets (spans_of_loads 0 0 packets cs) (labels_of cs) (ways_handed bridge gs) ≡ due_indices mode stream programs packets writings first (ways steps)
  indices-are =
      let e : Listed m ≡ listing mode stream = sym x.listed in
      λ i. indices (rights-are i) (mode_in (e i)).sequences first packets (spans-told i) (whole.labelled i) (split.ways i)

  abbrev machine : Machine
  machine = step_machine mode stream register mask m x.listed range

  asked : RunAsked (rights_by mask stream m) m.sequences machine bridge packets cs made first count station gs
  asked = record {
    sized = sized;
    fits = loads-fit mode stream register m packets whole.course;
    says = speaking mode stream register m packets mask x.listed range range whole.course;
    run = split.pdus';
    fresh = shows-fresh mode stream register mask m x.listed range carry d.room;
    through = split.through;
    countable = subst EntriesFit (sym (arrivals-told (rights_by mask stream m) m.sequences machine bridge packets cs made first count station gs ∙ due-are)) d.countable;
  }

  -- the receiver's counts at the end
  counts-are : tally_of (finally defined (fresh_station defined mode stream register programs carry) (map call_of steps)).receiver
      ≡ (general (rights_by mask stream m) m.sequences machine bridge packets cs made first count station gs asked).last.tally
  counts-are =
      ap (λ (s : Station). tally_of (finally defined s (map call_of steps)).receiver) station-is
      ∙ ap (λ (s : Station). tally_of s.receiver) (sym split.final)
      ∙ (general (rights_by mask stream m) m.sequences machine bridge packets cs made first count station gs asked).stands.tally

  delivered : Delivered mode stream register programs packets writings first count carry steps
  delivered = record {
    accepted = subst (λ (s : Station). NoneRefused defined call_of Takes s steps) (sym station-is) (split.good (general (rights_by mask stream m) m.sequences machine bridge packets cs made first count station gs asked).good);
    log = ap (λ (s : Station). packet_words (logs_from defined s (map call_of steps))) station-is
        ∙ ap packet_words (sym split.logs)
        ∙ (promised (rights_by mask stream m) m.sequences machine bridge packets cs made first count station gs asked).holds
        ∙ ap log_words due-are;
    counts = counts-are ∙ (promised (rights_by mask stream m) m.sequences machine bridge packets cs made first count station gs asked).counted ∙ ap (tallied no_tally) due-are;
    adds-up = adds-along indices-are (sym counts-are) (promised (rights_by mask stream m) m.sequences machine bridge packets cs made first count station gs asked).adds-up;
  }

-- no call for a PDU of the run is refused, and the packet log holds exactly the packets that arrived whole in sound pieces and begin in a PDU not withheld
pub sound-delivers : SoundDelivery
sound-delivers mode stream register programs packets writings first count carry steps d = delivered mode stream register programs packets writings first count carry steps d (fresh-writer mode stream register d.opens)

-- ---- the PDUs that a fresh writer makes

module _ (mode stream register : ℕ) (m : Mode) (ps : List (List ℕ)) where
  course-usable : {q g i s : ℕ} {pdus : List (List ℕ)} {spans : List Span} {cs : List Load} → Course mode stream register m ps q g i s pdus spans cs → All Usable pdus
  course-usable done = tt
  course-usable (next f h r) = ((h.bytes, h.least, h.most, h.code), course-usable r)

  course-count : {q g i s : ℕ} {pdus : List (List ℕ)} {spans : List Span} {cs : List Load} → Course mode stream register m ps q g i s pdus spans cs → length spans ≡ length pdus
  course-count done = refl
  course-count (next f h r) = ap suc (course-count r)

  course-labels : {q g i s : ℕ} {pdus : List (List ℕ)} {spans : List Span} {cs : List Load} → Course mode stream register m ps q g i s pdus spans cs → All SaneLabel (labels_of cs)
  course-labels done = tt
  course-labels (next f h r) = (h.labelled, course-labels r)

  course-labelled : {q g i s : ℕ} {pdus : List (List ℕ)} {spans : List Span} {cs : List Load} → Course mode stream register m ps q g i s pdus spans cs → length (labels_of cs) ≡ length spans
  course-labelled done = refl
  course-labelled (next f h r) = ap suc (course-labelled r)

-- they are bytes, at least 96; each has its span and its label, and the spans follow one another
pub record MadeRight (mode stream register : ℕ) (packets : List (List ℕ)) (writings : List Writing) : Type 0 where
  pub usable : All Usable (made_by mode stream register writings)
  pub as_many : length (spans_of mode stream packets writings) ≡ length (made_by mode stream register writings)
  pub follow : Following 0 (spans_of mode stream packets writings)
  pub labels : All SaneLabel (labels_from mode stream packets 0 writings)
  pub labelled : length (labels_from mode stream packets 0 writings) ≡ length (spans_of mode stream packets writings)

pub made-right : (mode stream register : ℕ) (packets : List (List ℕ)) (writings : List Writing) → (writer_opened mode stream register).refusal ≡ 0 → Packets packets → InOrder mode stream packets 0 writings → MadeRight mode stream register packets writings
made-right mode stream register packets writings o z h =
    let x = fresh-writer mode stream register o in
    let w = course mode stream register x.line x.listed packets z writings 0 0 0 0 (some-range mode stream register x) (stands-first packets (sized_of packets z)) h in
    let c = w.course in
    record {
      usable = subst (λ (w : Writer). All Usable (pdus_from w writings)) (sym x.writer) (course-usable mode stream register x.line packets c);
      as_many = subst (λ (w : Writer). length (spans_from mode stream packets 0 writings) ≡ length (pdus_from w writings)) (sym x.writer) (course-count mode stream register x.line packets c);
      follow = spans-follow mode stream register x.line packets c;
      labels = subst (All SaneLabel) w.labelled (course-labels mode stream register x.line packets c);
      labelled = ap length (sym w.labelled) ∙ course-labelled mode stream register x.line packets c;
    }
