-- The general theorem of runs: whatever the calls are, and however each hands its PDUs over, the log holds the packets that are due, and the counts
-- add up.
use Prim.Native.Nat.{ℕ, zero, suc, ◌+◌, ◌-◌, ◌≤◌}
use mathlib.Core.Path.{◌≡◌, refl, sym, ap, ap₂, subst, ◌∙◌, fun_ext}
use mathlib.Core.Bool.{false, cond}
use mathlib.Core.List.{List, [], ◌∷◌, ◌++◌, append_assoc}
use mathlib.Core.Option.{Option, none}
use native.Mathlib.Omega.{arith}
use native.Mathlib.Nat.{le_of_suc-le-suc, not-suc-le-zero}
use lib.ListN.{length, take, drop, replicate, length-append, length-take}
use Rattle.packet_log.specs.Log.{Entry, log_words, packet_words, packets_of}
use Rattle.packet_log.proofs.Words.{log-append}
use Rattle.packet_log.proofs.Packets.{FitAll, fit_append, packet-words}
use Rattle.reassembly.specs.Reassembly.{following}
use Rattle.reassembly.specs.Rights.{Rights}
use Rattle.reassembly.specs.Tally.{Tally, no_tally, tallied, Grows, Countable}
use Rattle.reassembly.proofs.Tallies.{tally-grows}
use Rattle.reassembly.specs.Holder.{Holder}
use Rattle.runs.proofs.Events.{Event, lost, opened_holder, entries_for, holder_for, logged, after}
use Rattle.runs.proofs.Model.{cut, sent_after, Plan, run_marks, wanted, AllFit, Sized, whole_packets, bytes_in, spans_of, fates_of}
use Rattle.runs.specs.Spans.{Mark, verdicts, packet_at, covers, lies, whole_indices, due_at}
use Rattle.runs.specs.Transmissions.{Way, gone, here, Close, AddsUp}
use Rattle.runs.proofs.Transmissions.{fate_of, kept_of, plans_from, event_of, events_from, due_from}
use Rattle.runs.proofs.Calls.{Load, transmission_of, transmissions_of, LoadsFit, spans_from, Speech, speeches_from, event_by, heard, fates_from, Matching, Machine, Bridge, Step, handed, ways_handed, Through, logs_from, finally, AllGood}
use Rattle.runs.proofs.Entitled.{entitled-run}
use Rattle.runs.proofs.Counts.{run-tally, tally-packets, counts_of}
use Rattle.runs.proofs.Spans.{due-whole, due-indices}

-- ---- events one after another

module _ (rights : Rights) (range : ℕ) where
  logged-append : (a b : List Event) (x : Holder) → logged rights range x (a ++ b) ≡ logged rights range x a ++ logged rights range (after rights range x a) b
  unfolding logged after
  logged-append [] b x = refl
  logged-append (v ∷ a) b x =
      ap (λ (l : List Entry). entries_for rights range x v ++ l) (logged-append a b (holder_for rights range x v))
      ∙ sym (append_assoc (entries_for rights range x v) (logged rights range (holder_for rights range x v) a) _)

  after-append : (a b : List Event) (x : Holder) → after rights range x (a ++ b) ≡ after rights range (after rights range x a) b
  unfolding after
  after-append [] b x = refl
  after-append (v ∷ a) b x = after-append a b (holder_for rights range x v)

-- ---- counts only grow

grows-on : (rights : Rights) (range : ℕ) (a b : List Event) (x : Holder) → Grows (after rights range x a).tally (after rights range x (a ++ b)).tally
grows-on rights range a b x =
    let e : (after rights range x (a ++ b)).tally ≡ tallied (after rights range x a).tally (logged rights range (after rights range x a) b) =
    ap (λ (y : Holder). y.tally) (after-append rights range a b x) ∙ run-tally rights range b (after rights range x a) in
    subst (Grows (after rights range x a).tally) (sym e) (tally-grows (logged rights range (after rights range x a) b) (after rights range x a).tally)

-- ---- the calls' parts of a run

heard-nil : (ws : List Way) → heard ws [] ≡ []
unfolding heard
heard-nil [] = refl
heard-nil (w ∷ ws) = refl

heard-append : (ws vs : List Way) (ds : List Speech) → heard (ws ++ vs) ds ≡ heard ws (take (length ws) ds) ++ heard vs (drop (length ws) ds)
unfolding heard
heard-append [] vs ds = refl
heard-append (w ∷ ws) vs [] = sym (heard-nil vs)
heard-append (w ∷ ws) vs (d ∷ ds) = ap (λ (l : List Event). event_by w d ∷ l) (heard-append ws vs ds)

module _ {P : Type 0} (Says : P → Speech → Type 0) where
  matching-split : (ps qs : List P) (ds : List Speech) → Matching Says (ps ++ qs) ds → Matching Says ps (take (length ps) ds) × Matching Says qs (drop (length ps) ds)
  matching-split [] qs ds m = (tt, m)
  matching-split (p ∷ ps) qs [] m = absurd m
  matching-split (p ∷ ps) qs (d ∷ ds) m = let r = matching-split ps qs ds m.1 in ((m.0, r.0), r.1)

  pub matching-drop : (n : ℕ) (ps : List P) (ds : List Speech) → Matching Says ps ds → Matching Says (drop n ps) (drop n ds)
  matching-drop zero ps ds m = m
  matching-drop (suc n) [] [] m = tt
  matching-drop (suc n) [] (d ∷ ds) m = absurd m
  matching-drop (suc n) (p ∷ ps) [] m = absurd m
  matching-drop (suc n) (p ∷ ps) (d ∷ ds) m = matching-drop n ps ds m.1

  pub matching-take : (n : ℕ) (ps : List P) (ds : List Speech) → Matching Says ps ds → Matching Says (take n ps) (take n ds)
  matching-take zero ps ds m = tt
  matching-take (suc n) [] [] m = tt
  matching-take (suc n) [] (d ∷ ds) m = absurd m
  matching-take (suc n) (p ∷ ps) [] m = absurd m
  matching-take (suc n) (p ∷ ps) (d ∷ ds) m = (m.0, matching-take n ps ds m.1)

-- ---- a list of calls serves its part of a run

module _ (rights : Rights) (range : ℕ) (M : Machine) (B : Bridge rights range M) where
  pub record Served (x : M.State) (y : Holder) (ss : List (Step B)) (vs : List Event) : Type 0 where
    pub good : AllGood B x ss
    pub log : logs_from B x ss ≡ log_words (logged rights range y vs)
    pub fit : FitAll (logged rights range y vs)
    pub stands : B.Stands (finally B x ss) (after rights range y vs)

  pub serve : (ss : List (Step B)) (x : M.State) (y : Holder) (ds : List Speech) → B.Stands x y → Through B x ss → Matching B.Says (handed B ss) ds
      → B.Within (after rights range y (heard (ways_handed B ss) ds)).tally → Served x y ss (heard (ways_handed B ss) ds)
  serve [] x y ds s t m h = unfold heard logged after log_words in record { good = tt; log = refl; fit = tt; stands = s }
  serve (c ∷ ss) x y ds s t m h =
      let many : length c.ways ≡ length c.pdus = B.as_many x c.call c.pdus c.ways t.0 in
      let n : ℕ = length c.pdus in
      let a : List Event = heard c.ways (take n ds) in
      let b : List Event = heard (ways_handed B ss) (drop n ds) in
      let e : heard (c.ways ++ ways_handed B ss) ds ≡ a ++ b = rw many at (heard-append c.ways (ways_handed B ss) ds) in
      let sp = matching-split B.Says c.pdus (handed B ss) ds m in
      let k : B.Within (after rights range y (a ++ b)).tally = subst (λ (v : List Event). B.Within (after rights range y v).tally) e h in
      let one = B.serves x y c.call c.pdus c.ways (take n ds) s t.0 sp.0 (B.within-less _ _ (grows-on rights range a b y) k) in
      let f : after rights range y (a ++ b) ≡ after rights range (after rights range y a) b = after-append rights range a b y in
      let g : logged rights range y (a ++ b) ≡ logged rights range y a ++ logged rights range (after rights range y a) b = logged-append rights range a b y in
      let r = serve ss (M.next x c.call) (after rights range y a) (drop n ds) one.1.stands t.1 sp.1 (subst (λ (z : Holder). B.Within z.tally) f k) in
      subst (λ (v : List Event). Served x y (c ∷ ss) v) (sym e) (record {
        good = (one.0, r.good);
        log = ap₂ (λ (u w : List ℕ). u ++ w) one.1.log r.log
            ∙ sym (log-append (logged rights range y a) (logged rights range (after rights range y a) b))
            ∙ ap log_words (sym g);
        fit = subst FitAll (sym g) (fit_append (logged rights range y a) _ one.1.fit r.fit);
        stands = subst (B.Stands (finally B x (c ∷ ss))) (sym f) r.stands;
      })

-- ---- the writer's PDUs and their ways

module _ (rights : Rights) (range : ℕ) where
  heard-events : (cs : List Load) (ws : List Way) (q i s : ℕ) (rest : List (List ℕ)) → heard ws (speeches_from range q i s rest cs) ≡ events_from rights range q i s rest (transmissions_of ws cs)
  unfolding heard speeches_from events_from transmissions_of
  heard-events [] ws q i s rest = heard-nil ws
  heard-events (c ∷ cs) [] q i s rest = refl
  heard-events (c ∷ cs) (gone ∷ ws) q i s rest = ap (λ (l : List Event). lost ∷ l) (heard-events cs ws (following range q) (i + c.whole) (sent_after s c.whole c.over) (drop c.whole rest))
  heard-events (c ∷ cs) (here f ∷ ws) q i s rest =
      ap (λ (l : List Event). event_of rights range q i s (transmission_of c (here f)) (here f) rest ∷ l) (heard-events cs ws (following range q) (i + c.whole) (sent_after s c.whole c.over) (drop c.whole rest))

  heard-take : (n : ℕ) (ws : List Way) (ds : List Speech) → length ws ≤ n → heard ws (take n ds) ≡ heard ws ds
  unfolding heard
  heard-take n [] ds h = refl
  heard-take zero (w ∷ ws) ds h = absurd (not-suc-le-zero h)
  heard-take (suc n) (w ∷ ws) [] h = refl
  heard-take (suc n) (w ∷ ws) (d ∷ ds) h = ap (λ (l : List Event). event_by w d ∷ l) (heard-take n ws ds (le_of_suc-le-suc h))

  -- PDUs before the run are as good as lost: a fresh receiver is one after a lost PDU
  record Same (a b : List Event) : Type 0 where
    packets : packets_of (logged rights range opened_holder a) ≡ packets_of (logged rights range opened_holder b)
    after' : after rights range opened_holder a ≡ after rights range opened_holder b

  skip : (first : ℕ) (ws : List Way) (ds : List Speech) → Same (heard ws (drop first ds)) (heard (replicate first gone ++ ws) ds)
  unfolding heard logged after packets_of tallied
  skip zero ws ds = record { packets = refl; after' = refl }
  skip (suc first) ws [] = ap-same (heard-nil ws)
    where
      ap-same : {a : List Event} → a ≡ [] → Same a []
      ap-same e = rw e (record { packets = refl; after' = refl })
  skip (suc first) ws (d ∷ ds) = let r = skip first ws ds in record { packets = r.packets; after' = r.after' }

  plans-fit : (cs : List Load) (ws : List Way) (q s : ℕ) (kept : Option ℕ) (rest : List (List ℕ)) → LoadsFit s rest cs → AllFit s rest (plans_from rights range q kept (transmissions_of ws cs))
  unfolding plans_from transmissions_of
  plans-fit [] ws q s kept rest h = tt
  plans-fit (c ∷ cs) [] q s kept rest h = tt
  plans-fit (c ∷ cs) (w ∷ ws) q s kept rest h =
      (h.0, plans-fit cs ws (following range q) (sent_after s c.whole c.over) (kept_of rights range q kept c.label w) (drop c.whole rest) h.1)

  same-lies : (cs : List Load) (ws : List Way) (q g s : ℕ) (kept : Option ℕ) (ps rest : List (List ℕ)) (j : ℕ)
      → lies ps (spans_of g s rest (plans_from rights range q kept (transmissions_of ws cs))) (fates_of (plans_from rights range q kept (transmissions_of ws cs))) j
      ≡ lies ps (spans_from g s rest cs) (fates_of (plans_from rights range q kept (transmissions_of ws cs))) j
  unfolding plans_from transmissions_of spans_of spans_from
  same-lies [] ws q g s kept ps rest j = refl
  same-lies (c ∷ cs) [] q g s kept ps rest j = refl
  same-lies (c ∷ cs) (w ∷ ws) q g s kept ps rest j =
      let n : ℕ = bytes_in (cut s c.whole c.over rest) in
      ap (λ (m : Mark). cond (covers (record { from = g; count = n }) j) (verdicts (fate_of rights range q kept c.label w) (packet_at ps j - packet_at ps g)) m)
      (same-lies cs ws (following range q) (g + n) (sent_after s c.whole c.over) (kept_of rights range q kept c.label w) ps (drop c.whole rest) j)

-- ---- the theorem

module _ (rights : Rights) (range : ℕ) (M : Machine) (B : Bridge rights range M) (ps : List (List ℕ)) (loads : List Load) (made : List B.Pdu) (first count : ℕ) (x : M.State) (ss : List (Step B)) where
  -- what came of each byte
  abbrev pub byte_marks : ℕ → Mark
  byte_marks = lies ps (spans_from 0 0 ps loads) (fates_from rights range first (ways_handed B ss) loads)

  -- the packets with every byte in a piece that is taken, that begin in a PDU not withheld; and their indices
  abbrev pub arrivals : List Entry
  arrivals = whole_packets (due_at byte_marks) 0 0 ps

  abbrev pub indices : List ℕ
  indices = whole_indices (due_at byte_marks) 0 0 ps

  -- what is asked of the calls
  pub record Asked : Type 0 where
    pub sized : Sized ps
    pub fits : LoadsFit 0 ps loads
    pub says : Matching B.Says made (speeches_from range 0 0 0 ps loads)
    pub run : handed B ss ≡ take count (drop first made)
    pub fresh : B.Stands x opened_holder
    pub through : Through B x ss
    pub countable : B.Within (tallied no_tally arrivals)

  -- what is promised of them
  pub record Delivered : Type 0 where
    pub good : AllGood B x ss
    pub log : packet_words (logs_from B x ss) ≡ log_words arrivals
    pub last : Holder
    pub stands : B.Stands (finally B x ss) last
    pub tally : last.tally ≡ tallied no_tally arrivals
    pub adds-up : Close indices → AddsUp indices last.tally

  module _ (d : Asked) where
    abbrev ws : List Way
    ws = ways_handed B ss

    abbrev all : List Way
    all = replicate first gone ++ ws

    abbrev plans : List Plan
    plans = plans_from rights range 0 none (transmissions_of all loads)

    abbrev speeches : List Speech
    speeches = speeches_from range 0 0 0 ps loads

    abbrev vs : List Event
    vs = heard ws (take count (drop first speeches))

    fits_all : AllFit 0 ps plans
    fits_all = plans-fit rights range loads all 0 0 none ps d.fits

    many : (t : M.State) (s : List (Step B)) → Through B t s → length (ways_handed B s) ≡ length (handed B s)
    many t [] h = refl
    many t (c ∷ s) h =
        let a = B.as_many t c.call c.pdus c.ways h.0 in
        let b = many (M.next t c.call) s h.1 in
        simp length-append (omega (arith, a, b))

    few : length ws ≤ count
    few = let e : length ws ≡ length (take count (drop first made)) = many x ss d.through ∙ ap length d.run in let l = length-take count (drop first made) in omega (arith, e, l)

    same : Same rights range vs (events_from rights range 0 0 0 ps (transmissions_of all loads))
    same =
        subst (λ (l : List Event). Same rights range l (events_from rights range 0 0 0 ps (transmissions_of all loads))) (sym (heard-take rights range count ws (drop first speeches) few))
        (subst (Same rights range (heard ws (drop first speeches))) (heard-events rights range loads all 0 0 0 ps) (skip rights range first ws speeches))

    marks-are : lies ps (spans_of 0 0 ps plans) (fates_of plans) ≡ byte_marks
    marks-are = fun_ext (λ j. same-lies rights range loads all 0 0 0 none ps ps j)

    packets-are : packets_of (logged rights range opened_holder vs) ≡ arrivals
    packets-are =
        same.packets
        ∙ entitled-run rights range ps (transmissions_of all loads) fits_all d.sized
        ∙ due-whole ps d.sized plans fits_all
        ∙ ap (λ (m : ℕ → Mark). whole_packets (due_at m) 0 0 ps) marks-are

    tally-is : (after rights range opened_holder vs).tally ≡ tallied no_tally arrivals
    tally-is = run-tally rights range vs opened_holder ∙ tally-packets (logged rights range opened_holder vs) no_tally ∙ ap (tallied no_tally) packets-are

    served : Served rights range M B x opened_holder ss vs
    served =
        serve rights range M B ss x opened_holder (take count (drop first speeches)) d.fresh d.through
        (subst (λ (l : List B.Pdu). Matching B.Says l (take count (drop first speeches))) (sym d.run) (matching-take B.Says count (drop first made) (drop first speeches) (matching-drop B.Says first made speeches d.says)))
        (subst B.Within (sym tally-is) d.countable)

    sum : Close indices → AddsUp indices (tallied no_tally arrivals)
    sum c =
        let e : due_from 0 ps (run_marks 0 ps plans) ≡ indices = due-indices ps d.sized plans fits_all ∙ ap (λ (m : ℕ → Mark). whole_indices (due_at m) 0 0 ps) marks-are in
        let w : packets_of (logged rights range opened_holder vs) ≡ wanted 0 ps (run_marks 0 ps plans) = same.packets ∙ entitled-run rights range ps (transmissions_of all loads) fits_all d.sized in
        let t : tallied no_tally (logged rights range opened_holder vs) ≡ tallied no_tally arrivals = tally-packets (logged rights range opened_holder vs) no_tally ∙ ap (tallied no_tally) packets-are in
        subst (λ (l : List ℕ). AddsUp l (tallied no_tally arrivals)) e
        (subst (AddsUp (due_from 0 ps (run_marks 0 ps plans))) t (counts_of ps (run_marks 0 ps plans) (logged rights range opened_holder vs) w (subst Close (sym e) c)))

    -- no call for a PDU of the run is refused, the log holds exactly the packets that are due, and the counts add up
    pub general : Delivered
    general = record {
      good = served.good;
      log = ap packet_words served.log ∙ packet-words false (logged rights range opened_holder vs) served.fit ∙ ap log_words packets-are;
      last = after rights range opened_holder vs;
      stands = served.stands;
      tally = tally-is;
      adds-up = λ c. subst (AddsUp indices) (sym tally-is) (sum c);
    }

-- Ask 14: the limit of a receiver that counts in 32 bits
pub countable-less : (t u : Tally) → Grows t u → Countable u → Countable t
countable-less t u g c = let d = g.delivered in let m = g.missing in (omega (arith, d, c.0), omega (arith, m, c.1))
