-- One call on a receiver and its carry: what they stand for, what is logged, and what they stand for afterwards.
use mathlib.Core.Path.{◌≡◌, refl, sym, ap, ap₂, subst, ◌∙◌}
use mathlib.Core.Bool.{Bool, true, false, not, ◌&&◌, ◌||◌, cond}
use mathlib.Core.List.{List, [], ◌∷◌}
use mathlib.Core.Option.{Option, none, some}
use Prim.Native.Nat.{ℕ, suc, ◌<◌, ◌≤◌}
use native.Mathlib.Omega.{arith}
use lib.Dec.{eqb, ltb, leb, eqb-suc-zero}
use borrow.Author.Tests.{le-ltb, lt-leb, eq-eqb, eqb-true}
use lib.ListN.{length, get_or, take}
use Rattle.refusal.specs.Refusal.{first_of, any_of}
use Rattle.modes.specs.Modes.{listing, listing_number}
use Rattle.modes.specs.declared.Mode.{Mode}
use Rattle.modes.specs.declared.Listing.TheVariants.{Listed}
use Rattle.buffer.specs.Buffer.{put_at}
use Rattle.buffer.proofs.Laws.{put-length, put-nil, take_put}
use Rattle.layout.specs.Control.{control_at}
use Rattle.packet_log.specs.Log.{log_words, entry_words}
use Rattle.correction.specs.Marks.{corrected_pdu_with}
use Rattle.pdu.specs.Reading.{mode_in, listing_of, corrected_tests, judged}
use Rattle.reassembly.specs.Reassembly.{Partial, nothing, beginning, Memory, Outcome, in_sequence, received, remembered, lost_entries, forgotten}
use Rattle.reassembly.specs.Rights.{Rights, forgetting, in_force, kept_after}
use Rattle.reassembly.specs.Tally.{Tally, tallied, passes_limit, Countable}
use Rattle.reassembly.specs.Holder.{Come, Holder, value_for, said_to}
use Rattle.reassembly.specs.Run.{partial_bytes, partial_number, last_of}
use Rattle.reassembly.proofs.Fitting.{SanePartial, SaneSaid, fit-received}
use Rattle.reassembly.proofs.Runs.{partial-kept}
use Rattle.reassembly.proofs.Tallies.{FairTally, fair-tallied, not-passed}
use Rattle.receiver.specs.Entitling.{entitles}
use Rattle.receiver.specs.Receiving.{come_by, memory_of, kept_of, tally_of, remembering, is_known, or_zero, keeps_services, shown, kept_by, mode_of, wrong_state, come, outcome, refused_answer, receive_number, receive_answer, carry_after, log_after, lost_number, lost_answer, log_after_lost}
use Rattle.receiver.specs.declared.Receiver.{Receiver}
use Rattle.receiver.specs.declared.Received.{Received}
use Rattle.refusal.proofs.Rows.{past, row-off, rest-off}
use Rattle.receiver.proofs.Enough.{first_twelve, most}
use Rattle.runs.proofs.Events.{lost, came, holder_for}
use Rattle.receiver.proofs.AfterReceiving.{received_words, memory_after, kept_services, tally_after}
use Rattle.delivery.proofs.Parts.{answer_of}
use Rattle.batch.specs.declared.Batch.{Batch}
use Rattle.delivery.specs.Delivery.{Station, receive, mark_lost, of_one, station_after, logged_by, defined, alone}
use Rattle.delivery.proofs.Made.{Heard}

-- what is logged by a call that receives a PDU or marks it lost, by its answer and the log after it
abbrev pub logged_alone : Batch → List ℕ → List ℕ
logged_alone a log = cond (eqb a.refusal 0 || not (eqb (cond (eqb a.refusal 0) 1 0) 0)) (take a.words log) []

-- ---- what is remembered is what is put down

last-back : (o : Option ℕ) → last_of (is_known o) (or_zero o) ≡ o
last-back none = refl
last-back (some q) = refl

held_none : (h : Partial) → SanePartial h → length (partial_bytes h) ≡ 0 → h ≡ nothing
held_none nothing s e = refl
held_none (beginning n b) s e = absurd (omega (arith, s.1, e))

memory-back : (r : Receiver) (z : Memory) (k : Option ℕ) (t : Tally) (carry : List ℕ) → SanePartial z.partial → memory_of (remembering r z k t) (put_at carry 0 (partial_bytes z.partial)) ≡ z
unfolding memory_of remembering
memory-back r z k t carry s =
    ap₂ (λ (a : Option ℕ) (b : Partial). record { last = a; partial = b }) (last-back z.last) (partial-kept z.partial carry (held_none z.partial s))

-- a sequence that is known is in its range
abbrev pub Below : ℕ → Option ℕ → Type 0
Below range none = Unit {0}
Below range (some q) = q < range

sequence-right : (range : ℕ) (o : Option ℕ) → 0 < range → Below range o → (leb range (or_zero o) ≡ false) × ((not (is_known o) && not (eqb (or_zero o) 0)) ≡ false)
sequence-right range none z b = (lt-leb range 0 z, refl)
sequence-right range (some q) z b = (lt-leb range q b, refl)

-- applied services that are kept are of three bits, and of a mode and stream that keeps them
abbrev pub Fair : Bool → Option ℕ → Type 0
Fair keeps none = Unit {0}
Fair keeps (some v) = (v < 8) × (keeps ≡ true)

services-right : (keeps : Bool) (o : Option ℕ) → Fair keeps o → (ltb 7 (or_zero o) ≡ false) × ((not (is_known o) && not (eqb (or_zero o) 0)) ≡ false) × ((is_known o && not keeps) ≡ false)
services-right keeps none f = (refl, refl, refl)
services-right keeps (some v) f = (le-ltb 7 v (let h = f.0 in omega (arith, h)), refl, ap not f.1)

-- so are those after a PDU whose own are
fair-after : (keeps : Bool) (range q v : ℕ) (last kept : Option ℕ) → Fair keeps kept → v < 8 → Fair keeps (kept_after keeps (in_force keeps q v (forgetting range last q kept)))
fair-after false range q v last kept f h = tt
fair-after true range q v last kept f h = go (eqb q 0) (in_sequence range last q)
  where
    go : (a b : Bool) → Fair true (cond a (some v) (cond b kept none))
    go true b = (h, refl)
    go false true = f
    go false false = tt

held-right : (h : Partial) → SanePartial h
    → (ltb 4096 (length (partial_bytes h)) ≡ false) × (ltb 63 (partial_number h) ≡ false) × ((eqb (length (partial_bytes h)) 0 && not (eqb (partial_number h) 0)) ≡ false)
held-right nothing s = (refl, refl, refl)
held-right (beginning n []) s = absurd (omega (arith, s.1))
held-right (beginning n (x ∷ b)) s = (le-ltb 4096 (suc (length b)) s.2, le-ltb 63 n (omega (arith, s.3)), ap (λ (t : Bool). t && not (eqb n 0)) (eqb-suc-zero (length b)))

-- a tally within its ranges
tally-right : (t : Tally) → FairTally t
    → (ltb 63 t.last ≡ false) × ((eqb t.delivered 0 && not (eqb t.missing 0)) ≡ false) × ((eqb t.delivered 0 && not (eqb t.last 0)) ≡ false)
tally-right t f = go (eqb t.delivered 0) refl
  where
    go : (b : Bool) → eqb t.delivered 0 ≡ b → (ltb 63 t.last ≡ false) × ((b && not (eqb t.missing 0)) ≡ false) × ((b && not (eqb t.last 0)) ≡ false)
    go false e = (le-ltb 63 t.last f.last, refl, refl)
    go true e =
        let n = f.none (eqb-true t.delivered 0 e) in
        (le-ltb 63 t.last f.last, ap not (eq-eqb t.missing 0 n.0), ap not (eq-eqb t.last 0 n.1))

held-long : (h : Partial) → SanePartial h → length (partial_bytes h) ≤ 4096
held-long nothing s = omega arith
held-long (beginning n b) s = s.2

-- a PDU within its bounds is so, withheld or not
pub sane-shown : (rights : Rights) (range : ℕ) (y : Holder) (d : Come) → SaneSaid d.said → SaneSaid (said_to rights range y d)
sane-shown rights range y d s = record { psd = s.psd; pieces = s.pieces; few = s.few }

-- the rights of a receiver with this mask of entitled programs
abbrev pub rights_by : (entitled stream : ℕ) → Mode → Rights
rights_by entitled stream m = record { entitled = entitles entitled; keeps = eqb stream 0 && eqb m.sequences 8 }

module _ (mode stream register entitled : ℕ) (m : Mode) (l : listing mode stream ≡ Listed m) (range : 0 < m.sequences) where
  pub mode-is : (r : Receiver) → r.mode ≡ mode → r.stream ≡ stream → listing r.mode r.stream ≡ Listed m
  mode-is r a b = ap₂ listing a b ∙ l

  -- whether it keeps applied services
  abbrev pub keeping : Bool
  keeping = (rights_by entitled stream m).keeps

  state-right : (r : Receiver) (z : Memory) (k : Option ℕ) (t : Tally) → r.mode ≡ mode → r.stream ≡ stream → Below m.sequences z.last → SanePartial z.partial → Fair keeping k → FairTally t
      → any_of (wrong_state (remembering r z k t)) ≡ false
  unfolding remembering
  state-right r z k t a b w s f g =
      let q = sequence-right m.sequences z.last range w in
      let h = held-right z.partial s in
      let v = services-right keeping k f in
      let n = tally-right t g in
      let e : keeps_services m.sequences r ≡ keeping = ap (λ (i : ℕ). eqb i 0 && eqb m.sequences 8) b in
      let u : (is_known k && not (keeps_services m.sequences r)) ≡ false = ap (λ (t : Bool). is_known k && not t) e ∙ v.2 in
      rw (mode-is r a b, q.0, q.1, h.0, h.1, h.2, v.0, v.1, u, n.0, n.1, n.2)

  -- ---- a station stands for what a receiver holds

  pub record Shows (x : Station) (y : Holder) : Type 0 where
    pub same_mode : x.receiver.mode ≡ mode
    pub same_stream : x.receiver.stream ≡ stream
    pub same_register : x.receiver.register ≡ register
    pub same_entitled : x.receiver.entitled ≡ entitled
    pub right : any_of (wrong_state x.receiver) ≡ false
    pub room : 4096 ≤ length x.carry
    pub memory : memory_of x.receiver x.carry ≡ y.memory
    pub kept : kept_of x.receiver ≡ y.kept
    pub tally : tally_of x.receiver ≡ y.tally
    pub sane : SanePartial y.memory.partial
    pub fair : Fair keeping y.kept
    pub counted : FairTally y.tally

  -- the station that remembers z, keeps k and counted t
  abbrev pub put : Receiver → List ℕ → Memory → Option ℕ → Tally → Station
  put r carry z k t = record { receiver = remembering r z k t; carry = put_at carry 0 (partial_bytes z.partial) }

  pub shows-put : (r : Receiver) (carry : List ℕ) (y : Holder) → r.mode ≡ mode → r.stream ≡ stream → r.register ≡ register → r.entitled ≡ entitled → 4096 ≤ length carry
      → Below m.sequences y.memory.last → SanePartial y.memory.partial → Fair keeping y.kept → FairTally y.tally
      → Shows (put r carry y.memory y.kept y.tally) y
  shows-put r carry y a b g t big w s f c = record {
    same_mode = unfold remembering in a;
    same_stream = unfold remembering in b;
    same_register = unfold remembering in g;
    same_entitled = unfold remembering in t;
    right = state-right r y.memory y.kept y.tally a b w s f c;
    room = (let e = put-length carry 0 (partial_bytes y.memory.partial) (let h = held-long y.memory.partial s in omega (arith, h, big)) in omega (arith, e, big));
    memory = memory-back r y.memory y.kept y.tally carry s;
    kept = unfold remembering in last-back y.kept;
    tally = unfold remembering in refl;
    sane = s;
    fair = f;
    counted = c;
  }

  -- ---- a PDU that comes to a station

  -- the station after it
  abbrev pub taking : Station → Come → Station
  taking x c =
      let r = x.receiver in
      let n = (mode_of r).sequences in
      let d = shown n r x.carry c in
      let o = received n (memory_of r x.carry) d in
      record { receiver = remembering r (remembered n (memory_of r x.carry) d) (kept_by n r x.carry c) (tallied (tally_of r) o.entries); carry = put_at x.carry 0 (partial_bytes o.partial) }

  -- of a station that stands for y, where the PDU is d
  module _ (x : Station) (y : Holder) (v : Shows x y) (c d : Come) (e : c ≡ d) where
    mode-here : mode_of x.receiver ≡ m
    mode-here = ap mode_in (mode-is x.receiver v.same_mode v.same_stream)

    shown-is : shown (mode_of x.receiver).sequences x.receiver x.carry c ≡ said_to (rights_by entitled stream m) m.sequences y d
    shown-is = λ i. said_to (rights_by (v.same_entitled i) (v.same_stream i) (mode-here i)) (mode-here i).sequences (record { memory = v.memory i; kept = v.kept i; tally = v.tally i }) (e i)

    pub outcome-is : received (mode_of x.receiver).sequences (memory_of x.receiver x.carry) (shown (mode_of x.receiver).sequences x.receiver x.carry c)
        ≡ received m.sequences y.memory (said_to (rights_by entitled stream m) m.sequences y d)
    outcome-is = λ i. received (mode-here i).sequences (v.memory i) (shown-is i)

    kept-is : kept_by (mode_of x.receiver).sequences x.receiver x.carry c ≡ (holder_for (rights_by entitled stream m) m.sequences y (came d)).kept
    kept-is =
        λ i. kept_after (rights_by (v.same_entitled i) (v.same_stream i) (mode-here i)).keeps
        (value_for (rights_by (v.same_entitled i) (v.same_stream i) (mode-here i)) (mode-here i).sequences (record { memory = v.memory i; kept = v.kept i; tally = v.tally i }) (e i))

    pub tally-is : tallied (tally_of x.receiver) (received (mode_of x.receiver).sequences (memory_of x.receiver x.carry) (shown (mode_of x.receiver).sequences x.receiver x.carry c)).entries
        ≡ (holder_for (rights_by entitled stream m) m.sequences y (came d)).tally
    tally-is = λ i. tallied (v.tally i) (outcome-is i).entries

    -- the station after it stands for what the receiver holds after it
    pub taking-shows : SaneSaid d.said → d.said.sequence < m.sequences → d.label.services < 8 → Shows (taking x c) (holder_for (rights_by entitled stream m) m.sequences y (came d))
    unfolding remembered
    taking-shows s below narrow =
        let z = holder_for (rights_by entitled stream m) m.sequences y (came d) in
        let f = fit-received m.sequences y.memory (said_to (rights_by entitled stream m) m.sequences y d) v.sane (sane-shown (rights_by entitled stream m) m.sequences y d s) in
        let p : taking x c ≡ put x.receiver x.carry z.memory z.kept z.tally =
        (λ i. record { receiver = remembering x.receiver (remembered (mode-here i).sequences (v.memory i) (shown-is i)) (kept-is i) (tally-is i); carry = put_at x.carry 0 (partial_bytes (outcome-is i).partial) }) in
        subst (λ (t : Station). Shows t z) (sym p)
        (shows-put x.receiver x.carry z v.same_mode v.same_stream v.same_register v.same_entitled v.room below
        f.1
        (fair-after keeping m.sequences d.said.sequence d.label.services y.memory.last y.kept v.fair narrow)
        (fair-tallied (received m.sequences y.memory (said_to (rights_by entitled stream m) m.sequences y d)).entries y.tally f.0 v.counted))

  -- ---- receiving

  module _ (x : Station) (y : Holder) (v : Shows x y) (marks q log : List ℕ) (d : Come) (h : Heard mode stream register m.width marks q d) (s : SaneSaid d.said) (below : d.said.sequence < m.sequences)
      (narrow : d.label.services < 8) (bytes : (i : ℕ) → get_or q i 0 < 256) (big : 8400 ≤ length log) (within : Countable (holder_for (rights_by entitled stream m) m.sequences y (came d)).tally) where
    abbrev r : Receiver
    r = x.receiver

    abbrev carry : List ℕ
    carry = x.carry

    come-is : come marks carry q log r ≡ d
    come-is = ap₂ (λ (i : ℕ) (t : Mode). come_by i t.width (control_at (corrected_pdu_with marks q)) (corrected_pdu_with marks q)) v.same_register (ap mode_in (mode-is r v.same_mode v.same_stream)) ∙ h.comes

    -- none of the rows 1 to 12 applies
    first-twelve : first_of (first_twelve marks carry q log r) ≡ 0
    unfolding judged
    first-twelve =
        let y = corrected_pdu_with marks q in
        let c = control_at y in
        let e1 : any_of (wrong_state r) ≡ false = v.right in
        let e2 : ltb (length carry) 4096 ≡ false = le-ltb (length carry) 4096 v.room in
        let e5 : not (eqb (listing_number (listing_of c)) 0) ≡ false = row-off (corrected_tests c y) 0 refl h.reads in
        let em : eqb c.mode r.mode ≡ true = eq-eqb c.mode r.mode (h.same_mode ∙ sym v.same_mode) in
        let es : eqb c.stream r.stream ≡ true = eq-eqb c.stream r.stream (h.same_stream ∙ sym v.same_stream) in
        rw (e1, e2, h.size, h.allowed, h.correctable, e5, em, es) (rest-off (corrected_tests c y) 1 refl h.reads)

    words_are : received_words marks carry q log r ≡ log_words (received m.sequences y.memory (said_to (rights_by entitled stream m) m.sequences y d)).entries
    words_are = ap (λ (o : Outcome). log_words o.entries) (outcome-is x y v (come marks carry q log r) d come-is)

    pub accepts : receive_number marks carry q log r ≡ 0
    unfolding receive_number
    accepts =
        let n = most marks carry q log r bytes first-twelve in
        let z : ltb (length log) (length (received_words marks carry q log r)) ≡ false = le-ltb (length log) (length (received_words marks carry q log r)) (omega (arith, n, big)) in
        let w : passes_limit (tally_after marks carry q log r) ≡ false = ap passes_limit (tally-is x y v (come marks carry q log r) d come-is) ∙ not-passed (holder_for (rights_by entitled stream m) m.sequences y (came d)).tally within in
        past (first_twelve marks carry q log r) ((ltb (length log) (length (received_words marks carry q log r)), 13) ∷ (passes_limit (tally_after marks carry q log r), 27) ∷ []) refl first-twelve
        ∙ ap₂ (λ (a b : Bool). cond a 13 (cond b 27 0)) z w

    answer-is : receive_answer marks carry q log r ≡ record { refusal = 0; wrong = 0; words = length (received_words marks carry q log r); receiver = remembering r (memory_after marks carry q log r) (kept_services marks carry q log r) (tally_after marks carry q log r) }
    unfolding receive_answer
    answer-is = let t : eqb (receive_number marks carry q log r) 0 ≡ true = eq-eqb (receive_number marks carry q log r) 0 accepts in rw t

    pub receive-accepted : (answer_of x (receive (alone marks q) log)).refusal ≡ 0
    receive-accepted = ap (λ (a : Received). a.refusal) answer-is

    log_is : log_after marks carry q log r ≡ put_at log 0 (received_words marks carry q log r)
    unfolding log_after
    log_is =
        let t : eqb (receive_number marks carry q log r) 0 ≡ true = eq-eqb (receive_number marks carry q log r) 0 accepts in
        ap (λ (b : Bool). cond b (put_at log 0 (received_words marks carry q log r)) log) t

    carry-is : carry_after marks carry q log r ≡ put_at carry 0 (partial_bytes (outcome marks carry q log r).partial)
    unfolding carry_after
    carry-is =
        let t : eqb (receive_number marks carry q log r) 0 ≡ true = eq-eqb (receive_number marks carry q log r) 0 accepts in
        ap (λ (b : Bool). cond b (put_at carry 0 (partial_bytes (outcome marks carry q log r).partial)) carry) t

    pub receive-logged : logged_by defined x (receive (alone marks q) log) ≡ log_words (received m.sequences y.memory (said_to (rights_by entitled stream m) m.sequences y d)).entries
    receive-logged =
        ap₂ (λ (a : Received) (w : List ℕ). logged_alone (of_one a) w) answer-is log_is
        ∙ take_put log (received_words marks carry q log r)
        ∙ words_are

    receive-station : station_after defined x (receive (alone marks q) log) ≡ taking x (come marks carry q log r)
    receive-station = ap₂ (λ (a : Received) (c : List ℕ). record { receiver = a.receiver; carry = c }) answer-is carry-is

    pub receive-shows : Shows (station_after defined x (receive (alone marks q) log)) (holder_for (rights_by entitled stream m) m.sequences y (came d))
    receive-shows = subst (λ (t : Station). Shows t (holder_for (rights_by entitled stream m) m.sequences y (came d))) (sym receive-station) (taking-shows x y v (come marks carry q log r) d come-is s below narrow)

    -- the station after it, of a PDU that comes as d
    pub receive-takes : station_after defined x (receive (alone marks q) log) ≡ taking x d
    receive-takes = receive-station ∙ ap (taking x) come-is

  -- ---- marking lost

  module _ (x : Station) (y : Holder) (v : Shows x y) (log : List ℕ) (big : 8400 ≤ length log) where
    abbrev r' : Receiver
    r' = x.receiver

    lost-zero : lost_number log r' ≡ 0
    unfolding lost_number log_words entry_words
    lost-zero = let z : ltb (length log) 1 ≡ false = le-ltb (length log) 1 (omega (arith, big)) in rw (v.right, z)

    lost-answer : lost_answer log r' ≡ record { refusal = 0; wrong = 0; words = length (log_words lost_entries); receiver = remembering r' forgotten none (tally_of r') }
    unfolding lost_answer
    lost-answer =
        let t : eqb (lost_number log r') 0 ≡ true = eq-eqb (lost_number log r') 0 lost-zero in
        ap (λ (b : Bool). cond b (record { refusal = 0; wrong = 0; words = length (log_words lost_entries); receiver = remembering r' forgotten none (tally_of r') }) (refused_answer r' (lost_number log r') 0)) t

    lost-log : log_after_lost log r' ≡ put_at log 0 (log_words lost_entries)
    unfolding log_after_lost
    lost-log =
        let t : eqb (lost_number log r') 0 ≡ true = eq-eqb (lost_number log r') 0 lost-zero in
        ap (λ (b : Bool). cond b (put_at log 0 (log_words lost_entries)) log) t

    pub lost-accepted : (answer_of x (mark_lost log)).refusal ≡ 0
    lost-accepted = ap (λ (a : Received). a.refusal) lost-answer

    pub lost-logged : logged_by defined x (mark_lost log) ≡ log_words lost_entries
    lost-logged =
        ap₂ (λ (a : Received) (w : List ℕ). logged_alone (of_one a) w) lost-answer lost-log
        ∙ take_put log (log_words lost_entries)

    pub lost-shows : Shows (station_after defined x (mark_lost log)) (holder_for (rights_by entitled stream m) m.sequences y lost)
    unfolding tallied
    lost-shows =
        let z = holder_for (rights_by entitled stream m) m.sequences y lost in
        let e : station_after defined x (mark_lost log) ≡ record { receiver = remembering r' forgotten none (tally_of r'); carry = x.carry } = ap (λ (a : Received). record { receiver = a.receiver; carry = x.carry }) lost-answer in
        let p : put r' x.carry forgotten none z.tally ≡ record { receiver = remembering r' forgotten none (tally_of r'); carry = x.carry } =
        ap₂ (λ (t : Tally) (c : List ℕ). record { receiver = remembering r' forgotten none t; carry = c }) (sym v.tally) (put-nil x.carry 0) in
        subst (λ (t : Station). Shows t z) (p ∙ sym e) (shows-put r' x.carry z v.same_mode v.same_stream v.same_register v.same_entitled v.room tt tt tt v.counted)
