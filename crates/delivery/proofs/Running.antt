-- A station whose receiver number 1 does not turn down (Interruptions.antt, `Running`) is one after every call, refused or not.
use mathlib.Core.Path.{◌≡◌, refl, sym, ap, subst, ◌∙◌}
use mathlib.Core.Bool.{Bool, true, false, not, ◌&&◌, ◌||◌, cond}
use mathlib.Core.List.{List, [], ◌∷◌, ◌++◌}
use mathlib.Core.Option.{none}
use Prim.Native.Nat.{ℕ, zero, suc, ◌<◌, ◌≤◌}
use native.Mathlib.Omega.{arith}
use lib.Dec.{eqb, ltb, leb}
use borrow.Author.Tests.{eqb-true, eqb-false, leb-true, ltb-false, not-false}
use lib.ListN.{length, get_or, take, drop}
use lib.Seq.{length-take-le}
use Rattle.packet_log.specs.Log.{log_words}
use Rattle.packet_log.proofs.Packets.{Bytes as log_bytes}
use Rattle.refusal.specs.Refusal.{first_of}
use Rattle.refusal.proofs.Rows.{passed, row-off, rest-off, none-at}
use Rattle.modes.specs.Modes.{listing, listing_number}
use Rattle.modes.specs.declared.Mode.{Mode}
use Rattle.modes.specs.declared.Listing.{Listing}
use Rattle.modes.specs.declared.Listing.TheVariants.{Listed, Refused}
use Rattle.modes.proofs.Lines.{refusal-five}
use Rattle.modes.proofs.Listable.{listable}
use Rattle.header.proofs.Unique.{all-bytes}
use Rattle.buffer.specs.Buffer.{put_at}
use Rattle.buffer.proofs.Laws.{put-nil}
use Rattle.layout.specs.Control.{control_at}
use Rattle.correction.specs.Correction.{correction_of, corrected_pdu}
use Rattle.correction.specs.Marks.{marks_refusal, corrected_pdu_with}
use Rattle.correction.proofs.Answers.{corrected-allowed, no-marks-pdu}
use Rattle.pdu.specs.Reading.{mode_in, listing_of, reader_tests, wrong_of}
use Rattle.pdu.proofs.Assembling.{nop-small}
use Rattle.reassembly.specs.Reassembly.{Memory, forgotten, lost_entries}
use Rattle.reassembly.specs.Tally.{passes_limit, Countable}
use Rattle.reassembly.specs.Holder.{Come, Holder}
use Rattle.reassembly.specs.Run.{partial_bytes, partial_of, last_of}
use Rattle.reassembly.proofs.Fitting.{SanePartial, SaneSaid}
use Rattle.reassembly.proofs.Tallies.{within-limit}
use Rattle.receiver.specs.Receiving.{said_by, memory_of, holder_of, tally_of, remembering, mode_of, wrong_state, refused_answer, come, outcome, receive_number, receive_answer, carry_after, pdu_after, log_after, lost_number, lost_answer}
use Rattle.receiver.specs.Steps.{state_tests, stream_tests}
use Rattle.receiver.specs.declared.Receiver.{Receiver}
use Rattle.receiver.specs.declared.Received.{Received}
use Rattle.receiver.proofs.Rows.{both-on, same-listing}
use Rattle.receiver.proofs.Counting.{counts-fair}
use Rattle.receiver.proofs.Enough.{first_twelve, corrected-length}
use Rattle.writer.specs.RoundTrip.{Bytes}
use Rattle.batch.specs.Batches.{Result, unchanged, followed, one_by_one, batch_number, batch_received}
use Rattle.diversity.specs.Diversity.{PairResult, correctable, pair_said, lower, copy_number, differ, pair_as as pair_of, unchanged_pair, wrong_in_pair, pair_tests, pair_number, together, received_by, pair_received}
use Rattle.pair.proofs.Calling.{corrected-is}
use Rattle.pair.proofs.Enough.{taken as taken_pair}
use Rattle.runs.proofs.Events.{came, holder_for}
use Rattle.receiver.proofs.AfterReceiving.{received_words, memory_after, kept_services, tally_after}
use Rattle.diversity.proofs.AfterPair.{pair_words, pair_tally}
use Rattle.delivery.specs.Delivery.{Station, Call, receive, batch, mark_lost, defined, station_after, alone, paired}
use Rattle.delivery.specs.Interruptions.{Running, BytesIn}
use Rattle.delivery.proofs.Made.{said_in, label-in, bytes_of, bytes_drop, bytes_take}
use Rattle.delivery.proofs.Diversity.{pair-said-in, pair-label-in}
use Rattle.delivery.proofs.Serving.{Fair, rights_by, Shows, taking, taking-shows, shows-put}
use Rattle.delivery.proofs.Accepted.{narrow-label, corrected-bytes, sane-said, below-range, sane-pair}

-- ---- such a station stands for what it holds

bytes_back : (l : List ℕ) → log_bytes l → Bytes l
bytes_back [] h = tt
bytes_back (x ∷ l) h = (h.0, bytes_back l h.1)

sane-held : (held number : ℕ) (c : List ℕ) → held ≤ 4096 → number ≤ 63 → 4096 ≤ length c → Bytes (take held c) → SanePartial (partial_of held number c)
sane-held zero number c h n big b = tt
sane-held (suc k) number c h n big b =
    let e : length (take (suc k) c) ≡ suc k = length-take-le (suc k) c (omega (arith, h, big)) in
    (bytes_of (take (suc k) c) b, omega (arith, e), omega (arith, e, h), omega (arith, n))

held_bytes : (held number : ℕ) (c : List ℕ) → SanePartial (partial_of held number c) → Bytes (take held c)
held_bytes zero number c s = tt
held_bytes (suc k) number c s = bytes_back (take (suc k) c) s.0

fair-kept : (known keeps : Bool) (v : ℕ) → ltb 7 v ≡ false → (known && not keeps) ≡ false → Fair keeps (last_of known v)
fair-kept false keeps v s k = tt
fair-kept true keeps v s k = (let h = ltb-false 7 v s in omega (arith, h), not-false keeps k)

-- the table has a line for its mode and stream
pub listed_by : (l : Listing) (mode stream : ℕ) → listing mode stream ≡ l → not (eqb (listing_number l) 0) ≡ false → l ≡ Listed (mode_in l)
listed_by (Listed m) mode stream e z = refl
listed_by (Refused n) mode stream e z =
    let f : n ≡ 5 = refusal-five mode stream n e in
    let k : n ≡ 0 = eqb-true n 0 (not-false (eqb n 0) z) in
    absurd (omega (arith, f, k))

-- receiver and carry after a pair
abbrev pair_station : PairResult → Station
pair_station u = record { receiver = u.answer.receiver; carry = u.carry }

module _ (x : Station) (h : Running x) where
  abbrev r : Receiver
  r = x.receiver

  abbrev m : Mode
  m = mode_of r

  pub line : listing r.mode r.stream ≡ Listed m
  line = listed_by (listing r.mode r.stream) r.mode r.stream refl (none-at (wrong_state r) 0 h.right)

  pub range : 0 < m.sequences
  range = let k = (listable r.mode r.stream m line).least in omega (arith, k)

  abbrev Stands : Station → Holder → Type 0
  Stands = Shows r.mode r.stream r.register r.entitled m line range

  pub stands : Stands x (holder_of r x.carry)
  unfolding memory_of
  stands =
      let held = ltb-false 4096 r.held (none-at (wrong_state r) 3 h.right) in
      let number = ltb-false 63 r.number (none-at (wrong_state r) 4 h.right) in
      record {
        same_mode = refl;
        same_stream = refl;
        same_register = refl;
        same_entitled = refl;
        right = h.right;
        room = h.room;
        memory = refl;
        kept = refl;
        tally = refl;
        sane = sane-held r.held r.number x.carry held number h.room h.held;
        fair = fair-kept r.serviced (rights_by r.entitled r.stream m).keeps r.services (none-at (wrong_state r) 6 h.right) (none-at (wrong_state r) 8 h.right);
        counted = counts-fair r h.right;
      }

  -- one that stands for something is such a station
  pub runs_on : (y : Station) (z : Holder) → Stands y z → Countable z.tally → Running y
  unfolding memory_of
  runs_on y z s c = record {
    right = s.right;
    register = subst (λ (n : ℕ). n < 256) (sym s.same_register) h.register;
    entitled = subst (λ (n : ℕ). n < 256) (sym s.same_entitled) h.entitled;
    counts = subst Countable (sym s.tally) c;
    room = s.room;
    held = held_bytes y.receiver.held y.receiver.number y.carry (subst (λ (k : Memory). SanePartial k.partial) (sym s.memory) s.sane);
  }

  -- a PDU within its bounds that comes to it
  pub taken_runs : (c : Come) → SaneSaid c.said → c.said.sequence < m.sequences → c.label.services < 8
      → Countable (holder_for (rights_by r.entitled r.stream m) m.sequences (holder_of r x.carry) (came c)).tally
      → Running (taking r.mode r.stream r.register r.entitled m line range x c)
  taken_runs c s below narrow few =
      runs_on (taking r.mode r.stream r.register r.entitled m line range x c) (holder_for (rights_by r.entitled r.stream m) m.sequences (holder_of r x.carry) (came c))
      (taking-shows r.mode r.stream r.register r.entitled m line range x (holder_of r x.carry) stands c c refl s below narrow) few

  -- ---- receiving

  module _ (marks pdu log : List ℕ) (b : Bytes pdu) where
    abbrev number : ℕ
    number = receive_number marks x.carry pdu log r

    abbrev y : List ℕ
    y = corrected_pdu_with marks pdu

    abbrev d : Come
    d = come marks x.carry pdu log r

    abbrev last-two : List (Bool × ℕ)
    last-two = (ltb (length log) (length (received_words marks x.carry pdu log r)), 13) ∷ (passes_limit (tally_after marks x.carry pdu log r), 27) ∷ []

    module _ (e : number ≡ 0) where
      rows : first_of (first_twelve marks x.carry pdu log r) ≡ 0
      unfolding receive_number
      rows = (passed 0 (first_twelve marks x.carry pdu log r) last-two refl e).0

      -- 27 does not apply
      few : Countable (tally_after marks x.carry pdu log r)
      unfolding receive_number
      few = within-limit (tally_after marks x.carry pdu log r) (row-off last-two 1 refl (passed 0 (first_twelve marks x.carry pdu log r) last-two refl e).1)

      off : (k : ℕ) → (get_or (first_twelve marks x.carry pdu log r) k (false, 0)).0 ≡ false
      off k = row-off (first_twelve marks x.carry pdu log r) k refl rows

      size : (96 ≤ length pdu) × (length pdu ≤ 20480)
      size = let s = both-on (leb 96 (length pdu)) (leb (length pdu) 20480) (off 2) in (leb-true 96 (length pdu) s.0, leb-true (length pdu) 20480 s.1)

      allowed : marks_refusal marks ≡ 0
      allowed = eqb-true (marks_refusal marks) 0 (not-false (eqb (marks_refusal marks) 0) (off 3))

      right : first_of (reader_tests m (control_at y) y) ≡ 0
      right = ap (λ (l : Listing). first_of (reader_tests (mode_in l) (control_at y) y)) (sym (same-listing r (control_at y) (off 6))) ∙ rest-off (first_twelve marks x.carry pdu log r) 7 refl rows

      bytes : Bytes y
      bytes = corrected-bytes marks pdu size.0 size.1 b allowed

      long : length y ≤ 20480
      long = let l = corrected-length marks pdu size.0 size.1 (all-bytes pdu b) allowed in let s = size.1 in omega (arith, l, s)

      taken : Running (taking r.mode r.stream r.register r.entitled m line range x d)
      unfolding said_by
      taken =
          taken_runs d (subst SaneSaid (sym (said_in r.register m.width (control_at y) y)) (sane-said r.register m (control_at y) y bytes right long (nop-small y)))
          (subst (λ (n : ℕ). n < m.sequences) (sym (ap (λ s. s.sequence) (said_in r.register m.width (control_at y) y))) (below-range r.register m (control_at y) y bytes right))
          (subst (λ (n : ℕ). n < 8) (sym (ap (λ s. s.services) (label-in r.register m.width (control_at y) y))) (narrow-label m.width (control_at y) y))
          few

    pub receive-runs : Running (station_after defined x (receive (alone marks pdu) log))
    unfolding receive_answer carry_after
    receive-runs = go (eqb number 0) refl
      where
        go : (t : Bool) → eqb number 0 ≡ t → Running (record {
          receiver = (cond t (record { refusal = 0; wrong = 0; words = length (received_words marks x.carry pdu log r); receiver = remembering r (memory_after marks x.carry pdu log r) (kept_services marks x.carry pdu log r) (tally_after marks x.carry pdu log r) }) (refused_answer r number (wrong_of y number))).receiver;
          carry = cond t (put_at x.carry 0 (partial_bytes (outcome marks x.carry pdu log r).partial)) x.carry;
        })
        go true e = taken (eqb-true number 0 e)
        go false e = h

  -- ---- marking lost

  pub lost-runs : (log : List ℕ) → Running (station_after defined x (mark_lost log))
  unfolding lost_answer
  lost-runs log = go (eqb (lost_number log r) 0)
    where
      none-held : Holder
      none-held = record { memory = forgotten; kept = none; tally = tally_of r }

      lost : Running (record { receiver = remembering r forgotten none (tally_of r); carry = x.carry })
      lost =
          subst (λ (c : List ℕ). Running (record { receiver = remembering r forgotten none (tally_of r); carry = c })) (put-nil x.carry 0)
          (runs_on (record { receiver = remembering r forgotten none (tally_of r); carry = put_at x.carry 0 [] }) none-held
          (shows-put r.mode r.stream r.register r.entitled m line range r x.carry none-held refl refl refl refl h.room tt tt tt (counts-fair r h.right)) h.counts)

      go : (t : Bool) → Running (record { receiver = (cond t (record { refusal = 0; wrong = 0; words = length (log_words lost_entries); receiver = remembering r forgotten none (tally_of r) }) (refused_answer r (lost_number log r) 0)).receiver; carry = x.carry })
      go true = lost
      go false = h

  -- ---- receiving a pair

  -- the lower of two numbers is 0 only where both are
  none-lower : (a b : ℕ) → lower a b ≡ 0 → a ≡ 0
  none-lower a b = go (eqb a 0) (eqb b 0) (leb a b) refl refl
    where
      go : (s t u : Bool) → eqb a 0 ≡ s → eqb b 0 ≡ t → cond s b (cond (t || u) a b) ≡ 0 → a ≡ 0
      go true t u p q e = eqb-true a 0 p
      go false true u p q e = e
      go false false true p q e = e
      go false false false p q e = absurd (eqb-false b 0 q e)

  module _ (p q log : List ℕ) (bp : Bytes p) (bq : Bytes q) (cp : correctable (correction_of p) ≡ true) (cq : correctable (correction_of q) ≡ true) where
    abbrev one : List ℕ
    one = corrected_pdu p

    abbrev other : List ℕ
    other = corrected_pdu q

    abbrev both : ℕ
    both = pair_number x.carry p q log r

    abbrev least : ℕ
    least = lower (copy_number r one) (copy_number r other)

    abbrev pair_came : Come
    pair_came = pair_of x.carry p q log r

    copy-bytes : (l : List ℕ) → Bytes l → correctable (correction_of l) ≡ true → Bytes (corrected_pdu l) × (length (corrected_pdu l) ≤ 20480)
    unfolding marks_refusal
    copy-bytes l b c =
        let n = corrected-is (correction_of l) c in
        let s = corrected-allowed l n.0 n.1 in
        let e = ap length (sym (no-marks-pdu l)) ∙ corrected-length [] l s.0 s.1 (all-bytes l b) refl in
        let k = s.1 in
        (subst Bytes (no-marks-pdu l) (corrected-bytes [] l s.0 s.1 b refl), omega (arith, e, k))

    abbrev last-three : List (Bool × ℕ)
    last-three = (differ one other, 20) ∷ (ltb (length log) (length (pair_words x.carry p q log r)), 13) ∷ (passes_limit (pair_tally x.carry p q log r), 27) ∷ []

    module _ (e : both ≡ 0) where
      after-state : (least ≡ 0) × (differ one other ≡ false) × Countable (pair_tally x.carry p q log r)
      unfolding pair_number
      after-state = go (eqb least 0) refl (passed 0 (state_tests r (length x.carry)) (drop 2 (pair_tests x.carry p q log r)) refl e).1
        where
          go : (t : Bool) → eqb least 0 ≡ t → cond (not t) least (first_of last-three) ≡ 0 → (least ≡ 0) × (differ one other ≡ false) × Countable (pair_tally x.carry p q log r)
          go true f k = (eqb-true least 0 f, row-off last-three 0 refl k, within-limit (pair_tally x.carry p q log r) (row-off last-three 2 refl k))
          go false f k = absurd (eqb-false least 0 f k)

      one_right : first_of (reader_tests m (control_at one) one) ≡ 0
      unfolding copy_number
      one_right =
          let c = control_at one in
          let ts = stream_tests r c ++ reader_tests (mode_in (listing_of c)) c one in
          let z : first_of ts ≡ 0 = none-lower (copy_number r one) (copy_number r other) after-state.0 in
          ap (λ (l : Listing). first_of (reader_tests (mode_in l) c one)) (sym (same-listing r c (row-off ts 1 refl z))) ∙ rest-off ts 2 refl z

      pair-taken : Running (taking r.mode r.stream r.register r.entitled m line range x pair_came)
      unfolding said_by pair_said
      pair-taken =
          let a = copy-bytes p bp cp in
          let b = copy-bytes q bq cq in
          taken_runs pair_came
          (subst SaneSaid (sym (pair-said-in r.register m.width (control_at one) one other)) (sane-pair r.register m one other a.0 b.0 one_right after-state.1 a.1))
          (subst (λ (n : ℕ). n < m.sequences) (sym (ap (λ s. s.sequence) (pair-said-in r.register m.width (control_at one) one other))) (below-range r.register m (control_at one) one a.0 one_right))
          (subst (λ (n : ℕ). n < 8) (sym (ap (λ s. s.services) (pair-label-in r.register m.width (control_at one) one other))) (narrow-label m.width (control_at one) one))
          after-state.2

    together-runs : Running (pair_station (together x.carry p q log r))
    unfolding together
    together-runs = go (eqb both 0) refl
      where
        go : (t : Bool) → eqb both 0 ≡ t → Running (pair_station (cond t (taken_pair x.carry p q log r) (unchanged_pair x.carry p q log r both (wrong_in_pair one other both))))
        go true e = pair-taken (eqb-true both 0 e)
        go false e = h

  pub pair_runs : (p q log : List ℕ) → Bytes p → Bytes q → Running (station_after defined x (receive (paired p q) log))
  unfolding pair_received
  pair_runs p q log bp bq = go (correctable (correction_of p)) (correctable (correction_of q)) refl refl
    where
      go : (s t : Bool) → correctable (correction_of p) ≡ s → correctable (correction_of q) ≡ t → Running (pair_station (received_by x.carry p q log r s t))
      go true true a b = together-runs p q log bp bq a b
      go true false a b = receive-runs [] p log bp
      go false true a b = receive-runs [] q log bq
      go false false a b = h

-- ---- a batch

abbrev batch_station : Result → Station
batch_station u = record { receiver = u.answer.receiver; carry = u.carry }

running-cond : (t : Bool) (u v : Result) → Running (batch_station u) → Running (batch_station v) → Running (batch_station (cond t u v))
running-cond true u v a b = a
running-cond false u v a b = b

each-runs : (ns : List ℕ) (x : Station) (pdus log : List ℕ) → Running x → Bytes pdus → Running (batch_station (one_by_one ns x.receiver x.carry pdus log))
unfolding one_by_one
each-runs [] x pdus log h b = h
each-runs (n ∷ ns) x pdus log h b =
    let a : Received = receive_answer [] x.carry (take n pdus) log x.receiver in
    let logged : List ℕ = log_after [] x.carry (take n pdus) log x.receiver in
    running-cond (eqb a.refusal 0)
    (followed 1 a.words (pdu_after [] x.carry (take n pdus) log x.receiver) (take a.words logged) (one_by_one ns a.receiver (carry_after [] x.carry (take n pdus) log x.receiver) (drop n pdus) (drop a.words logged)))
    (unchanged a.refusal a.wrong x.receiver x.carry pdus log)
    (each-runs ns (station_after defined x (receive (alone [] (take n pdus)) log)) (drop n pdus) (drop a.words logged) (receive-runs x h [] (take n pdus) log (bytes_take n pdus b)) (bytes_drop n pdus b)) h

batch-runs : (x : Station) (lengths pdus log : List ℕ) → Running x → Bytes pdus → Running (station_after defined x (batch lengths pdus log))
unfolding batch_received
batch-runs x lengths pdus log h b =
    let n : ℕ = batch_number lengths x.carry pdus log x.receiver in
    running-cond (eqb n 0) (one_by_one lengths x.receiver x.carry pdus log) (unchanged n 0 x.receiver x.carry pdus log) (each-runs lengths x pdus log h b) h

-- ---- every call

pub still-runs : (x : Station) (c : Call) → Running x → BytesIn c → Running (station_after defined x c)
still-runs x (receive (alone marks pdu) log) h b = receive-runs x h marks pdu log b
still-runs x (batch lengths pdus log) h b = batch-runs x lengths pdus log h b
still-runs x (receive (paired first second) log) h b = pair_runs x h first second log b.0 b.1
still-runs x (mark_lost log) h b = lost-runs x h log
