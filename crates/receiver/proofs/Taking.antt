-- A PDU by what its header says, its marks and causes: withheld or not, its words and packets counted, and put down where the log has room and no count passes its limit.
use mathlib.Core.Path.{◌≡◌, refl, sym, ap, ◌∙◌}
use mathlib.Core.Bool.{Bool, true, false, cond}
use mathlib.Core.List.{List}
use mathlib.Core.Option.{Option, none, some}
use Prim.Native.Nat.{ℕ, ◌+◌, ◌<◌, ◌≤◌}
use native.Mathlib.Nat.{zero-add}
use native.Mathlib.Omega.{arith}
use lib.ListN.{length, get_or}
use borrow.Author.Tests.{lt-ltb, le-ltb}
use Rattle.packet_log.specs.Log.{log_words}
use Rattle.reassembly.specs.Reassembly.{Outcome, received, remembered}
use Rattle.reassembly.specs.Rights.{forgetting, in_force, kept_after, withheld_by, under}
use Rattle.reassembly.specs.Run.{partial_bytes, partial_number, run_after, keeps, writes, Did, Room, place_at, Parsed, said_of, last_of, memory_by}
use Rattle.reassembly.specs.Count.{count_all}
use Rattle.reassembly.specs.Tally.{Tally, tallied, passes_limit, Countable}
use Rattle.reassembly.specs.declared.Forecast.{Forecast}
use Rattle.reassembly.specs.declared.Head.{Head}
use Rattle.reassembly.specs.declared.Run.{Run}
use Rattle.reassembly.specs.declared.State.{State}
use Rattle.reassembly.proofs.Counts.{after_entries, count-received}
use Rattle.reassembly.proofs.Tallies.{within-limit}
use Rattle.receiver.specs.Entitling.{entitles}
use Rattle.receiver.specs.Receiving.{memory_of, kept_of, tally_of, is_known, or_zero, keeps_services, in_force_at, shown, kept_by, remembering, refused_answer, outcome_in, log_too_short, tally_by, taken_answer}
use Rattle.receiver.specs.Steps.{state_of, services_of, come_of, Usable, accepted_after, Takes}
use Rattle.receiver.specs.declared.Receiver.{Receiver}
use Rattle.receiver.specs.declared.Received.{Received}
use Rattle.receiver.specs.declared.Services.{Services}
use Rattle.receiver.proofs.Answering.{answered-refused, answered-accepted}
use Rattle.receiver.proofs.Bounds.{held-bounded, words-bounded}
use Rattle.receiver.proofs.Saying.{same_memory}

-- ---- applied services, known or not

known-again : (v : Option ℕ) → last_of (is_known v) (or_zero v) ≡ v
known-again none = refl
known-again (some q) = refl

kept-services : (b : Bool) (v : Option ℕ) → cond b (services_of v) (services_of none) ≡ services_of (kept_after b v)
kept-services true v = refl
kept-services false v = refl

-- the applied services in force at a PDU with this header
abbrev pub force_at : ℕ → Receiver → Head → Option ℕ
force_at range r head = in_force (keeps_services range r) head.sequence head.services (forgetting range (last_of r.known r.sequence) head.sequence (kept_of r))

value-is : (range : ℕ) (r : Receiver) (head : Head) (marks causes y carry : List ℕ) → force_at range r head ≡ in_force_at range r carry (come_of head marks causes y)
unfolding said_of memory_of
value-is range r head marks causes y carry = refl

-- ---- what is known before the words are counted
pub record Ready (r : Receiver) (head : Head) (y marks carry : List ℕ) (state : State) : Type 0 where
  pub fine : Usable r carry
  pub whole : Parsed head y marks
  pub stated : state ≡ state_of r

module _ {r : Receiver} {head : Head} {y marks carry : List ℕ} {state : State} (ready : Ready r head y marks carry state) where
  fine : Usable r carry
  fine = ready.fine

  whole : Parsed head y marks
  whole = ready.whole

  last : state.last < 255
  last = rw ready.stated fine.sequence

  small : state.held ≤ 4096
  small = rw ready.stated fine.held

  plain : state.held ≡ 0 → state.number ≡ 0
  plain = rw ready.stated fine.number

  -- what is counted so far
  abbrev pub Counted : Tally → Type 0
  Counted t = (t ≡ tally_of r) × (t.delivered ≤ 4294967295) × (t.missing ≤ 4294967295)

  pub needed : (t : Tally) → Counted t
      → ((state.last < 255) × (state.held ≤ 4096)) × (((head.nop ≤ 63) × (head.psd ≤ place_at marks 0)) × (((k : ℕ) → k < head.nop → place_at marks k < get_or marks (k + 1) 0) × ((t.delivered ≤ 4294967295) × (t.missing ≤ 4294967295) × (t.last ≤ 63))))
  needed t b = ((last, small), ((whole.marked.few, whole.psd), (whole.marked.rising, (b.1, b.2, rw b.0 fine.last))))

  -- what is known once the words and the packets are counted
  pub record Weighed (range : ℕ) (causes : List ℕ) : Type 0 where
    pub services : Services
    pub in_force_here : services ≡ services_of (force_at range r head)
    pub withheld : Bool
    pub withheld_here : withheld ≡ withheld_by (entitles r.entitled) head.program (last_of services.known services.value)
    pub before : Tally
    pub counted_before : Counted before
    pub count : Forecast
    pub forecast : count ≡ count_all withheld state range head marks causes before

  module _ {range : ℕ} {causes : List ℕ} (k : Weighed range causes) (log : List ℕ) where
    abbrev services : Services
    services = k.services

    abbrev w : Bool
    w = k.withheld

    abbrev count : Forecast
    count = k.count

    abbrev pub Accepts : Outcome
    Accepts = received range (memory_by state carry) (under w (said_of head marks causes y))

    withheld-as : w ≡ withheld_by (entitles r.entitled) head.program (in_force_at range r carry (come_of head marks causes y))
    withheld-as = k.withheld_here ∙ ap (λ (s : Services). withheld_by (entitles r.entitled) head.program (last_of s.known s.value)) k.in_force_here ∙ ap (withheld_by (entitles r.entitled) head.program) (known-again (force_at range r head) ∙ value-is range r head marks causes y carry)

    said-as : under w (said_of head marks causes y) ≡ shown range r carry (come_of head marks causes y)
    said-as = ap (λ (b : Bool). under b (said_of head marks causes y)) withheld-as

    same : Accepts ≡ outcome_in range (come_of head marks causes y) r carry log
    same = λ i. received range ((ap (λ (s : State). memory_by s carry) ready.stated ∙ same_memory r carry) i) (said-as i)

    as-logged : count ≡ after_entries (record { words = 0; tally = k.before }) Accepts.entries
    as-logged = k.forecast ∙ count-received w state range head marks causes y carry k.before small fine.room whole

    counted : count.words ≡ length (log_words Accepts.entries)
    unfolding after_entries
    counted = ap (λ (x : Forecast). x.words) as-logged ∙ zero-add (length (log_words Accepts.entries))

    counted-here : count.words ≡ length (log_words (outcome_in range (come_of head marks causes y) r carry log).entries)
    counted-here = counted ∙ ap (λ (o : Outcome). length (log_words o.entries)) same

    tally-here : count.tally ≡ tally_by range (come_of head marks causes y) r carry log
    unfolding after_entries
    tally-here = ap (λ (x : Forecast). x.tally) as-logged ∙ (λ i. tallied (k.counted_before.0 i) (same i).entries)

    -- 13: the log is too short
    pub too_short : (a : Received) → length log < count.words → a ≡ refused_answer r 13 0 → Takes range (come_of head marks causes y) r carry log a carry log
    too_short a h q =
        let t : log_too_short range (come_of head marks causes y) r carry log ≡ true =
        lt-ltb (length log) (length (log_words (outcome_in range (come_of head marks causes y) r carry log).entries)) (omega (arith, counted-here)) in
        rw t (answered-refused range (come_of head marks causes y) r carry log 13 0 a (λ z. omega arith) q)

    module _ (h : count.words ≤ length log) (over : Bool) (eo : over ≡ passes_limit count.tally) where
      room : log_too_short range (come_of head marks causes y) r carry log ≡ false
      room = le-ltb (length log) (length (log_words (outcome_in range (come_of head marks causes y) r carry log).entries)) (omega (arith, counted-here))

      passes : (b : Bool) → over ≡ b → passes_limit (tally_by range (come_of head marks causes y) r carry log) ≡ b
      passes b e = ap passes_limit (sym tally-here) ∙ sym eo ∙ e

      -- 27: a count passes its limit
      pub too_many : (a : Received) → over ≡ true → a ≡ refused_answer r 27 0 → Takes range (come_of head marks causes y) r carry log a carry log
      too_many a e q = rw (room, passes true e) (answered-refused range (come_of head marks causes y) r carry log 27 0 a (λ z. omega arith) q)

      pub accepts : (state.last < 255) × (((state.held ≤ 4096) × (state.held ≡ 0 → state.number ≡ 0)) × ((4096 ≤ length carry) × (Parsed head y marks × Room Accepts 0 log)))
      unfolding Room
      accepts = (last, ((small, plain), (fine.room, (whole, omega (arith, counted)))))

      module _ (off : over ≡ false) (carry_after log_after : List ℕ) (run : Run) (did : Did Accepts 0 carry log carry_after log_after run) where
        run_at : run.at ≡ count.words
        unfolding run_after
        run_at = ap (λ (x : Run). x.at) did.run ∙ zero-add (length (log_words Accepts.entries)) ∙ sym counted

        run-held : run.held ≡ length (partial_bytes Accepts.partial)
        unfolding run_after
        run-held = ap (λ (x : Run). x.held) did.run

        pub run_fits : (run.held ≤ 65535) × (run.at ≤ 4294967295)
        run_fits = (
          omega (arith, run-held, held-bounded w state range head marks causes y carry small fine.room whole),
          omega (arith, run_at, counted, words-bounded w state range head marks causes y carry small fine.room whole),
        )

        pub tally-fits : Countable count.tally
        tally-fits = within-limit count.tally (sym eo ∙ off)

        module _ (kept : Services) (ek : kept ≡ cond (keeps_services range r) services (services_of none)) where
          kept-as : kept ≡ services_of (kept_by range r carry (come_of head marks causes y))
          kept-as =
              ek ∙ ap (λ (s : Services). cond (keeps_services range r) s (services_of none)) k.in_force_here ∙ kept-services (keeps_services range r) (force_at range r head)
              ∙ ap (λ (v : Option ℕ). services_of (kept_after (keeps_services range r) v)) (value-is range r head marks causes y carry)

          run-answer : accepted_after r head.sequence kept run count.tally ≡ taken_answer range (come_of head marks causes y) r carry log
          unfolding run_after remembering remembered said_of
          run-answer =
              let at : run.at ≡ length (log_words (outcome_in range (come_of head marks causes y) r carry log).entries) = run_at ∙ counted-here in
              let held : run.held ≡ length (partial_bytes (outcome_in range (come_of head marks causes y) r carry log).partial) = run-held ∙ ap (λ (o : Outcome). length (partial_bytes o.partial)) same in
              let number : run.number ≡ partial_number (outcome_in range (come_of head marks causes y) r carry log).partial = ap (λ (x : Run). x.number) did.run ∙ ap (λ (o : Outcome). partial_number o.partial) same in
              λ i. record {
                refusal = 0;
                wrong = 0;
                words = at i;
                receiver = record {
                  mode = r.mode;
                  stream = r.stream;
                  register = r.register;
                  entitled = r.entitled;
                  known = true;
                  sequence = head.sequence;
                  held = held i;
                  number = number i;
                  serviced = (kept-as i).known;
                  services = (kept-as i).value;
                  delivered = (tally-here i).delivered;
                  missing = (tally-here i).missing;
                  last = (tally-here i).last;
                };
              }

          pub taken : (a : Received) → a ≡ accepted_after r head.sequence kept run count.tally → Takes range (come_of head marks causes y) r carry log a carry_after log_after
          unfolding keeps writes
          taken a q =
              let c = did.carry in
              let l = did.log in
              rw (room, passes false off) (answered-accepted range (come_of head marks causes y) r carry log 0 0 a carry_after log_after refl (q ∙ run-answer) (rw same at c) (rw same at l))
