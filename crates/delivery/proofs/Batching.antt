-- Document 02, Ask 1: what its PDUs' calls do, one after another, a batch does; and the calls of a run, batches among them, as a machine that hands over
-- PDUs (runs/proofs/Calls.antt).
use mathlib.Core.Path.{◌≡◌, refl, sym, ap, ap₂, subst, ◌∙◌}
use mathlib.Core.Bool.{Bool, true, false, not, ◌||◌, cond}
use mathlib.Core.List.{List, [], ◌∷◌, ◌++◌, map, append_assoc, append-nil}
use Prim.Native.Nat.{ℕ, suc, ◌+◌, ◌*◌, ◌<◌, ◌≤◌}
use native.Mathlib.Omega.{arith}
use native.Mathlib.Nat.{add-zero}
use lib.Dec.{eqb}
use borrow.Author.Tests.{eq-eqb, eqb-true, le-ltb}
use lib.ListN.{length, take, drop, length-append, length-drop}
use lib.Seq.{length-take-le, take_at}
use Rattle.header.proofs.Unique.{all-bytes}
use Rattle.modes.specs.Modes.{listing}
use Rattle.modes.specs.declared.Mode.{Mode}
use Rattle.modes.specs.declared.Listing.TheVariants.{Listed}
use Rattle.pieces.specs.Pieces.{total}
use Rattle.reassembly.specs.Rights.{Rights}
use Rattle.reassembly.specs.Tally.{Countable}
use Rattle.reassembly.specs.Holder.{Holder}
use Rattle.refusal.specs.Refusal.{any_of}
use Rattle.receiver.specs.Receiving.{wrong_state, pdu_after}
use Rattle.receiver.specs.declared.Receiver.{Receiver}
use Rattle.batch.specs.Batches.{Result, unchanged, followed, one_by_one, batch_number, batch_received}
use Rattle.batch.proofs.Single.{words-fit, words-most, log-long}
use Rattle.batch.proofs.Laws.{passes}
use Rattle.batch.proofs.OneByOne.{followed-none, followed-twice, next-taken, first_stops}
use Rattle.runs.specs.Transmissions.{Way, gone, here}
use Rattle.runs.proofs.Calls.{Speech, heard, Matching, Machine, Serves, Bridge, Step as Part, handed, ways_handed, Through as Goes, logs_from as logs_of, finally, AllGood}
use Rattle.runs.proofs.General.{Served, serve, countable-less}
use Rattle.runs.proofs.Events.{after}
use Rattle.delivery.specs.Delivery.{concatenated, Station, Call, receive, batch, mark_lost, defined, station_after, RefusedAfter, logged_by, alone, paired}
use Rattle.delivery.proofs.Parts.{log_counts, answer_of, log_of}
use Rattle.delivery.proofs.SoundSteps.{Copy, causes_for, Came, pdus_in, Step, receives, pairs, batches, stops, loses, refuses, call_of, Takes, ways_in}
use Rattle.delivery.proofs.Serving.{rights_by}
use Rattle.delivery.proofs.Bridge.{stations, copied, doubled, losing, refusing, Speaks, StandsFor, bridge}

-- these PDUs come as these
abbrev pub EachCopy : (register width : ℕ) → List (List ℕ) → List Came → Type 0
EachCopy register width [] [] = Unit {0}
EachCopy register width (p ∷ ps) [] = ⊥
EachCopy register width [] (c ∷ cs) = ⊥
EachCopy register width (p ∷ ps) (c ∷ cs) = Copy register width p [] c.pdu c.sound × EachCopy register width ps cs

-- ---- a batch that has taken n PDUs, and written these words

module _ (x : Station) (lengths pdus log : List ℕ) where
  abbrev result : Result
  result = batch_received lengths x.carry pdus log x.receiver

  pub record Does (y : Station) (words : List ℕ) : Type 0 where
    pub station : station_after defined x (batch lengths pdus log) ≡ y
    pub logs : logged_by defined x (batch lengths pdus log) ≡ words

  does : (y : Station) (n : ℕ) (words left : List ℕ) → result.answer.receiver ≡ y.receiver → result.carry ≡ y.carry → result.answer.taken ≡ n → result.answer.words ≡ length words
      → result.log ≡ words ++ left → (n ≡ 0 → words ≡ []) → Does y words
  does y n words left er ec et ew el z = record {
    station = ap₂ (λ (r : Receiver) (c : List ℕ). record { receiver = r; carry = c }) er ec;
    logs = ap₂ (λ (k : ℕ) (l : List ℕ). cond (log_counts defined x (batch lengths pdus log)) (take k l) []) ew el
        ∙ ap (λ (l : List ℕ). cond (log_counts defined x (batch lengths pdus log)) l []) (take_at words left (length words) refl)
        ∙ go (eqb result.answer.refusal 0) (eqb result.answer.taken 0) refl;
  }
    where
      go : (a b : Bool) → eqb result.answer.taken 0 ≡ b → cond (a || not b) words [] ≡ words
      go true b e = refl
      go false true e = sym (z (sym et ∙ eqb-true result.answer.taken 0 e))
      go false false e = refl

-- the lengths of PDUs sum to the PDUs joined
lengths-sum : (qs : List (List ℕ)) → total (map length qs) ≡ length (concatenated qs)
unfolding total
lengths-sum [] = refl
lengths-sum (q ∷ qs) = ap (λ (n : ℕ). length q + n) (lengths-sum qs) ∙ sym (length-append q (concatenated qs))

module _ (mode stream register entitled : ℕ) (m : Mode) (l : listing mode stream ≡ Listed m) (range : 0 < m.sequences) where
  abbrev rights : Rights
  rights = rights_by entitled stream m

  -- the calls for one PDU, or for none
  abbrev one : Bridge rights m.sequences stations
  one = bridge mode stream register entitled m l range

  -- ---- the calls of a batch's PDUs

  -- the log that is left after a PDU
  abbrev left_after : Station → List ℕ → List ℕ → List ℕ
  left_after x q log = drop (answer_of x (receive (alone [] q) log)).words (log_of x (receive (alone [] q) log))

  unfoldable singles : Station → List ℕ → List Came → List (List ℕ) → List (Part one)
  singles x log [] ps = []
  singles x log (c ∷ cs) [] = []
  singles x log (c ∷ cs) (p ∷ ps) =
      record { call = receive (alone [] c.pdu) log; pdus = p ∷ []; ways = here (causes_for c.sound) ∷ [] }
      ∷ singles (station_after defined x (receive (alone [] c.pdu) log)) (left_after x c.pdu log) cs ps

  unfoldable log_left : Station → List ℕ → List Came → List ℕ
  log_left x log [] = log
  log_left x log (c ∷ cs) = log_left (station_after defined x (receive (alone [] c.pdu) log)) (left_after x c.pdu log) cs

  handed-are : (cs : List Came) (ps : List (List ℕ)) (x : Station) (log : List ℕ) → EachCopy register m.width ps cs → handed one (singles x log cs ps) ≡ ps
  unfolding singles
  handed-are [] [] x log h = refl
  handed-are [] (p ∷ ps) x log h = absurd h
  handed-are (c ∷ cs) [] x log h = absurd h
  handed-are (c ∷ cs) (p ∷ ps) x log h = ap (λ (k : List (List ℕ)). p ∷ k) (handed-are cs ps (station_after defined x (receive (alone [] c.pdu) log)) (left_after x c.pdu log) h.1)

  ways-are : (cs : List Came) (ps : List (List ℕ)) (x : Station) (log : List ℕ) → EachCopy register m.width ps cs → ways_handed one (singles x log cs ps) ≡ ways_in cs
  unfolding singles
  ways-are [] [] x log h = refl
  ways-are [] (p ∷ ps) x log h = absurd h
  ways-are (c ∷ cs) [] x log h = absurd h
  ways-are (c ∷ cs) (p ∷ ps) x log h = ap (λ (k : List Way). here (causes_for c.sound) ∷ k) (ways-are cs ps (station_after defined x (receive (alone [] c.pdu) log)) (left_after x c.pdu log) h.1)

  -- each has a log that suffices
  goes : (cs : List Came) (ps : List (List ℕ)) (x : Station) (log : List ℕ) → EachCopy register m.width ps cs → 8400 * length cs ≤ length log → Goes one x (singles x log cs ps)
  unfolding singles
  goes [] [] x log h big = tt
  goes [] (p ∷ ps) x log h big = absurd h
  goes (c ∷ cs) [] x log h big = absurd h
  goes (c ∷ cs) (p ∷ ps) x log h big =
      let w = words-most [] x.carry c.pdu log x.receiver (all-bytes c.pdu h.0.header.bytes) in
      let n = log-long [] x.carry c.pdu log x.receiver in
      let d = length-drop (answer_of x (receive (alone [] c.pdu) log)).words (log_of x (receive (alone [] c.pdu) log)) in
      (copied {log = log} h.0 (omega (arith, big)), goes cs ps (station_after defined x (receive (alone [] c.pdu) log)) (left_after x c.pdu log) h.1 (omega (arith, w, n, d, big)))

  -- ---- a call's words are those that it counts

  taken-logged : (x : Station) (q log : List ℕ) → (answer_of x (receive (alone [] q) log)).refusal ≡ 0
      → (logged_by defined x (receive (alone [] q) log) ≡ take (answer_of x (receive (alone [] q) log)).words (log_of x (receive (alone [] q) log))) × (length (logged_by defined x (receive (alone [] q) log)) ≡ (answer_of x (receive (alone [] q) log)).words)
  taken-logged x q log h =
      let t : eqb (answer_of x (receive (alone [] q) log)).refusal 0 ≡ true = eq-eqb (answer_of x (receive (alone [] q) log)).refusal 0 h in
      let w = words-fit [] x.carry q log x.receiver in
      let n = log-long [] x.carry q log x.receiver in
      let e : logged_by defined x (receive (alone [] q) log) ≡ take (answer_of x (receive (alone [] q) log)).words (log_of x (receive (alone [] q) log)) = rw t in
      (e, ap length e ∙ length-take-le (answer_of x (receive (alone [] q) log)).words (log_of x (receive (alone [] q) log)) (omega (arith, w, n)))

  -- ---- the PDUs one by one, in the batch and alone

  -- so many PDUs of a batch, with others after them, of these lengths and with these bytes
  record Joins (cs : List Came) (ps : List (List ℕ)) (x : Station) (log ls bytes : List ℕ) : Type 0 where
    pdus : List ℕ
    is : one_by_one (map length (pdus_in cs) ++ ls) x.receiver x.carry (concatenated (pdus_in cs) ++ bytes) log
        ≡ followed (length cs) (length (logs_of one x (singles x log cs ps))) pdus (logs_of one x (singles x log cs ps))
        (one_by_one ls (finally one x (singles x log cs ps)).receiver (finally one x (singles x log cs ps)).carry bytes (log_left x log cs))

  joins : (cs : List Came) (ps : List (List ℕ)) (x : Station) (log ls bytes : List ℕ) → EachCopy register m.width ps cs → AllGood one x (singles x log cs ps) → Joins cs ps x log ls bytes
  unfolding singles log_left
  joins [] [] x log ls bytes h g = record { pdus = []; is = sym (followed-none (one_by_one ls x.receiver x.carry bytes log)) }
  joins [] (p ∷ ps) x log ls bytes h g = absurd h
  joins (c ∷ cs) [] x log ls bytes h g = absurd h
  joins (c ∷ cs) (p ∷ ps) x log ls bytes h g =
      let q : List ℕ = c.pdu in
      let y : Station = station_after defined x (receive (alone [] q) log) in
      let k : List ℕ = left_after x q log in
      let r = joins cs ps y k ls bytes h.1 g.1 in
      let n : ℕ = (answer_of x (receive (alone [] q) log)).words in
      let v : List ℕ = logged_by defined x (receive (alone [] q) log) in
      let w : List ℕ = logs_of one y (singles y k cs ps) in
      let f = taken-logged x q log g.0 in
      let long : n + length w ≡ length (v ++ w) = ap (λ (i : ℕ). i + length w) (sym f.1) ∙ sym (length-append v w) in
      let count : 1 + length cs ≡ suc (length cs) = omega arith in
      let z : Result = one_by_one ls (finally one y (singles y k cs ps)).receiver (finally one y (singles y k cs ps)).carry bytes (log_left y k cs) in
      record {
        pdus = pdu_after [] x.carry q log x.receiver ++ r.pdus;
        is = next-taken (length q) (map length (pdus_in cs) ++ ls) x.receiver x.carry ((q ++ concatenated (pdus_in cs)) ++ bytes) log (concatenated (pdus_in cs) ++ bytes) q refl (append_assoc q (concatenated (pdus_in cs)) bytes) g.0
            ∙ ap (followed 1 n (pdu_after [] x.carry q log x.receiver) (take n (log_of x (receive (alone [] q) log)))) r.is
            ∙ followed-twice 1 (length cs) n (length w) (pdu_after [] x.carry q log x.receiver) r.pdus (take n (log_of x (receive (alone [] q) log))) w z
            ∙ ap₂ (λ (i : ℕ) (u : List ℕ). followed i (n + length w) (pdu_after [] x.carry q log x.receiver ++ r.pdus) (u ++ w) z) count (sym f.0)
            ∙ ap (λ (i : ℕ). followed (suc (length cs)) i (pdu_after [] x.carry q log x.receiver ++ r.pdus) (v ++ w) z) long;
      }

  -- ---- the batch

  module _ (cs : List Came) (ps : List (List ℕ)) (x : Station) (log : List ℕ) (each : EachCopy register m.width ps cs) (good : AllGood one x (singles x log cs ps)) where
    -- where its PDUs' calls lead, and their words
    abbrev end : Station
    end = finally one x (singles x log cs ps)

    abbrev words : List ℕ
    words = logs_of one x (singles x log cs ps)

    none-none : (ds : List Came) → length ds ≡ 0 → (logs_of one x (singles x log ds ps) ≡ []) × (finally one x (singles x log ds ps) ≡ x)
    unfolding singles
    none-none [] e = (refl, refl)
    none-none (c ∷ ds) e = absurd (omega (arith, e))

    -- with nothing after them: all are taken
    module _ (right : any_of (wrong_state x.receiver) ≡ false) (room : 4096 ≤ length x.carry) where
      abbrev lengths : List ℕ
      lengths = map length (pdus_in cs)

      right-number : batch_number lengths x.carry (concatenated (pdus_in cs)) log x.receiver ≡ 0
      right-number = passes lengths x.carry (concatenated (pdus_in cs)) log x.receiver right (le-ltb (length x.carry) 4096 room) (lengths-sum (pdus_in cs))

      all : Joins cs ps x log [] []
      all = joins cs ps x log [] [] each good

      ends : batch_received lengths x.carry (concatenated (pdus_in cs)) log x.receiver ≡ followed (length cs) (length words) all.pdus words (unchanged 0 0 end.receiver end.carry [] (log_left x log cs))
      unfolding batch_received one_by_one
      ends =
          let t : eqb (batch_number lengths x.carry (concatenated (pdus_in cs)) log x.receiver) 0 ≡ true = eq-eqb (batch_number lengths x.carry (concatenated (pdus_in cs)) log x.receiver) 0 right-number in
          rw t (ap₂ (λ (ns ps : List ℕ). one_by_one ns x.receiver x.carry ps log) (sym (append-nil lengths)) (sym (append-nil (concatenated (pdus_in cs)))) ∙ all.is)

      batch-taken : ((answer_of x (batch lengths (concatenated (pdus_in cs)) log)).refusal ≡ 0) × ((answer_of x (batch lengths (concatenated (pdus_in cs)) log)).taken ≡ length cs)
      batch-taken = (ap (λ (u : Result). u.answer.refusal) ends, ap (λ (u : Result). u.answer.taken) ends ∙ add-zero (length cs))

      batch-does : Does x lengths (concatenated (pdus_in cs)) log end words
      batch-does =
          does x lengths (concatenated (pdus_in cs)) log end (length cs) words (log_left x log cs)
          (ap (λ (u : Result). u.answer.receiver) ends)
          (ap (λ (u : Result). u.carry) ends)
          batch-taken.1
          (ap (λ (u : Result). u.answer.words) ends ∙ add-zero (length words))
          (ap (λ (u : Result). u.log) ends)
          (λ e. (none-none cs e).0)

    -- with others after them, at the first of which it is refused
    module _ (ls bytes : List ℕ) (refused : RefusedAfter defined (length cs) x (batch (map length (pdus_in cs) ++ ls) (concatenated (pdus_in cs) ++ bytes) log)) where
      abbrev lengths' : List ℕ
      lengths' = map length (pdus_in cs) ++ ls

      abbrev pdus' : List ℕ
      pdus' = concatenated (pdus_in cs) ++ bytes

      abbrev whole : Result
      whole = batch_received lengths' x.carry pdus' log x.receiver

      abbrev later : Result
      later = one_by_one ls end.receiver end.carry bytes (log_left x log cs)

      some : Joins cs ps x log ls bytes
      some = joins cs ps x log ls bytes each good

      batch-stops : Does x lengths' pdus' log end words
      unfolding batch_received
      batch-stops = go (eqb (batch_number lengths' x.carry pdus' log x.receiver) 0) refl
        where
          go : (b : Bool) → eqb (batch_number lengths' x.carry pdus' log x.receiver) 0 ≡ b → Does x lengths' pdus' log end words
          go true t =
              let e : whole ≡ followed (length cs) (length words) some.pdus words later = rw t some.is in
              let f : later ≡ unchanged later.answer.refusal later.answer.wrong end.receiver end.carry bytes (log_left x log cs) =
              first_stops ls end.receiver end.carry bytes (log_left x log cs) (λ z. refused.0 (ap (λ (u : Result). u.answer.refusal) e ∙ z))
              (let k = sym (ap (λ (u : Result). u.answer.taken) e) ∙ refused.1 in omega (arith, k)) in
              let g = e ∙ ap (followed (length cs) (length words) some.pdus words) f in
              does x lengths' pdus' log end (length cs) words (log_left x log cs)
              (ap (λ (u : Result). u.answer.receiver) g)
              (ap (λ (u : Result). u.carry) g)
              refused.1
              (ap (λ (u : Result). u.answer.words) g ∙ add-zero (length words))
              (ap (λ (u : Result). u.log) g)
              (λ z. (none-none cs z).0)
          go false t =
              let e : whole ≡ unchanged (batch_number lengths' x.carry pdus' log x.receiver) 0 x.receiver x.carry pdus' log = rw t in
              let n : length cs ≡ 0 = sym refused.1 ∙ ap (λ (u : Result). u.answer.taken) e in
              let z = none-none cs n in
              does x lengths' pdus' log end 0 words log
              (ap (λ (u : Result). u.answer.receiver) e ∙ ap (λ (s : Station). s.receiver) (sym z.1))
              (ap (λ (u : Result). u.carry) e ∙ ap (λ (s : Station). s.carry) (sym z.1))
              (ap (λ (u : Result). u.answer.taken) e)
              (ap (λ (u : Result). u.answer.words) e ∙ ap length (sym z.0))
              (ap (λ (u : Result). u.log) e ∙ ap (λ (w : List ℕ). w ++ log) (sym z.0))
              (λ i. z.0)

  -- ---- the calls of a run

  -- How a call of the list hands over PDUs of the run. A new kind of call is a new line here, and a case of `serves`.
  pub data Handing (x : Station) : Step → List (List ℕ) → List Way → Type 0 where
    receiving : {marks p q log : List ℕ} {sound : ℕ → Bool} → Copy register m.width p marks q sound → 8400 ≤ length log → Handing x (receives marks q log sound) (p ∷ []) (here (causes_for sound) ∷ [])
    pairing : {p q r log : List ℕ} {sound other : ℕ → Bool} → Copy register m.width p [] q sound → Copy register m.width p [] r other → 8400 ≤ length log
        → Handing x (pairs q r log sound other) (p ∷ []) (here (causes_for (λ k. sound k || other k)) ∷ [])
    batching : {cs : List Came} {ps : List (List ℕ)} {log : List ℕ} → EachCopy register m.width ps cs → 8400 * length cs ≤ length log → Handing x (batches cs log) ps (ways_in cs)
    stopping : {cs : List Came} {ps : List (List ℕ)} {ls bytes log : List ℕ} → EachCopy register m.width ps cs → 8400 * length cs ≤ length log
        → RefusedAfter defined (length cs) x (call_of (stops cs ls bytes log)) → Handing x (stops cs ls bytes log) ps (ways_in cs)
    missing : {p log : List ℕ} → 8400 ≤ length log → Handing x (loses log) (p ∷ []) (gone ∷ [])
    declining : {c : Call} → RefusedAfter defined 0 x c → Handing x (refuses c) [] []

  as-many-in : (cs : List Came) (ps : List (List ℕ)) → EachCopy register m.width ps cs → length (ways_in cs) ≡ length ps
  as-many-in [] [] h = refl
  as-many-in [] (p ∷ ps) h = absurd h
  as-many-in (c ∷ cs) [] h = absurd h
  as-many-in (c ∷ cs) (p ∷ ps) h = ap suc (as-many-in cs ps h.1)

  pub as_many : (x : Station) (s : Step) (ps : List (List ℕ)) (ws : List Way) → Handing x s ps ws → length ws ≡ length ps
  as_many x s ps ws (receiving a b) = refl
  as_many x s ps ws (pairing a b h) = refl
  as_many x s ps ws (batching {cs = cs} e b) = as-many-in cs ps e
  as_many x s ps ws (stopping {cs = cs} e b r) = as-many-in cs ps e
  as_many x s ps ws (missing b) = refl
  as_many x s ps ws (declining r) = refl

  abbrev pub steps : Machine
  steps = record { State = Station; Call = Step; next = λ x s. station_after defined x (call_of s); words = λ x s. logged_by defined x (call_of s) }

  abbrev Stands : Station → Holder → Type 0
  Stands = StandsFor mode stream register entitled m l range

  abbrev Spoken : List (List ℕ) → List Speech → Type 0
  Spoken = Matching (Speaks mode stream register entitled m l range)

  -- the calls of a batch's PDUs serve their part of the run
  module _ (x : Station) (y : Holder) (cs : List Came) (ps : List (List ℕ)) (ds : List Speech) (log : List ℕ) (s : Stands x y) (each : EachCopy register m.width ps cs) (big : 8400 * length cs ≤ length log) (g : Spoken ps ds)
      (fits : Countable (after rights m.sequences y (heard (ways_in cs) ds)).tally) where
    singly : Served rights m.sequences stations one x y (singles x log cs ps) (heard (ways_in cs) ds)
    singly =
        subst (λ (ws : List Way). Served rights m.sequences stations one x y (singles x log cs ps) (heard ws ds)) (ways-are cs ps x log each)
        (serve rights m.sequences stations one (singles x log cs ps) x y ds s (goes cs ps x log each big) (subst (λ (k : List (List ℕ)). Spoken k ds) (sym (handed-are cs ps x log each)) g)
        (subst (λ (ws : List Way). Countable (after rights m.sequences y (heard ws ds)).tally) (sym (ways-are cs ps x log each)) fits))

    together : (s : Step) (lengths pdus : List ℕ) → call_of s ≡ batch lengths pdus log → Does x lengths pdus log (finally one x (singles x log cs ps)) (logs_of one x (singles x log cs ps))
        → Serves rights m.sequences steps Stands x y s (heard (ways_in cs) ds)
    together s lengths pdus e d = record {
      log = ap (logged_by defined x) e ∙ d.logs ∙ singly.log;
      fit = singly.fit;
      stands = subst (λ (z : Station). Stands z (after rights m.sequences y (heard (ways_in cs) ds))) (sym (ap (station_after defined x) e ∙ d.station)) singly.stands;
    }

  pub serves : (x : Station) (y : Holder) (s : Step) (ps : List (List ℕ)) (ws : List Way) (ds : List Speech) → Stands x y → Handing x s ps ws → Spoken ps ds
      → Countable (after rights m.sequences y (heard ws ds)).tally → Takes s (answer_of x (call_of s)) × Serves rights m.sequences steps Stands x y s (heard ws ds)
  serves x y s ps ws ds t (receiving {marks = n} {p = p} {q = q} {log = log} {sound = v} a b) g fits =
      let r = one.serves x y (receive (alone n q) log) (p ∷ []) (here (causes_for v) ∷ []) ds t (copied a b) g fits in
      (r.0, record { log = r.1.log; fit = r.1.fit; stands = r.1.stands })
  serves x y s ps ws ds t (pairing {p = p} {q = q} {r = k} {log = log} {sound = u} {other = v} a b h) g fits =
      let r = one.serves x y (receive (paired q k) log) (p ∷ []) (here (causes_for (λ n. u n || v n)) ∷ []) ds t (doubled a b h) g fits in
      (r.0, record { log = r.1.log; fit = r.1.fit; stands = r.1.stands })
  serves x y s ps ws ds t (batching {cs = cs} {log = log} e b) g fits =
      let k = singly x y cs ps ds log t e b g fits in
      (batch-taken cs ps x log e k.good t.right t.room, together x y cs ps ds log t e b g fits (batches cs log) _ _ refl (batch-does cs ps x log e k.good t.right t.room))
  serves x y s ps ws ds t (stopping {cs = cs} {ls = ls} {bytes = bytes} {log = log} e b r) g fits =
      let k = singly x y cs ps ds log t e b g fits in
      (tt, together x y cs ps ds log t e b g fits (stops cs ls bytes log) _ _ refl (batch-stops cs ps x log e k.good ls bytes r))
  serves x y s ps ws ds t (missing {p = p} {log = log} b) g fits =
      let r = one.serves x y (mark_lost log) (p ∷ []) (gone ∷ []) ds t (losing b) g fits in
      (r.0, record { log = r.1.log; fit = r.1.fit; stands = r.1.stands })
  serves x y s ps ws ds t (declining {c = c} h) g fits =
      let r = one.serves x y c [] [] ds t (refusing h) g fits in
      (tt, record { log = r.1.log; fit = r.1.fit; stands = r.1.stands })

  abbrev pub stepping : Bridge rights m.sequences steps
  stepping = record {
    Pdu = List ℕ;
    Says = Speaks mode stream register entitled m l range;
    Stands = Stands;
    Hands = Handing;
    Good = λ x s ps. Takes s (answer_of x (call_of s));
    Within = Countable;
    within-less = countable-less;
    as_many = as_many;
    serves = serves;
  }
