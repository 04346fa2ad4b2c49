-- Delivery over a channel that damages pieces, from delivery by which pieces are sound; and each promise for a list of programs as its case.
use mathlib.Core.Path.{◌≡◌, refl, sym, ap, ap₂, subst, subst₂, ◌∙◌}
use mathlib.Core.Bool.{Bool, true, false, true≢false}
use mathlib.Core.List.{List, [], ◌∷◌, ◌++◌, map, append-nil}
use mathlib.Core.Logic.{inl, inr}
use Prim.Native.Nat.{ℕ, zero, suc, ◌+◌, ◌-◌, ◌*◌, ◌<◌, ◌≤◌}
use native.Mathlib.Decide.{dec_le}
use native.Mathlib.Omega.{arith}
use lib.ListN.{length, get_or, take, drop, take-append-drop}
use lib.Seq.{length-take-le, take-append-le, take-append-add, take-take, take-add}
use Rattle.algebra.specs.Places.{All}
use Rattle.algebra.proofs.Places.{all_join}
use Rattle.burst.proofs.Strings.{hit-burst}
use Rattle.header.proofs.Unique.{all-bytes, all_take, all_drop}
use Rattle.layout.specs.Control.{control_at}
use Rattle.layout.specs.Locators.{locator_at}
use Rattle.packet_log.specs.Log.{log_words, packet_words, same_list}
use Rattle.pdu.specs.Reading.{start_at, length_at}
use Rattle.writer.specs.RoundTrip.{Bytes}
use Rattle.reassembly.specs.Tally.{no_tally, tallied}
use Rattle.receiver.specs.Entitling.{allowed_programs}
use Rattle.receiver.specs.Receiving.{tally_of}
use Rattle.runs.specs.Spans.{lies, due_at}
use Rattle.runs.specs.Transmissions.{Way, gone, here}
use Rattle.runs.proofs.Spans.{entries-are}
use Rattle.packet_log.proofs.Same.{same_true, same-itself}
use Rattle.delivery.specs.Delivery.{concatenated, Station, Call, receive, batch, mark_lost, Behaviour, defined, station_after, RefusedAfter, HeaderAltered, Coming, Copies, alone, paired, Comes, AllCome, Step, receives, batches, stops, loses, refuses, call_of, NotRefused, Through, finally, Run, run_of, made, fresh_station, spans, Asked}
use Rattle.delivery.specs.Copies.{front_length, restored, bytes_at, crc_at, sealed_piece, as_sent, sound_in, came_as, Damage, Damaged, ways_in, ways_from, width_in}
use Rattle.delivery.specs.Entitlement.{EntitledDelivery, for_programs, fates}
use Rattle.delivery.specs.Diversity.{WrongCrc, EntitledPairDelivery}
use Rattle.delivery.specs.Bursts.{Hit, BurstDelivery}
use Rattle.delivery.specs.Channel.{WrongOrHit, ChannelDelivery}
use Rattle.delivery.proofs.Parts.{NoneRefused, logs_from, EntriesFit, due_entries, due_indices, fit-entries, answer_of}
use Rattle.delivery.proofs.SoundSteps.{PieceDamage, wrong, burst, Copy, causes_for, Came, pdus_in, Step as SoundStep, receives as takes, pairs as takes_both, batches as takes_all, stops as takes_some, loses as misses, refuses as declines, call_of as sound_call, Takes as SoundTakes, AllCopies, Through as Goes, ways_in as sound_ways_in, ways as sound_ways}
use Rattle.delivery.proofs.Made.{bytes_drop, bytes_take}
use Rattle.delivery.proofs.Counted.{adds-along}
use Rattle.delivery.proofs.Channel.{Usable, sound-delivers, made-right}
use Rattle.delivery.proofs.Possible.{all_drop as usable-drop, run-usable}

-- ---- lists

pub drop-taken : (a n : ℕ) (l : List ℕ) → drop a (take n l) ≡ take (n - a) (drop a l)
drop-taken zero n l = let e : n - 0 ≡ n = omega arith in rw e
drop-taken (suc a) zero l = let e : 0 - suc a ≡ 0 = omega arith in rw e
drop-taken (suc a) (suc n) [] = go (suc n - suc a)
  where
    go : (k : ℕ) → ◌≡◌ {A = List ℕ} [] (take k [])
    go zero = refl
    go (suc k) = refl
drop-taken (suc a) (suc n) (b ∷ l) = let e : suc n - suc a ≡ n - a = omega arith in rw e (drop-taken a n l)

pub last-same : (a b : List ℕ) (x y : ℕ) → a ++ (x ∷ []) ≡ b ++ (y ∷ []) → (a ≡ b) × (x ≡ y)
last-same [] [] x y e = (refl, cc)
last-same [] (j ∷ []) x y e = let z : ◌≡◌ {A = ℕ} 0 1 = cc in absurd (omega arith)
last-same [] (j ∷ k ∷ b) x y e = let z : ◌≡◌ {A = ℕ} 0 1 = cc in absurd (omega arith)
last-same (i ∷ []) [] x y e = let z : ◌≡◌ {A = ℕ} 0 1 = cc in absurd (omega arith)
last-same (i ∷ h ∷ a) [] x y e = let z : ◌≡◌ {A = ℕ} 0 1 = cc in absurd (omega arith)
last-same (i ∷ a) (j ∷ b) x y e =
    let h : i ≡ j = cc in
    let t : a ++ (x ∷ []) ≡ b ++ (y ∷ []) = cc in
    let r = last-same a b x y t in
    (ap₂ ◌∷◌ h r.0, r.1)

-- the first n bytes of a PDU whose header is p's and whose bytes from 96 on are q's
pub front_of : (n : ℕ) (p q : List ℕ) → 96 ≤ length p → drop 96 (take n q) ≡ drop 96 (take n p) → take n (restored p q) ≡ take n p
front_of n p q h e = go (dec_le n 96)
  where
    long : length (take 96 p) ≡ 96
    long = length-take-le 96 p h

    go : Dec (n ≤ 96) → take n (restored p q) ≡ take n p
    go (yes l) = take-append-le n (take 96 p) (drop 96 q) (omega (arith, long)) ∙ take-take n 96 p l
    go (no l) =
        let s : 96 + (n - 96) ≡ n = omega arith in
        let t : length (take 96 p) + (n - 96) ≡ n = ap (λ (i : ℕ). i + (n - 96)) long ∙ s in
        subst (λ (i : ℕ). take i (restored p q) ≡ take 96 p ++ take (n - 96) (drop 96 q)) t (take-append-add (take 96 p) (drop 96 q) (n - 96))
        ∙ ap (λ (l : List ℕ). take 96 p ++ l) (sym (drop-taken 96 n q) ∙ e ∙ drop-taken 96 n p)
        ∙ sym (subst (λ (i : ℕ). take i p ≡ take 96 p ++ take (n - 96) (drop 96 p)) s (take-add 96 (n - 96) p))

-- ---- a copy

module _ (register width : ℕ) (marks p q : List ℕ) (w : Usable p) (x : Damaged WrongOrHit register width marks p q) where
  piece_bytes : (y : List ℕ) → Bytes y → (k i : ℕ) → get_or (sealed_piece width p y k) i 0 < 256
  piece_bytes y h k =
      all-bytes (sealed_piece width p y k)
      (all_join (λ n. n < 256) (bytes_at width p y k) (crc_at width p y k ∷ [])
      (bytes_take (length_at width (control_at p) p k) (drop (start_at width (control_at p) p k) y) (bytes_drop (start_at width (control_at p) p k) y h))
      (all-bytes y h (locator_at width p k), tt))

  bytes-right : Bytes (restored p q)
  bytes-right = all_join (λ n. n < 256) (take 96 p) (drop 96 q) (all_take 96 p (all-bytes p w.0)) (all_drop 96 q x.header.bytes)

  -- a piece that was hit, one bit at least being altered
  hit-damage : (k : ℕ) → k < (control_at p).nop → as_sent width p q k ≡ false → ¬ (sealed_piece width p p k ≡ sealed_piece width p (restored p q) k)
  hit-damage k h e s = true≢false (sym (same-itself (sealed_piece width p p k)) ∙ ap (λ (l : List ℕ). same_list l (sealed_piece width p p k)) s ∙ e)

  damage : (k : ℕ) → k < (control_at p).nop → as_sent width p q k ≡ false → WrongOrHit register width p (restored p q) k → PieceDamage register width p (restored p q) k
  damage k h e (inl d) = wrong d
  damage k h e (inr d) = burst (hit-burst (sealed_piece width p p k) (sealed_piece width p (restored p q) k) (piece_bytes p w.0 k) (piece_bytes (restored p q) bytes-right k) d (hit-damage k h e))

  front-as-sent : take (front_length p) (restored p q) ≡ take (front_length p) p
  front-as-sent = front_of (front_length p) p q w.1 x.front

  -- its sound pieces are those that are as sent
  as_copy : Copy register width p marks q (as_sent width p q)
  as_copy = record {
    header = x.header;
    front = front-as-sent;
    whole = λ k h e. last-same (bytes_at width p (restored p q) k) (bytes_at width p p k) (crc_at width p (restored p q) k) (crc_at width p p k) (same_true (sealed_piece width p (restored p q) k) (sealed_piece width p p k) e);
    found = λ k h e. damage k h e (x.pieces k h e);
  }

-- ---- the same calls

-- PDUs of a batch, whose sound pieces are those that are as sent
abbrev came : ℕ → List (List ℕ) → List (List ℕ) → List Came
came width ps [] = []
came width [] (q ∷ qs) = []
came width (p ∷ ps) (q ∷ qs) = record { pdu = q; sound = as_sent width p q } ∷ came width ps qs

-- a PDU alone, or as a pair
abbrev handing : ℕ → List ℕ → List ℕ → Copies → SoundStep
handing width p log (alone marks q) = takes marks q log (as_sent width p q)
handing width p log (paired q r) = takes_both q r log (as_sent width p q) (as_sent width p r)

abbrev over : ℕ → List (List ℕ) → List Step → List SoundStep
over width ps [] = []
over width ps (refuses c ∷ ss) = declines c ∷ over width ps ss
over width ps (batches qs log ∷ ss) = takes_all (came width ps qs) log ∷ over width (drop (length qs) ps) ss
over width ps (stops qs ls bytes log ∷ ss) = takes_some (came width ps qs) ls bytes log ∷ over width (drop (length qs) ps) ss
over width [] (receives copies log ∷ ss) = []
over width [] (loses log ∷ ss) = []
over width (p ∷ ps) (receives copies log ∷ ss) = handing width p log copies ∷ over width ps ss
over width (p ∷ ps) (loses log ∷ ss) = misses log ∷ over width ps ss

ways-came : (width : ℕ) (qs ps : List (List ℕ)) → sound_ways_in (came width ps qs) ≡ ways_in (as_sent width) ps qs
ways-came width [] ps = refl
ways-came width (q ∷ qs) [] = refl
ways-came width (q ∷ qs) (p ∷ ps) = ap (λ (l : List Way). here (causes_for (as_sent width p q)) ∷ l) (ways-came width qs ps)

ways-first : (s : SoundStep) (ss : List SoundStep) → sound_ways (s ∷ ss) ≡ sound_ways (s ∷ []) ++ sound_ways ss
ways-first (takes marks q log v) ss = refl
ways-first (takes_both q r log u v) ss = refl
ways-first (takes_all cs log) ss = ap (λ (l : List Way). l ++ sound_ways ss) (sym (append-nil (sound_ways_in cs)))
ways-first (takes_some cs ls bytes log) ss = ap (λ (l : List Way). l ++ sound_ways ss) (sym (append-nil (sound_ways_in cs)))
ways-first (misses log) ss = refl
ways-first (declines c) ss = refl

handed-ways : (width : ℕ) (p log : List ℕ) (copies : Copies) → sound_ways (handing width p log copies ∷ []) ≡ came_as (sound_in (as_sent width) p copies) ∷ []
handed-ways width p log (alone marks q) = refl
handed-ways width p log (paired q r) = refl

same-ways : (width : ℕ) (ss : List Step) (ps : List (List ℕ)) → sound_ways (over width ps ss) ≡ ways_from (as_sent width) ps ss
same-ways width [] ps = refl
same-ways width (refuses c ∷ ss) ps = same-ways width ss ps
same-ways width (batches qs log ∷ ss) ps = ap₂ (λ (k l : List Way). k ++ l) (ways-came width qs ps) (same-ways width ss (drop (length qs) ps))
same-ways width (stops qs ls bytes log ∷ ss) ps = ap₂ (λ (k l : List Way). k ++ l) (ways-came width qs ps) (same-ways width ss (drop (length qs) ps))
same-ways width (receives copies log ∷ ss) [] = refl
same-ways width (loses log ∷ ss) [] = refl
same-ways width (receives copies log ∷ ss) (p ∷ ps) =
    ways-first (handing width p log copies) (over width ps ss) ∙ ap₂ (λ (k l : List Way). k ++ l) (handed-ways width p log copies) (same-ways width ss ps)
same-ways width (loses log ∷ ss) (p ∷ ps) = ap (λ (l : List Way). gone ∷ l) (same-ways width ss ps)

-- a batch that takes all its copies takes as many PDUs
batch-takes : (x : Station) (cs : List Came) (qs : List (List ℕ)) (log : List ℕ) → sound_call (takes_all cs log) ≡ call_of (batches qs log) → length cs ≡ length qs
    → SoundTakes (takes_all cs log) (answer_of x (sound_call (takes_all cs log))) → NotRefused (batches qs log) (answer_of x (call_of (batches qs log)))
batch-takes x cs qs log e n a =
    let t = subst (λ (c : Call). (answer_of x c).taken ≡ length cs) e a.1 in
    (subst (λ (c : Call). (answer_of x c).refusal ≡ 0) e a.0, omega (arith, t, n))

module _ (register width : ℕ) where
  -- a batch has the same PDUs, as many of them, and they are copies
  same-pdus : (qs ps : List (List ℕ)) → AllCome (Damaged WrongOrHit register width) ps qs → pdus_in (came width ps qs) ≡ qs
  same-pdus [] ps h = refl
  same-pdus (q ∷ qs) [] h = absurd h
  same-pdus (q ∷ qs) (p ∷ ps) h = ap (λ (l : List (List ℕ)). q ∷ l) (same-pdus qs ps h.1)

  same_count : (qs ps : List (List ℕ)) → AllCome (Damaged WrongOrHit register width) ps qs → length (came width ps qs) ≡ length qs
  same_count [] ps h = refl
  same_count (q ∷ qs) [] h = absurd h
  same_count (q ∷ qs) (p ∷ ps) h = ap suc (same_count qs ps h.1)

  all-copies : (qs ps : List (List ℕ)) → All Usable ps → AllCome (Damaged WrongOrHit register width) ps qs → AllCopies register width ps (came width ps qs)
  all-copies [] ps u h = tt
  all-copies (q ∷ qs) [] u h = absurd h
  all-copies (q ∷ qs) (p ∷ ps) u h = (as_copy register width [] p q u.0 h.0, all-copies qs ps u.1 h.1)

  -- the same calls, which go through the run and are accepted alike
  record Same (x : Station) (ps : List (List ℕ)) (ss : List Step) (ts : List SoundStep) : Type 0 where
    goes : Goes register width x ps ts
    calls : map sound_call ts ≡ map call_of ss
    accepted : NoneRefused defined sound_call SoundTakes x ts → NoneRefused defined call_of NotRefused x ss

  -- a call, and those after it
  module _ (s : Step) (t : SoundStep) (e : sound_call t ≡ call_of s) (ss : List Step) (ts : List SoundStep) (x : Station) (qs : List (List ℕ)) (r : Same (station_after defined x (call_of s)) qs ss ts) where
    goes_on : Goes register width (station_after defined x (sound_call t)) qs ts
    goes_on = subst (λ (c : Call). Goes register width (station_after defined x c) qs ts) (sym e) r.goes

    with_call : (ps : List (List ℕ)) → Goes register width x ps (t ∷ ts) → (SoundTakes t (answer_of x (sound_call t)) → NotRefused s (answer_of x (call_of s))) → Same x ps (s ∷ ss) (t ∷ ts)
    with_call ps g f = record {
      goes = g;
      calls = ap₂ (λ (c : Call) (cs : List Call). c ∷ cs) e r.calls;
      accepted = λ a. (f a.0, r.accepted (subst (λ (c : Call). NoneRefused defined sound_call SoundTakes (station_after defined x c) ts) e a.1));
    }

  -- a batch has 8,400 words for each of its PDUs
  batch-room : (ss : List Step) (x : Station) (qs : List (List ℕ)) (log : List ℕ) (ps : List (List ℕ)) → Through defined (Damaged WrongOrHit register width) x ps (batches qs log ∷ ss) → 8400 * length qs ≤ length log
  batch-room ss x qs log ps t = let n = t.1 in omega (arith, n)

  receive-room : (ss : List Step) (x : Station) (copies : Copies) (p log : List ℕ) (ps : List (List ℕ)) → Through defined (Damaged WrongOrHit register width) x (p ∷ ps) (receives copies log ∷ ss) → 8400 ≤ length log
  receive-room ss x copies p log ps t = let n = t.1 in omega (arith, n)

  same : (ss : List Step) (x : Station) (ps : List (List ℕ)) → All Usable ps → Through defined (Damaged WrongOrHit register width) x ps ss → Same x ps ss (over width ps ss)
  same [] x [] u t = record { goes = tt; calls = refl; accepted = λ a. tt }
  same [] x (p ∷ ps) u t = absurd t
  same (refuses c ∷ ss) x ps u t =
      let r = same ss (station_after defined x c) ps u t.1 in
      with_call (refuses c) (declines c) refl ss (over width ps ss) x ps r ps (t.0, r.goes) (λ a. tt)
  same (batches qs log ∷ ss) x ps u t =
      let left : List (List ℕ) = drop (length qs) ps in
      let cs : List Came = came width ps qs in
      let n : length cs ≡ length qs = same_count qs ps t.0 in
      let e : sound_call (takes_all cs log) ≡ call_of (batches qs log) = ap (λ (l : List (List ℕ)). batch (map length l) (concatenated l) log) (same-pdus qs ps t.0) in
      let r = same ss (station_after defined x (call_of (batches qs log))) left (usable-drop (length qs) ps u) t.2 in
      let g = goes_on (batches qs log) (takes_all cs log) e ss (over width left ss) x left r in
      with_call (batches qs log) (takes_all cs log) e ss (over width left ss) x left r ps
      (all-copies qs ps u t.0, (let k = batch-room ss x qs log ps t in rw n k), subst (λ (i : ℕ). Goes register width (station_after defined x (sound_call (takes_all cs log))) (drop i ps) (over width left ss)) (sym n) g)
      (batch-takes x cs qs log e n)
  same (stops qs ls bytes log ∷ ss) x ps u t =
      let left : List (List ℕ) = drop (length qs) ps in
      let cs : List Came = came width ps qs in
      let n : length cs ≡ length qs = same_count qs ps t.0 in
      let e : sound_call (takes_some cs ls bytes log) ≡ call_of (stops qs ls bytes log) = ap (λ (l : List (List ℕ)). batch (map length l ++ ls) (concatenated l ++ bytes) log) (same-pdus qs ps t.0) in
      let r = same ss (station_after defined x (call_of (stops qs ls bytes log))) left (usable-drop (length qs) ps u) t.3 in
      let g = goes_on (stops qs ls bytes log) (takes_some cs ls bytes log) e ss (over width left ss) x left r in
      with_call (stops qs ls bytes log) (takes_some cs ls bytes log) e ss (over width left ss) x left r ps (
        all-copies qs ps u t.0,
        (let k = t.1 in rw n k),
        subst₂ (λ (c : Call) (i : ℕ). RefusedAfter defined i x c) (sym e) (sym n) t.2,
        subst (λ (i : ℕ). Goes register width (station_after defined x (sound_call (takes_some cs ls bytes log))) (drop i ps) (over width left ss)) (sym n) g,
      )
      (λ a. tt)
  same (receives copies log ∷ ss) x [] u t = absurd t
  same (receives (alone marks q) log ∷ ss) x (p ∷ ps) u t =
      let r = same ss (station_after defined x (receive (alone marks q) log)) ps u.1 t.2 in
      with_call (receives (alone marks q) log) (takes marks q log (as_sent width p q)) refl ss (over width ps ss) x ps r (p ∷ ps) (as_copy register width marks p q u.0 t.0, receive-room ss x (alone marks q) p log ps t, r.goes) (λ a. a)
  same (receives (paired q k) log ∷ ss) x (p ∷ ps) u t =
      let r = same ss (station_after defined x (receive (paired q k) log)) ps u.1 t.2 in
      with_call (receives (paired q k) log) (takes_both q k log (as_sent width p q) (as_sent width p k)) refl ss (over width ps ss) x ps r (p ∷ ps)
      (as_copy register width [] p q u.0 t.0.0, as_copy register width [] p k u.0 t.0.1, receive-room ss x (paired q k) p log ps t, r.goes) (λ a. a)
  same (loses log ∷ ss) x [] u t = absurd t
  same (loses log ∷ ss) x (p ∷ ps) u t =
      let r = same ss (station_after defined x (mark_lost log)) ps u.1 t.1 in
      with_call (loses log) (misses log) refl ss (over width ps ss) x ps r (p ∷ ps) (t.0, r.goes) (λ a. a)

-- no list of programs is refused
allowed_of : (comes : (register width : ℕ) → Coming) (r : Run) (b : Behaviour) → (for_programs comes).asked r b → allowed_programs r.programs ≡ true
allowed_of comes r b d = d.0

-- the PDUs of a run can be received
pub usable-run : (r : Run) (b : Behaviour) (comes : Coming) → Asked r comes b → All Usable (run_of r.first r.count (made r))
usable-run r b comes d = run-usable r.mode r.stream r.register r.packets r.writings d.opens d.sized d.offered r.first r.count

-- no call for a PDU of the run is refused, and the packet log holds exactly the packets that arrived whole in sound pieces and begin in a PDU not withheld
pub channel-delivers : ChannelDelivery
channel-delivers r (a, d) k =
    let ps : List (List ℕ) = run_of r.first r.count (made r) in
    let x : Station = fresh_station r defined in
    let s = same r.register (width_in r) r.steps x ps (usable-run r defined (Damaged WrongOrHit r.register (width_in r)) d) d.through in
    let e = same-ways (width_in r) r.steps ps in
    let f : ℕ → ℕ → Bool = due_at (lies r.packets (spans r) (fates r)) in
    let last = ap (λ (cs : List Call). tally_of (finally defined x cs).receiver) s.calls in
    let t = sound-delivers r.mode r.stream r.register r.programs r.packets r.writings r.first r.count r.carry (over (width_in r) ps r.steps) (record {
      opens = d.opens;
      allowed = allowed_of (Damaged WrongOrHit) r defined (a, d);
      sized = d.sized;
      offered = d.offered;
      room = d.room;
      through = s.goes;
      countable = subst (λ (ws : List Way). EntriesFit (due_entries r.mode r.stream r.programs r.packets r.writings r.first ws)) (sym e) (fit-entries f r.packets k);
    }) in
    record {
      as_many = (made-right r.mode r.stream r.register r.packets r.writings d.opens d.sized d.offered).as_many;
      accepted = s.accepted t.accepted;
      log = ap (λ (cs : List Call). packet_words (logs_from defined x cs)) (sym s.calls) ∙ t.log ∙ ap (λ (ws : List Way). log_words (due_entries r.mode r.stream r.programs r.packets r.writings r.first ws)) e ∙ ap log_words (sym (entries-are f r.packets));
      counts = sym last ∙ t.counts ∙ ap (λ (ws : List Way). tallied no_tally (due_entries r.mode r.stream r.programs r.packets r.writings r.first ws)) e ∙ ap (tallied no_tally) (sym (entries-are f r.packets));
      adds-up = adds-along (ap (due_indices r.mode r.stream r.programs r.packets r.writings r.first) e) last t.adds-up;
    }

-- ---- PDUs that come in one way come in another

module _ (b : Behaviour) (one other : Coming) (f : (marks p q : List ℕ) → Usable p → one marks p q → other marks p q) where
  comes-too : (p : List ℕ) (copies : Copies) → Usable p → Comes one p copies → Comes other p copies
  comes-too p (alone marks q) u h = f marks p q u h
  comes-too p (paired q r) u h = (f [] p q u h.0, f [] p r u h.1)

  all-too : (qs ps : List (List ℕ)) → All Usable ps → AllCome one ps qs → AllCome other ps qs
  all-too [] ps u h = tt
  all-too (q ∷ qs) [] u h = absurd h
  all-too (q ∷ qs) (p ∷ ps) u h = (f [] p q u.0 h.0, all-too qs ps u.1 h.1)

  through-too : (ss : List Step) (x : Station) (ps : List (List ℕ)) → All Usable ps → Through b one x ps ss → Through b other x ps ss
  through-too [] x [] u t = tt
  through-too [] x (p ∷ ps) u t = absurd t
  through-too (receives copies log ∷ ss) x [] u t = absurd t
  through-too (receives copies log ∷ ss) x (p ∷ ps) u t = (comes-too p copies u.0 t.0, t.1, through-too ss (station_after b x (call_of (receives copies log))) ps u.1 t.2)
  through-too (batches qs log ∷ ss) x ps u t = (all-too qs ps u t.0, t.1, through-too ss (station_after b x (call_of (batches qs log))) (drop (length qs) ps) (usable-drop (length qs) ps u) t.2)
  through-too (stops qs ls bytes log ∷ ss) x ps u t = (all-too qs ps u t.0, t.1, t.2, through-too ss (station_after b x (call_of (stops qs ls bytes log))) (drop (length qs) ps) (usable-drop (length qs) ps u) t.3)
  through-too (loses log ∷ ss) x [] u t = absurd t
  through-too (loses log ∷ ss) x (p ∷ ps) u t = (t.0, through-too ss (station_after b x (mark_lost log)) ps u.1 t.1)
  through-too (refuses c ∷ ss) x ps u t = (t.0, through-too ss (station_after b x c) ps u t.1)

  pub asked-too : (r : Run) → Asked r one b → Asked r other b
  asked-too r d = record { opens = d.opens; sized = d.sized; offered = d.offered; room = d.room; through = through-too r.steps (fresh_station r b) (run_of r.first r.count (made r)) (usable-run r b one d) d.through }

-- wrong CRCs, bursts, and no damage
module _ (register width : ℕ) (marks p q : List ℕ) where
  pub wrong-damage : Damaged WrongCrc register width marks p q → Damaged WrongOrHit register width marks p q
  wrong-damage d = record { header = d.header; front = d.front; pieces = λ k h e. inl (d.pieces k h e) }

  pub hit-damaged : Damaged Hit register width marks p q → Damaged WrongOrHit register width marks p q
  hit-damaged d = record { header = d.header; front = d.front; pieces = λ k h e. inr (d.pieces k h e) }

  module _ (a : HeaderAltered marks p q) where
    same_read : restored p q ≡ p
    same_read = ap (λ (l : List ℕ). take 96 p ++ l) a.rest ∙ take-append-drop 96 p

    -- every piece is as sent
    pub all_sound : (k : ℕ) → as_sent width p q k ≡ true
    all_sound k = ap (λ (y : List ℕ). same_list (sealed_piece width p y k) (sealed_piece width p p k)) same_read ∙ same-itself (sealed_piece width p p k)

    pub no-damage : (damage : Damage) → Damaged damage register width marks p q
    no-damage damage = record {
      header = a.header;
      front = drop-taken 96 (front_length p) q ∙ ap (take (front_length p - 96)) a.rest ∙ sym (drop-taken 96 (front_length p) p);
      pieces = λ k h e. absurd (true≢false (sym (all_sound k) ∙ e));
    }

-- document 02, Ask 5 with Ask 10: the packets each of whose pieces is, once corrected, as sent in one copy at least, that begin in a pair not withheld
pub entitled-pairs-deliver : EntitledPairDelivery
entitled-pairs-deliver r (a, d) k = channel-delivers r (a, asked-too defined (Damaged WrongCrc r.register (width_in r)) (Damaged WrongOrHit r.register (width_in r)) (λ marks p q u h. wrong-damage r.register (width_in r) marks p q h) r d) k

-- Ask 12: the packets that arrived whole, begin in a PDU not withheld, and have no piece that was hit
pub bursts-deliver : BurstDelivery
bursts-deliver r (a, d) k = channel-delivers r (a, asked-too defined (Damaged Hit r.register (width_in r)) (Damaged WrongOrHit r.register (width_in r)) (λ marks p q u h. hit-damaged r.register (width_in r) marks p q h) r d) k

-- Ask 10: the packets that arrived whole and begin in a PDU not withheld
pub entitled-delivers : EntitledDelivery
entitled-delivers r (a, d) k = channel-delivers r (a, asked-too defined HeaderAltered (Damaged WrongOrHit r.register (width_in r)) (λ marks p q u h. no-damage r.register (width_in r) marks p q h WrongOrHit) r d) k
