-- Document 02, Ask 14: delivered and missing of a run add up.
use Prim.Native.Nat.{ℕ, suc, ◌+◌, ◌-◌, ◌%◌, ◌≤◌, ◌<◌}
use mathlib.Core.Path.{◌≡◌, refl, sym, ap, ◌∙◌}
use mathlib.Core.Bool.{Bool, true, false, cond}
use mathlib.Core.List.{List, [], ◌∷◌, ◌++◌}
use mathlib.Core.Option.{none}
use native.Mathlib.Omega.{arith}
use native.Mathlib.Nat.{add-zero}
use borrow.Author.Tests.{ne_eqb}
use lib.Dec.{eqb}
use lib.ListN.{length, drop}
use Rattle.packet_log.specs.Log.{Entry, packet, psd, note, packets_of}
use Rattle.reassembly.specs.Rights.{Rights}
use Rattle.reassembly.specs.Tally.{Tally, no_tally, gap, counted, tallied}
use Rattle.reassembly.proofs.Tallies.{tally-append}
use Rattle.reassembly.specs.Holder.{Holder}
use Rattle.runs.proofs.Events.{Event, lost, came, opened_holder, entries_for, holder_for, logged, after}
use Rattle.runs.specs.Spans.{Mark}
use Rattle.runs.proofs.Model.{is_due, wanted, run_marks, AllFit, Sized}
use Rattle.runs.proofs.Transmissions.{Transmission, plans_from, events_from, due_from}
use Rattle.runs.specs.Transmissions.{Close, last_index, AddsUp}
use Rattle.runs.proofs.Entitled.{entitled-run}

-- ---- a receiver's counts are those of its log

-- only packets count
pub tally-packets : (es : List Entry) (t : Tally) → tallied t es ≡ tallied t (packets_of es)
unfolding tallied packets_of
tally-packets [] t = refl
tally-packets (packet n p ∷ es) t = tally-packets es (counted t n)
tally-packets (psd p ∷ es) t = tally-packets es t
tally-packets (note c k ∷ es) t = tally-packets es t

pub run-tally : (rights : Rights) (range : ℕ) (vs : List Event) (x : Holder) → (after rights range x vs).tally ≡ tallied x.tally (logged rights range x vs)
unfolding after logged
run-tally rights range [] x = unfold tallied in refl
run-tally rights range (v ∷ vs) x =
    run-tally rights range vs (holder_for rights range x v)
    ∙ ap (λ (t : Tally). tallied t (logged rights range (holder_for rights range x v) vs)) (step v)
    ∙ sym (tally-append (entries_for rights range x v) (logged rights range (holder_for rights range x v) vs) x.tally)
  where
    step : (v : Event) → (holder_for rights range x v).tally ≡ tallied x.tally (entries_for rights range x v)
    step lost = refl
    step (came d) = refl

-- ---- indices

-- deliveries of these packets
numbers_of : Tally → List ℕ → Tally
numbers_of t [] = t
numbers_of t (a ∷ l) = numbers_of (counted t (a % 64)) l

due-tally : (ps : List (List ℕ)) (i : ℕ) (m : List Mark) (t : Tally) → tallied t (wanted i ps m) ≡ numbers_of t (due_from i ps m)
unfolding wanted due_from tallied numbers_of
due-tally [] i m t = refl
due-tally (p ∷ ps) i m t = go (is_due (length p) m) (λ t. due-tally ps (suc i) (drop (length p) m) t)
  where
    go : (b : Bool) → ((t : Tally) → tallied t (wanted (suc i) ps (drop (length p) m)) ≡ numbers_of t (due_from (suc i) ps (drop (length p) m)))
        → tallied t (cond b (packet (i % 64) p ∷ wanted (suc i) ps (drop (length p) m)) (wanted (suc i) ps (drop (length p) m))) ≡ numbers_of t (cond b (i ∷ []) [] ++ due_from (suc i) ps (drop (length p) m))
    go true h = h (counted t (i % 64))
    go false h = h t

-- they rise
Rising : ℕ → List ℕ → Type 0
Rising i [] = Unit {0}
Rising i (a ∷ l) = (i ≤ a) × Rising (suc a) l

rising-less : (l : List ℕ) (i j : ℕ) → i ≤ j → Rising j l → Rising i l
unfolding Rising
rising-less [] i j h r = tt
rising-less (a ∷ l) i j h r = (omega (arith, r.0), r.1)

due-rises : (ps : List (List ℕ)) (i : ℕ) (m : List Mark) → Rising i (due_from i ps m)
unfolding due_from Rising
due-rises [] i m = tt
due-rises (p ∷ ps) i m = go (is_due (length p) m) (due-rises ps (suc i) (drop (length p) m))
  where
    go : (b : Bool) → Rising (suc i) (due_from (suc i) ps (drop (length p) m)) → Rising i (cond b (i ∷ []) [] ++ due_from (suc i) ps (drop (length p) m))
    go true h = (omega arith, h)
    go false h = rising-less (due_from (suc i) ps (drop (length p) m)) i (suc i) (omega arith) h

-- ---- the sum

gap_is : (a b : ℕ) → a < b → b ≤ a + 64 → gap (a % 64) (b % 64) ≡ b - a - 1
gap_is a b h k = omega arith

more-counted : (t : Tally) (n : ℕ) → ¬ (t.delivered ≡ 0) → counted t n ≡ record { delivered = suc t.delivered; missing = t.missing + gap t.last n; last = n }
unfolding counted
more-counted t n h = let e : eqb t.delivered 0 ≡ false = ne_eqb t.delivered 0 h in rw e

record From (a : ℕ) (l : List ℕ) (t r : Tally) : Type 0 where
  delivered : r.delivered ≡ t.delivered + length l
  both : a + (r.delivered + r.missing) ≡ last_index a l + (t.delivered + t.missing)
  last : r.last ≡ last_index a l % 64

sum-from : (l : List ℕ) (a : ℕ) (t : Tally) → ¬ (t.delivered ≡ 0) → t.last ≡ a % 64 → Rising (suc a) l → Close (a ∷ l) → From a l t (numbers_of t l)
unfolding numbers_of Rising
sum-from [] a t h e r c = record { delivered = sym (add-zero t.delivered); both = refl; last = e }
sum-from (b ∷ l) a t h e r c =
    let u : Tally = record { delivered = suc t.delivered; missing = t.missing + gap t.last (b % 64); last = b % 64 } in
    let g : gap t.last (b % 64) ≡ b - a - 1 = rw e (gap_is a b r.0 (let k = c.0 in omega (arith, k))) in
    let y : From b l u (numbers_of u l) = sum-from l b u (omega arith) refl r.1 c.1 in
    let yb = y.both in
    let yd = y.delivered in
    let rr = r.0 in
    rw (more-counted t (b % 64) h) (record { delivered = omega (arith, yd); both = omega (arith, yb, g, rr); last = y.last })

sum_of : (l : List ℕ) (i : ℕ) → Rising i l → Close l → AddsUp l (numbers_of no_tally l)
unfolding numbers_of Rising counted
sum_of [] i r c = refl
sum_of (a ∷ l) i r c =
    let u : Tally = record { delivered = 1; missing = 0; last = a % 64 } in
    let y : From a l u (numbers_of u l) = sum-from l a u (omega arith) refl r.1 c in
    let yb = y.both in
    let yd = y.delivered in
    (omega (arith, yd), omega (arith, yb), y.last)

-- of a log that holds the packets that are due
pub counts_of : (ps : List (List ℕ)) (m : List Mark) (es : List Entry) → packets_of es ≡ wanted 0 ps m → Close (due_from 0 ps m) → AddsUp (due_from 0 ps m) (tallied no_tally es)
counts_of ps m es e c =
    let q : tallied no_tally es ≡ numbers_of no_tally (due_from 0 ps m) = tally-packets es no_tally ∙ ap (tallied no_tally) e ∙ due-tally ps 0 m no_tally in
    rw q (sum_of (due_from 0 ps m) 0 (due-rises ps 0 m) c)

-- Over a run, if fewer than 64 packets are missing between one delivered and the next, delivered plus missing is the number of packets from the
-- first delivered to the last.
pub run-counts : (rights : Rights) (range : ℕ) (ps : List (List ℕ)) (cs : List Transmission) → AllFit 0 ps (plans_from rights range 0 none cs) → Sized ps
    → Close (due_from 0 ps (run_marks 0 ps (plans_from rights range 0 none cs)))
    → AddsUp (due_from 0 ps (run_marks 0 ps (plans_from rights range 0 none cs))) (after rights range opened_holder (events_from rights range 0 0 0 ps cs)).tally
run-counts rights range ps cs h z c =
    rw (run-tally rights range (events_from rights range 0 0 0 ps cs) opened_holder)
    (counts_of ps (run_marks 0 ps (plans_from rights range 0 none cs)) (logged rights range opened_holder (events_from rights range 0 0 0 ps cs)) (entitled-run rights range ps cs h z) c)
