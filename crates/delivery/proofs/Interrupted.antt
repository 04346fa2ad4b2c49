-- Document 02, Ask 13: an interrupted run logs as one never interrupted.
use mathlib.Core.Path.{◌≡◌, refl, sym, ap, ap₂, subst, ◌∙◌}
use mathlib.Core.Bool.{Bool, true, false, ◌||◌, not, cond}
use mathlib.Core.List.{List, [], ◌∷◌}
use Prim.Native.Nat.{ℕ, ◌≤◌}
use native.Mathlib.Omega.{arith}
use lib.Dec.{eqb, ltb}
use borrow.Author.Tests.{le-ltb, ltb-false, eqb-true}
use lib.ListN.{length, take}
use Rattle.refusal.proofs.Rows.{none-at}
use Rattle.buffer.specs.Buffer.{put_at}
use Rattle.receiver.specs.Receiving.{wrong_state, opened_by}
use Rattle.receiver.specs.declared.Receiver.{Receiver}
use Rattle.receiver.specs.declared.Opened.{Opened}
use Rattle.writer.specs.RoundTrip.{Bytes}
use Rattle.snapshot.specs.declared.Saved.{Saved}
use Rattle.snapshot.specs.Snapshot.{saved_words, save_number, saved, bytes_in, load_number, loaded, carry_loaded}
use Rattle.snapshot.proofs.Round.{loaded-saved, saved-words, save-room, few_words}
use Rattle.delivery.proofs.Parts.{answer_of, log_of}
use Rattle.batch.specs.declared.Batch.{Batch}
use Rattle.delivery.specs.Delivery.{Station, Call, receive, batch, mark_lost, defined, station_after, logged_by, finally, Seen, seen_of, seen_from, alone, paired}
use Rattle.delivery.specs.Interruptions.{defined_snapshot, Interruption, kept_words, resumed, Turn, called, interrupted, calls_in, seen_in, end_in, AllResume, Running, Suffices, Interruptions, EnoughWords}
use Rattle.delivery.proofs.Made.{bytes_of}
use Rattle.delivery.proofs.Held.{Alike, put-longer, SameHeld, SameCall, same-call}
use Rattle.delivery.proofs.Running.{still-runs}

-- ---- an interruption: the same record comes back, with the same held bytes

loaded-longer : (ws carry : List ℕ) → length carry ≤ length (carry_loaded ws carry)
unfolding carry_loaded
loaded-longer ws carry = go (eqb (load_number ws carry) 0)
  where
    go : (t : Bool) → length carry ≤ length (cond t (put_at carry 0 (bytes_in ws)) carry)
    go true = put-longer carry (bytes_in ws)
    go false = omega arith

-- 1, 2 and 26 are judged on the words that there are
save-last : (x : Station) (words : List ℕ) → Running x → save_number x.carry words x.receiver ≡ cond (ltb (length words) (length (saved_words x.receiver x.carry))) 26 0
save-last x words h = save-room x.receiver x.carry words h.right (le-ltb (length x.carry) 4096 h.room)

-- the number is that of the answer
save-number : (x : Station) (words : List ℕ) → (defined_snapshot.saved x words).refusal ≡ save_number x.carry words x.receiver
unfolding saved
save-number x words = go (eqb n 0) refl
  where
    n : ℕ
    n = save_number x.carry words x.receiver

    written' : Saved
    written' = record { refusal = 0; words = length (saved_words x.receiver x.carry) }

    refused' : Saved
    refused' = record { refusal = n; words = 0 }

    go : (t : Bool) → eqb n 0 ≡ t → (cond {A = Saved} t written' refused').refusal ≡ n
    go true f = sym (eqb-true n 0 f)
    go false f = refl

-- a buffer of 1,376 words is never too short
pub enough-words : EnoughWords
enough-words x words h long e =
    let n = few_words x.receiver x.carry (ltb-false 4096 x.receiver.held (none-at (wrong_state x.receiver) 3 h.right)) in
    let z : save_number x.carry words x.receiver ≡ 0 =
    save-last x words h ∙ ap (λ (t : Bool). cond t 26 0) (le-ltb (length words) (length (saved_words x.receiver x.carry)) (omega (arith, n, long))) in
    absurd (omega (arith, sym e ∙ save-number x words ∙ z))

module _ (x : Station) (i : Interruption) (h : Running x) (words : ¬ ((defined_snapshot.saved x i.words).refusal ≡ 26)) (room : 4096 ≤ length i.carry) where
  abbrev r : Receiver
  r = x.receiver

  save-none : save_number x.carry i.words r ≡ 0
  save-none = go (ltb (length i.words) (length (saved_words r x.carry))) (save-last x i.words h)
    where
      go : (t : Bool) → save_number x.carry i.words r ≡ cond t 26 0 → save_number x.carry i.words r ≡ 0
      go true e = absurd (words (save-number x i.words ∙ e))
      go false e = e

  save-accepted : (saved x.carry i.words r).refusal ≡ 0
  unfolding saved
  save-accepted = rw save-none

  words_are : kept_words defined_snapshot x i ≡ saved_words r x.carry
  words_are = saved-words r x.carry i.words save-accepted

  pub loaded-is : (loaded (kept_words defined_snapshot x i) i.carry ≡ opened_by 0 r) × (take r.held (carry_loaded (kept_words defined_snapshot x i) i.carry) ≡ take r.held x.carry)
  loaded-is =
      subst (λ (ws : List ℕ). (loaded ws i.carry ≡ opened_by 0 r) × (take r.held (carry_loaded ws i.carry) ≡ take r.held x.carry)) (sym words_are)
      (loaded-saved r x.carry h.right h.register h.entitled (let k = h.counts.0 in omega (arith, k)) (let k = h.counts.1 in omega (arith, k)) h.room (bytes_of (take r.held x.carry) h.held) i.carry room)

  pub resumes : ((defined_snapshot.saved x i.words).refusal ≡ 0) × ((defined_snapshot.loaded (kept_words defined_snapshot x i) i.carry).refusal ≡ 0)
  resumes = (save-accepted, ap (λ (o : Opened). o.refusal) loaded-is.0)

  pub resumed-held : SameHeld x (resumed defined_snapshot x i)
  resumed-held = record {
    receiver = sym (ap (λ (o : Opened). o.receiver) loaded-is.0);
    carry = record { held = sym loaded-is.1; room = h.room; other = (let k = loaded-longer (kept_words defined_snapshot x i) i.carry in omega (arith, k, room)) };
  }

-- ---- a run

held_back : (x y : Station) → SameHeld x y → SameHeld y x
held_back x y s = record {
  receiver = sym s.receiver;
  carry = subst (λ (q : Receiver). Alike q y.carry x.carry) s.receiver (record { held = sym s.carry.held; room = s.carry.other; other = s.carry.room });
}

held_then : (x y z : Station) → SameHeld x y → SameHeld y z → SameHeld x z
held_then x y z s t =
    let u = subst (λ (q : Receiver). Alike q y.carry z.carry) (sym s.receiver) t.carry in
    record { receiver = s.receiver ∙ t.receiver; carry = record { held = s.carry.held ∙ u.held; room = s.carry.room; other = u.other } }

-- one that has the record and the held bytes of another is running where that one is
held-runs : (x y : Station) → SameHeld x y → Running x → Running y
held-runs x y s h =
    subst (λ (q : Receiver). Running (record { receiver = q; carry = y.carry })) s.receiver
    (record { right = h.right; register = h.register; entitled = h.entitled; counts = h.counts; room = s.carry.other; held = subst Bytes s.carry.held h.held })

-- what is logged goes by the answer and the log
abbrev logged_for : Call → Batch → List ℕ → List ℕ
logged_for (batch lengths pdus l) a log = cond (eqb a.refusal 0 || not (eqb a.taken 0)) (take a.words log) []
logged_for (receive (alone marks pdu) l) a log = cond (eqb a.refusal 0 || not (eqb (cond (eqb a.refusal 0) 1 0) 0)) (take a.words log) []
logged_for (receive (paired first second) l) a log = cond (eqb a.refusal 0 || not (eqb (cond (eqb a.refusal 0) 1 0) 0)) (take a.words log) []
logged_for (mark_lost l) a log = cond (eqb a.refusal 0 || not (eqb (cond (eqb a.refusal 0) 1 0) 0)) (take a.words log) []

logged-is : (x : Station) (c : Call) → logged_by defined x c ≡ logged_for c (answer_of x c) (log_of x c)
logged-is x (receive (alone marks pdu) log) = refl
logged-is x (batch lengths pdus log) = refl
logged-is x (receive (paired first second) log) = refl
logged-is x (mark_lost log) = refl

same_seen : (x y : Station) (c : Call) → SameCall x y c → seen_of defined x c ≡ seen_of defined y c
same_seen x y c s =
    let e : logged_by defined x c ≡ logged_by defined y c = logged-is x c ∙ ap₂ (logged_for c) s.answer s.log ∙ sym (logged-is y c) in
    λ i. record { answer = s.answer i; log = s.log i; logged = e i }

-- x is as the run with interruptions left it, y as the one without
same-run : (ts : List Turn) (x y : Station) → SameHeld x y → Running y → Suffices defined defined_snapshot x ts
    → AllResume defined defined_snapshot x ts × (seen_in defined defined_snapshot x ts ≡ seen_from defined y (calls_in ts)) × ((end_in defined defined_snapshot x ts).receiver ≡ (finally defined y (calls_in ts)).receiver)
same-run [] x y s h g = (tt, refl, s.receiver)
same-run (called c ∷ ts) x y s h g =
    let k = same-call x y c s in
    let r = same-run ts (station_after defined x c) (station_after defined y c) k.after (still-runs y c h g.0) g.1 in
    (r.0, ap₂ (λ (v : Seen) (vs : List Seen). v ∷ vs) (same_seen x y c k) r.1, r.2)
same-run (interrupted i ∷ ts) x y s h g =
    let run : Running x = held-runs y x (held_back x y s) h in
    let back : SameHeld (resumed defined_snapshot x i) y = held_then (resumed defined_snapshot x i) x y (held_back x (resumed defined_snapshot x i) (resumed-held x i run g.0 g.1)) s in
    let r = same-run ts (resumed defined_snapshot x i) y back h g.2 in
    ((resumes x i run g.0 g.1, r.0), r.1, r.2)

-- Ask 13: no saving and no loading is refused, and answers and logs are those of the calls alone
pub unnoticed : Interruptions
unnoticed x ts h g =
    let r = same-run ts x x (record { receiver = refl; carry = record { held = refl; room = h.room; other = h.room } }) h g in
    record { resumes = r.0; same = r.1; final = r.2 }
