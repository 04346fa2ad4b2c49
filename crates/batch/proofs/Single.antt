-- What a single receive call answers, and what it leaves, accepted or refused.
use mathlib.Core.Path.{◌≡◌, refl, sym, ◌∙◌}
use mathlib.Core.Bool.{Bool, true, false}
use mathlib.Core.List.{List}
use Prim.Native.Nat.{ℕ, ◌+◌, ◌<◌, ◌≤◌}
use native.Mathlib.Omega.{arith}
use lib.Dec.{eqb}
use lib.ListN.{length, get_or, drop, length-append, length-drop}
use borrow.Author.Tests.{eqb-true, eqb-false, ltb-false}
use Rattle.refusal.specs.Refusal.{first_of}
use Rattle.refusal.proofs.Rows.{passed, row-off}
use Rattle.buffer.specs.Buffer.{put_at}
use Rattle.buffer.proofs.Laws.{put-length}
use Rattle.reassembly.specs.Run.{partial_bytes}
use Rattle.receiver.specs.Receiving.{outcome, receive_tests, receive_number, receive_answer, carry_after, pdu_after, log_after}
use Rattle.receiver.specs.declared.Receiver.{Receiver}
use Rattle.receiver.specs.declared.Received.{Received}
use Rattle.receiver.proofs.Enough.{first_twelve, most}
use Rattle.receiver.proofs.AfterReceiving.{received_words}

module _ (marks carry pdu log : List ℕ) (r : Receiver) where
  abbrev number : ℕ
  number = receive_number marks carry pdu log r

  abbrev answer : Received
  answer = receive_answer marks carry pdu log r

  -- the refusal is the number of the first row that applies
  pub refusal_is : answer.refusal ≡ number
  unfolding receive_answer
  refusal_is = go (eqb number 0) refl
    where
      go : (b : Bool) → eqb number 0 ≡ b → answer.refusal ≡ number
      go true e = rw e (sym (eqb-true number 0 e))
      go false e = rw e refl

  -- a refused call leaves all as it was, and writes no word
  pub record Kept : Type 0 where
    pub receiver : answer.receiver ≡ r
    pub words : answer.words ≡ 0
    pub carry' : carry_after marks carry pdu log r ≡ carry
    pub pdu' : pdu_after marks carry pdu log r ≡ pdu
    pub log' : log_after marks carry pdu log r ≡ log

  pub kept : ¬ (answer.refusal ≡ 0) → Kept
  unfolding receive_answer carry_after pdu_after log_after
  kept h = go (eqb number 0) refl
    where
      go : (b : Bool) → eqb number 0 ≡ b → Kept
      go true e = absurd (h (refusal_is ∙ eqb-true number 0 e))
      go false e = record { receiver = rw e; words = rw e; carry' = rw e; pdu' = rw e; log' = rw e }

  -- an accepted one has no k
  pub no-k : answer.refusal ≡ 0 → answer.wrong ≡ 0
  unfolding receive_answer
  no-k h = go (eqb number 0) refl
    where
      go : (b : Bool) → eqb number 0 ≡ b → answer.wrong ≡ 0
      go true e = rw e refl
      go false e = absurd (eqb-false number 0 e (sym refusal_is ∙ h))

  -- none of the rows 1 to 12 applies, and the log has room
  free : number ≡ 0 → (first_of (first_twelve marks carry pdu log r) ≡ 0) × (length (received_words marks carry pdu log r) ≤ length log)
  unfolding receive_number
  free e =
      let rows = drop 13 (receive_tests marks carry pdu log r) in
      let t = passed 0 (first_twelve marks carry pdu log r) rows refl e in
      (t.0, ltb-false (length log) (length (received_words marks carry pdu log r)) (row-off rows 0 refl t.1))

  -- no more words are counted than the log has
  pub words-fit : answer.words ≤ length log
  unfolding receive_answer
  words-fit = go (eqb number 0) refl
    where
      go : (b : Bool) → eqb number 0 ≡ b → answer.words ≤ length log
      go true e = rw e (free (eqb-true number 0 e)).1
      go false e = rw e (omega arith)

  -- nor more than 8,400
  pub words-most : ((i : ℕ) → get_or pdu i 0 < 256) → answer.words ≤ 8400
  unfolding receive_answer
  words-most bytes = go (eqb number 0) refl
    where
      go : (b : Bool) → eqb number 0 ≡ b → answer.words ≤ 8400
      go true e = rw e (most marks carry pdu log r bytes (free (eqb-true number 0 e)).0)
      go false e = rw e (omega arith)

  -- the log stays as long as it was, and the carry no shorter
  pub log-long : length (log_after marks carry pdu log r) ≡ length log
  unfolding log_after
  log-long = go (eqb number 0) refl
    where
      go : (b : Bool) → eqb number 0 ≡ b → length (log_after marks carry pdu log r) ≡ length log
      go true e = rw e (put-length log 0 (received_words marks carry pdu log r) (let f = (free (eqb-true number 0 e)).1 in omega (arith, f)))
      go false e = rw e

  pub carry-long : length carry ≤ length (carry_after marks carry pdu log r)
  unfolding carry_after put_at
  carry-long = go (eqb number 0) refl
    where
      held : List ℕ
      held = partial_bytes (outcome marks carry pdu log r).partial

      go : (b : Bool) → eqb number 0 ≡ b → length carry ≤ length (carry_after marks carry pdu log r)
      go true e = rw e (let l = length-append held (drop (0 + length held) carry) in let d = length-drop (0 + length held) carry in omega (arith, l, d))
      go false e = rw e (omega arith)
