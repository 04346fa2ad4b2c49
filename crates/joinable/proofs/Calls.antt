-- The log of a call is a log, and the carry stays one of bytes.
use mathlib.Core.Path.{◌≡◌, refl, sym, subst}
use mathlib.Core.Bool.{Bool, true, false, cond}
use mathlib.Core.List.{List, [], ◌∷◌, ◌++◌}
use Prim.Native.Nat.{ℕ, ◌+◌, ◌<◌}
use native.Mathlib.Omega.{arith}
use lib.Dec.{eqb}
use borrow.Author.Tests.{eqb-true}
use lib.ListN.{length, take, drop}
use Rattle.buffer.specs.Buffer.{put_at}
use Rattle.buffer.proofs.Laws.{take_put}
use Rattle.packet_log.specs.Log.{log_words, same_list}
use Rattle.packet_log.proofs.Packets.{Bytes as LogBytes}
use Rattle.reassembly.specs.Reassembly.{Said, Partial, nothing, beginning, Memory, received, lost_entries}
use Rattle.reassembly.specs.Run.{partial_bytes}
use Rattle.reassembly.proofs.Fitting.{SanePartial, SaneSaid, fit-received}
use Rattle.receiver.specs.Receiving.{memory_of, mode_of, said, outcome, receive_number, receive_answer, carry_after, log_after, lost_number, lost_answer, log_after_lost}
use Rattle.receiver.specs.declared.Receiver.{Receiver}
use Rattle.join.specs.Join.{sized, all_sized, is_log, entries_of}
use Rattle.join.proofs.Entries.{words-log}
use Rattle.writer.specs.RoundTrip.{Bytes}
use Rattle.receiver.proofs.AfterReceiving.{received_words}
use Rattle.joinable.proofs.Filled.{sized-all, filled-received}
use Rattle.delivery.proofs.Made.{bytes_take, bytes_drop}
use Rattle.joinable.proofs.Saying.{said-sane, held-before}
use Rattle.algebra.proofs.Places.{all_join}

pub no_words : is_log [] ≡ true
unfolding is_log all_sized entries_of same_list
no_words = unfold log_words in refl

back-bytes : (l : List ℕ) → LogBytes l → Bytes l
back-bytes [] b = tt
back-bytes (x ∷ l) b = (b.0, back-bytes l b.1)

held_bytes : (h : Partial) → SanePartial h → Bytes (partial_bytes h)
held_bytes nothing s = tt
held_bytes (beginning n b) s = back-bytes b s.0

put-bytes : (l w : List ℕ) (k : ℕ) → Bytes l → Bytes w → Bytes (put_at l k w)
unfolding put_at
put-bytes l w k b c = all_join (λ x. x < 256) (take k l ++ w) (drop (k + length w) l) (all_join (λ x. x < 256) (take k l) w (bytes_take k l b) c) (bytes_drop (k + length w) l b)

-- ---- what comes of what a PDU says, both within their bounds

module _ (range : ℕ) (x : Memory) (d : Said) (h : SanePartial x.partial) (s : SaneSaid d) where
  pub entries-log : is_log (log_words (received range x d).entries) ≡ true
  entries-log =
      let es = (received range x d).entries in
      let f = (fit-received range x d h s).0 in
      words-log es f (sized-all es f (filled-received range x d s.pieces))

  pub partial-put : (carry : List ℕ) → Bytes carry → Bytes (put_at carry 0 (partial_bytes (received range x d).partial))
  partial-put carry b = put-bytes carry (partial_bytes (received range x d).partial) 0 b (held_bytes (received range x d).partial (fit-received range x d h s).1)

-- ---- a PDU received

module _ (marks carry pdu log : List ℕ) (r : Receiver) (bc : Bytes carry) (bp : Bytes pdu) where
  words_right : receive_number marks carry pdu log r ≡ 0 → is_log (received_words marks carry pdu log r) ≡ true
  words_right e = entries-log (mode_of r).sequences (memory_of r carry) (said marks carry pdu log r) (held-before marks carry pdu log r bc bp e) (said-sane marks carry pdu log r bc bp e)

  pub received-log : is_log (take (receive_answer marks carry pdu log r).words (log_after marks carry pdu log r)) ≡ true
  unfolding receive_answer log_after
  received-log = go (eqb (receive_number marks carry pdu log r) 0) refl
    where
      go : (t : Bool) → eqb (receive_number marks carry pdu log r) 0 ≡ t
          → is_log (take (receive_answer marks carry pdu log r).words (log_after marks carry pdu log r)) ≡ true
      go true e =
          rw e (subst (λ (ws : List ℕ). is_log ws ≡ true) (sym (take_put log (received_words marks carry pdu log r))) (words_right (eqb-true (receive_number marks carry pdu log r) 0 e)))
      go false e = rw e no_words

  pub carry-bytes : Bytes (carry_after marks carry pdu log r)
  unfolding carry_after
  carry-bytes = go (eqb (receive_number marks carry pdu log r) 0) refl
    where
      go : (t : Bool) → eqb (receive_number marks carry pdu log r) 0 ≡ t → Bytes (cond t (put_at carry 0 (partial_bytes (outcome marks carry pdu log r).partial)) carry)
      go true e =
          let n = eqb-true (receive_number marks carry pdu log r) 0 e in
          partial-put (mode_of r).sequences (memory_of r carry) (said marks carry pdu log r) (held-before marks carry pdu log r bc bp n) (said-sane marks carry pdu log r bc bp n) carry bc
      go false e = bc

-- ---- a PDU marked lost

lost-words : is_log (log_words lost_entries) ≡ true
lost-words = words-log lost_entries ((omega arith, omega arith), tt) (unfold all_sized in unfold sized in refl)

pub lost-log : (log : List ℕ) (r : Receiver) → is_log (take (lost_answer log r).words (log_after_lost log r)) ≡ true
unfolding lost_answer log_after_lost
lost-log log r = go (eqb (lost_number log r) 0) refl
  where
    go : (t : Bool) → eqb (lost_number log r) 0 ≡ t → is_log (take (lost_answer log r).words (log_after_lost log r)) ≡ true
    go true e = rw e (subst (λ (ws : List ℕ). is_log ws ≡ true) (sym (take_put log (log_words lost_entries))) lost-words)
    go false e = rw e no_words
