-- The columns of a batch are those of its records.
use mathlib.Core.Path.{◌≡◌, refl, sym, ap, ap₂, subst, ◌∙◌}
use mathlib.Core.Bool.{Bool, true, false, cond}
use mathlib.Core.List.{List, [], ◌∷◌, ◌++◌, map, append_assoc}
use Prim.Native.Nat.{ℕ, ◌+◌, ◌-◌, ◌≤◌}
use native.Mathlib.Omega.{arith}
use lib.Dec.{eqb}
use lib.ListN.{length, take, drop, length-append}
use lib.Seq.{sets, sets-eq, length-take-le, take_at, drop_at, take-append-add}
use borrow.Author.Tests.{eq-eqb, ne_eqb, eqb-true, eqb-false}
use Rattle.reassembly.specs.Tally.{Tally}
use Rattle.receiver.specs.Receiving.{tally_of, receive_answer, carry_after, pdu_after, log_after}
use Rattle.receiver.specs.declared.Receiver.{Receiver}
use Rattle.receiver.specs.declared.Received.{Received}
use Rattle.batch.specs.Batches.{Result, unchanged, followed, one_by_one, word_ends, batch_number, batch_received, ends_after}
use Rattle.batch.proofs.OneByOne.{first, first_log, first_taken, first-refused, end-taken, end_refused}
use Rattle.batch.proofs.Single.{words-fit, log-long}
use Rattle.writer.specs.RoundTrip.{Bytes}
use Rattle.delivery.proofs.Made.{bytes_take, bytes_drop}
use Rattle.joinable.proofs.Calls.{carry-bytes}
use Rattle.loss.specs.Column.{after_words}
use Rattle.loss.proofs.Words.{words_append}
use Rattle.batch_loss.specs.Columns.{between, columns, last_or, records_after, columns_of_call, records_of_call, Agree, ColumnsAgree}
use Rattle.batch_loss.proofs.Calls.{call-column}

-- ---- PDUs one by one

-- what comes of them, the ends of their words after so many before them, and their records
record Comes (ns : List ℕ) (r : Receiver) (before : ℕ) (x : Result) (ends : List ℕ) (records : List Receiver) : Type 0 where
  each : (words : List ℕ) → length words ≡ before → columns (tally_of r) (words ++ x.log) before ends ≡ map tally_of records
  last : last_or (tally_of r) (map tally_of records) ≡ tally_of x.answer.receiver
  whole : after_words (tally_of r) (take x.answer.words x.log) ≡ tally_of x.answer.receiver
  many : length ends ≡ x.answer.taken
  few : x.answer.taken ≤ length ns

-- no PDU is taken
none : (ns : List ℕ) (number k : ℕ) (r : Receiver) (carry pdus log : List ℕ) (before : ℕ) → Comes ns r before (unchanged number k r carry pdus log) [] []
unfolding columns after_words
none ns number k r carry pdus log before = record { each = λ words e. refl; last = refl; whole = refl; many = refl; few = omega arith }

-- a PDU with these words, and then the others
one_more : (n : ℕ) (ns : List ℕ) (r s : Receiver) (before w : ℕ) (pdu own : List ℕ) (rest : Result) (ends : List ℕ) (records : List Receiver) → length own ≡ w → after_words (tally_of r) own ≡ tally_of s
    → Comes ns s (before + w) rest ends records → Comes (n ∷ ns) r before (followed 1 w pdu own rest) ((before + w) ∷ ends) (s ∷ records)
unfolding columns
one_more n ns r s before w pdu own rest ends records long e h = record {
  each = λ words l.
      let size : before + w - before ≡ w = omega arith in
      let mine : between (words ++ (own ++ rest.log)) before (before + w) ≡ own = ap₂ take size (drop_at words (own ++ rest.log) before l) ∙ take_at own rest.log w long in
      let both : length (words ++ own) ≡ before + w = length-append words own ∙ ap₂ (λ (i j : ℕ). i + j) l long in
      ap (λ (t : Tally). t ∷ columns t (words ++ (own ++ rest.log)) (before + w) ends) (ap (after_words (tally_of r)) mine ∙ e)
      ∙ ap (λ (l : List ℕ). tally_of s ∷ columns (tally_of s) l (before + w) ends) (sym (append_assoc words own rest.log))
      ∙ ap (λ (l : List Tally). tally_of s ∷ l) (h.each (words ++ own) both);
  last = h.last;
  whole =
      ap (λ (k : ℕ). after_words (tally_of r) (take (k + rest.answer.words) (own ++ rest.log))) (sym long)
      ∙ ap (after_words (tally_of r)) (take-append-add own rest.log rest.answer.words)
      ∙ words_append own (take rest.answer.words rest.log) (tally_of r)
      ∙ ap (λ (t : Tally). after_words t (take rest.answer.words rest.log)) e
      ∙ h.whole;
  many = (let m = h.many in omega (arith, m));
  few = (let f = h.few in omega (arith, f));
}

module _ (n : ℕ) (ns : List ℕ) (r : Receiver) (carry pdus log : List ℕ) (bc : Bytes carry) (bp : Bytes pdus) where
  abbrev a : Received
  a = first n ns r carry pdus log

  abbrev logged : List ℕ
  logged = first_log n ns r carry pdus log

  abbrev carry_next : List ℕ
  carry_next = carry_after [] carry (take n pdus) log r

  own-long : length (take a.words logged) ≡ a.words
  own-long = length-take-le a.words logged (let f = words-fit [] carry (take n pdus) log r in let g = log-long [] carry (take n pdus) log r in omega (arith, f, g))

  records-taken : a.refusal ≡ 0 → records_after (n ∷ ns) r carry pdus log ≡ a.receiver ∷ records_after ns a.receiver carry_next (drop n pdus) (drop a.words logged)
  unfolding records_after
  records-taken h = let t : eqb a.refusal 0 ≡ true = eq-eqb a.refusal 0 h in rw t

  records-refused : ¬ (a.refusal ≡ 0) → records_after (n ∷ ns) r carry pdus log ≡ []
  unfolding records_after
  records-refused h = let t : eqb a.refusal 0 ≡ false = ne_eqb a.refusal 0 h in rw t

  first-comes : (before : ℕ)
      → Comes ns a.receiver (before + a.words) (one_by_one ns a.receiver carry_next (drop n pdus) (drop a.words logged))
      (word_ends (before + a.words) ns a.receiver carry_next (drop n pdus) (drop a.words logged)) (records_after ns a.receiver carry_next (drop n pdus) (drop a.words logged))
      → Comes (n ∷ ns) r before (one_by_one (n ∷ ns) r carry pdus log) (word_ends before (n ∷ ns) r carry pdus log) (records_after (n ∷ ns) r carry pdus log)
  first-comes before h = go (eqb a.refusal 0) refl
    where
      go : (b : Bool) → eqb a.refusal 0 ≡ b → Comes (n ∷ ns) r before (one_by_one (n ∷ ns) r carry pdus log) (word_ends before (n ∷ ns) r carry pdus log) (records_after (n ∷ ns) r carry pdus log)
      go true e =
          let z = eqb-true a.refusal 0 e in
          rw (first_taken n ns r carry pdus log z, end-taken n ns r carry pdus log before z, records-taken z)
          (one_more n ns r a.receiver before a.words (pdu_after [] carry (take n pdus) log r) (take a.words logged) _ _ _ own-long (call-column [] carry (take n pdus) log r bc (bytes_take n pdus bp)) h)
      go false e =
          let z = eqb-false a.refusal 0 e in
          rw (first-refused n ns r carry pdus log z, end_refused n ns r carry pdus log before z, records-refused z) (none (n ∷ ns) a.refusal a.wrong r carry pdus log before)

one_by_one_lem : (ns : List ℕ) (r : Receiver) (carry pdus log : List ℕ) (before : ℕ) → Bytes carry → Bytes pdus
    → Comes ns r before (one_by_one ns r carry pdus log) (word_ends before ns r carry pdus log) (records_after ns r carry pdus log)
one_by_one_lem [] r carry pdus log before bc bp = unfold one_by_one in unfold word_ends in unfold records_after in none [] 0 0 r carry pdus log before
one_by_one_lem (n ∷ ns) r carry pdus log before bc bp =
    let a = receive_answer [] carry (take n pdus) log r in
    first-comes n ns r carry pdus log bc bp before
    (one_by_one_lem ns a.receiver (carry_after [] carry (take n pdus) log r) (drop n pdus) (drop a.words (log_after [] carry (take n pdus) log r)) (before + a.words)
    (carry-bytes [] carry (take n pdus) log r bc (bytes_take n pdus bp)) (bytes_drop n pdus bp))

-- ---- the call

-- the ends that are put into a list stand first in it
told : (ends list : List ℕ) (k : ℕ) → length ends ≡ k → k ≤ length list → take k (sets list 0 ends) ≡ ends
told ends list k e h = ap (take k) (sets-eq ends list 0 (omega (arith, e, h))) ∙ take_at ends (drop (0 + length ends) list) k e

pub columns-agree : ColumnsAgree
unfolding batch_received ends_after
columns-agree lengths carry pdus log ends r bc bp room = go (eqb (batch_number lengths carry pdus log r) 0) refl
  where
    go : (b : Bool) → eqb (batch_number lengths carry pdus log r) 0 ≡ b → Agree lengths carry pdus log ends r
    go true e =
        let h = one_by_one_lem lengths r carry pdus log 0 bc bp in
        let known = told (word_ends 0 lengths r carry pdus log) ends (one_by_one lengths r carry pdus log).answer.taken h.many (let f = h.few in omega (arith, f, room)) in
        let all : columns (tally_of r) (one_by_one lengths r carry pdus log).log 0 (take (one_by_one lengths r carry pdus log).answer.taken (sets ends 0 (word_ends 0 lengths r carry pdus log))) ≡ map tally_of (records_after lengths r carry pdus log) =
        ap (columns (tally_of r) (one_by_one lengths r carry pdus log).log 0) known ∙ h.each [] refl in
        record { each = rw e all; last = rw e (ap (last_or (tally_of r)) all ∙ h.last); whole = rw e h.whole }
    go false e = record { each = unfold columns in rw e refl; last = unfold columns in rw e refl; whole = unfold after_words in rw e refl }
