-- The column after the words of a call is that of the record it hands back.
use mathlib.Core.Path.{◌≡◌, refl, ap, ◌∙◌}
use mathlib.Core.Bool.{Bool, true, false, cond}
use mathlib.Core.List.{List, []}
use Prim.Native.Nat.{ℕ}
use lib.Dec.{eqb}
use lib.ListN.{take, drop}
use borrow.Author.Tests.{eqb-true}
use Rattle.refusal.specs.Refusal.{first_of}
use Rattle.refusal.proofs.Rows.{passed, row-off}
use Rattle.buffer.proofs.Laws.{take_put}
use Rattle.reassembly.proofs.Fitting.{fit-received}
use Rattle.reassembly.proofs.Tallies.{within-limit}
use Rattle.receiver.specs.Receiving.{memory_of, mode_of, tally_of, remembering, said, outcome, receive_tests, receive_number, receive_answer, log_after}
use Rattle.receiver.specs.declared.Receiver.{Receiver}
use Rattle.receiver.proofs.Counting.{counts-fair}
use Rattle.receiver.proofs.Enough.{first_twelve}
use Rattle.writer.specs.RoundTrip.{Bytes}
use Rattle.joinable.proofs.Saying.{said-sane, held-before}
use Rattle.loss.specs.Column.{after_words}
use Rattle.loss.proofs.Words.{entries-tallied}
use Rattle.receiver.proofs.AfterReceiving.{received_words, tally_after}

module _ (marks carry pdu log : List ℕ) (r : Receiver) (bc : Bytes carry) (bp : Bytes pdu) where
  abbrev number : ℕ
  number = receive_number marks carry pdu log r

  -- an accepted PDU's words: numbers 1 and 27 do not apply
  accepted-column : number ≡ 0 → after_words (tally_of r) (received_words marks carry pdu log r) ≡ tally_after marks carry pdu log r
  unfolding receive_number
  accepted-column e =
      let rows = drop 13 (receive_tests marks carry pdu log r) in
      let t = passed 0 (first_twelve marks carry pdu log r) rows refl e in
      let fit = (fit-received (mode_of r).sequences (memory_of r carry) (said marks carry pdu log r) (held-before marks carry pdu log r bc bp e) (said-sane marks carry pdu log r bc bp e)).0 in
      entries-tallied (outcome marks carry pdu log r).entries (tally_of r) fit (counts-fair r (row-off (first_twelve marks carry pdu log r) 0 refl t.0)).last
      (within-limit (tally_after marks carry pdu log r) (row-off rows 1 refl t.1))

  pub call-column : after_words (tally_of r) (take (receive_answer marks carry pdu log r).words (log_after marks carry pdu log r)) ≡ tally_of (receive_answer marks carry pdu log r).receiver
  unfolding receive_answer log_after remembering after_words
  call-column = go (eqb number 0) refl
    where
      go : (b : Bool) → eqb number 0 ≡ b
          → after_words (tally_of r) (take (receive_answer marks carry pdu log r).words (log_after marks carry pdu log r)) ≡ tally_of (receive_answer marks carry pdu log r).receiver
      go true e = rw e (ap (after_words (tally_of r)) (take_put log (received_words marks carry pdu log r)) ∙ accepted-column (eqb-true number 0 e))
      go false e = rw e refl
