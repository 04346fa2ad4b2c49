-- Document 02, Ask 14: the loss column after each PDU of a batch (Ask 1), whose call hands back only the record after its last PDU.
use Rattle.std.specs.Prelude.{◌≡◌, cond, List, [], ◌∷◌, map, ℕ, ◌-◌, ◌≤◌, eqb, length, take, drop}
use Rattle.reassembly.specs.Tally.{Tally}
use Rattle.receiver.specs.Receiving.{tally_of, receive_answer, carry_after, log_after}
use Rattle.receiver.specs.declared.Receiver.{Receiver}
use Rattle.batch.specs.Batches.{Result, batch_number, batch_received, ends_after}
use Rattle.writer.specs.RoundTrip.{Bytes}
use Rattle.loss.specs.Column.{after_words}

-- ---- from the words

-- the words of a log from a place up to another
abbrev pub between : List ℕ → ℕ → ℕ → List ℕ
between log from to = take (to - from) (drop from log)

-- the tally after each PDU, by where its words end: from the one before it and from its words
unfoldable pub columns : Tally → List ℕ → ℕ → List ℕ → List Tally
columns t log from [] = []
columns t log from (end ∷ ends) = let next = after_words t (between log from end) in next ∷ columns next log end ends

-- the last of them, or the one before all
abbrev pub last_or : Tally → List Tally → Tally
last_or t [] = t
last_or t (u ∷ us) = last_or u us

-- ---- from the records

-- the record after each PDU that is taken, one receive call after another, as in Batches.antt
unfoldable pub records_after : List ℕ → Receiver → List ℕ → List ℕ → List ℕ → List Receiver
records_after [] r carry pdus log = []
records_after (n ∷ ns) r carry pdus log =
    let pdu = take n pdus in
    let a = receive_answer [] carry pdu log r in
    cond (eqb a.refusal 0) (a.receiver ∷ records_after ns a.receiver (carry_after [] carry pdu log r) (drop n pdus) (drop a.words (log_after [] carry pdu log r)))
    []

-- ---- the claim

module _ (lengths carry pdus log ends : List ℕ) (r : Receiver) where
  abbrev pub result : Result
  result = batch_received lengths carry pdus log r

  -- by the log and the list of ends as the call leaves them, for as many PDUs as it took
  abbrev pub columns_of_call : List Tally
  columns_of_call = columns (tally_of r) result.log 0 (take result.answer.taken (ends_after lengths carry pdus log r ends))

  -- none where the call is refused before the first PDU
  abbrev pub records_of_call : List Receiver
  records_of_call = cond (eqb (batch_number lengths carry pdus log r) 0) (records_after lengths r carry pdus log) []

  pub record Agree : Type 0 where
    -- after each PDU it is that of its record
    pub each : columns_of_call ≡ map tally_of records_of_call
    -- after the last one taken that of the record that the batch hands back, and so it is after all the words logged, taken at once
    pub last : last_or (tally_of r) columns_of_call ≡ tally_of result.answer.receiver
    pub whole : after_words (tally_of r) (take result.answer.words result.log) ≡ tally_of result.answer.receiver

-- any receiver, buffers and lengths, refused batches and those taken in part included; the list of ends has a place for each PDU
abbrev pub ColumnsAgree : Type 0
ColumnsAgree = (lengths carry pdus log ends : List ℕ) (r : Receiver) → Bytes carry → Bytes pdus → length lengths ≤ length ends → Agree lengths carry pdus log ends r
