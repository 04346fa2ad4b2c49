-- Document 02, Ask 1: PDUs that come joined in one buffer, with a list of their lengths, received in one call.
use Rattle.std.specs.Prelude.{Bool, not, cond, List, [], ◌∷◌, ◌++◌, ℕ, ◌+◌, eqb, ltb, length, take, drop}
use Rattle.std.proofs.lemmas.List.Edits.{sets}
use Rattle.refusal.specs.Refusal.{first_of, any_of}
use Rattle.pieces.specs.Pieces.{total}
use Rattle.receiver.specs.Receiving.{wrong_state, receive_answer, carry_after, pdu_after, log_after}
use Rattle.receiver.specs.declared.Receiver.{Receiver}
use Rattle.receiver.specs.declared.Received.{Received}
use Rattle.batch.specs.declared.Batch.{Batch}

-- what a batch answers, and the lent buffers after it
pub record Result : Type 0 where
  pub answer : Batch
  pub carry : List ℕ
  pub pdus : List ℕ
  pub log : List ℕ

-- no PDU taken and no word written: all as it was, with a refusal number, 0 where there is none, and the k that comes with it
abbrev pub unchanged : ℕ → ℕ → Receiver → List ℕ → List ℕ → List ℕ → Result
unchanged number k r carry pdus log = record { answer = record { refusal = number; wrong = k; taken = 0; words = 0; receiver = r }; carry = carry; pdus = pdus; log = log }

-- what comes of the rest, after so many PDUs and words that stand before it in the buffer and in the log
abbrev pub followed : ℕ → ℕ → List ℕ → List ℕ → Result → Result
followed taken words pdus log rest = record {
  answer = record { refusal = rest.answer.refusal; wrong = rest.answer.wrong; taken = taken + rest.answer.taken; words = words + rest.answer.words; receiver = rest.answer.receiver };
  carry = rest.carry;
  pdus = pdus ++ rest.pdus;
  log = log ++ rest.log;
}

-- One receive call after another, for PDUs of these lengths, joined: each gets receiver and carry as the last one left them, and the log from where the last
-- one's words end. It stops at the first refused PDU and answers what its call answers; that one and later ones keep their bytes
unfoldable pub one_by_one : List ℕ → Receiver → List ℕ → List ℕ → List ℕ → Result
one_by_one [] r carry pdus log = unchanged 0 0 r carry pdus log
one_by_one (n ∷ ns) r carry pdus log =
    let pdu = take n pdus in
    let a = receive_answer [] carry pdu log r in
    let logged = log_after [] carry pdu log r in
    cond (eqb a.refusal 0)
    (followed 1 a.words (pdu_after [] carry pdu log r) (take a.words logged)
    (one_by_one ns a.receiver (carry_after [] carry pdu log r) (drop n pdus) (drop a.words logged)))
    (unchanged a.refusal a.wrong r carry pdus log)

-- Where the words of each PDU that is taken end in the log, as a count of words from its first on, after so many that stand before them
unfoldable pub word_ends : ℕ → List ℕ → Receiver → List ℕ → List ℕ → List ℕ → List ℕ
word_ends before [] r carry pdus log = []
word_ends before (n ∷ ns) r carry pdus log =
    let pdu = take n pdus in
    let a = receive_answer [] carry pdu log r in
    let end = before + a.words in
    cond (eqb a.refusal 0)
    (end ∷ word_ends end ns a.receiver (carry_after [] carry pdu log r) (drop n pdus) (drop a.words (log_after [] carry pdu log r)))
    []

-- ---- the call

module _ (lengths carry pdus log : List ℕ) (r : Receiver) where
  -- what is judged before the first PDU
  abbrev pub batch_tests : List (Bool × ℕ)
  batch_tests =
      (any_of (wrong_state r), 1)
      ∷ (ltb (length carry) 4096, 2)  -- carry under 4,096 bytes
      ∷ (not (eqb (total lengths) (length pdus)), 18)  -- the lengths do not sum to the buffer
      ∷ []

  unfoldable pub batch_number : ℕ
  batch_number = first_of batch_tests

  unfoldable pub batch_received : Result
  batch_received = cond (eqb batch_number 0) (one_by_one lengths r carry pdus log) (unchanged batch_number 0 r carry pdus log)

  -- a list after the call that tells where words end: these ends, from its first place on, as far as it has places
  unfoldable pub ends_after : List ℕ → List ℕ
  ends_after ends = cond (eqb batch_number 0) (sets ends 0 (word_ends 0 lengths r carry pdus log)) ends
