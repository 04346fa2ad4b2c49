-- What the parts of a batch promise.
use Rattle.std.specs.Prelude.{cond, List, ℕ, ◌+◌, eqb}
use Rattle.receiver.specs.declared.Receiver.{Receiver}
use Rattle.receiver.specs.declared.Received.{Received}
use Rattle.batch.specs.declared.Batch.{Batch}
use Rattle.batch.specs.Batches.{Result}

-- an answer, with the buffers as they are
abbrev pub leaving : Batch → List ℕ → List ℕ → List ℕ → Result
leaving b carry pdus log = record { answer = b; carry = carry; pdus = pdus; log = log }

-- a refusal, or none: no PDU taken and no word written
abbrev pub begun_with : Receiver → ℕ → Batch
begun_with r number = record { refusal = number; wrong = 0; taken = 0; words = 0; receiver = r }

-- the counts so far, and what the next PDU's call answers: its words are counted, and it is, if it is not refused
abbrev pub with_answer : Batch → Received → Batch
with_answer b a = record { refusal = a.refusal; wrong = a.wrong; taken = b.taken + cond (eqb a.refusal 0) 1 0; words = b.words + a.words; receiver = a.receiver }
