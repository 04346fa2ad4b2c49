-- Document 02, Ask 13: "A drive interrupted with all of today's kinds written must log as one never interrupted." A run may be interrupted anywhere, and any
-- number of times: the receiver is written out as words, and read again from them with another carry (snapshot/specs/Snapshot.antt). The claim is of a receiver
-- and of a way to write it out and read it again, for lists of calls of any kind, with any arguments, refused or not. The promises over whole runs, demand 3's
-- and those of document 02, hold over interrupted runs too; each has its name at the end of the page.
use Rattle.std.specs.Prelude.{◌≡◌, false, List, [], ◌∷◌, map, ℕ, ◌<◌, ◌≤◌, length, take}
use Rattle.refusal.specs.Refusal.{any_of}
use Rattle.reassembly.specs.Tally.{Countable}
use Rattle.writer.specs.RoundTrip.{Bytes}
use Rattle.receiver.specs.Receiving.{opened_for, wrong_state, tally_of}
use Rattle.receiver.specs.declared.Opened.{Opened}
use Rattle.snapshot.specs.Snapshot.{saved, words_after, loaded, carry_loaded}
use Rattle.snapshot.specs.declared.Saved.{Saved}
use Rattle.delivery.specs.Delivery.{Station, Call, receive, batch, mark_lost, HeaderAltered, call_of, Behaviour, defined, station_after, Seen, seen_of, seen_from, finally, Run, fresh_station, Delivered, Claim, CountsFit, demand3, alone, paired}
use Rattle.delivery.specs.Copies.{Damaged}
use Rattle.delivery.specs.Entitlement.{for_programs}
use Rattle.delivery.specs.Diversity.{WrongCrc, pairs}
use Rattle.delivery.specs.Bursts.{Hit}
use Rattle.delivery.specs.Channel.{WrongOrHit}

-- ---- an interruption

-- a way to write a receiver out and to read it again, as its calls show it: what saving answers, and the lent buffer of words after it; what loading words
-- answers, and the lent carry after it
pub record Snapshot : Type 0 where
  pub saved : Station → List ℕ → Saved
  pub words : Station → List ℕ → List ℕ
  pub loaded : (words carry : List ℕ) → Opened
  pub carry : (words carry : List ℕ) → List ℕ

-- that of document 02, with all of today's kinds
abbrev pub defined_snapshot : Snapshot
defined_snapshot = record { saved = λ x words. saved x.carry words x.receiver; words = λ x words. words_after x.carry words x.receiver; loaded = loaded; carry = carry_loaded }

-- the buffer of words that is lent to saving, and the carry that is lent to loading, as they were before
pub record Interruption : Type 0 where
  pub words : List ℕ
  pub carry : List ℕ

module _ (s : Snapshot) where
  -- the words: the buffer as far as saving's answer counts
  abbrev pub kept_words : Station → Interruption → List ℕ
  kept_words x i = take (s.saved x i.words).words (s.words x i.words)

  -- receiver and carry after it, as loading these words leaves them
  abbrev pub resumed : Station → Interruption → Station
  resumed x i = record { receiver = (s.loaded (kept_words x i) i.carry).receiver; carry = s.carry (kept_words x i) i.carry }

-- ---- what is asked of receiver and calls

-- a receiver that number 1 does not turn down, and a carry of 4,096 bytes at least. Register, programs and held bytes are bytes, and the counts have 32 bits
pub record Running (x : Station) : Type 0 where
  pub right : any_of (wrong_state x.receiver) ≡ false
  pub register : x.receiver.register < 256
  pub entitled : x.receiver.entitled < 256
  pub counts : Countable (tally_of x.receiver)
  pub room : 4096 ≤ length x.carry
  pub held : Bytes (take x.receiver.held x.carry)

-- the PDUs of a call are of bytes
abbrev pub BytesIn : Call → Type 0
BytesIn (receive (alone marks pdu) log) = Bytes pdu
BytesIn (receive (paired first second) log) = Bytes first × Bytes second
BytesIn (batch lengths pdus log) = Bytes pdus
BytesIn (mark_lost log) = Unit {0}

-- ---- a run with interruptions

pub data Turn : Type 0 where
  called : Call → Turn
  interrupted : Interruption → Turn

-- the same run without them: its calls alone
abbrev pub calls_in : List Turn → List Call
calls_in [] = []
calls_in (called c ∷ ts) = c ∷ calls_in ts
calls_in (interrupted i ∷ ts) = calls_in ts

module _ (b : Behaviour) (s : Snapshot) where
  -- what is seen of the calls of a run with interruptions: the next call gets receiver and carry as the call or the interruption before it left them
  abbrev pub seen_in : Station → List Turn → List Seen
  seen_in x [] = []
  seen_in x (called c ∷ ts) = seen_of b x c ∷ seen_in (station_after b x c) ts
  seen_in x (interrupted i ∷ ts) = seen_in (resumed s x i) ts

  -- receiver and carry after them
  abbrev pub end_in : Station → List Turn → Station
  end_in x [] = x
  end_in x (called c ∷ ts) = end_in (station_after b x c) ts
  end_in x (interrupted i ∷ ts) = end_in (resumed s x i) ts

  -- no saving and no loading is refused
  abbrev pub AllResume : Station → List Turn → Type 0
  AllResume x [] = Unit {0}
  AllResume x (called c ∷ ts) = AllResume (station_after b x c) ts
  AllResume x (interrupted i ∷ ts) = (((s.saved x i.words).refusal ≡ 0) × ((s.loaded (kept_words s x i) i.carry).refusal ≡ 0)) × AllResume (resumed s x i) ts

  -- what is asked besides: the PDUs of each call are of bytes, and at each interruption the buffer of words is not too short, 26, and the carry has 4,096 bytes at least
  abbrev pub Suffices : Station → List Turn → Type 0
  Suffices x [] = Unit {0}
  Suffices x (called c ∷ ts) = BytesIn c × Suffices (station_after b x c) ts
  Suffices x (interrupted i ∷ ts) = (¬ ((s.saved x i.words).refusal ≡ 26)) × (4096 ≤ length i.carry) × Suffices (resumed s x i) ts

  -- no interruption is refused, all that is seen of the calls is seen without them, and the receiver is the same at the end
  pub record Unnoticed (x : Station) (ts : List Turn) : Type 0 where
    pub resumes : AllResume x ts
    pub same : seen_in x ts ≡ seen_from b x (calls_in ts)
    pub final : (end_in x ts).receiver ≡ (finally b x (calls_in ts)).receiver

  abbrev pub InterruptionsFor : Type 0
  InterruptionsFor = (x : Station) (ts : List Turn) → Running x → Suffices x ts → Unnoticed x ts

  -- a claim over whole runs, its calls interrupted as one likes, with a register that is a byte: no interruption is refused, and what is seen is as promised
  abbrev pub OverInterruptions : Claim → Type 0
  OverInterruptions k =
      (r : Run) (ts : List Turn) → r.register < 256 → k.asked r b → CountsFit k r → calls_in ts ≡ map call_of r.steps → Suffices (fresh_station r b) ts
      → AllResume (fresh_station r b) ts × Delivered r (k.due r) (seen_in (fresh_station r b) ts) (end_in (fresh_station r b) ts).receiver

-- ---- the claims

abbrev pub Interruptions : Type 0
Interruptions = InterruptionsFor defined defined_snapshot

-- a receiver opened with a register that is a byte, and a carry of 4,096 bytes at least, may be interrupted
abbrev pub OpenedRuns : Type 0
OpenedRuns =
    (mode stream register : ℕ) (programs carry : List ℕ) → (opened_for mode stream register programs).refusal ≡ 0 → register < 256 → 4096 ≤ length carry
    → Running (record { receiver = (opened_for mode stream register programs).receiver; carry = carry })

-- and a buffer of 1,376 words is never too short
abbrev pub EnoughWords : Type 0
EnoughWords = (x : Station) (words : List ℕ) → Running x → 1376 ≤ length words → ¬ ((defined_snapshot.saved x words).refusal ≡ 26)

-- the promises over whole runs: demand 3
abbrev pub InterruptedDemand3 : Type 0
InterruptedDemand3 = OverInterruptions defined defined_snapshot demand3

-- Ask 10 (Entitlement.antt)
abbrev pub InterruptedEntitled : Type 0
InterruptedEntitled = OverInterruptions defined defined_snapshot (for_programs (λ register width. HeaderAltered))

-- Ask 12 (Bursts.antt)
abbrev pub InterruptedBursts : Type 0
InterruptedBursts = OverInterruptions defined defined_snapshot (for_programs (Damaged Hit))

-- Ask 5 (Diversity.antt)
abbrev pub InterruptedPairs : Type 0
InterruptedPairs = OverInterruptions defined defined_snapshot pairs

-- Ask 5 with Ask 10
abbrev pub InterruptedEntitledPairs : Type 0
InterruptedEntitledPairs = OverInterruptions defined defined_snapshot (for_programs (Damaged WrongCrc))

-- over a channel: PDUs received with marks or without, in batches and as pairs, and marked lost, in one run (Channel.antt)
abbrev pub InterruptedChannel : Type 0
InterruptedChannel = OverInterruptions defined defined_snapshot (for_programs (Damaged WrongOrHit))
