-- Calls with which pieces of their PDUs are sound: what ChannelDelivery (Channel.antt) is proved by. Each PDU of a run is marked lost, or comes as a copy, some of
-- whose pieces are sound, or as two copies in a pair; the list's other calls are refused ones.
use mathlib.Core.Path.{◌≡◌}
use mathlib.Core.Bool.{Bool, true, false, ◌||◌, cond}
use mathlib.Core.List.{List, [], ◌∷◌, ◌++◌, map}
use Prim.Native.Nat.{ℕ, ◌*◌, ◌<◌, ◌≤◌}
use lib.ListN.{length, take, drop}
use Rattle.crc.specs.Crc.{crc_from}
use Rattle.burst.specs.Burst.{Burst}
use Rattle.layout.specs.Control.{control_at}
use Rattle.modes.specs.Modes.{listing}
use Rattle.pdu.specs.Reading.{mode_in}
use Rattle.packet_log.specs.Log.{log_words, packet_words}
use Rattle.reassembly.specs.Tally.{no_tally, tallied}
use Rattle.writer.specs.Writing.{writer_opened}
use Rattle.receiver.specs.Entitling.{allowed_programs}
use Rattle.receiver.specs.Receiving.{tally_of}
use Rattle.runs.specs.Transmissions.{Way, gone, here, Close, AddsUp}
use Rattle.batch.specs.declared.Batch.{Batch}
use Rattle.delivery.specs.Delivery.{Packets, concatenated, Writing, InOrder, Station, Call, receive, batch, mark_lost, defined, station_after, RefusedAfter, finally, run_of, Correctable, alone, paired}
use Rattle.delivery.proofs.Parts.{fresh_station, NoneRefused, logs_from, made, EntriesFit, due_entries, due_indices}
use Rattle.delivery.specs.Copies.{restored, front_length, bytes_at, crc_at, sealed_piece}

-- ---- a copy of a PDU

module _ (register width : ℕ) (p : List ℕ) where
  -- what may have become of a piece that is not as sent: its CRC is wrong, or its altered bits, one at least, lie inside eight consecutive bits
  pub data PieceDamage (y : List ℕ) (k : ℕ) : Type 0 where
    wrong : ¬ (crc_from register (bytes_at width p y k) ≡ crc_at width p y k) → PieceDamage y k
    burst : Burst (sealed_piece width p p k) (sealed_piece width p y k) → PieceDamage y k

  -- q is p with its first 96 bytes altered and marked within the bound; bytes 96 to La are as sent, and so is each piece with its CRC byte where
  -- `sound` says so; any other is damaged
  pub record Copy (marks q : List ℕ) (sound : ℕ → Bool) : Type 0 where
    pub header : Correctable marks p q
    pub front : take (front_length p) (restored p q) ≡ take (front_length p) p
    pub whole : (k : ℕ) → k < (control_at p).nop → sound k ≡ true → (bytes_at width p (restored p q) k ≡ bytes_at width p p k) × (crc_at width p (restored p q) k ≡ crc_at width p p k)
    pub found : (k : ℕ) → k < (control_at p).nop → sound k ≡ false → PieceDamage (restored p q) k

-- the causes of its pieces
abbrev pub causes_for : (ℕ → Bool) → ℕ → ℕ
causes_for sound k = cond (sound k) 0 2

-- ---- the calls

-- a PDU as it came in a batch, and which of its pieces are sound
pub record Came : Type 0 where
  pub pdu : List ℕ
  pub sound : ℕ → Bool

abbrev pub pdus_in : List Came → List (List ℕ)
pdus_in [] = []
pdus_in (c ∷ cs) = c.pdu ∷ pdus_in cs

-- A call of the list: for the next PDU of the run, received with these marks and these pieces sound, or as a pair of copies of which these pieces are sound, or
-- marked lost; a batch of the next ones; a batch that has others after the next ones, and is refused at the first of those; or another call, a refused one
pub data Step : Type 0 where
  receives : (marks pdu log : List ℕ) (sound : ℕ → Bool) → Step
  pairs : (first second log : List ℕ) (sound other : ℕ → Bool) → Step
  batches : (came : List Came) (log : List ℕ) → Step
  stops : (came : List Came) (lengths bytes log : List ℕ) → Step
  loses : (log : List ℕ) → Step
  refuses : Call → Step

abbrev pub call_of : Step → Call
call_of (receives marks pdu log sound) = receive (alone marks pdu) log
call_of (pairs first second log sound other) = receive (paired first second) log
call_of (batches came log) = batch (map length (pdus_in came)) (concatenated (pdus_in came)) log
call_of (stops came lengths bytes log) = batch (map length (pdus_in came) ++ lengths) (concatenated (pdus_in came) ++ bytes) log
call_of (loses log) = mark_lost log
call_of (refuses c) = c

-- what is promised of a call's answer: a call for PDUs of the run alone is not refused, and a batch of them takes them all
abbrev pub Takes : Step → Batch → Type 0
Takes (receives marks pdu log sound) a = a.refusal ≡ 0
Takes (pairs first second log sound other) a = a.refusal ≡ 0
Takes (batches came log) a = (a.refusal ≡ 0) × (a.taken ≡ length came)
Takes (stops came lengths bytes log) a = Unit {0}
Takes (loses log) a = a.refusal ≡ 0
Takes (refuses c) a = Unit {0}

-- Copies are by the register that CRCs start with, and the locators' width
module _ (register width : ℕ) where
  -- the first ones of ps, as many as these are, come as these
  abbrev pub AllCopies : List (List ℕ) → List Came → Type 0
  AllCopies ps [] = Unit {0}
  AllCopies [] (c ∷ cs) = ⊥
  AllCopies (p ∷ ps) (c ∷ cs) = Copy register width p [] c.pdu c.sound × AllCopies ps cs

  -- the calls go through these PDUs in order: each PDU has one call, with a log that suffices
  abbrev pub Through : Station → List (List ℕ) → List Step → Type 0
  Through x ps (refuses c ∷ ss) = RefusedAfter defined 0 x c × Through (station_after defined x c) ps ss
  Through x ps (batches cs log ∷ ss) = AllCopies ps cs × (8400 * length cs ≤ length log) × Through (station_after defined x (call_of (batches cs log))) (drop (length cs) ps) ss
  Through x ps (stops cs lengths bytes log ∷ ss) =
      AllCopies ps cs × (8400 * length cs ≤ length log) × RefusedAfter defined (length cs) x (call_of (stops cs lengths bytes log))
      × Through (station_after defined x (call_of (stops cs lengths bytes log))) (drop (length cs) ps) ss
  Through x [] [] = Unit {0}
  Through x (p ∷ ps) [] = ⊥
  Through x [] (receives marks q log s ∷ ss) = ⊥
  Through x (p ∷ ps) (receives marks q log s ∷ ss) = Copy register width p marks q s × (8400 ≤ length log) × Through (station_after defined x (receive (alone marks q) log)) ps ss
  Through x [] (pairs q r log s t ∷ ss) = ⊥
  Through x (p ∷ ps) (pairs q r log s t ∷ ss) = Copy register width p [] q s × Copy register width p [] r t × (8400 ≤ length log) × Through (station_after defined x (receive (paired q r) log)) ps ss
  Through x [] (loses log ∷ ss) = ⊥
  Through x (p ∷ ps) (loses log ∷ ss) = (8400 ≤ length log) × Through (station_after defined x (mark_lost log)) ps ss

-- how each PDU of the run came; of a pair, a piece is taken that is sound in one copy at least
abbrev pub ways_in : List Came → List Way
ways_in [] = []
ways_in (c ∷ cs) = here (causes_for c.sound) ∷ ways_in cs

abbrev pub ways : List Step → List Way
ways [] = []
ways (receives marks pdu log sound ∷ ss) = here (causes_for sound) ∷ ways ss
ways (pairs first second log sound other ∷ ss) = here (causes_for (λ k. sound k || other k)) ∷ ways ss
ways (batches came log ∷ ss) = ways_in came ++ ways ss
ways (stops came lengths bytes log ∷ ss) = ways_in came ++ ways ss
ways (loses log ∷ ss) = gone ∷ ways ss
ways (refuses c ∷ ss) = ways ss

module _ (mode stream register : ℕ) (programs : List ℕ) (packets : List (List ℕ)) (writings : List Writing) (first count : ℕ) (carry : List ℕ) (steps : List Step) where
  -- what is asked of the calls; the list of programs is not refused with 22, and neither count would pass its limit (document 02, Ask 14)
  pub record Asked : Type 0 where
    pub opens : (writer_opened mode stream register).refusal ≡ 0
    pub allowed : allowed_programs programs ≡ true
    pub sized : Packets packets
    pub offered : InOrder mode stream packets 0 writings
    pub room : 4096 ≤ length carry
    pub through : Through register (mode_in (listing mode stream)).width (fresh_station defined mode stream register programs carry) (run_of first count (made mode stream register writings)) steps
    pub countable : EntriesFit (due_entries mode stream programs packets writings first (ways steps))

  -- what is promised of them
  pub record Delivered : Type 0 where
    pub accepted : NoneRefused defined call_of Takes (fresh_station defined mode stream register programs carry) steps
    pub log : packet_words (logs_from defined (fresh_station defined mode stream register programs carry) (map call_of steps)) ≡ log_words (due_entries mode stream programs packets writings first (ways steps))
    pub counts : tally_of (finally defined (fresh_station defined mode stream register programs carry) (map call_of steps)).receiver ≡ tallied no_tally (due_entries mode stream programs packets writings first (ways steps))
    pub adds-up : Close (due_indices mode stream programs packets writings first (ways steps))
        → AddsUp (due_indices mode stream programs packets writings first (ways steps)) (tally_of (finally defined (fresh_station defined mode stream register programs carry) (map call_of steps)).receiver)

abbrev pub SoundDelivery : Type 0
SoundDelivery =
    (mode stream register : ℕ) (programs : List ℕ) (packets : List (List ℕ)) (writings : List Writing) (first count : ℕ) (carry : List ℕ) (steps : List Step)
    → Asked mode stream register programs packets writings first count carry steps
    → Delivered mode stream register programs packets writings first count carry steps
