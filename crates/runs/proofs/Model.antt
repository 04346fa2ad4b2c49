-- A run of PDUs by what they say: what a writer's PDUs carry, what comes of each on the way, what a receiver logs of them, and which packets
-- it should deliver. Bytes are numbers; nothing of a PDU's byte layout stands here.
use Prim.Native.Nat.{ℕ, zero, suc, ◌+◌, ◌%◌, ◌≤◌, ◌<◌}
use mathlib.Core.Path.{◌≡◌}
use mathlib.Core.Bool.{Bool, true, false, cond}
use mathlib.Core.List.{List, [], ◌∷◌, ◌++◌}
use lib.Dec.{ltb}
use lib.ListN.{length, take, drop, replicate}
use Rattle.packet_log.specs.Log.{Entry, packet}
use Rattle.reassembly.specs.Reassembly.{Piece, Said, Memory, following, received, remembered, lost_entries, forgotten}
use Rattle.runs.specs.Spans.{Fate, lose, read, Mark, verdicts, Span}

-- ---- the receiver over a list of events

-- a PDU is lost, or comes and says something
pub data Event : Type 0 where
  lost : Event
  came : Said → Event

-- what is logged of an event
abbrev pub entries_for : ℕ → Memory → Event → List Entry
entries_for range x lost = lost_entries
entries_for range x (came d) = (received range x d).entries

-- what is remembered after it
abbrev pub memory_for : ℕ → Memory → Event → Memory
memory_for range x lost = forgotten
memory_for range x (came d) = remembered range x d

-- the joined entries of a list of events
unfoldable pub logged : ℕ → Memory → List Event → List Entry
logged range x [] = []
logged range x (v ∷ vs) = entries_for range x v ++ logged range (memory_for range x v) vs

-- ---- the writer: what a PDU carries

-- A PDU ends `whole` packets, and carries `over` bytes of the next. `sent` bytes of the first packet of `rest` are gone already.
unfoldable pub cut : ℕ → ℕ → ℕ → List (List ℕ) → List (List ℕ)
cut sent whole over [] = []
cut sent zero zero (p ∷ ps) = []
cut sent zero (suc over) (p ∷ ps) = take (suc over) (drop sent p) ∷ []
cut sent (suc whole) over (p ∷ ps) = drop sent p ∷ cut 0 whole over ps

-- A part is a true part, no more packets are ended than there are, and a PDU after an unfinished packet is not empty.
abbrev pub Fits : ℕ → ℕ → ℕ → List (List ℕ) → Type 0
Fits sent zero zero rest = sent ≡ 0
Fits sent zero (suc over) [] = ⊥
Fits sent zero (suc over) (p ∷ ps) = sent + suc over < length p
Fits sent (suc whole) over [] = ⊥
Fits sent (suc whole) over (p ∷ ps) = Fits 0 whole over ps

-- how many bytes of the unfinished packet are sent after a PDU
abbrev pub sent_after : ℕ → ℕ → ℕ → ℕ
sent_after sent zero over = sent + over
sent_after sent (suc whole) over = over

-- ---- a run

pub record Plan : Type 0 where
  pub whole : ℕ
  pub over : ℕ
  pub psd_bytes : List ℕ
  pub fate : Fate

-- the causes, or marks, from the next piece on
abbrev pub later : {A : Type 0} → (ℕ → A) → ℕ → A
later f k = f (suc k)

-- pieces with their causes
unfoldable pub read_pieces : (ℕ → ℕ) → List (List ℕ) → List Piece
read_pieces f [] = []
read_pieces f (b ∷ bs) = record { cause = f 0; bytes = b } ∷ read_pieces (later f) bs

-- what the PDU of sequence q says, after i ended packets
abbrev pub said_of : ℕ → ℕ → ℕ → Plan → Bool → (ℕ → ℕ) → List (List ℕ) → Said
said_of q i sent c w f rest = record {
  sequence = q;
  pfirst = ltb 0 sent;
  plast = ltb 0 c.over;
  start = (i + cond (ltb 0 sent) 1 0) % 64;
  psd_bytes = c.psd_bytes;
  pieces = read_pieces f (cut sent c.whole c.over rest);
  withheld = w;
}

abbrev pub event_of : ℕ → ℕ → ℕ → Plan → Fate → List (List ℕ) → Event
event_of q i sent c lose rest = lost
event_of q i sent c (read w f) rest = came (said_of q i sent c w f rest)

-- the events of a run: sequence q comes next, i packets are ended, `sent` bytes of the first packet of `rest` are gone
unfoldable pub events : ℕ → ℕ → ℕ → ℕ → List (List ℕ) → List Plan → List Event
events range q i sent rest [] = []
events range q i sent rest (c ∷ cs) =
    event_of q i sent c c.fate rest ∷ events range (following range q) (i + c.whole) (sent_after sent c.whole c.over) (drop c.whole rest) cs

-- ---- what should be delivered

-- the mark of a byte in no PDU
abbrev pub nowhere : Mark
nowhere = verdicts lose 0

-- a mark for each byte of the pieces
unfoldable pub marks : (ℕ → Mark) → List (List ℕ) → List Mark
marks v [] = []
marks v (b ∷ bs) = replicate (length b) (v 0) ++ marks (later v) bs

-- the marks of all bytes that the PDUs of a run carry
unfoldable pub run_marks : ℕ → List (List ℕ) → List Plan → List Mark
run_marks sent rest [] = []
run_marks sent rest (c ∷ cs) =
    marks (verdicts c.fate) (cut sent c.whole c.over rest) ++ run_marks (sent_after sent c.whole c.over) (drop c.whole rest) cs

-- the first n bytes are taken
abbrev pub all_taken : ℕ → List Mark → Bool
all_taken zero m = true
all_taken (suc n) [] = false
all_taken (suc n) (b ∷ m) = cond b.taken (all_taken n m) false

-- they are taken, and begin in a PDU that is not withheld
abbrev pub is_due : ℕ → List Mark → Bool
is_due zero m = true
is_due (suc n) [] = false
is_due (suc n) (b ∷ m) = cond b.free (all_taken (suc n) (b ∷ m)) false

-- the packets, from number i on, that are due
unfoldable pub wanted : ℕ → List (List ℕ) → List Mark → List Entry
wanted i [] m = []
wanted i (p ∷ ps) m =
    let w = wanted (suc i) ps (drop (length p) m) in
    cond (is_due (length p) m) (packet (i % 64) p ∷ w) w

-- ---- premises

-- each PDU of a run fits the packets that are left
abbrev pub AllFit : ℕ → List (List ℕ) → List Plan → Type 0
AllFit sent rest [] = Unit {0}
AllFit sent rest (c ∷ cs) = Fits sent c.whole c.over rest × AllFit (sent_after sent c.whole c.over) (drop c.whole rest) cs

-- packets have 1 to 4,096 bytes
abbrev pub Sized : List (List ℕ) → Type 0
Sized [] = Unit {0}
Sized (p ∷ ps) = (1 ≤ length p) × (length p ≤ 4096) × Sized ps

-- ---- by bytes

-- the packets of which f holds (`whole_indices`), as they are logged
unfoldable pub whole_packets : (ℕ → ℕ → Bool) → ℕ → ℕ → List (List ℕ) → List Entry
whole_packets f o i [] = []
whole_packets f o i (p ∷ ps) = cond (f o (length p)) (packet (i % 64) p ∷ []) [] ++ whole_packets f (o + length p) (suc i) ps

-- ---- the spans of plans

abbrev pub bytes_in : List (List ℕ) → ℕ
bytes_in [] = 0
bytes_in (p ∷ ps) = length p + bytes_in ps

-- from place g on, with s bytes of the first packet of rest sent
unfoldable pub spans_of : ℕ → ℕ → List (List ℕ) → List Plan → List Span
spans_of g s rest [] = []
spans_of g s rest (c ∷ cs) =
    let n = bytes_in (cut s c.whole c.over rest) in
    record { from = g; count = n } ∷ spans_of (g + n) (sent_after s c.whole c.over) (drop c.whole rest) cs

abbrev pub fates_of : List Plan → List Fate
fates_of [] = []
fates_of (c ∷ cs) = c.fate ∷ fates_of cs
