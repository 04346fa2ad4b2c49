-- Document 00, demand 3, by document 01, "Demand 3 is a single claim about whole lists of calls". The claim is of a receiver (`Demand3For`), with
-- opening and writing as writer/specs/Writing.antt defines them. `Demand3` is its case at the receiver of receiver/specs/Receiving.antt: the
-- contracts say that the code does what these two define. Calls have marked places (document 02, Ask 3), batches of PDUs stand among them (Ask 1), and a PDU may
-- come as a pair of copies (Ask 5); without these it is document 00's claim. The receiver is entitled to all programs; Entitlement.antt has the claim for any list of
-- them (Ask 10), and Diversity.antt and Bursts.antt those for pieces that are damaged (Asks 5 and 12). The receiver counts what it delivers and what is missing, in
-- 32 bits (Ask 14): each claim is for runs in which neither count would pass 4,294,967,295.
use Rattle.std.specs.Prelude.{◌≡◌, Bool, true, false, not, ◌&&◌, ◌||◌, cond, List, [], ◌∷◌, ◌++◌, map, ℕ, ◌+◌, ◌-◌, ◌*◌, ◌%◌, ◌≤◌, eqb, leb, length, take, drop, replicate}
use Rattle.correction.specs.Marks.{marks_refusal, unmarked_distance}
use Rattle.modes.specs.Modes.{listing}
use Rattle.pdu.specs.Reading.{mode_in}
use Rattle.pieces.specs.Pieces.{total}
use Rattle.settings.specs.declared.Settings.{Settings}
use Rattle.packet_log.specs.Log.{log_words, packet_words}
use Rattle.reassembly.specs.Tally.{no_tally, tallied, Countable}
use Rattle.runs.specs.Spans.{packet_at, Span, covers, every, whole_indices, entries_at}
use Rattle.runs.specs.Transmissions.{Close, AddsUp}
use Rattle.writer.specs.Writing.{writer_opened, placed_lengths, write_answer, written_pdu}
use Rattle.writer.specs.RoundTrip.{Bytes}
use Rattle.writer.specs.declared.Writer.{Writer}
use Rattle.writer.specs.declared.Written.{Written}
use Rattle.receiver.specs.Entitling.{all_programs}
use Rattle.receiver.specs.Receiving.{opened_for, tally_of, receive_answer, carry_after, log_after, lost_answer, log_after_lost}
use Rattle.receiver.specs.declared.Receiver.{Receiver}
use Rattle.receiver.specs.declared.Received.{Received}
use Rattle.batch.specs.Batches.{batch_received}
use Rattle.batch.specs.declared.Batch.{Batch}
use Rattle.diversity.specs.Diversity.{pair_received}

-- ---- one list of packets

-- 1 to 4,096 bytes each
abbrev pub Packets : List (List ℕ) → Type 0
Packets [] = Unit {0}
Packets (p ∷ ps) = (1 ≤ length p) × (length p ≤ 4096) × Bytes p × Packets ps

abbrev pub concatenated : List (List ℕ) → List ℕ
concatenated [] = []
concatenated (p ∷ ps) = p ++ concatenated ps

-- ---- writing calls

-- a writing call's arguments without the writer: settings, PSD, lengths and joined bytes of the packets offered, and the lent PDU buffer, as
-- it was before the call; its length is R
pub record Writing : Type 0 where
  pub settings : Settings
  pub psd : List ℕ
  pub lengths : List ℕ
  pub bytes : List ℕ
  pub buffer : List ℕ
  pub psd-bytes : Bytes psd

abbrev pub answer_to : Writer → Writing → Written
answer_to w a = write_answer a.settings a.psd a.lengths a.bytes (length a.buffer) w

abbrev pub buffer_after : Writer → Writing → List ℕ
buffer_after w a = written_pdu a.settings a.psd a.lengths a.bytes (length a.buffer) w a.buffer

-- the PDUs that a list of calls makes: each call gets the writer as the last one left it, and a refused one makes none
unfoldable pub pdus_from : Writer → List Writing → List (List ℕ)
pdus_from w [] = []
pdus_from w (a ∷ al) = cond (eqb (answer_to w a).refusal 0) (buffer_after w a ∷ []) [] ++ pdus_from (answer_to w a).writer al

-- ---- G: how many bytes of the packets, joined, are sent

-- when g bytes are sent, packet `packet_at packets g` is the unfinished one, and so many of its bytes are sent already
abbrev pub already_sent : List (List ℕ) → ℕ → ℕ
already_sent [] g = 0
already_sent (p ∷ ps) g = cond (leb (length p) g) (already_sent ps (g - length p)) g

-- each call offers the packets from the unfinished one on, as many as the caller likes
abbrev pub Offers : List (List ℕ) → Writing → Type 0
Offers ps a = (k : ℕ) × (a.lengths ≡ map length (take k ps)) × (a.bytes ≡ concatenated (take k ps))

-- besides the list itself, G is fed the mode, the stream and the writing calls' arguments alone
module _ (mode stream : ℕ) (packets : List (List ℕ)) where
  -- the state that G tells. The table asks of a sequence only that it is in its range, and nothing of the register that CRCs start with
  abbrev pub told : ℕ → Writer
  told g = record { mode = mode; stream = stream; register = 0; sequence = 0; number = packet_at packets g % 64; sent = already_sent packets g }

  -- whether the table refuses a call
  abbrev pub refused_at : ℕ → Writing → Bool
  refused_at g a = not (eqb (answer_to (told g) a).refusal 0)

  -- how many bytes the placing rule gives
  abbrev pub placed_at : ℕ → Writing → ℕ
  placed_at g a = total (placed_lengths a.settings a.psd a.lengths a.bytes (length a.buffer) (mode_in (listing mode stream)) (told g))

  -- the bytes in each PDU that a list of calls makes: an accepted call sends, from G on, those that the placing rule gives, and G grows by
  -- them; a refused one sends none
  unfoldable pub spans_from : ℕ → List Writing → List Span
  spans_from g [] = []
  spans_from g (a ∷ al) = cond (refused_at g a) (spans_from g al) (record { from = g; count = placed_at g a } ∷ spans_from (g + placed_at g a) al)

  -- the accepted calls offer the one list in order
  abbrev pub InOrder : ℕ → List Writing → Type 0
  InOrder g [] = Unit {0}
  InOrder g (a ∷ al) = cond (refused_at g a) (InOrder g al) (Offers (drop (packet_at packets g) packets) a × InOrder (g + placed_at g a) al)

-- ---- receive calls, batches, and calls marking a PDU lost

-- a receiver and its carry
pub record Station : Type 0 where
  pub receiver : Receiver
  pub carry : List ℕ

-- a PDU as it is handed over: alone, with marked places; or as two copies (document 02, Ask 5)
pub data Copies : Type 0 where
  alone : (marks pdu : List ℕ) → Copies
  paired : (first second : List ℕ) → Copies

-- a call's arguments besides, as they were before the call: a PDU, or the lengths of a batch's PDUs and these, joined; and the log
pub data Call : Type 0 where
  receive : (copies : Copies) (log : List ℕ) → Call
  batch : (lengths pdus log : List ℕ) → Call
  mark_lost : (log : List ℕ) → Call

-- A call answers as a batch does: the refusal number, k for 11, how many PDUs it took, the count of log words, and the receiver. How many it took is a batch's to say;
-- what another call says of it counts for nothing (`taken_by`, below)
abbrev pub of_one : Received → Batch
of_one a = record { refusal = a.refusal; wrong = a.wrong; taken = cond (eqb a.refusal 0) 1 0; words = a.words; receiver = a.receiver }

-- what a call leaves: its answer, the carry and the log
pub record Effect : Type 0 where
  pub answer : Batch
  pub carry : List ℕ
  pub log : List ℕ

-- a receiver as its calls show it: what opening with a list of entitled programs hands back, and what a call leaves
pub record Behaviour : Type 0 where
  pub opening : (mode stream register : ℕ) (programs : List ℕ) → Receiver
  pub effect : Station → Call → Effect

-- the receiver of document 01, with the marks, the batches and the pairs of document 02
abbrev pub effect_of : Station → Call → Effect
effect_of x (receive (alone marks pdu) log) =
    record { answer = of_one (receive_answer marks x.carry pdu log x.receiver); carry = carry_after marks x.carry pdu log x.receiver; log = log_after marks x.carry pdu log x.receiver }
effect_of x (receive (paired first second) log) = let u = pair_received x.carry first second log x.receiver in record { answer = of_one u.answer; carry = u.carry; log = u.log }
effect_of x (batch lengths pdus log) = let u = batch_received lengths x.carry pdus log x.receiver in record { answer = u.answer; carry = u.carry; log = u.log }
effect_of x (mark_lost log) = record { answer = of_one (lost_answer log x.receiver); carry = x.carry; log = log_after_lost log x.receiver }

abbrev pub defined : Behaviour
defined = record { opening = λ mode stream register programs. (opened_for mode stream register programs).receiver; effect = effect_of }

-- ---- how PDUs come

-- q is as long as p, and of the first 96 bytes some are altered, to anything: twice the altered unmarked bytes plus the marks is at most eight. The
-- marks are at most 95 each, and none is repeated. With no marks: at most four altered
pub record Correctable (marks p q : List ℕ) : Type 0 where
  pub allowed : marks_refusal marks ≡ 0
  pub bytes : Bytes q
  pub long : length q ≡ length p
  pub few : 2 * unmarked_distance marks (take 96 q) (take 96 p) + length marks ≤ 8

-- and the other bytes are p's
pub record HeaderAltered (marks p q : List ℕ) : Type 0 where
  pub header : Correctable marks p q
  pub rest : drop 96 q ≡ drop 96 p

-- how a PDU p may come as q, with these places marked: `HeaderAltered`, or what document 02 adds to it (Copies.antt)
abbrev pub Coming : Type 1
Coming = (marks p q : List ℕ) → Type 0

-- and so each copy of a pair, with no marks
abbrev pub Comes : Coming → List ℕ → Copies → Type 0
Comes comes p (alone marks q) = comes marks p q
Comes comes p (paired q r) = comes [] p q × comes [] p r

-- the first ones of ps, as many as these are, come as these, with no marks
abbrev pub AllCome : Coming → List (List ℕ) → List (List ℕ) → Type 0
AllCome comes ps [] = Unit {0}
AllCome comes [] (q ∷ qs) = ⊥
AllCome comes (p ∷ ps) (q ∷ qs) = comes [] p q × AllCome comes ps qs

-- ---- going through a run

-- A call of the list: for the next PDU of the run, received or marked lost; a batch of the next ones; a batch that has others after the next ones, of these
-- lengths and with these bytes, and is refused at the first of those; or another call, a refused one
pub data Step : Type 0 where
  receives : (copies : Copies) (log : List ℕ) → Step
  batches : (pdus : List (List ℕ)) (log : List ℕ) → Step
  stops : (pdus : List (List ℕ)) (lengths bytes log : List ℕ) → Step
  loses : (log : List ℕ) → Step
  refuses : Call → Step

abbrev pub call_of : Step → Call
call_of (receives copies log) = receive copies log
call_of (batches pdus log) = batch (map length pdus) (concatenated pdus) log
call_of (stops pdus lengths bytes log) = batch (map length pdus ++ lengths) (concatenated pdus ++ bytes) log
call_of (loses log) = mark_lost log
call_of (refuses c) = c

-- what is promised of a call's answer: a call for PDUs of the run alone is not refused, and a batch of them takes them all
abbrev pub NotRefused : Step → Batch → Type 0
NotRefused (receives copies log) a = a.refusal ≡ 0
NotRefused (batches pdus log) a = (a.refusal ≡ 0) × (a.taken ≡ length pdus)
NotRefused (stops pdus lengths bytes log) a = Unit {0}
NotRefused (loses log) a = a.refusal ≡ 0
NotRefused (refuses c) a = Unit {0}

-- which PDUs of the run are received
abbrev pub receptions : List Step → List Bool
receptions [] = []
receptions (receives copies log ∷ ss) = true ∷ receptions ss
receptions (batches pdus log ∷ ss) = replicate (length pdus) true ++ receptions ss
receptions (stops pdus lengths bytes log ∷ ss) = replicate (length pdus) true ++ receptions ss
receptions (loses log ∷ ss) = false ∷ receptions ss
receptions (refuses c ∷ ss) = receptions ss

-- what is seen of a call: its answer, with the receiver; the lent log after it, every word; and what is logged
pub record Seen : Type 0 where
  pub answer : Batch
  pub log : List ℕ
  pub logged : List ℕ

module _ (b : Behaviour) where
  -- the next call gets receiver and carry as this one left them
  abbrev pub station_after : Station → Call → Station
  station_after x c = record { receiver = (b.effect x c).answer.receiver; carry = (b.effect x c).carry }

  -- how many PDUs a call took: receiving a PDU, alone or as a pair, or marking it lost takes it, if it is not refused; a batch counts those that it took
  abbrev pub taken_by : Station → Call → ℕ
  taken_by x (receive copies log) = cond (eqb (b.effect x (receive copies log)).answer.refusal 0) 1 0
  taken_by x (batch lengths pdus log) = (b.effect x (batch lengths pdus log)).answer.taken
  taken_by x (mark_lost log) = cond (eqb (b.effect x (mark_lost log)).answer.refusal 0) 1 0

  -- a call is refused after it took so many PDUs
  abbrev pub RefusedAfter : ℕ → Station → Call → Type 0
  RefusedAfter n x c = (¬ ((b.effect x c).answer.refusal ≡ 0)) × (taken_by x c ≡ n)

  -- the calls go through these PDUs in order: each PDU has one call, with a log that suffices
  abbrev pub Through : Coming → Station → List (List ℕ) → List Step → Type 0
  Through comes x ps (refuses c ∷ ss) = RefusedAfter 0 x c × Through comes (station_after x c) ps ss
  Through comes x ps (batches qs log ∷ ss) =
      AllCome comes ps qs × (8400 * length qs ≤ length log) × Through comes (station_after x (call_of (batches qs log))) (drop (length qs) ps) ss
  Through comes x ps (stops qs lengths bytes log ∷ ss) =
      AllCome comes ps qs × (8400 * length qs ≤ length log) × RefusedAfter (length qs) x (call_of (stops qs lengths bytes log))
      × Through comes (station_after x (call_of (stops qs lengths bytes log))) (drop (length qs) ps) ss
  Through comes x [] [] = Unit {0}
  Through comes x (p ∷ ps) [] = ⊥
  Through comes x [] (receives copies log ∷ ss) = ⊥
  Through comes x (p ∷ ps) (receives copies log ∷ ss) = Comes comes p copies × (8400 ≤ length log) × Through comes (station_after x (receive copies log)) ps ss
  Through comes x [] (loses log ∷ ss) = ⊥
  Through comes x (p ∷ ps) (loses log ∷ ss) = (8400 ≤ length log) × Through comes (station_after x (mark_lost log)) ps ss

  -- a call's log counts if it is accepted, or took PDUs before it was refused: as far as the call's answer counts
  abbrev pub logged_by : Station → Call → List ℕ
  logged_by x c = cond (eqb (b.effect x c).answer.refusal 0 || not (eqb (taken_by x c) 0)) (take (b.effect x c).answer.words (b.effect x c).log) []

  abbrev pub seen_of : Station → Call → Seen
  seen_of x c = record { answer = (b.effect x c).answer; log = (b.effect x c).log; logged = logged_by x c }

  -- of calls, one after another
  abbrev pub seen_from : Station → List Call → List Seen
  seen_from x [] = []
  seen_from x (c ∷ cs) = seen_of x c ∷ seen_from (station_after x c) cs

  -- receiver and carry after them
  abbrev pub finally : Station → List Call → Station
  finally x [] = x
  finally x (c ∷ cs) = finally (station_after x c) cs

-- the logs, joined
abbrev pub logs_in : List Seen → List ℕ
logs_in [] = []
logs_in (v ∷ vs) = v.logged ++ logs_in vs

-- of what is seen of the calls of a list of steps, each answer is as promised
abbrev pub Each : {S : Type 0} → (S → Batch → Type 0) → List S → List Seen → Type 0
Each takes [] [] = Unit {0}
Each takes [] (v ∷ vs) = ⊥
Each takes (s ∷ ss) [] = ⊥
Each takes (s ∷ ss) (v ∷ vs) = takes s v.answer × Each takes ss vs

-- ---- a run

-- So many consecutive PDUs from one on, perhaps none, of those that a fresh writer makes with these calls, and the calls that go through them. Writer and receiver
-- are opened for one mode and stream, and with one register that CRCs start with, whatever it is (document 02, Ask 2); the receiver with a list of entitled
-- programs and with this carry
pub record Run : Type 0 where
  pub mode : ℕ
  pub stream : ℕ
  pub register : ℕ
  pub programs : List ℕ
  pub packets : List (List ℕ)
  pub writings : List Writing
  pub first : ℕ
  pub count : ℕ
  pub carry : List ℕ
  pub steps : List Step

abbrev pub run_of : {A : Type 0} → ℕ → ℕ → List A → List A
run_of first count l = take count (drop first l)

module _ (r : Run) where
  -- the PDUs that are made, and the bytes in each of them
  abbrev pub made : List (List ℕ)
  made = pdus_from (writer_opened r.mode r.stream r.register).writer r.writings

  abbrev pub spans : List Span
  spans = spans_from r.mode r.stream r.packets 0 r.writings

  abbrev pub fresh_station : Behaviour → Station
  fresh_station b = record { receiver = b.opening r.mode r.stream r.register r.programs; carry = r.carry }

  -- what is asked of the calls
  pub record Asked (comes : Coming) (b : Behaviour) : Type 0 where
    pub opens : (writer_opened r.mode r.stream r.register).refusal ≡ 0
    pub sized : Packets r.packets
    pub offered : InOrder r.mode r.stream r.packets 0 r.writings
    pub room : 4096 ≤ length r.carry
    pub through : Through b comes (fresh_station b) (run_of r.first r.count made) r.steps

  -- What is promised of what is seen of them, and of the receiver after them: each PDU made has its span, none of the run is refused, and the joined logs hold exactly
  -- the packets that are due, by their indices. The receiver's counts are theirs; if fewer than 64 packets are missing between one delivered and the next, delivered
  -- plus missing is the number of packets from the first delivered to the last
  pub record Delivered (due : List ℕ) (seen : List Seen) (last : Receiver) : Type 0 where
    pub as_many : length spans ≡ length made
    pub accepted : Each NotRefused r.steps seen
    pub log : packet_words (logs_in seen) ≡ log_words (entries_at r.packets due)
    pub counts : tally_of last ≡ tallied no_tally (entries_at r.packets due)
    pub adds-up : Close due → AddsUp due (tally_of last)

-- ---- the claim

-- a claim over whole runs: what is asked of a run, and which packets are then due
pub record Claim : Type 1 where
  pub asked : Run → Behaviour → Type 0
  pub due : Run → List ℕ

-- document 02, Ask 14: the counts of a receiver that delivers these packets do not pass 4,294,967,295
abbrev pub CountsFit : Claim → Run → Type 0
CountsFit k r = Countable (tallied no_tally (entries_at r.packets (k.due r)))

abbrev pub Holds : Claim → Behaviour → Type 0
Holds k b =
    (r : Run) → k.asked r b → CountsFit k r
    → Delivered r (k.due r) (seen_from b (fresh_station r b) (map call_of r.steps)) (finally b (fresh_station r b) (map call_of r.steps)).receiver

-- byte j of the joined packets lies in a received PDU
abbrev pub in_received : List Span → List Bool → ℕ → Bool
in_received [] bs j = false
in_received (s ∷ ss) [] j = false
in_received (s ∷ ss) (b ∷ bs) j = (b && covers s j) || in_received ss bs j

-- the packets all of whose bytes lie in PDUs of the run that were received
abbrev pub arrived : Run → List ℕ
arrived r = whole_indices (every (in_received (run_of r.first r.count (spans r)) (receptions r.steps))) 0 0 r.packets

abbrev pub demand3 : Claim
demand3 = record { asked = λ r b. (r.programs ≡ all_programs) × Asked r HeaderAltered b; due = arrived }

abbrev pub Demand3For : Behaviour → Type 0
Demand3For = Holds demand3

-- demand 3
abbrev pub Demand3 : Type 0
Demand3 = Demand3For defined
