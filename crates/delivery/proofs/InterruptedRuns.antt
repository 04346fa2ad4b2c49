-- Document 02, Ask 13: a run interrupted in the middle of a packet, computed; and the claim is false of a way to write a receiver out that forgets its
-- register, its sequence or its held bytes: for each, a run whose log differs; and of one that forgets the counts (Ask 14): a run whose answers differ.
use mathlib.Core.Path.{◌≡◌, refl, sym, ap, ap₂, subst, ◌∙◌}
use mathlib.Core.Bool.{Bool, true, false}
use mathlib.Core.List.{List, [], ◌∷◌, ◌++◌, map, append-nil}
use mathlib.Core.Option.{none, some}
use Prim.Native.Nat.{ℕ, zero, suc, ◌<◌, ◌≤◌}
use native.Mathlib.Omega.{arith}
use lib.ListN.{length, get_or, take, replicate, length-replicate, take-append-drop}
use Rattle.algebra.proofs.Places.{all_join}
use Rattle.refusal.specs.Refusal.{any_of}
use Rattle.modes.specs.Modes.{listing}
use Rattle.modes.specs.declared.Mode.{Mode}
use Rattle.modes.specs.declared.Listing.TheVariants.{Listed}
use Rattle.crc.specs.Crc.{crc_bit, crc_bits, crc_byte, crc_from}
use Rattle.header.specs.Header.{is_code_word, parity_of}
use Rattle.header.proofs.Division.{remainder-bytes, parity-length}
use Rattle.header.proofs.Unique.{all-bytes, bytes-all, all_drop, parity-right}
use Rattle.layout.specs.Control.{control_of, control_at}
use Rattle.layout.specs.Locators.{locator16}
use Rattle.buffer.specs.Buffer.{put_at}
use Rattle.buffer.proofs.Laws.{take_put, put-nil}
use Rattle.packet_log.proofs.Packets.{Bytes as log_bytes}
use Rattle.packet_log.specs.Log.{packet, note, data_words, entry_words, log_words}
use Rattle.correction.specs.Marks.{marks_refusal, corrected_pdu_with}
use Rattle.correction.proofs.Marking.{with-self}
use Rattle.pdu.specs.Reading.{judged, uncorrectable, any_below, wrong_locator}
use Rattle.reassembly.specs.Reassembly.{Piece, beginning, Memory, forgotten, received, remembered, sequence_step, beginning_step, psd_entries, finished, joined, piece_step, pieces_step, contents_step}
use Rattle.reassembly.specs.Tally.{Tally, no_tally, counted, tallied, Countable}
use Rattle.reassembly.specs.Holder.{Come, said_to}
use Rattle.reassembly.specs.Run.{last_of}
use Rattle.reassembly.proofs.Fitting.{SanePieces, SaneSaid}
use Rattle.reassembly.proofs.Tallies.{received-adds}
use Rattle.receiver.specs.Entitling.{entitles}
use Rattle.receiver.specs.Receiving.{pieces_in, said_by, come_by, memory_of, remembering, wrong_state, opened_by}
use Rattle.receiver.specs.declared.Receiver.{Receiver}
use Rattle.receiver.specs.declared.Opened.{Opened}
use Rattle.receiver.proofs.Counting.{lost-keeps}
use Rattle.writer.specs.RoundTrip.{Bytes}
use Rattle.snapshot.specs.Snapshot.{loaded, carry_loaded}
use Rattle.delivery.proofs.Parts.{answer_of}
use Rattle.delivery.specs.Delivery.{Station, receive, mark_lost, defined, station_after, logged_by, Seen, logs_in, alone}
use Rattle.delivery.specs.Interruptions.{Snapshot, defined_snapshot, Interruption, kept_words, resumed, Turn, called, interrupted, seen_in, Running, Suffices, InterruptionsFor}
use Rattle.delivery.proofs.FaultySnapshots.{unregistered, unsequenced, forgets_register, forgets_sequence, forgets_held, forgets_counts}
use Rattle.delivery.proofs.Made.{Heard}
use Rattle.delivery.proofs.Copies.{corrected-back}
use Rattle.delivery.proofs.Possible.{words, log-room, as-sent}
use Rattle.delivery.proofs.SmallRuns.{carry, carry-room}
use Rattle.delivery.proofs.Registers.{gets, gets-all}
use Rattle.delivery.proofs.Serving.{rights_by, Shows, taking, receive-logged, receive-takes}
use Rattle.delivery.proofs.Interrupted.{enough-words, loaded-is, resumed-held, unnoticed}
use Rattle.delivery.proofs.Running.{still-runs}

-- mode 0, core
abbrev line : Mode
line = record { width = 16; sequences = 2; limit = 128; psd = true }

listed : listing 0 0 ≡ Listed line
unfolding listing
listed = refl

range : 0 < line.sequences
range = omega arith

-- ---- PDUs of 96 bytes with a piece of two bytes

-- after the parity: bytes 8 and 11 of the control word, La 15, locator 18, a byte twice, its CRC, zeros
abbrev body : ℕ → ℕ → ℕ → ℕ → List ℕ
body b8 b11 v crc = b8 ∷ 0 ∷ 0 ∷ b11 ∷ 2 ∷ 15 ∷ 18 ∷ 0 ∷ v ∷ v ∷ crc ∷ replicate 77 0

abbrev base : ℕ → ℕ → ℕ → ℕ → List ℕ
base b8 b11 v crc = replicate 8 0 ++ body b8 b11 v crc

abbrev pdu : ℕ → ℕ → ℕ → ℕ → List ℕ
pdu b8 b11 v crc = gets 8 (parity_of (base b8 b11 v crc)) ++ body b8 b11 v crc

module _ (b8 b11 v crc : ℕ) (w : Bytes (base b8 b11 v crc)) where
  abbrev p : List ℕ
  p = pdu b8 b11 v crc

  parity : parity_of (base b8 b11 v crc) ≡ gets 8 (parity_of (base b8 b11 v crc))
  parity = gets-all 8 (parity_of (base b8 b11 v crc)) (parity-length (base b8 b11 v crc))

  code : is_code_word (take 96 p) ≡ true
  code = subst (λ (l : List ℕ). is_code_word (l ++ body b8 b11 v crc) ≡ true) parity (parity-right (base b8 b11 v crc) refl w)

  parity-bytes : Bytes (parity_of (base b8 b11 v crc))
  unfolding parity_of
  parity-bytes = bytes-all (parity_of (base b8 b11 v crc)) (remainder-bytes (body b8 b11 v crc) (all-bytes (body b8 b11 v crc) (all_drop 8 (base b8 b11 v crc) w)))

  bytes : Bytes p
  bytes = all_join (λ x. x < 256) (gets 8 (parity_of (base b8 b11 v crc))) (body b8 b11 v crc) (subst Bytes parity parity-bytes) (all_drop 8 (base b8 b11 v crc) w)

  corrected : corrected_pdu_with [] p ≡ p
  corrected = corrected-back p [] p code (omega arith) (omega arith) bytes (as-sent p (bytes, omega arith, omega arith, code)).header ∙ take-append-drop 96 p

  heard : (register : ℕ) (d : Come) → judged p ≡ 0 → (control_at p).mode ≡ 0 → (control_at p).stream ≡ 0 → come_by register 16 (control_at p) p ≡ d → Heard 0 0 register 16 [] p d
  unfolding marks_refusal
  heard register d j m s c = record {
    size = refl;
    allowed = refl;
    correctable = ap uncorrectable (with-self [] (omega arith) (take 96 p) refl bytes code);
    reads = ap judged corrected ∙ j;
    same_mode = ap (λ (l : List ℕ). (control_at l).mode) corrected ∙ m;
    same_stream = ap (λ (l : List ℕ). (control_at l).stream) corrected ∙ s;
    comes = ap (λ (l : List ℕ). come_by register 16 (control_at l) l) corrected ∙ c;
  }

-- with register 255: one of sequence 0 that begins packet 0 with 7 7, and one of sequence 1 that ends it with 9 9
abbrev begins : List ℕ
begins = pdu 0 4 7 184

abbrev ends : List ℕ
ends = pdu 64 10 9 202

-- what they say; to a receiver with another register the piece has a wrong CRC
abbrev piece : ℕ → ℕ → Piece
piece cause v = record { cause = cause; bytes = v ∷ v ∷ [] }

abbrev beginning-says : Come
beginning-says = record { said = record { sequence = 0; pfirst = false; plast = true; start = 0; psd_bytes = []; pieces = piece 0 7 ∷ []; withheld = false }; label = record { program = 0; services = 0 } }

abbrev end-says : ℕ → Come
end-says cause = record { said = record { sequence = 1; pfirst = true; plast = false; start = 1; psd_bytes = []; pieces = piece cause 9 ∷ []; withheld = false }; label = record { program = 0; services = 0 } }

zeros : (n : ℕ) → Bytes (replicate n 0)
zeros zero = tt
zeros (suc n) = (omega arith, zeros n)

base-bytes : (b8 b11 v crc : ℕ) → b8 < 256 → b11 < 256 → v < 256 → crc < 256 → Bytes (base b8 b11 v crc)
base-bytes b8 b11 v crc g h k l =
    let z : 0 < 256 = omega arith in
    all_join (λ x. x < 256) (replicate 8 0) (body b8 b11 v crc) (zeros 8) (g, (z, (z, (h, (omega arith, (omega arith, (omega arith, (z, (k, (k, (l, zeros 77)))))))))))

begins-bytes : Bytes (base 0 4 7 184)
begins-bytes = base-bytes 0 4 7 184 (omega arith) (omega arith) (omega arith) (omega arith)

ends-bytes : Bytes (base 64 10 9 202)
ends-bytes = base-bytes 64 10 9 202 (omega arith) (omega arith) (omega arith) (omega arith)

begins-heard : Heard 0 0 255 16 [] begins beginning-says
unfolding judged listing any_below wrong_locator come_by said_by pieces_in control_of locator16 crc_from crc_byte crc_bits crc_bit
begins-heard = heard 0 4 7 184 begins-bytes 255 beginning-says refl refl refl refl

ends-heard : Heard 0 0 255 16 [] ends (end-says 0)
unfolding judged listing any_below wrong_locator come_by said_by pieces_in control_of locator16 crc_from crc_byte crc_bits crc_bit
ends-heard = heard 64 10 9 202 ends-bytes 255 (end-says 0) refl refl refl refl

ends-wrong : Heard 0 0 0 16 [] ends (end-says 2)
unfolding judged listing any_below wrong_locator come_by said_by pieces_in control_of locator16 crc_from crc_byte crc_bits crc_bit
ends-wrong = heard 64 10 9 202 ends-bytes 0 (end-says 2) refl refl refl refl

-- ---- a receiver of mode 0, core, entitled to all programs, that holds nothing, or two bytes of packet 0

abbrev state : (register : ℕ) (known : Bool) (held : ℕ) → Receiver
state register known held = record { mode = 0; stream = 0; register = register; entitled = 255; known = known; sequence = 0; held = held; number = 0; serviced = false; services = 0; delivered = 0; missing = 0; last = 0 }

abbrev at : Receiver → List ℕ → Station
at r c = record { receiver = r; carry = c }

abbrev Stands : ℕ → Station → Memory → Type 0
Stands register x z = Shows 0 0 register 255 line listed range x (record { memory = z; kept = none; tally = no_tally })

state-right : (register : ℕ) (known : Bool) → any_of (wrong_state (state register known 2)) ≡ false
unfolding listing
state-right register true = refl
state-right register false = refl

abbrev holding : Bool → ℕ → Memory
holding known v = record { last = last_of known 0; partial = beginning 0 (v ∷ v ∷ []) }

stands-holding : (register : ℕ) (known : Bool) (v : ℕ) (c : List ℕ) → v < 256 → 4096 ≤ length c → take 2 c ≡ v ∷ v ∷ [] → Stands register (at (state register known 2) c) (holding known v)
unfolding memory_of
stands-holding register known v c h big e = record {
  same_mode = refl;
  same_stream = refl;
  same_register = refl;
  same_entitled = refl;
  right = state-right register known;
  room = big;
  memory = ap (λ (l : List ℕ). record { last = last_of known 0; partial = beginning 0 l }) e;
  kept = refl;
  tally = refl;
  sane = ((h, (h, tt)), omega arith, omega arith, omega arith);
  fair = tt;
  counted = record { last = omega arith; none = λ e. (refl, refl) };
}

-- ---- its calls

said-sane : (d : Come) (cause v : ℕ) → d.said.psd_bytes ≡ [] → d.said.pieces ≡ piece cause v ∷ [] → cause < 16384 → v < 256 → SaneSaid d.said
said-sane d cause v e f h k = record {
  psd = subst (λ (l : List ℕ). (length l < 65536) × log_bytes l) (sym e) (omega arith, tt);
  pieces = subst SanePieces (sym f) (record { bytes = (k, (k, tt)); some = omega arith; cause = h }, tt);
  few = subst (λ (l : List Piece). length l < 64) (sym f) (omega arith);
}

-- the first PDU counts far below the limit
few : (z : Memory) (d : Come) → length d.said.pieces ≤ 63 → Countable (tallied no_tally (received 2 z (said_to (rights_by 255 0 line) 2 (record { memory = z; kept = none; tally = no_tally }) d)).entries)
few z d h =
    let a = received-adds 2 z (said_to (rights_by 255 0 line) 2 (record { memory = z; kept = none; tally = no_tally }) d) no_tally h in
    (omega (arith, a.0), omega (arith, a.1))

module _ (register : ℕ) (x : Station) (z : Memory) (s : Stands register x z) where
  abbrev logs : Come → List ℕ
  logs d = log_words (received 2 z (said_to (rights_by 255 0 line) 2 (record { memory = z; kept = none; tally = no_tally }) d)).entries

  first-logs : Heard 0 0 register 16 [] begins beginning-says → logged_by defined x (receive (alone [] begins) words) ≡ logs beginning-says
  first-logs h = receive-logged 0 0 register 255 line listed range x _ s [] begins words beginning-says h (said-sane beginning-says 0 7 refl refl (omega arith) (omega arith)) (omega arith) (omega arith) (all-bytes begins (bytes 0 4 7 184 begins-bytes)) log-room (few z beginning-says (omega arith))

  first-takes : Heard 0 0 register 16 [] begins beginning-says → station_after defined x (receive (alone [] begins) words) ≡ taking 0 0 register 255 line listed range x beginning-says
  first-takes h = receive-takes 0 0 register 255 line listed range x _ s [] begins words beginning-says h (said-sane beginning-says 0 7 refl refl (omega arith) (omega arith)) (omega arith) (omega arith) (all-bytes begins (bytes 0 4 7 184 begins-bytes)) log-room (few z beginning-says (omega arith))

  last-logs : (cause : ℕ) → cause < 16384 → Heard 0 0 register 16 [] ends (end-says cause) → logged_by defined x (receive (alone [] ends) words) ≡ logs (end-says cause)
  last-logs cause k h = receive-logged 0 0 register 255 line listed range x _ s [] ends words (end-says cause) h (said-sane (end-says cause) cause 9 refl refl k (omega arith)) (omega arith) (omega arith) (all-bytes ends (bytes 64 10 9 202 ends-bytes)) log-room (few z (end-says cause) (omega arith))

  last-takes : (cause : ℕ) → cause < 16384 → Heard 0 0 register 16 [] ends (end-says cause) → station_after defined x (receive (alone [] ends) words) ≡ taking 0 0 register 255 line listed range x (end-says cause)
  last-takes cause k h = receive-takes 0 0 register 255 line listed range x _ s [] ends words (end-says cause) h (said-sane (end-says cause) cause 9 refl refl k (omega arith)) (omega arith) (omega arith) (all-bytes ends (bytes 64 10 9 202 ends-bytes)) log-room (few z (end-says cause) (omega arith))

-- ---- a run

-- freshly opened, and after the first PDU
abbrev opened : Station
opened = at (state 255 false 0) carry

abbrev held : Station
held = at (state 255 true 2) (put_at carry 0 (7 ∷ 7 ∷ []))

opened-stands : Stands 255 opened forgotten
unfolding listing memory_of
opened-stands = record { same_mode = refl; same_stream = refl; same_register = refl; same_entitled = refl; right = refl; room = carry-room; memory = refl; kept = refl; tally = refl; sane = tt; fair = tt; counted = record { last = omega arith; none = λ e. (refl, refl) } }

opened-runs : Running opened
opened-runs = record { right = opened-stands.right; register = omega arith; entitled = omega arith; counts = (omega arith, omega arith); room = carry-room; held = tt }

first-held : station_after defined opened (receive (alone [] begins) words) ≡ held
unfolding listing memory_of remembering remembered received sequence_step beginning_step psd_entries contents_step pieces_step piece_step joined finished entitles tallied
first-held = first-takes 255 opened forgotten opened-stands begins-heard

first-none : logged_by defined opened (receive (alone [] begins) words) ≡ []
unfolding received sequence_step beginning_step psd_entries contents_step pieces_step piece_step joined finished entitles log_words
first-none = first-logs 255 opened forgotten opened-stands begins-heard

held-runs : Running held
held-runs = subst Running first-held (still-runs opened (receive (alone [] begins) words) opened-runs (bytes 0 4 7 184 begins-bytes))

held-stands : Stands 255 held (holding true 7)
held-stands = stands-holding 255 true 7 (put_at carry 0 (7 ∷ 7 ∷ [])) (omega arith) held-runs.room (take_put carry (7 ∷ 7 ∷ []))

abbrev halt : Interruption
halt = record { words = replicate 1376 0; carry = carry }

halt-long : 1376 ≤ length halt.words
halt-long = let e : length halt.words ≡ 1376 = length-replicate {A = ℕ} 1376 0 in omega (arith, e)

halt-words : ¬ ((defined_snapshot.saved held halt.words).refusal ≡ 26)
halt-words = enough-words held halt.words held-runs halt-long

first-words : ¬ ((defined_snapshot.saved (station_after defined opened (receive (alone [] begins) words)) halt.words).refusal ≡ 26)
first-words = subst (λ (x : Station). ¬ ((defined_snapshot.saved x halt.words).refusal ≡ 26)) (sym first-held) halt-words

-- the first PDU, an interruption, and another PDU
abbrev turns : List ℕ → List Turn
turns p = called (receive (alone [] begins) words) ∷ interrupted halt ∷ called (receive (alone [] p) words) ∷ []

suffices : (s : Snapshot) (p : List ℕ) → ¬ ((s.saved (station_after defined opened (receive (alone [] begins) words)) halt.words).refusal ≡ 26) → Bytes p → Suffices defined s opened (turns p)
suffices s p k b = (bytes 0 4 7 184 begins-bytes, (k, carry-room, (b, tt)))

-- without the interruption: the second PDU ends the packet, and the first once more is out of sequence
end-logged : logged_by defined held (receive (alone [] ends) words) ≡ log_words (packet 0 (7 ∷ 7 ∷ 9 ∷ 9 ∷ []) ∷ [])
unfolding received sequence_step beginning_step psd_entries contents_step pieces_step piece_step joined finished entitles
end-logged = last-logs 255 held (holding true 7) held-stands 0 (omega arith) ends-heard

again-logged : logged_by defined held (receive (alone [] begins) words) ≡ log_words (note 1 0 ∷ [])
unfolding received sequence_step beginning_step psd_entries contents_step pieces_step piece_step joined finished entitles
again-logged = first-logs 255 held (holding true 7) held-stands begins-heard

-- and with it: the packet, interrupted after two of its four bytes, is logged whole
pub interrupted-run : logs_in (seen_in defined defined_snapshot opened (turns ends)) ≡ log_words (packet 0 (7 ∷ 7 ∷ 9 ∷ 9 ∷ []) ∷ [])
interrupted-run =
    ap logs_in (unnoticed opened (turns ends) opened-runs (suffices defined_snapshot ends first-words (bytes 64 10 9 202 ends-bytes))).same
    ∙ ap₂ (λ (l : List ℕ) (x : Station). l ++ (logged_by defined x (receive (alone [] ends) words) ++ [])) first-none first-held
    ∙ ap (λ (l : List ℕ). l ++ []) end-logged
    ∙ append-nil (log_words (packet 0 (7 ∷ 7 ∷ 9 ∷ 9 ∷ []) ∷ []))

-- ---- what forgets

-- the claim says of the second call that it logs the same
differs : (s : Snapshot) (p l m : List ℕ) → ¬ ((s.saved (station_after defined opened (receive (alone [] begins) words)) halt.words).refusal ≡ 26) → Bytes p → logged_by defined held (receive (alone [] p) words) ≡ l → logged_by defined (resumed s held halt) (receive (alone [] p) words) ≡ m → InterruptionsFor defined s → m ≡ l
differs s p l m k b e f claim =
    let a : logged_by defined opened (receive (alone [] begins) words) ++ (logged_by defined (resumed s (station_after defined opened (receive (alone [] begins) words)) halt) (receive (alone [] p) words) ++ []) ≡ m ++ [] =
    ap₂ (λ (u : List ℕ) (x : Station). u ++ (logged_by defined (resumed s x halt) (receive (alone [] p) words) ++ [])) first-none first-held ∙ ap (λ (u : List ℕ). u ++ []) f in
    let c : logged_by defined opened (receive (alone [] begins) words) ++ (logged_by defined (station_after defined opened (receive (alone [] begins) words)) (receive (alone [] p) words) ++ []) ≡ l ++ [] =
    ap₂ (λ (u : List ℕ) (x : Station). u ++ (logged_by defined x (receive (alone [] p) words) ++ [])) first-none first-held ∙ ap (λ (u : List ℕ). u ++ []) e in
    sym (append-nil m) ∙ sym a ∙ ap logs_in (claim opened (turns p) opened-runs (suffices s p k b)).same ∙ c ∙ append-nil l

-- what loading leaves in the carry
abbrev back : List ℕ
back = carry_loaded (kept_words defined_snapshot held halt) carry

answered : loaded (kept_words defined_snapshot held halt) carry ≡ opened_by 0 held.receiver
answered = (loaded-is held halt held-runs halt-words carry-room).0

back-stands : (register : ℕ) (known : Bool) → Stands register (at (state register known 2) back) (holding known 7)
back-stands register known =
    stands-holding register known 7 back (omega arith) (resumed-held held halt held-runs halt-words carry-room).carry.other
    ((loaded-is held halt held-runs halt-words carry-room).1 ∙ take_put carry (7 ∷ 7 ∷ []))

-- the register: the second PDU's piece has a wrong CRC, note 2
unregistered-logged : logged_by defined (resumed forgets_register held halt) (receive (alone [] ends) words) ≡ log_words (note 2 0 ∷ [])
unfolding received sequence_step beginning_step psd_entries contents_step pieces_step piece_step joined finished entitles
unregistered-logged =
    ap (λ (o : Opened). logged_by defined (at (unregistered o.receiver) back) (receive (alone [] ends) words)) answered
    ∙ last-logs 0 (at (state 0 true 2) back) (holding true 7) (back-stands 0 true) 2 (omega arith) ends-wrong

pub register-wrong : ¬ InterruptionsFor defined forgets_register
unfolding log_words entry_words data_words
register-wrong claim =
    let h : ◌≡◌ {A = ℕ} 1 3 = ap length (differs forgets_register ends _ _ first-words (bytes 64 10 9 202 ends-bytes) end-logged unregistered-logged claim) in
    absurd (omega (arith, h))

-- the sequence: the first PDU once more is not out of sequence, but does not continue what is held, note 4
unsequenced-logged : logged_by defined (resumed forgets_sequence held halt) (receive (alone [] begins) words) ≡ log_words (note 4 0 ∷ [])
unfolding received sequence_step beginning_step psd_entries contents_step pieces_step piece_step joined finished entitles
unsequenced-logged =
    ap (λ (o : Opened). logged_by defined (at (unsequenced o.receiver) back) (receive (alone [] begins) words)) answered
    ∙ first-logs 255 (at (state 255 false 2) back) (holding false 7) (back-stands 255 false) begins-heard

pub sequence-wrong : ¬ InterruptionsFor defined forgets_sequence
unfolding log_words entry_words data_words
sequence-wrong claim =
    let h : ◌≡◌ {A = ℕ} 0xc0040000 0xc0010000 = ap (λ (l : List ℕ). get_or l 0 0) (differs forgets_sequence begins _ _ first-words (bytes 0 4 7 184 begins-bytes) again-logged unsequenced-logged claim) in
    absurd (omega (arith, h))

-- the held bytes: the packet is logged with others
bytes-logged : logged_by defined (resumed forgets_held held halt) (receive (alone [] ends) words) ≡ log_words (packet 0 (0 ∷ 0 ∷ 9 ∷ 9 ∷ []) ∷ [])
unfolding received sequence_step beginning_step psd_entries contents_step pieces_step piece_step joined finished entitles
bytes-logged =
    ap (λ (o : Opened). logged_by defined (at o.receiver carry) (receive (alone [] ends) words)) answered
    ∙ last-logs 255 (at (state 255 true 2) carry) (holding true 0) (stands-holding 255 true 0 carry (omega arith) carry-room refl) 0 (omega arith) ends-heard

pub held-wrong : ¬ InterruptionsFor defined forgets_held
unfolding log_words entry_words data_words
held-wrong claim =
    let h : ◌≡◌ {A = ℕ} 0x43000009 0x43070709 = ap (λ (l : List ℕ). get_or l 1 0) (differs forgets_held ends _ _ first-words (bytes 64 10 9 202 ends-bytes) end-logged bytes-logged claim) in
    absurd (omega (arith, h))

-- the counts: both PDUs, an interruption, and a PDU marked lost. The logs are the same, but the receiver in the last answer has 0 delivered in place of 1
abbrev counting : ℕ → Station
counting n = at (record { mode = 0; stream = 0; register = 255; entitled = 255; known = true; sequence = 1; held = 0; number = 0; serviced = false; services = 0; delivered = n; missing = 0; last = 0 }) held.carry

second-counted : station_after defined held (receive (alone [] ends) words) ≡ counting 1
unfolding listing memory_of remembering remembered received sequence_step beginning_step psd_entries contents_step pieces_step piece_step joined finished entitles tallied counted put_at
second-counted = last-takes 255 held (holding true 7) held-stands 0 (omega arith) ends-heard ∙ ap (at (counting 1).receiver) (put-nil held.carry 0)

both-counted : station_after defined (station_after defined opened (receive (alone [] begins) words)) (receive (alone [] ends) words) ≡ counting 1
both-counted = ap (λ (x : Station). station_after defined x (receive (alone [] ends) words)) first-held ∙ second-counted

uncounted-runs : Running (counting 0)
unfolding listing
uncounted-runs = record { right = refl; register = omega arith; entitled = omega arith; counts = (omega arith, omega arith); room = held-runs.room; held = tt }

uncounted-words : ¬ ((forgets_counts.saved (counting 1) halt.words).refusal ≡ 26)
uncounted-words = enough-words (counting 0) halt.words uncounted-runs halt-long

-- delivered, in the answer to marking a PDU lost
abbrev delivered_at : Station → ℕ
delivered_at x = (answer_of x (mark_lost words)).receiver.delivered

lost-same : (x : Station) → delivered_at x ≡ x.receiver.delivered
lost-same x = ap (λ (t : Tally). t.delivered) (lost-keeps words x.receiver)

uncounted-none : delivered_at (resumed forgets_counts (counting 1) halt) ≡ 0
uncounted-none = lost-same (resumed forgets_counts (counting 1) halt) ∙ ap (λ (o : Opened). o.receiver.delivered) (loaded-is (counting 0) halt uncounted-runs uncounted-words carry-room).0

pub counts-wrong : ¬ InterruptionsFor defined forgets_counts
counts-wrong claim =
    let x : Station = station_after defined (station_after defined opened (receive (alone [] begins) words)) (receive (alone [] ends) words) in
    let enough : ¬ ((forgets_counts.saved x halt.words).refusal ≡ 26) = subst (λ (y : Station). ¬ ((forgets_counts.saved y halt.words).refusal ≡ 26)) (sym both-counted) uncounted-words in
    let same = (claim opened (called (receive (alone [] begins) words) ∷ called (receive (alone [] ends) words) ∷ interrupted halt ∷ called (mark_lost words) ∷ []) opened-runs
    (bytes 0 4 7 184 begins-bytes, (bytes 64 10 9 202 ends-bytes, (enough, carry-room, (tt, tt))))).same in
    let e : delivered_at (resumed forgets_counts x halt) ≡ delivered_at x = ap (λ (vs : List Seen). get_or (map (λ (v : Seen). v.answer.receiver.delivered) vs) 2 0) same in
    let h : ◌≡◌ {A = ℕ} 0 1 = sym (ap (λ (y : Station). delivered_at (resumed forgets_counts y halt)) both-counted ∙ uncounted-none) ∙ e ∙ ap delivered_at both-counted ∙ lost-same (counting 1) in
    absurd (omega (arith, h))
