-- Small runs in mode 0, core, whose sequence has one bit, with register 0. Where the bytes of the PDUs stand and which packets are asked for is
-- computed; that the log holds these packets is the theorem.
use mathlib.Core.Path.{◌≡◌, refl, sym, ap, ap₂, subst, ◌∙◌}
use mathlib.Core.Bool.{Bool, true, false, not, ◌&&◌, ◌||◌, cond}
use mathlib.Core.List.{List, [], ◌∷◌, ◌++◌, map}
use Prim.Native.Nat.{ℕ, zero, suc, ◌+◌, ◌<◌, ◌≤◌}
use native.Mathlib.Omega.{arith}
use lib.ListN.{length, get_or, take, drop, replicate, length-replicate, length-take, length-drop}
use lib.Dec.{eqb, ltb}
use borrow.Author.Tests.{eq-eqb, ne_eqb}
use lib.Seq.{length-take-le, get_or-take}
use Rattle.algebra.specs.Places.{below, keep}
use Rattle.algebra.proofs.Places.{one}
use Rattle.correction.specs.Marks.{is_marked, marks_refusal, unmarked_distance}
use Rattle.correction.proofs.Counting.{keep-le}
use Rattle.refusal.specs.Refusal.{first_of, any_of}
use Rattle.header.specs.Header.{distance}
use Rattle.modes.specs.Modes.{listing}
use Rattle.settings.specs.Settings.{fields_for}
use Rattle.settings.specs.declared.Settings.{Settings}
use Rattle.expansion.specs.Expansion.{chained}
use Rattle.expansion.specs.Writing.{expansion_bytes}
use Rattle.packing.specs.Packing.{largest_up_to, most_pieces, fit, wholes_from, part_after, part_from}
use Rattle.pieces.specs.Pieces.{total}
use Rattle.packet_log.specs.Log.{Entry, packet, entry_words, log_words, packet_words}
use Rattle.writer.specs.Writing.{writer_opened, write_answer}
use Rattle.writer.specs.RoundTrip.{Bytes}
use Rattle.receiver.specs.Entitling.{all_programs}
use Rattle.receiver.specs.Receiving.{receive_number, receive_answer, lost_number, lost_answer, refused_answer, wrong_state}
use Rattle.receiver.specs.declared.Receiver.{Receiver}
use Rattle.receiver.specs.declared.Received.{Received}
use Rattle.runs.specs.Spans.{Span, every, whole_indices}
use Rattle.delivery.specs.Delivery.{Packets, concatenated, Writing, spans_from, InOrder, Station, Call, receive, mark_lost, defined, Step, refuses, call_of, receptions, RefusedAfter, in_received, run_of, Behaviour, batches, loses, arrived as arrived_in, Demand3For, alone}
use Rattle.delivery.proofs.Parts.{run_with, fresh_station, logs_from, made, spans, arrived_entries, Asked, answer_of}
use Rattle.runs.proofs.Model.{whole_packets}
use Rattle.delivery.proofs.Channel.{made-right}
use Rattle.delivery.proofs.Possible.{four-altered, Alters, verbatim, steps_for, told-receptions, goes_through, run-usable, steps_of, possible}
use Rattle.delivery.proofs.Claimed.{Logged, demand3-says}
use Rattle.delivery.proofs.Theorem.{delivers}

-- plain settings: no expansion fields
abbrev pub plain : Settings
plain = record { blend = 0; gain = 0; common = 0; latency = 0; classed = false; class = 0; programmed = false; program = 0; displaced = false; typed = false; access = 0; ptype = 0; serviced = false; services = 0; marker = 0 }

-- packets of 20, 300 and 10 bytes
abbrev pub three : List (List ℕ)
three = replicate 20 1 ∷ replicate 300 2 ∷ replicate 10 3 ∷ []

-- a call that offers these packets, for a PDU of so many bytes
abbrev pub offering : ℕ → List (List ℕ) → Writing
offering size ps = record { settings = plain; psd = []; lengths = map length ps; bytes = concatenated ps; buffer = replicate size 0; psd-bytes = tt }

-- six calls. The second is refused with 3, the others make five PDUs; the packet of 300 bytes spans all five
abbrev pub six : List Writing
six = offering 96 three ∷ offering 95 (drop 1 three) ∷ offering 96 (drop 1 three) ∷ offering 96 (drop 1 three) ∷ offering 96 (drop 1 three) ∷ offering 96 (drop 1 three) ∷ []

-- where the bytes of each PDU stand among the packets joined
abbrev pub five_spans : List Span
five_spans =
    record { from = 0; count = 76 } ∷ record { from = 76; count = 79 } ∷ record { from = 155; count = 79 } ∷ record { from = 234; count = 79 } ∷ record { from = 313; count = 17 } ∷ []

pub spans-are : spans 0 0 three six ≡ five_spans
unfolding spans_from write_answer listing fields_for expansion_bytes chained total largest_up_to most_pieces fit wholes_from part_after part_from
spans-are = refl

pub bytes_same : (n v : ℕ) → v < 256 → Bytes (replicate n v)
bytes_same zero v h = tt
bytes_same (suc n) v h = (h, bytes_same n v h)

pub packets-right : Packets three
packets-right = (
  omega arith,
  omega arith,
  bytes_same 20 1 (omega arith),
  (omega arith, omega arith, bytes_same 300 2 (omega arith), (omega arith, omega arith, bytes_same 10 3 (omega arith), tt)),
)

-- each accepted call offers the packets from the unfinished one on
pub in_order : InOrder 0 0 three 0 six
unfolding write_answer listing fields_for expansion_bytes chained total largest_up_to most_pieces fit wholes_from part_after part_from
in_order = ((3, refl, refl), ((2, refl, refl), ((2, refl, refl), ((2, refl, refl), ((2, refl, refl), tt)))))

pub opens : (writer_opened 0 0 0).refusal ≡ 0
unfolding writer_opened listing
opens = refl

abbrev pub carry : List ℕ
carry = replicate 4096 0

pub carry-room : 4096 ≤ length carry
carry-room = let e : length carry ≡ 4096 = length-replicate {A = ℕ} 4096 0 in omega (arith, e)

-- ---- which packets are asked for

pub run_length : (first count n : ℕ) → length (run_of first count five_spans) ≡ n → length (run_of first count (made 0 0 0 six)) ≡ n
run_length first count n h =
    let e : length five_spans ≡ length (made 0 0 0 six) = sym (ap length spans-are) ∙ (made-right 0 0 0 three six opens packets-right in_order).as_many in
    let t = length-take count (drop first (made 0 0 0 six)) in
    let u = length-take count (drop first five_spans) in
    let d = length-drop first (made 0 0 0 six) in
    let f = length-drop first five_spans in
    omega (arith, e, t, u, d, f, h)

-- the words that demand 3 asks for, of so many PDUs from one on, of which these are received
abbrev pub asked_for : ℕ → ℕ → List Bool → List ℕ
asked_for first count bs = log_words (arrived_entries 0 0 three six first count bs)

pub asked_is : (first count : ℕ) (bs : List Bool) (es : List Entry) → whole_packets (every (in_received (run_of first count five_spans) bs)) 0 0 three ≡ es → asked_for first count bs ≡ log_words es
asked_is first count bs es e = ap log_words (ap (λ (l : List Span). whole_packets (every (in_received (run_of first count l) bs)) 0 0 three) spans-are ∙ e)

-- the third of five lost: packets 0 and 2 are asked for
pub third-lost : arrived_in (run_with 0 0 0 all_programs three six 0 5 [] (batches ([] ∷ [] ∷ []) [] ∷ loses [] ∷ batches ([] ∷ [] ∷ []) [] ∷ [])) ≡ 0 ∷ 2 ∷ []
unfolding whole_indices spans_from write_answer listing fields_for expansion_bytes chained total largest_up_to most_pieces fit wholes_from part_after part_from
third-lost = refl

-- ---- what the receiver logs, each PDU as it was written or marked lost

pub three-few : length three ≤ 4294967295
three-few = let n : length three ≡ 3 = refl in omega (arith, n)

abbrev pub calls : ℕ → ℕ → List Bool → List Step
calls first count bs = steps_of 0 0 0 three six opens packets-right in_order first count bs

abbrev pub logged_in : ℕ → ℕ → List Bool → List ℕ
logged_in first count bs = packet_words (logs_from defined (fresh_station defined 0 0 0 all_programs carry) (map call_of (calls first count bs)))

pub told : (first count : ℕ) (bs : List Bool) → length (run_of first count five_spans) ≡ length bs → receptions (calls first count bs) ≡ bs
told first count bs n = told-receptions [] verbatim [] (run_of first count (made 0 0 0 six)) bs refl (sym (run_length first count (length bs) n))

-- what demand 3 says of calls for these PDUs
pub small-run : (b : Behaviour) → Demand3For b → (first count : ℕ) (c : List ℕ) (steps : List Step) → Asked b 0 0 0 all_programs three six first count c steps
    → Logged b (fresh_station b 0 0 0 all_programs c) steps (arrived_entries 0 0 three six first count (receptions steps))
small-run b claim first count c steps d = demand3-says b claim 0 0 0 three six first count c steps three-few d

logged-is : (first count : ℕ) (bs : List Bool) (es : List Entry) → length (run_of first count five_spans) ≡ length bs
    → whole_packets (every (in_received (run_of first count five_spans) bs)) 0 0 three ≡ es → logged_in first count bs ≡ log_words es
logged-is first count bs es n e =
    (small-run defined delivers first count carry (calls first count bs) (possible 0 0 0 three six opens packets-right in_order defined all_programs first count carry bs carry-room)).log
    ∙ ap (asked_for first count) (told first count bs n)
    ∙ asked_is first count bs es e

-- every PDU received: every packet is delivered
pub none-lost : logged_in 0 5 (true ∷ true ∷ true ∷ true ∷ true ∷ []) ≡ log_words (packet 0 (replicate 20 1) ∷ packet 1 (replicate 300 2) ∷ packet 2 (replicate 10 3) ∷ [])
unfolding whole_packets
none-lost = logged-is 0 5 (true ∷ true ∷ true ∷ true ∷ true ∷ []) (packet 0 (replicate 20 1) ∷ packet 1 (replicate 300 2) ∷ packet 2 (replicate 10 3) ∷ []) refl refl

-- the third lost: the packet in the middle is missing, and those before and after it are delivered
pub one-lost : logged_in 0 5 (true ∷ true ∷ false ∷ true ∷ true ∷ []) ≡ log_words (packet 0 (replicate 20 1) ∷ packet 2 (replicate 10 3) ∷ [])
unfolding whole_packets
one-lost = logged-is 0 5 (true ∷ true ∷ false ∷ true ∷ true ∷ []) (packet 0 (replicate 20 1) ∷ packet 2 (replicate 10 3) ∷ []) refl refl

-- the third and the fourth lost: the fifth has the sequence that follows the second's, and its first piece is the end of the packet that the
-- first began; nothing is joined
pub two-lost : logged_in 0 5 (true ∷ true ∷ false ∷ false ∷ true ∷ []) ≡ log_words (packet 0 (replicate 20 1) ∷ packet 2 (replicate 10 3) ∷ [])
unfolding whole_packets
two-lost = logged-is 0 5 (true ∷ true ∷ false ∷ false ∷ true ∷ []) (packet 0 (replicate 20 1) ∷ packet 2 (replicate 10 3) ∷ []) refl refl

-- the first lost: the packet that it begins is missing
pub first-lost : logged_in 0 5 (false ∷ true ∷ true ∷ true ∷ true ∷ []) ≡ log_words (packet 2 (replicate 10 3) ∷ [])
unfolding whole_packets
first-lost = logged-is 0 5 (false ∷ true ∷ true ∷ true ∷ true ∷ []) (packet 2 (replicate 10 3) ∷ []) refl refl

-- a run that begins inside packet 1: the second PDU and those after it
pub begun-inside : logged_in 1 4 (true ∷ true ∷ true ∷ true ∷ []) ≡ log_words (packet 2 (replicate 10 3) ∷ [])
unfolding whole_packets
begun-inside = logged-is 1 4 (true ∷ true ∷ true ∷ true ∷ []) (packet 2 (replicate 10 3) ∷ []) refl refl

-- no PDU at all
pub no_run : logged_in 3 0 [] ≡ []
unfolding whole_packets log_words
no_run = logged-is 3 0 [] [] refl refl

-- ---- four altered bytes in each header, and a refused call at each end of the list

-- another byte
abbrev flipped : ℕ → ℕ
flipped zero = 1
flipped (suc x) = 0

-- other bytes where these say so
unfoldable pub alter_at : List Bool → List ℕ → List ℕ
alter_at [] l = l
alter_at (b ∷ bs) [] = []
alter_at (b ∷ bs) (x ∷ l) = cond b (flipped x) x ∷ alter_at bs l

how_many : List Bool → ℕ
how_many [] = 0
how_many (b ∷ bs) = cond b (suc (how_many bs)) (how_many bs)

-- bytes 0, 13, 50 and 95
abbrev four : List Bool
four = true ∷ (replicate 12 false ++ (true ∷ (replicate 36 false ++ (true ∷ (replicate 44 false ++ (true ∷ []))))))

unfoldable pub altered : List ℕ → List ℕ
altered p = alter_at four p

flipped-byte : (b : Bool) (x : ℕ) → x < 256 → cond b (flipped x) x < 256
flipped-byte false x h = h
flipped-byte true zero h = omega arith
flipped-byte true (suc x) h = omega arith

flipped-differs : (x : ℕ) → eqb (flipped x) x ≡ false
flipped-differs zero = refl
flipped-differs (suc x) = ne_eqb 0 (suc x) (λ e. absurd (omega (arith, e)))

alter-bytes : (bs : List Bool) (l : List ℕ) → Bytes l → Bytes (alter_at bs l)
unfolding alter_at
alter-bytes [] l h = h
alter-bytes (b ∷ bs) [] h = tt
alter-bytes (b ∷ bs) (x ∷ l) h = (flipped-byte b x h.0, alter-bytes bs l h.1)

alter-length : (bs : List Bool) (l : List ℕ) → length (alter_at bs l) ≡ length l
unfolding alter_at
alter-length [] l = refl
alter-length (b ∷ bs) [] = refl
alter-length (b ∷ bs) (x ∷ l) = ap suc (alter-length bs l)

alter-rest : (bs : List Bool) (l : List ℕ) → drop (length bs) (alter_at bs l) ≡ drop (length bs) l
unfolding alter_at
alter-rest [] l = refl
alter-rest (b ∷ bs) [] = refl
alter-rest (b ∷ bs) (x ∷ l) = alter-rest bs l

alter-distance : (bs : List Bool) (l : List ℕ) → length bs ≤ length l → distance (take (length bs) (alter_at bs l)) (take (length bs) l) ≡ how_many bs
unfolding alter_at how_many distance
alter-distance [] l h = refl
alter-distance (b ∷ bs) [] h = absurd (omega (arith, h))
alter-distance (true ∷ bs) (x ∷ l) h = rw (flipped-differs x, alter-distance bs l (omega (arith, h)))
alter-distance (false ∷ bs) (x ∷ l) h = let e : eqb x x ≡ true = eq-eqb x x refl in rw (e, alter-distance bs l (omega (arith, h)))

-- as many as four bytes of the header differ
pub altered-four : (p : List ℕ) → 96 ≤ length p → distance (take 96 (altered p)) (take 96 p) ≡ 4
unfolding altered how_many
altered-four p h = alter-distance four p h

pub headers-altered : Alters [] altered
unfolding altered
headers-altered p h = four-altered p (altered p) h.1 (record {
  bytes = alter-bytes four p h.0;
  long = alter-length four p;
  few = (let e = altered-four p h.1 in omega (arith, e));
  rest = alter-rest four p;
})

-- a PDU of no bytes, and a log of no words
abbrev pub empty_pdu : Call
empty_pdu = receive (alone [] []) []

abbrev pub no_log : Call
no_log = mark_lost []

-- they are refused whatever the receiver and its carry: with 1, 2 or 3, and with 1 or 13
refused-by : (n : ℕ) (a : Received) (r : Receiver) (k : ℕ) → ¬ (n ≡ 0) → ¬ ((cond (eqb n 0) a (refused_answer r n k)).refusal ≡ 0)
refused-by n a r k h e = let f : eqb n 0 ≡ false = ne_eqb n 0 h in h (rw f at e)

refused_none : (n : ℕ) → ¬ (n ≡ 0) → ◌≡◌ {A = ℕ} (cond (eqb n 0) 1 0) 0
refused_none n h = let f : eqb n 0 ≡ false = ne_eqb n 0 h in rw f

pub empty-number : (x : Station) (log : List ℕ) → ¬ (receive_number [] x.carry [] log x.receiver ≡ 0)
unfolding receive_number
empty-number x log = number (any_of (wrong_state x.receiver)) (ltb (length x.carry) 4096)
  where
    number : (a b : Bool) → ¬ (◌≡◌ {A = ℕ} (cond a 1 (cond b 2 3)) 0)
    number true b e = absurd (omega (arith, e))
    number false true e = absurd (omega (arith, e))
    number false false e = absurd (omega (arith, e))

pub empty-refused : (x : Station) → ¬ ((answer_of x empty_pdu).refusal ≡ 0)
unfolding receive_answer
empty-refused x = refused-by (receive_number [] x.carry [] [] x.receiver) _ x.receiver _ (empty-number x [])

pub no-log-refused : (x : Station) → ¬ ((answer_of x no_log).refusal ≡ 0)
unfolding lost_answer
no-log-refused x = refused-by (lost_number [] x.receiver) _ x.receiver 0 (unfold lost_number log_words entry_words in number (any_of (wrong_state x.receiver)))
  where
    number : (b : Bool) → ¬ (first_of ((b, 1) ∷ (true, 13) ∷ []) ≡ 0)
    number true e = absurd (omega (arith, e))
    number false e = absurd (omega (arith, e))

-- with no PDU taken
no-pdu : (x : Station) → RefusedAfter defined 0 x empty_pdu
no-pdu x = (empty-refused x, refused_none _ (empty-refused x))

no_words : (x : Station) → RefusedAfter defined 0 x no_log
no_words x = (no-log-refused x, refused_none _ (no-log-refused x))

-- the five PDUs, the third of which is lost
abbrev four_of_five : List Bool
four_of_five = true ∷ true ∷ false ∷ true ∷ true ∷ []

-- with these marks, each header altered so
module _ (marks : List ℕ) (alter : List ℕ → List ℕ) (right : Alters marks alter) where
  abbrev pub altered_calls : List Step
  altered_calls = refuses empty_pdu ∷ steps_for marks alter (refuses no_log ∷ []) (run_of 0 5 (made 0 0 0 six)) four_of_five

  altered-asked : Asked defined 0 0 0 all_programs three six 0 5 carry altered_calls
  altered-asked = record {
    opens = opens;
    sized = packets-right;
    offered = in_order;
    room = carry-room;
    through = (
      no-pdu (fresh_station defined 0 0 0 all_programs carry),
      goes_through marks alter defined right (refuses no_log ∷ []) (run_of 0 5 (made 0 0 0 six)) four_of_five _ (λ y. (no_words y, tt)) (run-usable 0 0 0 three six opens packets-right in_order 0 5),
    );
  }

  pub altered-run : packet_words (logs_from defined (fresh_station defined 0 0 0 all_programs carry) (map call_of altered_calls)) ≡ log_words (packet 0 (replicate 20 1) ∷ packet 2 (replicate 10 3) ∷ [])
  unfolding whole_packets
  altered-run =
      (small-run defined delivers 0 5 carry altered_calls altered-asked).log
      ∙ ap (asked_for 0 5) (told-receptions marks alter (refuses no_log ∷ []) (run_of 0 5 (made 0 0 0 six)) four_of_five refl (sym (run_length 0 5 5 refl)))
      ∙ asked_is 0 5 four_of_five (packet 0 (replicate 20 1) ∷ packet 2 (replicate 10 3) ∷ []) refl

-- four bytes of each, and no mark
pub four-run : packet_words (logs_from defined (fresh_station defined 0 0 0 all_programs carry) (map call_of (altered_calls [] altered headers-altered))) ≡ log_words (packet 0 (replicate 20 1) ∷ packet 2 (replicate 10 3) ∷ [])
four-run = altered-run [] altered headers-altered

-- ---- document 02, Ask 3: six marked bytes and another one altered in each header, twice one plus six being eight

-- bytes 0 to 5, and 95
abbrev seven : List Bool
seven = replicate 6 true ++ (replicate 89 false ++ (true ∷ []))

abbrev pub first_six : List ℕ
first_six = 0 ∷ 1 ∷ 2 ∷ 3 ∷ 4 ∷ 5 ∷ []

pub seven_altered : List ℕ → List ℕ
seven_altered p = alter_at seven p

same_byte : (x : ℕ) → one (not (eqb x x)) ≡ 0
same_byte x = let e : eqb x x ≡ true = eq-eqb x x refl in rw e

one-most : (b : Bool) → one b ≤ 1
one-most true = omega arith
one-most false = omega arith

-- only altered bytes differ
alter-differs : (bs : List Bool) (l : List ℕ) (i : ℕ) → one (not (eqb (get_or (alter_at bs l) i 0) (get_or l i 0))) ≤ one (get_or bs i false)
unfolding alter_at
alter-differs [] l i = omega (arith, same_byte (get_or l i 0))
alter-differs (b ∷ bs) [] i = omega (arith, same_byte 0)
alter-differs (true ∷ bs) (x ∷ l) zero = one-most (not (eqb (flipped x) x))
alter-differs (false ∷ bs) (x ∷ l) zero = omega (arith, same_byte x)
alter-differs (b ∷ bs) (x ∷ l) (suc i) = alter-differs bs l i

-- so at most as many unmarked bytes differ as are altered
alter-unmarked : (marks : List ℕ) (bs : List Bool) (p : List ℕ) → 96 ≤ length p
    → unmarked_distance marks (take 96 (alter_at bs p)) (take 96 p) ≤ length (keep (λ i. not (is_marked marks i) && get_or bs i false) (below 96))
unfolding unmarked_distance
alter-unmarked marks bs p h =
    let n : length (take 96 (alter_at bs p)) ≡ 96 = length-take-le 96 (alter_at bs p) (let e = alter-length bs p in omega (arith, e)) in
    subst (λ (m : ℕ). length (keep test (below m)) ≤ length (keep (λ i. not (is_marked marks i) && get_or bs i false) (below 96))) (sym n)
    (keep-le test (λ i. not (is_marked marks i) && get_or bs i false) 96 (λ i b. at i b))
  where
    test : ℕ → Bool
    test i = not (is_marked marks i || eqb (get_or (take 96 (alter_at bs p)) i 0) (get_or (take 96 p) i 0))

    unless : (m x y : Bool) → one (not x) ≤ one y → one (not (m || x)) ≤ one (not m && y)
    unless true x y e = omega arith
    unless false x y e = e

    at : (i : ℕ) → i < 96 → one (test i) ≤ one (not (is_marked marks i) && get_or bs i false)
    at i b =
        let e : get_or (take 96 (alter_at bs p)) i 0 ≡ get_or (alter_at bs p) i 0 = get_or-take 96 (alter_at bs p) i 0 b in
        let f : get_or (take 96 p) i 0 ≡ get_or p i 0 = get_or-take 96 p i 0 b in
        unless (is_marked marks i) (eqb (get_or (take 96 (alter_at bs p)) i 0) (get_or (take 96 p) i 0)) (get_or bs i false)
        (subst (λ (x : Bool). one (not x) ≤ one (get_or bs i false)) (sym (ap₂ eqb e f)) (alter-differs bs p i))

pub headers-marked : Alters first_six seven_altered
unfolding seven_altered marks_refusal
headers-marked p h = record {
  header = record {
    allowed = refl;
    bytes = alter-bytes seven p h.0;
    long = alter-length seven p;
    few = (let e : unmarked_distance first_six (take 96 (alter_at seven p)) (take 96 p) ≤ 1 = alter-unmarked first_six seven p h.1 in omega (arith, e));
  };
  rest = alter-rest seven p;
}

pub marked-run : packet_words (logs_from defined (fresh_station defined 0 0 0 all_programs carry) (map call_of (altered_calls first_six seven_altered headers-marked))) ≡ log_words (packet 0 (replicate 20 1) ∷ packet 2 (replicate 10 3) ∷ [])
marked-run = altered-run first_six seven_altered headers-marked
