-- Document 02, Ask 5: a run of pairs, computed. Four bytes of each header are altered; of the two pieces of the first PDU each is damaged in one copy. A pair of
-- PDUs of no bytes is refused, and the second PDU is marked lost. And the promise is false of a receiver that takes the whole of the better copy.
use mathlib.Core.Path.{◌≡◌, refl, sym, ap, ap₂, subst, ◌∙◌, fun_ext}
use mathlib.Core.Bool.{Bool, true, false, ◌||◌, cond, true≢false}
use mathlib.Core.List.{List, [], ◌∷◌, ◌++◌, map}
use Prim.Native.Nat.{ℕ, zero, suc, ◌+◌, ◌<◌, ◌≤◌}
use native.Mathlib.Omega.{arith}
use lib.Dec.{eqb, ltb}
use lib.ListN.{length, take, drop, replicate}
use Rattle.algebra.specs.Places.{All}
use Rattle.refusal.specs.Refusal.{any_of}
use Rattle.modes.specs.Modes.{listing}
use Rattle.crc.specs.Crc.{crc_bit, crc_bits, crc_byte, crc_from}
use Rattle.header.specs.Header.{parity_of, length_refusal, with_parity}
use Rattle.header.proofs.Division.{parity-length}
use Rattle.header.proofs.Lengths.{parity-written}
use Rattle.layout.specs.Control.{control_bytes, control_of, control_at}
use Rattle.layout.specs.Locators.{bytes16, locator16}
use Rattle.settings.specs.Settings.{fields_for}
use Rattle.expansion.specs.Expansion.{chained}
use Rattle.expansion.specs.Writing.{expansion_bytes}
use Rattle.packing.specs.Packing.{largest_up_to, most_pieces, fit, wholes_from, part_after, part_from}
use Rattle.pieces.specs.Pieces.{cut_by, piece_bytes, locators_from, total}
use Rattle.correction.specs.Correction.{correction_of}
use Rattle.packet_log.specs.Log.{packet, data_words, entry_words, log_words, packet_words, same_list}
use Rattle.writer.specs.Writing.{writer_opened, pdu_of, write_answer, written_pdu}
use Rattle.writer.specs.RoundTrip.{Bytes}
use Rattle.receiver.specs.Entitling.{all_programs}
use Rattle.receiver.specs.Receiving.{wrong_state}
use Rattle.batch.proofs.Single.{refusal_is}
use Rattle.runs.specs.Transmissions.{Way, gone, here}
use Rattle.runs.specs.Spans.{Span, lies, every, due_at}
use Rattle.runs.proofs.Model.{whole_packets}
use Rattle.runs.proofs.Calls.{plain_fate}
use Rattle.diversity.specs.Diversity.{Choice, neither, the_first, the_second, choice_of, pair_received}
use Rattle.delivery.specs.Delivery.{Packets, Writing, buffer_after, pdus_from, spans_from, InOrder, Behaviour, Station, receive, defined, RefusedAfter, logged_by, run_of, HeaderAltered, Correctable, Step, receives, loses, refuses, call_of, alone, paired, Through, in_received, Holds}
use Rattle.delivery.proofs.Parts.{fresh_station, logs_from, made, spans, run_with, answer_of, log_of}
use Rattle.delivery.specs.Copies.{bytes_at, crc_at, sealed_piece, as_sent, ways_from, restored, Damaged}
use Rattle.delivery.proofs.SoundSteps.{causes_for}
use Rattle.delivery.specs.Diversity.{WrongCrc, pairs}
use Rattle.delivery.proofs.FaultyReceivers.{chosen_copy, choosing}
use Rattle.delivery.proofs.Channel.{Usable, made-right}
use Rattle.delivery.proofs.Serving.{logged_alone}
use Rattle.delivery.proofs.Possible.{words, log-room, as-sent as as_written}
use Rattle.delivery.proofs.Claimed.{Logged, logged-by, demand3-says}
use Rattle.delivery.proofs.SmallRuns.{offering, bytes_same, opens, carry, carry-room, altered, headers-altered, first_six, seven_altered, headers-marked, empty-number}
use Rattle.delivery.proofs.Registers.{gets, gets-all}
use Rattle.delivery.proofs.Damages.{drop-taken}
use Rattle.delivery.proofs.Theorem.{delivers, pairs-deliver}

-- packets of 100, 40 and 50 bytes; two go with the first PDU
abbrev pub packets : List (List ℕ)
packets = replicate 100 1 ∷ replicate 40 2 ∷ replicate 50 3 ∷ []

pub few : length packets ≤ 4294967295
few = let n : length packets ≡ 3 = refl in omega (arith, n)

abbrev pub two : List Writing
two = offering 200 (take 2 packets) ∷ offering 200 (drop 2 packets) ∷ []

pub right : Packets packets
right = (
  omega arith,
  omega arith,
  bytes_same 100 1 (omega arith),
  (omega arith, omega arith, bytes_same 40 2 (omega arith), (omega arith, omega arith, bytes_same 50 3 (omega arith), tt)),
)

pub in_order : InOrder 0 0 packets 0 two
unfolding write_answer listing fields_for expansion_bytes chained total largest_up_to most_pieces fit wholes_from part_after part_from
in_order = ((2, refl, refl), ((1, refl, refl), tt))

abbrev pub two_spans : List Span
two_spans = record { from = 0; count = 140 } ∷ record { from = 140; count = 50 } ∷ []

pub spans-are : spans 0 0 packets two ≡ two_spans
unfolding spans_from write_answer listing fields_for expansion_bytes chained total largest_up_to most_pieces fit wholes_from part_after part_from
spans-are = refl

-- ---- the first PDU, with x for the last byte of its first piece and y for that of its second

-- after the parity: control word, locators 118 and 159, the first packet but for its last byte
abbrev front : List ℕ
front = 0 ∷ 0 ∷ 0 ∷ 0 ∷ 4 ∷ 17 ∷ 118 ∷ 0 ∷ 159 ∷ 0 ∷ replicate 99 1

-- the first packet's CRC, and the second packet but for its last byte
abbrev pub between : List ℕ
between = crc_from 0 (replicate 100 1) ∷ replicate 39 2

-- the second packet's CRC, and zeros
abbrev pub end : List ℕ
end = crc_from 0 (replicate 40 2) ∷ replicate 40 0

-- before its parity is written
abbrev base : List ℕ
base = replicate 8 0 ++ (front ++ (1 ∷ (between ++ (2 ∷ end))))

abbrev header : List ℕ
header = gets 8 (parity_of base) ++ front

abbrev pub pdu : ℕ → ℕ → List ℕ
pdu x y = header ++ (x ∷ (between ++ (y ∷ end)))

abbrev pub sent : List ℕ
sent = pdu 1 2

abbrev pub other : List ℕ
other = buffer_after (record { mode = 0; stream = 0; register = 0; sequence = 1; number = 2; sent = 0 }) (offering 200 (drop 2 packets))

written_is : made 0 0 0 two ≡ with_parity base ∷ other ∷ []
unfolding pdus_from writer_opened write_answer written_pdu pdu_of listing fields_for expansion_bytes chained total largest_up_to most_pieces fit wholes_from part_after part_from cut_by piece_bytes locators_from control_bytes bytes16
written_is = refl

pub made-is : made 0 0 0 two ≡ sent ∷ other ∷ []
made-is =
    written_is
    ∙ ap (λ (p : List ℕ). p ∷ other ∷ []) (parity-written base (unfold length_refusal in refl) ∙ ap (λ (l : List ℕ). l ++ (front ++ (1 ∷ (between ++ (2 ∷ end))))) (gets-all 8 (parity_of base) (parity-length base)))

both-usable : All Usable (sent ∷ other ∷ [])
both-usable = subst (All Usable) made-is (made-right 0 0 0 packets two opens right in_order).usable

pub usable : Usable sent
usable = both-usable.0

pub other-usable : Usable other
other-usable = both-usable.1.0

-- ---- copies of it with four bytes of the header altered

-- another byte in its place
another : (a b : List ℕ) (v w : ℕ) → w < 256 → Bytes (a ++ (v ∷ b)) → Bytes (a ++ (w ∷ b))
another [] b v w h z = (h, z.1)
another (x ∷ a) b v w h z = (z.0, another a b v w h z.1)

-- the pieces that are as sent
abbrev pub sound : ℕ → ℕ → ℕ → Bool
sound x y k = same_list (sealed_piece 16 sent (pdu x y) k) (sealed_piece 16 sent sent k)

module _ (x y : ℕ) (bytes : Bytes (pdu x y)) where
  pub alters : HeaderAltered [] (pdu x y) (altered (pdu x y))
  alters = headers-altered (pdu x y) (bytes, usable.1, usable.2, usable.3)

  pub within : Correctable [] sent (altered (pdu x y))
  within = record { allowed = alters.header.allowed; bytes = alters.header.bytes; long = alters.header.long; few = alters.header.few }

  pub restored-is : restored sent (altered (pdu x y)) ≡ pdu x y
  restored-is = ap (λ (l : List ℕ). take 96 sent ++ l) alters.rest

  as-sent : (k : ℕ) → as_sent 16 sent (altered (pdu x y)) k ≡ sound x y k
  as-sent k = ap (λ (l : List ℕ). same_list (sealed_piece 16 sent l k) (sealed_piece 16 sent sent k)) restored-is

  comes : ((k : ℕ) → k < (control_at sent).nop → sound x y k ≡ false → ¬ (crc_from 0 (bytes_at 16 sent (pdu x y) k) ≡ crc_at 16 sent (pdu x y) k)) → Damaged WrongCrc 0 16 [] sent (altered (pdu x y))
  unfolding control_of
  comes d = record {
    header = within;
    front = drop-taken 96 18 (altered (pdu x y)) ∙ sym (drop-taken 96 18 sent);
    pieces = λ k h e. subst (λ (l : List ℕ). ¬ (crc_from 0 (bytes_at 16 sent l k) ≡ crc_at 16 sent l k)) (sym restored-is) (d k h (sym (as-sent k) ∙ e));
  }

-- ---- the first piece damaged in the first copy, the second in the second

abbrev first : List ℕ
first = altered (pdu 9 2)

abbrev pub second : List ℕ
second = altered (pdu 1 9)

first-bytes : Bytes (pdu 9 2)
first-bytes = another header (between ++ (2 ∷ end)) 1 9 (omega arith) usable.0

pub second-bytes : Bytes (pdu 1 9)
second-bytes = another (header ++ (1 ∷ between)) end 2 9 (omega arith) usable.0

first-sound : (sound 9 2 0 ≡ false) × (sound 9 2 1 ≡ true)
unfolding control_of locator16 same_list crc_from crc_byte crc_bits crc_bit
first-sound = (refl, refl)

pub second-sound : (sound 1 9 0 ≡ true) × (sound 1 9 1 ≡ false)
unfolding control_of locator16 same_list crc_from crc_byte crc_bits crc_bit
second-sound = (refl, refl)

first-crc : ¬ (crc_from 0 (replicate 99 1 ++ (9 ∷ [])) ≡ crc_from 0 (replicate 100 1))
unfolding crc_from crc_byte crc_bits crc_bit
first-crc e = absurd (omega (arith, e))

second-crc : ¬ (crc_from 0 (replicate 39 2 ++ (9 ∷ [])) ≡ crc_from 0 (replicate 40 2))
unfolding crc_from crc_byte crc_bits crc_bit
second-crc e = absurd (omega (arith, e))

first-damaged : (k : ℕ) → k < (control_at sent).nop → sound 9 2 k ≡ false → ¬ (crc_from 0 (bytes_at 16 sent (pdu 9 2) k) ≡ crc_at 16 sent (pdu 9 2) k)
unfolding control_of locator16
first-damaged zero h e = first-crc
first-damaged (suc zero) h e = λ z. true≢false (sym first-sound.1 ∙ e)
first-damaged (suc (suc k)) h e = absurd (omega (arith, h))

second-damaged : (k : ℕ) → k < (control_at sent).nop → sound 1 9 k ≡ false → ¬ (crc_from 0 (bytes_at 16 sent (pdu 1 9) k) ≡ crc_at 16 sent (pdu 1 9) k)
unfolding control_of locator16
second-damaged zero h e = λ z. true≢false (sym second-sound.0 ∙ e)
second-damaged (suc zero) h e = second-crc
second-damaged (suc (suc k)) h e = absurd (omega (arith, h))

first-comes : Damaged WrongCrc 0 16 [] sent first
first-comes = comes 9 2 first-bytes first-damaged

second-comes : Damaged WrongCrc 0 16 [] sent second
second-comes = comes 1 9 second-bytes second-damaged

-- ---- the run

-- causes that are these for the first two pieces
abbrev pub first_two : ℕ → ℕ → (ℕ → ℕ) → ℕ → ℕ
first_two a b f zero = a
first_two a b f (suc zero) = b
first_two a b f (suc (suc k)) = f (suc (suc k))

pub two-are : (a b : ℕ) (f : ℕ → ℕ) → f 0 ≡ a → f 1 ≡ b → f ≡ first_two a b f
two-are a b f g h = fun_ext each
  where
    each : (k : ℕ) → f k ≡ first_two a b f k
    each zero = g
    each (suc zero) = h
    each (suc (suc k)) = refl

-- what is asked for
abbrev asked_for : List Way → List ℕ
asked_for ws = log_words (whole_packets (due_at (lies packets two_spans (map plain_fate ws))) 0 0 packets)

-- the claim for so many of these PDUs
module _ (b : Behaviour) (claim : Holds pairs b) (count : ℕ) (steps : List Step) (t : Through b (Damaged WrongCrc 0 16) (fresh_station b 0 0 0 all_programs carry) (run_of 0 count (sent ∷ other ∷ [])) steps) where
  claimed : Logged b (fresh_station b 0 0 0 all_programs carry) steps (whole_packets (due_at (lies packets (spans 0 0 packets two) (map plain_fate (ways_from (as_sent 16) (run_of 0 count (made 0 0 0 two)) steps)))) 0 0 packets)
  unfolding listing
  claimed =
      logged-by pairs b claim (run_with 0 0 0 all_programs packets two 0 count carry steps) (due_at (lies packets (spans 0 0 packets two) (map plain_fate (ways_from (as_sent 16) (run_of 0 count (made 0 0 0 two)) steps)))) refl (
        refl,
        record {
          opens = opens;
          sized = right;
          offered = in_order;
          room = carry-room;
          through = subst (λ (ps : List (List ℕ)). Through b (Damaged WrongCrc 0 16) (fresh_station b 0 0 0 all_programs carry) (run_of 0 count ps) steps) (sym made-is) t;
        },
      )
      few

  logged : packet_words (logs_from b (fresh_station b 0 0 0 all_programs carry) (map call_of steps)) ≡ asked_for (ways_from (as_sent 16) (run_of 0 count (sent ∷ other ∷ [])) steps)
  logged = claimed.log ∙ ap₂ (λ (ss : List Span) (ps : List (List ℕ)). log_words (whole_packets (due_at (lies packets ss (map plain_fate (ways_from (as_sent 16) (run_of 0 count ps) steps)))) 0 0 packets)) spans-are made-is

-- of both copies each piece is taken
abbrev either_cause : ℕ → ℕ
either_cause = causes_for (λ k. as_sent 16 sent first k || as_sent 16 sent second k)

either-taken : either_cause ≡ first_two 0 0 either_cause
either-taken = two-are 0 0 either_cause
    (ap₂ (λ (s t : Bool). cond (s || t) 0 2) (as-sent 9 2 first-bytes 0 ∙ first-sound.0) (as-sent 1 9 second-bytes 0 ∙ second-sound.0))
    (ap₂ (λ (s t : Bool). cond (s || t) 0 2) (as-sent 9 2 first-bytes 1 ∙ first-sound.1) (as-sent 1 9 second-bytes 1 ∙ second-sound.1))

-- a pair of PDUs of no bytes is refused, with 1, 2 or 4
nothing-refused : (x : Station) → RefusedAfter defined 0 x (receive (paired [] []) [])
unfolding pair_received correction_of length_refusal
nothing-refused x = go (any_of (wrong_state x.receiver)) (ltb (length x.carry) 4096)
  where
    go : (a b : Bool) → (¬ (◌≡◌ {A = ℕ} (cond a 1 (cond b 2 4)) 0)) × (◌≡◌ {A = ℕ} (cond (eqb (cond a 1 (cond b 2 4)) 0) 1 0) 0)
    go true b = ((λ e. absurd (omega (arith, e))), refl)
    go false true = ((λ e. absurd (omega (arith, e))), refl)
    go false false = ((λ e. absurd (omega (arith, e))), refl)

abbrev pub pair_calls : List Step
pair_calls = receives (paired first second) words ∷ refuses (receive (paired [] []) []) ∷ loses words ∷ []

-- the packets of the first PDU are delivered, and that of the second is not
pub pair-run : packet_words (logs_from defined (fresh_station defined 0 0 0 all_programs carry) (map call_of pair_calls)) ≡ log_words (packet 0 (replicate 100 1) ∷ packet 1 (replicate 40 2) ∷ [])
unfolding whole_packets
pair-run =
    logged defined pairs-deliver 2 pair_calls ((first-comes, second-comes), log-room, (nothing-refused _, (log-room, tt)))
    ∙ ap (λ (f : ℕ → ℕ). asked_for (here f ∷ gone ∷ [])) either-taken
    ∙ refl

abbrev fresh : Station
fresh = fresh_station defined 0 0 0 all_programs carry

-- ---- a list of demand 3: the first PDU as a pair, four bytes of one header altered, and the second alone, with marks

abbrev pub mixed_calls : List Step
mixed_calls = receives (paired (altered sent) sent) words ∷ receives (alone first_six (seven_altered other)) words ∷ []

-- every packet is delivered
pub mixed-run : packet_words (logs_from defined fresh (map call_of mixed_calls)) ≡ log_words (packet 0 (replicate 100 1) ∷ packet 1 (replicate 40 2) ∷ packet 2 (replicate 50 3) ∷ [])
unfolding whole_packets
mixed-run =
    (demand3-says defined delivers 0 0 0 packets two 0 2 carry mixed_calls few (record {
      opens = opens;
      sized = right;
      offered = in_order;
      room = carry-room;
      through = subst (λ (ps : List (List ℕ)). Through defined HeaderAltered fresh (run_of 0 2 ps) mixed_calls) (sym made-is) ((headers-altered sent usable, as_written sent usable), log-room, (headers-marked other other-usable, log-room, tt));
    })).log
    ∙ ap (λ (ss : List Span). log_words (whole_packets (every (in_received (run_of 0 2 ss) (true ∷ true ∷ []))) 0 0 packets)) spans-are
    ∙ refl

-- ---- the whole of the better copy

-- a copy alone gives one packet
first_alone : packet_words (logged_by defined fresh (receive (alone [] first) words) ++ []) ≡ log_words (packet 1 (replicate 40 2) ∷ [])
unfolding whole_packets
first_alone =
    logged defined pairs-deliver 1 (receives (alone [] first) words ∷ []) (first-comes, log-room, tt)
    ∙ ap (λ (f : ℕ → ℕ). asked_for (here f ∷ []))
    (two-are 2 0 (causes_for (as_sent 16 sent first)) (ap (λ (s : Bool). cond s 0 2) (as-sent 9 2 first-bytes 0 ∙ first-sound.0)) (ap (λ (s : Bool). cond s 0 2) (as-sent 9 2 first-bytes 1 ∙ first-sound.1)))
    ∙ refl

second-alone : packet_words (logged_by defined fresh (receive (alone [] second) words) ++ []) ≡ log_words (packet 0 (replicate 100 1) ∷ [])
unfolding whole_packets
second-alone =
    logged defined pairs-deliver 1 (receives (alone [] second) words ∷ []) (second-comes, log-room, tt)
    ∙ ap (λ (f : ℕ → ℕ). asked_for (here f ∷ []))
    (two-are 0 2 (causes_for (as_sent 16 sent second)) (ap (λ (s : Bool). cond s 0 2) (as-sent 1 9 second-bytes 0 ∙ second-sound.0)) (ap (λ (s : Bool). cond s 0 2) (as-sent 1 9 second-bytes 1 ∙ second-sound.1)))
    ∙ refl

-- and two are asked for
pub choosing-wrong : ¬ Holds pairs choosing
unfolding whole_packets log_words entry_words data_words
choosing-wrong claim = go (choice_of first second) refl
  where
    through : Through choosing (Damaged WrongCrc 0 16) fresh (run_of 0 1 (sent ∷ other ∷ [])) (receives (paired first second) words ∷ [])
    through = ((first-comes, second-comes), log-room, tt)

    asked : packet_words (logged_by choosing fresh (receive (paired first second) words) ++ []) ≡ log_words (packet 0 (replicate 100 1) ∷ packet 1 (replicate 40 2) ∷ [])
    asked = logged choosing claim 1 (receives (paired first second) words ∷ []) through ∙ ap (λ (f : ℕ → ℕ). asked_for (here f ∷ [])) either-taken ∙ refl

    by : (c : Choice) → choice_of first second ≡ c → logged_by choosing fresh (receive (paired first second) words) ≡ logged_by defined fresh (receive (alone [] (chosen_copy c first second)) words)
    by c e = ap (λ (t : Choice). logged_alone (answer_of fresh (receive (alone [] (chosen_copy t first second)) words)) (log_of fresh (receive (alone [] (chosen_copy t first second)) words))) e

    go : (c : Choice) → choice_of first second ≡ c → ⊥
    go neither e =
        empty-number fresh words
        (sym (refusal_is [] carry [] words fresh.receiver)
        ∙ subst (λ (t : Choice). (answer_of fresh (receive (alone [] (chosen_copy t first second)) words)).refusal ≡ 0) e (claimed choosing claim 1 (receives (paired first second) words ∷ []) through).accepted.0)
    go the_first e = let h : ◌≡◌ {A = ℕ} 15 50 = ap length (sym first_alone ∙ ap (λ (l : List ℕ). packet_words (l ++ [])) (sym (by the_first e)) ∙ asked) in absurd (omega (arith, h))
    go the_second e = let h : ◌≡◌ {A = ℕ} 35 50 = ap length (sym second-alone ∙ ap (λ (l : List ℕ). packet_words (l ++ [])) (sym (by the_second e)) ∙ asked) in absurd (omega (arith, h))
