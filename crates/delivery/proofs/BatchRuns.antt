-- Document 02, Ask 1: a run of SmallRuns.antt in two batches, the first of which is refused at its third PDU; and demand 3 is false of a receiver whose
-- batches hand back the receiver that they got.
use mathlib.Core.Path.{◌≡◌, refl, sym, ap, ap₂, subst, ◌∙◌}
use mathlib.Core.Bool.{true}
use mathlib.Core.List.{List, [], ◌∷◌, ◌++◌, map, append-nil}
use Prim.Native.Nat.{ℕ, ◌+◌, ◌≤◌}
use native.Mathlib.Omega.{arith}
use lib.ListN.{length, take, drop, replicate, length-replicate, length-map}
use lib.Seq.{take-add}
use Rattle.algebra.specs.Places.{All}
use Rattle.pieces.specs.Pieces.{total}
use Rattle.packet_log.specs.Log.{packet, data_words, entry_words, log_words, packet_words}
use Rattle.receiver.specs.Entitling.{all_programs}
use Rattle.receiver.specs.Receiving.{receive_answer}
use Rattle.batch.specs.Batches.{Result, one_by_one, batch_received}
use Rattle.batch.proofs.Single.{refusal_is}
use Rattle.batch.proofs.OneByOne.{first-refused}
use Rattle.batch.proofs.Laws.{takes_all, keeps-room, then-others}
use Rattle.runs.specs.Spans.{Span, every}
use Rattle.delivery.specs.Delivery.{concatenated, Behaviour, Station, receive, batch, defined, Step, receives, alone, batches, stops, call_of, receptions, station_after, RefusedAfter, logged_by, in_received, run_of, Demand3For}
use Rattle.delivery.proofs.Parts.{fresh_station, Through, logs_from, made, Asked, answer_of, carry_of}
use Rattle.runs.proofs.Model.{whole_packets}
use Rattle.delivery.proofs.FaultyReceivers.{handing_back}
use Rattle.delivery.proofs.Channel.{Usable, made-right}
use Rattle.delivery.proofs.Possible.{words, log-room, as-sent, first-batch, in_one, run-usable}
use Rattle.delivery.proofs.Claimed.{demand3-says}
use Rattle.delivery.proofs.Theorem.{delivers}
use Rattle.delivery.proofs.WrongReceivers.{short, twice, written_at, two_made, short-right, short-order, short-few, short_spans, short-spans, no-packet}
use Rattle.delivery.proofs.SmallRuns.{three, small-run, six, opens, packets-right, in_order, carry, carry-room, run_length, asked_for, asked_is, empty-number}

-- ---- a batch of two with a third that is refused, and a batch of the other three

abbrev fresh : Station
fresh = fresh_station defined 0 0 0 all_programs carry

-- 8,400 words for each of five PDUs
abbrev long : List ℕ
long = replicate 42000 0

long-is : length long ≡ 42000
long-is = length-replicate {A = ℕ} 42000 0

abbrev two : List (List ℕ)
two = run_of 0 2 (made 0 0 0 six)

abbrev others : List (List ℕ)
others = run_of 2 3 (made 0 0 0 six)

two-are : length two ≡ 2
two-are = run_length 0 2 2 refl

others-are : length others ≡ 3
others-are = run_length 2 3 3 refl

five-are : run_of 0 5 (made 0 0 0 six) ≡ two ++ others
five-are = take-add 2 3 (made 0 0 0 six)

usable : (first count : ℕ) → All Usable (run_of first count (made 0 0 0 six))
usable first count = run-usable 0 0 0 three six opens packets-right in_order first count

asked_of : (first count : ℕ) (steps : List Step) → Through defined fresh (run_of first count (made 0 0 0 six)) steps → Asked defined 0 0 0 all_programs three six first count carry steps
asked_of first count steps t = record { opens = opens; sized = packets-right; offered = in_order; room = carry-room; through = t }

-- the two are taken
two-taken : (answer_of fresh (batch (map length two) (concatenated two) long)).refusal ≡ 0
two-taken = (small-run defined delivers 0 2 carry (batches two long ∷ []) (asked_of 0 2 (batches two long ∷ []) (in_one defined fresh two long (usable 0 2) (let n = two-are in let l = long-is in omega (arith, n, l))))).accepted.0.0

-- a PDU of no bytes is refused
module _ (x : Station) (log : List ℕ) where
  nothing : ¬ ((receive_answer [] x.carry (take 0 []) log x.receiver).refusal ≡ 0)
  nothing e = empty-number x log (sym (refusal_is [] x.carry [] log x.receiver) ∙ e)

  none_after : (¬ ((one_by_one (0 ∷ []) x.receiver x.carry [] log).answer.refusal ≡ 0)) × ((one_by_one (0 ∷ []) x.receiver x.carry [] log).answer.taken ≡ 0)
  none_after =
      let e = first-refused 0 [] x.receiver x.carry [] log nothing in
      ((λ h. nothing (sym (ap (λ (u : Result). u.answer.refusal) e) ∙ h)), ap (λ (u : Result). u.answer.taken) e)

-- so the batch is refused after two
third-refused : RefusedAfter defined (length two) fresh (call_of (stops two (0 ∷ []) [] long))
unfolding total
third-refused =
    let r : Result = batch_received (map length two) carry (concatenated two) long fresh.receiver in
    let e = then-others (map length two) carry (concatenated two) long (0 ∷ []) [] fresh.receiver refl two-taken in
    let n = none_after (record { receiver = r.answer.receiver; carry = r.carry }) (drop r.answer.words r.log) in
    let t : r.answer.taken ≡ length two = takes_all (map length two) carry (concatenated two) long fresh.receiver two-taken ∙ length-map two length in
    ((λ h. n.0 (sym (ap (λ (u : Result). u.answer.refusal) e) ∙ h)), (let k = ap (λ (u : Result). u.answer.taken) e in let z = n.1 in omega (arith, k, z, t)))

abbrev pub batch_calls : List Step
batch_calls = stops two (0 ∷ []) [] long ∷ batches others long ∷ []

batches-through : Through defined fresh (run_of 0 5 (made 0 0 0 six)) batch_calls
batches-through =
    let n = two-are in
    let o = others-are in
    let l = long-is in
    let f = first-batch two others (usable 0 2) in
    subst (λ (ps : List (List ℕ)). Through defined fresh ps batch_calls) (sym five-are) (
      f.0,
      omega (arith, n, l),
      third-refused,
      subst (λ (ps : List (List ℕ)). Through defined (station_after defined fresh (call_of (stops two (0 ∷ []) [] long))) ps (batches others long ∷ [])) (sym f.1) (in_one defined (station_after defined fresh (call_of (stops two (0 ∷ []) [] long))) others long (usable 2 3) (omega (arith, o, l))),
    )

-- the two count as received: every packet is delivered
pub batch_run : packet_words (logs_from defined fresh (map call_of batch_calls)) ≡ log_words (packet 0 (replicate 20 1) ∷ packet 1 (replicate 300 2) ∷ packet 2 (replicate 10 3) ∷ [])
unfolding whole_packets
batch_run =
    (small-run defined delivers 0 5 carry batch_calls (asked_of 0 5 batch_calls batches-through)).log
    ∙ ap₂ (λ (i j : ℕ). asked_for 0 5 (replicate i true ++ (replicate j true ++ []))) two-are others-are
    ∙ asked_is 0 5 (true ∷ true ∷ true ∷ true ∷ true ∷ []) (packet 0 (replicate 20 1) ∷ packet 1 (replicate 300 2) ∷ packet 2 (replicate 10 3) ∷ []) refl

-- ---- a batch that hands back the receiver that it got

-- a packet of 142 bytes in two PDUs: the first comes in a batch, the second alone
abbrev begins : List ℕ
begins = written_at short 0 0

abbrev ends : List ℕ
ends = written_at short 1 79

abbrev both : List (List ℕ)
both = begins ∷ ends ∷ []

both-usable : All Usable both
both-usable = subst (All Usable) two_made (made-right 0 0 0 short twice opens short-right short-order).usable

-- the claim for these PDUs, from any carry
module _ (b : Behaviour) (claim : Demand3For b) (first count : ℕ) (c : List ℕ) (steps : List Step) where
  claimed : 4096 ≤ length c → Through b (fresh_station b 0 0 0 all_programs c) (run_of first count both) steps → packet_words (logs_from b (fresh_station b 0 0 0 all_programs c) (map call_of steps)) ≡ log_words (whole_packets (every (in_received (run_of first count short_spans) (receptions steps))) 0 0 short)
  claimed room t =
      (demand3-says b claim 0 0 0 short twice first count c steps short-few (record { opens = opens; sized = short-right; offered = short-order; room = room; through = subst (λ (ps : List (List ℕ)). Through b (fresh_station b 0 0 0 all_programs c) (run_of first count ps) steps) (sym two_made) t })).log
      ∙ ap (λ (l : List Span). log_words (whole_packets (every (in_received (run_of first count l) (receptions steps))) 0 0 short)) short-spans

-- what the batch leaves in the carry
abbrev carried : List ℕ
carried = carry_of fresh (call_of (batches (begins ∷ []) words))

carried-room : 4096 ≤ length carried
carried-room = let h = keeps-room (length begins ∷ []) carry (begins ++ []) words fresh.receiver in let r = carry-room in omega (arith, h, r)

-- what is logged of the batch, and of the second PDU by a fresh receiver
abbrev batch_log : List ℕ
batch_log = logged_by defined fresh (call_of (batches (begins ∷ []) words))

abbrev end_log : List ℕ
end_log = logged_by defined (fresh_station defined 0 0 0 all_programs carried) (receive (alone [] ends) words)

batch-none : packet_words (batch_log ++ []) ≡ []
unfolding whole_packets log_words
batch-none = claimed defined delivers 0 1 carry (batches (begins ∷ []) words ∷ []) carry-room (in_one defined fresh (begins ∷ []) words (both-usable.0, tt) (let r = log-room in omega (arith, r)))

end_none : packet_words (end_log ++ []) ≡ []
unfolding whole_packets log_words
end_none = claimed defined delivers 1 1 carried (receives (alone [] ends) words ∷ []) carried-room (as-sent ends both-usable.1.0, log-room, tt)

-- the packet is asked for, and nothing is logged
pub handing-back-wrong : ¬ Demand3For handing_back
unfolding whole_packets log_words entry_words data_words
handing-back-wrong claim =
    let asked : packet_words (batch_log ++ (end_log ++ [])) ≡ log_words (packet 0 (replicate 142 2) ∷ []) =
    claimed handing_back claim 0 2 carry (batches (begins ∷ []) words ∷ receives (alone [] ends) words ∷ []) carry-room
    ((as-sent begins both-usable.0, tt), (let r = log-room in omega (arith, r)), (as-sent ends both-usable.1.0, log-room, tt)) in
    let found : packet_words (batch_log ++ (end_log ++ [])) ≡ [] = no-packet batch_log (end_log ++ []) (ap packet_words (sym (append-nil batch_log)) ∙ batch-none) ∙ end_none in
    let h : ◌≡◌ {A = ℕ} 49 0 = ap length (sym asked ∙ found) in
    absurd (omega (arith, h))
