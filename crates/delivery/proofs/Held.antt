-- Document 02, Ask 13: what a call answers, logs and leaves, refused or not, depends only on the receiver's record and on the held bytes, which are the first
-- ones of the carry.
use mathlib.Core.Path.{◌≡◌, refl, sym, ap, subst, subst₂, ◌∙◌}
use mathlib.Core.Bool.{Bool, true, false, cond}
use mathlib.Core.List.{List, [], ◌∷◌, ◌++◌}
use mathlib.Core.Option.{none}
use Prim.Native.Nat.{ℕ, zero, suc, ◌+◌, ◌≤◌}
use native.Mathlib.Omega.{arith}
use lib.Dec.{eqb, ltb}
use borrow.Author.Tests.{le-ltb}
use lib.ListN.{length, take, drop, length-append, length-drop}
use Rattle.buffer.specs.Buffer.{put_at}
use Rattle.buffer.proofs.Laws.{take_put}
use Rattle.packet_log.specs.Log.{log_words}
use Rattle.correction.specs.Correction.{correction_of, corrected_pdu}
use Rattle.correction.specs.Marks.{corrected_pdu_with}
use Rattle.pdu.specs.Reading.{wrong_of}
use Rattle.reassembly.specs.Reassembly.{Partial, beginning, remembered, forgotten, lost_entries}
use Rattle.reassembly.specs.Run.{partial_bytes, partial_of, last_of}
use Rattle.receiver.specs.Receiving.{memory_of, tally_of, remembering, refused_answer, outcome, receive_number, receive_answer, carry_after, pdu_after, log_after, lost_number, lost_answer}
use Rattle.receiver.specs.declared.Receiver.{Receiver}
use Rattle.receiver.specs.declared.Received.{Received}
use Rattle.batch.specs.Batches.{Result, unchanged, followed, one_by_one, batch_number, batch_received}
use Rattle.batch.specs.declared.Batch.{Batch}
use Rattle.diversity.specs.Diversity.{PairResult, correctable, unchanged_pair, pair_outcome, wrong_in_pair, pair_number, together, received_by, pair_received}
use Rattle.receiver.proofs.AfterReceiving.{received_words, memory_after, kept_services, tally_after}
use Rattle.diversity.proofs.AfterPair.{pair_words, pair_memory, pair_services, pair_tally}
use Rattle.delivery.proofs.Parts.{answer_of, log_of}
use Rattle.delivery.specs.Delivery.{Station, Call, receive, batch, mark_lost, of_one, defined, station_after, alone, paired}

held-only : (held number : ℕ) (a b : List ℕ) → take held a ≡ take held b → partial_of held number a ≡ partial_of held number b
held-only zero number a b e = refl
held-only (suc h) number a b e = ap (beginning number) e

memory-only : (r : Receiver) (a b : List ℕ) → take r.held a ≡ take r.held b → memory_of r a ≡ memory_of r b
unfolding memory_of
memory-only r a b e = ap (λ (p : Partial). record { last = last_of r.known r.sequence; partial = p }) (held-only r.held r.number a b e)

-- two carries with the same held bytes
pub record Alike (r : Receiver) (a b : List ℕ) : Type 0 where
  pub held : take r.held a ≡ take r.held b
  pub room : 4096 ≤ length a
  pub other : 4096 ≤ length b

pub put-longer : (c b : List ℕ) → length c ≤ length (put_at c 0 b)
unfolding put_at
put-longer c b = let l = length-append b (drop (0 + length b) c) in let d = length-drop (0 + length b) c in omega (arith, l, d)

-- the same bytes put first into both
put-alike : (r q : Receiver) (a b bytes : List ℕ) → q.held ≡ length bytes → Alike r a b → Alike q (put_at a 0 bytes) (put_at b 0 bytes)
put-alike r q a b bytes e s = record {
  held = ap (λ (n : ℕ). take n (put_at a 0 bytes)) e ∙ take_put a bytes ∙ sym (ap (λ (n : ℕ). take n (put_at b 0 bytes)) e ∙ take_put b bytes);
  room = (let h = put-longer a bytes in let k = s.room in omega (arith, h, k));
  other = (let h = put-longer b bytes in let k = s.other in omega (arith, h, k));
}

module _ (r : Receiver) (a b : List ℕ) (s : Alike r a b) where
  memory-same : memory_of r a ≡ memory_of r b
  memory-same = memory-only r a b s.held

  short-same : ltb (length a) 4096 ≡ ltb (length b) 4096
  short-same = le-ltb (length a) 4096 s.room ∙ sym (le-ltb (length b) 4096 s.other)

  -- ---- receiving

  module _ (marks pdu log : List ℕ) where
    number_same : receive_number marks a pdu log r ≡ receive_number marks b pdu log r
    unfolding receive_number
    number_same = rw (memory-same, short-same)

    receive-answer : receive_answer marks a pdu log r ≡ receive_answer marks b pdu log r
    unfolding receive_answer
    receive-answer = rw (number_same, memory-same)

    receive-log : log_after marks a pdu log r ≡ log_after marks b pdu log r
    unfolding log_after
    receive-log = rw (number_same, memory-same)

    -- the other carry after it, by what is said of the first
    carry_same : cond (eqb (receive_number marks a pdu log r) 0) (put_at b 0 (partial_bytes (outcome marks a pdu log r).partial)) b ≡ carry_after marks b pdu log r
    unfolding carry_after
    carry_same = rw (number_same, memory-same)

    receive-alike : Alike (receive_answer marks a pdu log r).receiver (carry_after marks a pdu log r) (carry_after marks b pdu log r)
    unfolding receive_answer carry_after remembering remembered
    receive-alike = subst (λ (l : List ℕ). Alike (receive_answer marks a pdu log r).receiver (carry_after marks a pdu log r) l) carry_same (go (eqb n 0))
      where
        n : ℕ
        n = receive_number marks a pdu log r

        bytes : List ℕ
        bytes = partial_bytes (outcome marks a pdu log r).partial

        go : (t : Bool) → Alike (cond t (record { refusal = 0; wrong = 0; words = length (received_words marks a pdu log r); receiver = remembering r (memory_after marks a pdu log r) (kept_services marks a pdu log r) (tally_after marks a pdu log r) }) (refused_answer r n (wrong_of (corrected_pdu_with marks pdu) n))).receiver (cond t (put_at a 0 bytes) a) (cond t (put_at b 0 bytes) b)
        go true = put-alike r (remembering r (memory_after marks a pdu log r) (kept_services marks a pdu log r) (tally_after marks a pdu log r)) a b bytes refl s
        go false = s

  -- ---- marking lost

  lost-alike : (log : List ℕ) → Alike (lost_answer log r).receiver a b
  unfolding lost_answer remembering
  lost-alike log = go (eqb (lost_number log r) 0)
    where
      go : (t : Bool) → Alike (cond t (record { refusal = 0; wrong = 0; words = length (log_words lost_entries); receiver = remembering r forgotten none (tally_of r) }) (refused_answer r (lost_number log r) 0)).receiver a b
      go true = record { held = refl; room = s.room; other = s.other }
      go false = s

  -- ---- receiving a pair

  record SamePair (u v : PairResult) : Type 0 where
    answer : u.answer ≡ v.answer
    log : u.log ≡ v.log
    after : Alike u.answer.receiver u.carry v.carry

  module _ (p q log : List ℕ) where
    pair-number : pair_number a p q log r ≡ pair_number b p q log r
    unfolding pair_number
    pair-number = rw (memory-same, short-same)

    abbrev n : ℕ
    n = pair_number a p q log r

    -- both received, with what is held first in a carry
    abbrev taken : List ℕ → PairResult
    taken c = record {
      answer = record { refusal = 0; wrong = 0; words = length (pair_words a p q log r); receiver = remembering r (pair_memory a p q log r) (pair_services a p q log r) (pair_tally a p q log r) };
      carry = put_at c 0 (partial_bytes (pair_outcome a p q log r).partial);
      first = corrected_pdu p;
      second = corrected_pdu q;
      log = put_at log 0 (pair_words a p q log r);
    }

    -- what the other carry comes to, by what is said of the first
    pair-other : cond (eqb n 0) (taken b) (unchanged_pair b p q log r n (wrong_in_pair (corrected_pdu p) (corrected_pdu q) n)) ≡ together b p q log r
    unfolding together
    pair-other = rw (pair-number, memory-same)

    together-same : SamePair (together a p q log r) (together b p q log r)
    unfolding together remembering remembered
    together-same = subst (SamePair (together a p q log r)) pair-other (go (eqb n 0))
      where
        k : ℕ
        k = wrong_in_pair (corrected_pdu p) (corrected_pdu q) n

        go : (t : Bool) → SamePair (cond t (taken a) (unchanged_pair a p q log r n k)) (cond t (taken b) (unchanged_pair b p q log r n k))
        go true = record { answer = refl; log = refl; after = put-alike r (taken a).answer.receiver a b (partial_bytes (pair_outcome a p q log r).partial) refl s }
        go false = record { answer = refl; log = refl; after = s }

    pair-by : (t u : Bool) → SamePair (received_by a p q log r t u) (received_by b p q log r t u)
    pair-by true true = together-same
    pair-by true false = record { answer = receive-answer [] p log; log = receive-log [] p log; after = receive-alike [] p log }
    pair-by false true = record { answer = receive-answer [] q log; log = receive-log [] q log; after = receive-alike [] q log }
    pair-by false false = record { answer = rw short-same; log = refl; after = s }

    pair_same : SamePair (pair_received a p q log r) (pair_received b p q log r)
    unfolding pair_received
    pair_same = pair-by (correctable (correction_of p)) (correctable (correction_of q))

-- ---- a batch

record SameBatch (u v : Result) : Type 0 where
  answer : u.answer ≡ v.answer
  log : u.log ≡ v.log
  after : Alike u.answer.receiver u.carry v.carry

-- one PDU more before it
followed_same : (words : ℕ) (p q log : List ℕ) (u v : Result) → SameBatch u v → SameBatch (followed 1 words p log u) (followed 1 words q log v)
followed_same words p q log u v s = record {
  answer = ap (λ (x : Batch). record { refusal = x.refusal; wrong = x.wrong; taken = 1 + x.taken; words = words + x.words; receiver = x.receiver }) s.answer;
  log = ap (λ (l : List ℕ). log ++ l) s.log;
  after = s.after;
}

unchanged-same : (number k : ℕ) (r : Receiver) (a b pdus log : List ℕ) → Alike r a b → SameBatch (unchanged number k r a pdus log) (unchanged number k r b pdus log)
unchanged-same number k r a b pdus log s = record { answer = refl; log = refl; after = s }

batch-cond : (t : Bool) (u v x y : Result) → SameBatch u v → SameBatch x y → SameBatch (cond t u x) (cond t v y)
batch-cond true u v x y g h = g
batch-cond false u v x y g h = h

each_same : (ns : List ℕ) (r : Receiver) (a b pdus log : List ℕ) → Alike r a b → SameBatch (one_by_one ns r a pdus log) (one_by_one ns r b pdus log)
unfolding one_by_one
each_same [] r a b pdus log s = unchanged-same 0 0 r a b pdus log s
each_same (n ∷ ns) r a b pdus log s =
    let p : List ℕ = take n pdus in
    let f : Received = receive_answer [] a p log r in
    let l : List ℕ = log_after [] a p log r in
    let c : List ℕ = carry_after [] b p log r in
    subst₂ (λ (g : Received) (m : List ℕ). SameBatch (one_by_one (n ∷ ns) r a pdus log)
    (cond (eqb g.refusal 0) (followed 1 g.words (pdu_after [] b p log r) (take g.words m) (one_by_one ns g.receiver c (drop n pdus) (drop g.words m))) (unchanged g.refusal g.wrong r b pdus log)))
    (receive-answer r a b s [] p log) (receive-log r a b s [] p log)
    (batch-cond (eqb f.refusal 0)
    (followed 1 f.words (pdu_after [] a p log r) (take f.words l) (one_by_one ns f.receiver (carry_after [] a p log r) (drop n pdus) (drop f.words l)))
    (followed 1 f.words (pdu_after [] b p log r) (take f.words l) (one_by_one ns f.receiver c (drop n pdus) (drop f.words l)))
    (unchanged f.refusal f.wrong r a pdus log) (unchanged f.refusal f.wrong r b pdus log)
    (followed_same f.words (pdu_after [] a p log r) (pdu_after [] b p log r) (take f.words l) _ _ (each_same ns f.receiver (carry_after [] a p log r) c (drop n pdus) (drop f.words l) (receive-alike r a b s [] p log)))
    (unchanged-same f.refusal f.wrong r a b pdus log s))

batch-same : (lengths : List ℕ) (r : Receiver) (a b pdus log : List ℕ) → Alike r a b → SameBatch (batch_received lengths a pdus log r) (batch_received lengths b pdus log r)
unfolding batch_received
batch-same lengths r a b pdus log s =
    let n : ℕ = batch_number lengths a pdus log r in
    let e : n ≡ batch_number lengths b pdus log r = unfold batch_number in rw (short-same r a b s) in
    subst (λ (m : ℕ). SameBatch (batch_received lengths a pdus log r) (cond (eqb m 0) (one_by_one lengths r b pdus log) (unchanged m 0 r b pdus log))) e
    (batch-cond (eqb n 0) (one_by_one lengths r a pdus log) (one_by_one lengths r b pdus log) (unchanged n 0 r a pdus log) (unchanged n 0 r b pdus log) (each_same lengths r a b pdus log s) (unchanged-same n 0 r a b pdus log s))

-- ---- every call, of two stations with one record and the same held bytes

pub record SameHeld (x y : Station) : Type 0 where
  pub receiver : x.receiver ≡ y.receiver
  pub carry : Alike x.receiver x.carry y.carry

pub record SameCall (x y : Station) (c : Call) : Type 0 where
  pub answer : answer_of x c ≡ answer_of y c
  pub log : log_of x c ≡ log_of y c
  pub after : SameHeld (station_after defined x c) (station_after defined y c)

abbrev with-carry : Receiver → List ℕ → Station
with-carry r c = record { receiver = r; carry = c }

by-record : (c : Call) (r : Receiver) (a b : List ℕ) → Alike r a b → SameCall (with-carry r a) (with-carry r b) c
by-record (receive (alone marks pdu) log) r a b s =
    let e = receive-answer r a b s marks pdu log in
    record { answer = ap of_one e; log = receive-log r a b s marks pdu log; after = record { receiver = ap (λ (x : Received). x.receiver) e; carry = receive-alike r a b s marks pdu log } }
by-record (batch lengths pdus log) r a b s =
    let k = batch-same lengths r a b pdus log s in
    record { answer = k.answer; log = k.log; after = record { receiver = ap (λ (x : Batch). x.receiver) k.answer; carry = k.after } }
by-record (receive (paired first second) log) r a b s =
    let k = pair_same r a b s first second log in
    record { answer = ap of_one k.answer; log = k.log; after = record { receiver = ap (λ (x : Received). x.receiver) k.answer; carry = k.after } }
by-record (mark_lost log) r a b s = record { answer = refl; log = refl; after = record { receiver = refl; carry = lost-alike r a b s log } }

pub same-call : (x y : Station) (c : Call) → SameHeld x y → SameCall x y c
same-call x y c s = subst (λ (r : Receiver). SameCall x (with-carry r y.carry) c) s.receiver (by-record c x.receiver x.carry y.carry s.carry)
