-- A batch, PDU by PDU: what is done, and what is left.
use mathlib.Core.Path.{◌≡◌, refl, sym, ap, ap₂, ◌∙◌}
use mathlib.Core.Bool.{true, false, cond}
use mathlib.Core.List.{List, [], ◌∷◌, ◌++◌, append_assoc, append-nil}
use Prim.Native.Nat.{ℕ, ◌+◌, ◌-◌, ◌<◌, ◌≤◌}
use native.Mathlib.Omega.{arith}
use native.Mathlib.Nat.{add-zero}
use native.Mathlib.Numerals.{add-one}
use lib.Dec.{eqb}
use borrow.Author.Tests.{eq-eqb, ne_eqb}
use lib.ListN.{length, get_or, set, take, drop, take-append-drop, drop_of_length-le, length-drop, length-append}
use lib.Seq.{sets, take_all, take_at, drop_at, drop-cons, length-take-le, take-append-add, drop-append-add}
use Rattle.pieces.specs.Pieces.{total}
use Rattle.pieces.proofs.Cutting.{total-drop}
use Rattle.receiver.specs.Receiving.{receive_answer, carry_after, pdu_after, log_after}
use Rattle.receiver.specs.declared.Receiver.{Receiver}
use Rattle.receiver.specs.declared.Received.{Received}
use Rattle.batch.specs.declared.Batch.{Batch}
use Rattle.batch.specs.Batches.{Result, unchanged, followed, one_by_one, word_ends}
use Rattle.batch.specs.Steps.{leaving, begun_with, with_answer}
use Rattle.batch.proofs.OneByOne.{followed-none, followed-twice, first_taken, first-refused, end-taken, end_refused}
use Rattle.batch.proofs.Single.{kept, no-k, words-fit}

-- ---- after some PDUs

-- b has the counts so far; `done` is the buffer so far and `before` the log. The next PDU has n bytes, the first of `left`, and `rest` is the log that is left
module _ (n : ℕ) (ns carry done left before rest : List ℕ) (b : Batch) where
  abbrev so_far : Result → Result
  so_far x = followed b.taken b.words done before x

  abbrev next : Received
  next = receive_answer [] carry (take n left) rest b.receiver

  abbrev pdu_next : List ℕ
  pdu_next = pdu_after [] carry (take n left) rest b.receiver

  abbrev log_next : List ℕ
  log_next = log_after [] carry (take n left) rest b.receiver

  abbrev carry_next : List ℕ
  carry_next = carry_after [] carry (take n left) rest b.receiver

  -- it is refused: that is the end
  stopped : ¬ (next.refusal ≡ 0) → leaving (with_answer b next) carry_next (done ++ (pdu_next ++ drop n left)) (before ++ log_next) ≡ so_far (one_by_one (n ∷ ns) b.receiver carry left rest)
  stopped h =
      let k = kept [] carry (take n left) rest b.receiver h in
      let t : eqb next.refusal 0 ≡ false = ne_eqb next.refusal 0 h in
      rw (first-refused n ns b.receiver carry left rest h, k.receiver, k.words, k.carry', k.pdu', k.log', t, take-append-drop n left)

  -- it is taken: it joins what is done
  goes_on : next.refusal ≡ 0
      → followed (b.taken + 1) (b.words + next.words) (done ++ pdu_next) (before ++ take next.words log_next) (one_by_one ns next.receiver carry_next (drop n left) (drop next.words log_next))
      ≡ so_far (one_by_one (n ∷ ns) b.receiver carry left rest)
  goes_on h = sym (followed-twice b.taken 1 b.words next.words done pdu_next before (take next.words log_next) _) ∙ ap so_far (sym (first_taken n ns b.receiver carry left rest h))

-- The whole, at the i-th PDU, which begins at `from`: what is done, followed by what is left
pub record Along (lengths : List ℕ) (whole : Result) (carry pdus log : List ℕ) (b : Batch) (from i : ℕ) : Type 0 where
  pub none : b.refusal ≡ 0
  pub right : b.wrong ≡ 0
  pub count : b.taken ≡ i
  pub left : from + total (drop i lengths) ≡ length pdus
  pub room : b.words ≤ length log
  pub same : followed b.taken b.words (take from pdus) (take b.words log) (one_by_one (drop i lengths) b.receiver carry (drop from pdus) (drop b.words log)) ≡ whole

-- before the first PDU
pub at-start : (lengths carry pdus log : List ℕ) (b : Batch) (r : Receiver) → b ≡ begun_with r 0 → total lengths ≡ length pdus → Along lengths (one_by_one lengths b.receiver carry pdus log) carry pdus log b 0 0
at-start lengths carry pdus log b r e t = rw e (record { none = refl; right = refl; count = refl; left = omega (arith, t); room = omega arith; same = followed-none (one_by_one lengths r carry pdus log) })

-- after the last one
all_done : (n k t w : ℕ) (r : Receiver) (carry pdus log : List ℕ) (from : ℕ) → n ≡ 0 → k ≡ 0
    → leaving (record { refusal = n; wrong = k; taken = t; words = w; receiver = r }) carry pdus log ≡ followed t w (take from pdus) (take w log) (unchanged 0 0 r carry (drop from pdus) (drop w log))
all_done n k t w r carry pdus log from e f = rw (e, f, add-zero t, add-zero w, take-append-drop from pdus, take-append-drop w log)

pub at-end : (lengths : List ℕ) (whole : Result) (carry pdus log : List ℕ) (b : Batch) (from i : ℕ) → Along lengths whole carry pdus log b from i → length lengths ≤ i → leaving b carry pdus log ≡ whole
unfolding one_by_one
at-end lengths whole carry pdus log b from i h done =
    let e : drop i lengths ≡ [] = drop_of_length-le lengths {i = i} done in
    all_done b.refusal b.wrong b.taken b.words b.receiver carry pdus log from h.none h.right
    ∙ ap (λ (l : List ℕ). followed b.taken b.words (take from pdus) (take b.words log) (one_by_one l b.receiver carry (drop from pdus) (drop b.words log))) (sym e)
    ∙ h.same

-- the list of ends at the i-th PDU, once those of the PDUs that are left are put into it
abbrev pub ends_left : List ℕ → List ℕ → List ℕ → List ℕ → List ℕ → Batch → ℕ → ℕ → List ℕ
ends_left ends lengths carry pdus log b from i = sets ends i (word_ends b.words (drop i lengths) b.receiver carry (drop from pdus) (drop b.words log))

pub ends-at-start : (ends lengths carry pdus log : List ℕ) (b : Batch) (r : Receiver) → b ≡ begun_with r 0 → ends_left ends lengths carry pdus log b 0 0 ≡ sets ends 0 (word_ends 0 lengths r carry pdus log)
ends-at-start ends lengths carry pdus log b r e = rw e

pub ends-at-end : (ends lengths carry pdus log : List ℕ) (b : Batch) (from i : ℕ) → length lengths ≤ i → ends ≡ ends_left ends lengths carry pdus log b from i
unfolding word_ends
ends-at-end ends lengths carry pdus log b from i done =
    let e : drop i lengths ≡ [] = drop_of_length-le lengths {i = i} done in
    rw e

-- ---- a turn

-- what the log and the buffer are after a PDU of n bytes: it stands in its place, and so do its words
module _ (pdus log pdu_end log_end : List ℕ) (from n w : ℕ) (inside : from + n ≤ length pdus) (fits : w ≤ length log) (lp : length pdu_end ≡ n) (ll : length log_end ≡ length (drop w log)) where
  abbrev pdus_end : List ℕ
  pdus_end = take from pdus ++ (pdu_end ++ drop n (drop from pdus))

  abbrev words_end : List ℕ
  words_end = take w log ++ log_end

  first-long : length (take from pdus) ≡ from
  first-long = length-take-le from pdus (omega arith)

  before-long : length (take w log) ≡ w
  before-long = length-take-le w log fits

  up_to : length (take from pdus ++ pdu_end) ≡ from + n
  up_to = let e = length-append (take from pdus) pdu_end in let f = first-long in omega (arith, e, f, lp)

  pub pdus-done : take (from + n) pdus_end ≡ take from pdus ++ pdu_end
  pdus-done = ap (take (from + n)) (sym (append_assoc (take from pdus) pdu_end (drop n (drop from pdus)))) ∙ take_at (take from pdus ++ pdu_end) (drop n (drop from pdus)) (from + n) up_to

  pub pdus-left : drop (from + n) pdus_end ≡ drop n (drop from pdus)
  pdus-left = ap (drop (from + n)) (sym (append_assoc (take from pdus) pdu_end (drop n (drop from pdus)))) ∙ drop_at (take from pdus ++ pdu_end) (drop n (drop from pdus)) (from + n) up_to

  pub pdus-long : length pdus_end ≡ length pdus
  pdus-long =
      let d = length-drop n (drop from pdus) in
      let e = length-drop from pdus in
      let f = first-long in
      simp length-append (omega (arith, d, e, f, lp, inside))

  pub words_long : length words_end ≡ length log
  words_long = let d = length-drop w log in let f = before-long in simp length-append (omega (arith, d, f, ll, fits))

  pub words-done : (k : ℕ) → take (w + k) words_end ≡ take w log ++ take k log_end
  words-done k = ap (λ (j : ℕ). take (j + k) words_end) (sym before-long) ∙ take-append-add (take w log) log_end k

  pub words_left : (k : ℕ) → drop (w + k) words_end ≡ drop k log_end
  words_left k = ap (λ (j : ℕ). drop (j + k) words_end) (sym before-long) ∙ drop-append-add (take w log) log_end k

module _ (lengths : List ℕ) (whole : Result) (carry pdus log : List ℕ) (b : Batch) (from i : ℕ) (h : Along lengths whole carry pdus log b from i) (more : i < length lengths) where
  -- the next PDU's length, and the PDU; the log that is left
  abbrev n : ℕ
  n = get_or lengths i 0

  abbrev pdu : List ℕ
  pdu = take n (drop from pdus)

  abbrev rest : List ℕ
  rest = drop b.words log

  split : drop i lengths ≡ n ∷ drop (i + 1) lengths
  split = rw (add-one i) (drop-cons lengths i 0 more)

  left_is : followed b.taken b.words (take from pdus) (take b.words log) (one_by_one (n ∷ drop (i + 1) lengths) b.receiver carry (drop from pdus) rest) ≡ whole
  left_is = ap (λ (l : List ℕ). followed b.taken b.words (take from pdus) (take b.words log) (one_by_one l b.receiver carry (drop from pdus) rest)) (sym split) ∙ h.same

  long : from + n + total (drop (i + 1) lengths) ≡ length pdus
  long = let d = total-drop lengths i more in let l = h.left in omega (arith, d, l)

  abbrev answer : Received
  answer = receive_answer [] carry pdu rest b.receiver

  abbrev carry_end : List ℕ
  carry_end = carry_after [] carry pdu rest b.receiver

  abbrev pdu_end : List ℕ
  pdu_end = pdu_after [] carry pdu rest b.receiver

  abbrev log_end : List ℕ
  log_end = log_after [] carry pdu rest b.receiver

  -- a refused PDU ends the batch
  turn-stops : ¬ (answer.refusal ≡ 0) → leaving (with_answer b answer) carry_end (take from pdus ++ (pdu_end ++ drop n (drop from pdus))) (take b.words log ++ log_end) ≡ whole
  turn-stops z = stopped n (drop (i + 1) lengths) carry (take from pdus) (drop from pdus) (take b.words log) rest b z ∙ left_is

  module _ (lp : length pdu_end ≡ length pdu) (ll : length log_end ≡ length rest) (z : answer.refusal ≡ 0) where
    inside : from + n ≤ length pdus
    inside = let l = long in omega (arith, l)

    size : length pdu_end ≡ n
    size = lp ∙ length-take-le n (drop from pdus) (let e = length-drop from pdus in omega (arith, e, inside))

    one_more : b.taken + cond (eqb answer.refusal 0) 1 0 ≡ b.taken + 1
    one_more = let t : eqb answer.refusal 0 ≡ true = eq-eqb answer.refusal 0 z in rw t

    -- one that is taken leaves the next
    turn-goes-on : Along lengths whole carry_end (take from pdus ++ (pdu_end ++ drop n (drop from pdus))) (take b.words log ++ log_end) (with_answer b answer) (from + n) (i + 1)
    turn-goes-on = record {
      none = z;
      right = no-k [] carry pdu rest b.receiver z;
      count = one_more ∙ ap (λ (k : ℕ). k + 1) h.count;
      left = long ∙ sym (pdus-long pdus log pdu_end log_end from n b.words inside h.room size ll);
      room = (let e = words_long pdus log pdu_end log_end from n b.words inside h.room size ll in let f = words-fit [] carry pdu rest b.receiver in let d = length-drop b.words log in let r = h.room in omega (arith, e, f, d, r));
      same = rw (one_more, pdus-done pdus log pdu_end log_end from n b.words inside h.room size ll, pdus-left pdus log pdu_end log_end from n b.words inside h.room size ll, words-done pdus log pdu_end log_end from n b.words inside h.room size ll answer.words, words_left pdus log pdu_end log_end from n b.words inside h.room size ll answer.words)
          (goes_on n (drop (i + 1) lengths) carry (take from pdus) (drop from pdus) (take b.words log) rest b z ∙ left_is);
    }

  -- ---- the same, as the code has it: the parts lent are pdus[from..from + n] and log[w..]

  abbrev size' : ℕ
  size' = from + n - from

  abbrev pdu' : List ℕ
  pdu' = take size' (drop from pdus)

  size_is : size' ≡ n
  size_is = omega arith

  module _ (w : ℕ) (a : Batch) (c p l : List ℕ) (ea : a ≡ with_answer b (receive_answer [] carry pdu' (take (length log - w) (drop w log)) b.receiver))
      (ec : c ≡ carry_after [] carry pdu' (take (length log - w) (drop w log)) b.receiver) (ep : p ≡ pdu_after [] carry pdu' (take (length log - w) (drop w log)) b.receiver)
      (el : l ≡ log_after [] carry pdu' (take (length log - w) (drop w log)) b.receiver) (ew : w ≡ b.words) where
    abbrev rest' : List ℕ
    rest' = take (length log - w) (drop w log)

    rest-is : rest' ≡ rest
    rest-is = take_all (length log - w) (drop w log) (let e = length-drop w log in omega (arith, e)) ∙ ap (λ (k : ℕ). drop k log) ew

    none_after : drop (length log - w) (drop w log) ≡ []
    none_after = drop_of_length-le (drop w log) {i = length log - w} (let e = length-drop w log in omega (arith, e))

    answer-is : a ≡ with_answer b answer
    answer-is = ea ∙ ap₂ (λ (k : ℕ) (r : List ℕ). with_answer b (receive_answer [] carry (take k (drop from pdus)) r b.receiver)) size_is rest-is

    carry-is : c ≡ carry_end
    carry-is = ec ∙ ap₂ (λ (k : ℕ) (r : List ℕ). carry_after [] carry (take k (drop from pdus)) r b.receiver) size_is rest-is

    pdu-is : p ≡ pdu_end
    pdu-is = ep ∙ ap₂ (λ (k : ℕ) (r : List ℕ). pdu_after [] carry (take k (drop from pdus)) r b.receiver) size_is rest-is

    log_is : l ≡ log_end
    log_is = el ∙ ap₂ (λ (k : ℕ) (r : List ℕ). log_after [] carry (take k (drop from pdus)) r b.receiver) size_is rest-is

    abbrev pdus_after : List ℕ
    pdus_after = take from pdus ++ (p ++ drop size' (drop from pdus))

    abbrev words_after : List ℕ
    words_after = take w log ++ (l ++ drop (length log - w) (drop w log))

    pdus-are : pdus_after ≡ take from pdus ++ (pdu_end ++ drop n (drop from pdus))
    pdus-are = ap₂ (λ (x : List ℕ) (k : ℕ). take from pdus ++ (x ++ drop k (drop from pdus))) pdu-is size_is

    words_are : words_after ≡ take b.words log ++ log_end
    words_are = ap₂ (λ (x y : List ℕ). take w log ++ (x ++ y)) log_is none_after ∙ ap (λ (x : List ℕ). take w log ++ x) (append-nil log_end) ∙ ap (λ (k : ℕ). take k log ++ log_end) ew

    -- a refused PDU ends the batch, and nothing more is put into the list of ends
    pub stops : (ends : List ℕ) → ¬ (a.refusal ≡ 0) → (leaving a c pdus_after words_after ≡ whole) × (ends ≡ ends_left ends lengths carry pdus log b from i)
    stops ends z =
        let y : ¬ (answer.refusal ≡ 0) = λ q. z (ap (λ (x : Batch). x.refusal) answer-is ∙ q) in
        let none = end_refused n (drop (i + 1) lengths) b.receiver carry (drop from pdus) rest b.words y in
        (rw (pdus-are, words_are, answer-is, carry-is) (turn-stops y), rw (split, none))

    -- one that is taken leaves the next, once the end of its words is put into the list
    pub turns : (ends told : List ℕ) → told ≡ set ends i a.words → length p ≡ length pdu' → length l ≡ length rest' → a.refusal ≡ 0
        → Along lengths whole c pdus_after words_after a (from + n) (i + 1) × (ends_left told lengths c pdus_after words_after a (from + n) (i + 1) ≡ ends_left ends lengths carry pdus log b from i)
    turns ends told e lp ll z =
        let y : answer.refusal ≡ 0 = sym (ap (λ (x : Batch). x.refusal) answer-is) ∙ z in
        let lp' : length pdu_end ≡ length pdu = ap length (sym pdu-is) ∙ lp ∙ ap (λ (k : ℕ). length (take k (drop from pdus))) size_is in
        let ll' : length log_end ≡ length rest = ap length (sym log_is) ∙ ll ∙ ap length rest-is in
        let more_left = end-taken n (drop (i + 1) lengths) b.receiver carry (drop from pdus) rest b.words y in
        let bytes_left = pdus-left pdus log pdu_end log_end from n b.words (inside lp' ll' y) h.room (size lp' ll' y) ll' in
        let log-left = words_left pdus log pdu_end log_end from n b.words (inside lp' ll' y) h.room (size lp' ll' y) ll' answer.words in
        (rw (pdus-are, words_are, answer-is, carry-is) (turn-goes-on lp' ll' y), rw (e, split, more_left, pdus-are, words_are, answer-is, carry-is, bytes_left, log-left, add-one i))
