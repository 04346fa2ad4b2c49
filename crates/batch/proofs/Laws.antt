-- Laws of batches: one that is accepted takes all its PDUs, one batch is two after another, and the carry stays as long as it has to be.
use mathlib.Core.Path.{◌≡◌, refl, sym, ap, ap₂, ◌∙◌}
use mathlib.Core.Bool.{Bool, true, false}
use mathlib.Core.List.{List, [], ◌∷◌, ◌++◌, append_assoc}
use Prim.Native.Nat.{ℕ, ◌+◌, ◌≤◌}
use native.Mathlib.Omega.{arith}
use lib.Dec.{eqb, ltb}
use borrow.Author.Tests.{eq-eqb, eqb-true, eqb-false, not-false}
use lib.ListN.{length, get_or, take, drop, take-append-drop, length-append, length-drop}
use lib.Seq.{length-take-le, take-append-add, drop-append-add}
use Rattle.refusal.specs.Refusal.{any_of}
use Rattle.refusal.proofs.Rows.{row-off}
use Rattle.pieces.specs.Pieces.{total}
use Rattle.receiver.specs.Receiving.{wrong_state, carry_after, pdu_after}
use Rattle.receiver.specs.declared.Receiver.{Receiver}
use Rattle.receiver.specs.declared.Received.{Received}
use Rattle.batch.specs.Batches.{Result, followed, one_by_one, batch_tests, batch_number, batch_received}
use Rattle.batch.proofs.OneByOne.{followed-none, followed-twice, first, first_log, first_taken, first-refused, next-taken}
use Rattle.batch.proofs.Single.{words-fit, log-long, carry-long}
use Rattle.batch.proofs.Sums.{total-append}

-- ---- the first PDU of a batch that is accepted

module _ (n : ℕ) (ns : List ℕ) (r : Receiver) (carry pdus log : List ℕ) where
  abbrev a : Received
  a = first n ns r carry pdus log

  abbrev rest : Result
  rest = one_by_one ns a.receiver (carry_after [] carry (take n pdus) log r) (drop n pdus) (drop a.words (first_log n ns r carry pdus log))

  -- it is taken, and so are the others
  taken-on : (one_by_one (n ∷ ns) r carry pdus log).answer.refusal ≡ 0 → (a.refusal ≡ 0) × (rest.answer.refusal ≡ 0)
  taken-on h = go (eqb a.refusal 0) refl
    where
      go : (b : Bool) → eqb a.refusal 0 ≡ b → (a.refusal ≡ 0) × (rest.answer.refusal ≡ 0)
      go true e = let z = eqb-true a.refusal 0 e in (z, sym (ap (λ (x : Result). x.answer.refusal) (first_taken n ns r carry pdus log z)) ∙ h)
      go false e = let z = eqb-false a.refusal 0 e in absurd (z (sym (ap (λ (x : Result). x.answer.refusal) (first-refused n ns r carry pdus log z)) ∙ h))

-- all are taken
all-taken : (ns : List ℕ) (r : Receiver) (carry pdus log : List ℕ) → (one_by_one ns r carry pdus log).answer.refusal ≡ 0 → (one_by_one ns r carry pdus log).answer.taken ≡ length ns
unfolding one_by_one
all-taken [] r carry pdus log h = refl
all-taken (n ∷ ns) r carry pdus log h =
    let t = taken-on n ns r carry pdus log h in
    let e = ap (λ (x : Result). x.answer.taken) (first_taken n ns r carry pdus log t.0) in
    let i = all-taken ns (a n ns r carry pdus log).receiver (carry_after [] carry (take n pdus) log r) (drop n pdus) (drop (a n ns r carry pdus log).words (first_log n ns r carry pdus log)) t.1 in
    omega (arith, e, i)

-- the carry gets no shorter
carry-on : (ns : List ℕ) (r : Receiver) (carry pdus log : List ℕ) → length carry ≤ length (one_by_one ns r carry pdus log).carry
unfolding one_by_one
carry-on [] r carry pdus log = omega arith
carry-on (n ∷ ns) r carry pdus log =
    go (eqb (a n ns r carry pdus log).refusal 0) refl
    (carry-on ns (a n ns r carry pdus log).receiver (carry_after [] carry (take n pdus) log r) (drop n pdus) (drop (a n ns r carry pdus log).words (first_log n ns r carry pdus log)))
  where
    go : (b : Bool) → eqb (a n ns r carry pdus log).refusal 0 ≡ b → length (carry_after [] carry (take n pdus) log r) ≤ length (rest n ns r carry pdus log).carry → length carry ≤ length (one_by_one (n ∷ ns) r carry pdus log).carry
    go true e h =
        let f = ap (λ (x : Result). length x.carry) (first_taken n ns r carry pdus log (eqb-true (a n ns r carry pdus log).refusal 0 e)) in
        let k = carry-long [] carry (take n pdus) log r in
        omega (arith, f, h, k)
    go false e h = let f = ap (λ (x : Result). length x.carry) (first-refused n ns r carry pdus log (eqb-false (a n ns r carry pdus log).refusal 0 e)) in omega (arith, f)

-- ---- two batches in one

-- the first ones, and then the others, with the log that the first ones leave
abbrev pub and_then : Result → List ℕ → List ℕ → Result
and_then x ms bytes =
    followed x.answer.taken x.answer.words x.pdus (take x.answer.words x.log) (one_by_one ms x.answer.receiver x.carry bytes (drop x.answer.words x.log))

-- after a first PDU with these words
after_first : (w : ℕ) (p t : List ℕ) (x : Result) (ms bytes : List ℕ) → length t ≡ w → followed 1 w p t (and_then x ms bytes) ≡ and_then (followed 1 w p t x) ms bytes
after_first w p t x ms bytes e =
    let f : take (w + x.answer.words) (t ++ x.log) ≡ t ++ take x.answer.words x.log = ap (λ (k : ℕ). take (k + x.answer.words) (t ++ x.log)) (sym e) ∙ take-append-add t x.log x.answer.words in
    let g : drop (w + x.answer.words) (t ++ x.log) ≡ drop x.answer.words x.log = ap (λ (k : ℕ). drop (k + x.answer.words) (t ++ x.log)) (sym e) ∙ drop-append-add t x.log x.answer.words in
    followed-twice 1 x.answer.taken w x.answer.words p x.pdus t (take x.answer.words x.log) (one_by_one ms x.answer.receiver x.carry bytes (drop x.answer.words x.log))
    ∙ ap₂ (λ (k d : List ℕ). followed (1 + x.answer.taken) (w + x.answer.words) (p ++ x.pdus) k (one_by_one ms x.answer.receiver x.carry bytes d)) (sym f) (sym g)

appended : (ns : List ℕ) (r : Receiver) (carry pdus log ms bytes : List ℕ) → total ns ≡ length pdus → (one_by_one ns r carry pdus log).answer.refusal ≡ 0
    → one_by_one (ns ++ ms) r carry (pdus ++ bytes) log ≡ and_then (one_by_one ns r carry pdus log) ms bytes
unfolding one_by_one total
appended [] r carry [] log ms bytes s h = sym (followed-none (one_by_one ms r carry bytes log))
appended [] r carry (b ∷ pdus) log ms bytes s h = absurd (omega (arith, s))
appended (n ∷ ns) r carry pdus log ms bytes s h =
    let t = taken-on n ns r carry pdus log h in
    let w : ℕ = (a n ns r carry pdus log).words in
    let k : List ℕ = first_log n ns r carry pdus log in
    let p : List ℕ = pdu_after [] carry (take n pdus) log r in
    let long : length (take w k) ≡ w = length-take-le w k (let f = words-fit [] carry (take n pdus) log r in let g = log-long [] carry (take n pdus) log r in omega (arith, f, g)) in
    let left : total ns ≡ length (drop n pdus) = (let d = length-drop n pdus in omega (arith, d, s)) in
    let split : pdus ++ bytes ≡ take n pdus ++ (drop n pdus ++ bytes) = ap (λ (l : List ℕ). l ++ bytes) (sym (take-append-drop n pdus)) ∙ append_assoc (take n pdus) (drop n pdus) bytes in
    next-taken n (ns ++ ms) r carry (pdus ++ bytes) log (drop n pdus ++ bytes) (take n pdus) (length-take-le n pdus (omega (arith, s))) split t.0
    ∙ ap (followed 1 w p (take w k)) (appended ns (a n ns r carry pdus log).receiver (carry_after [] carry (take n pdus) log r) (drop n pdus) (drop w k) ms bytes left t.1)
    ∙ after_first w p (take w k) (rest n ns r carry pdus log) ms bytes long
    ∙ ap (λ (x : Result). and_then x ms bytes) (sym (first_taken n ns r carry pdus log t.0))

-- ---- the same of calls

module _ (lengths carry pdus log : List ℕ) (r : Receiver) where
  abbrev number : ℕ
  number = batch_number lengths carry pdus log r

  pub passes : any_of (wrong_state r) ≡ false → ltb (length carry) 4096 ≡ false → total lengths ≡ length pdus → number ≡ 0
  unfolding batch_number
  passes e f s = let g : eqb (total lengths) (length pdus) ≡ true = eq-eqb (total lengths) (length pdus) s in rw (e, f, g)

  -- a batch that is accepted passes 1, 2 and 18
  passed_on : (batch_received lengths carry pdus log r).answer.refusal ≡ 0 → number ≡ 0
  unfolding batch_received
  passed_on h = go (eqb number 0) refl
    where
      go : (b : Bool) → eqb number 0 ≡ b → number ≡ 0
      go true e = eqb-true number 0 e
      go false e = rw e at h

  one_by_one_lem : number ≡ 0 → batch_received lengths carry pdus log r ≡ one_by_one lengths r carry pdus log
  unfolding batch_received
  one_by_one_lem h = let e : eqb number 0 ≡ true = eq-eqb number 0 h in rw e

  rows-off : number ≡ 0 → (any_of (wrong_state r) ≡ false) × (ltb (length carry) 4096 ≡ false) × (total lengths ≡ length pdus)
  unfolding batch_number
  rows-off h =
      let off : (k : ℕ) → (get_or (batch_tests lengths carry pdus log r) k (false, 0)).0 ≡ false = λ k. row-off (batch_tests lengths carry pdus log r) k refl h in
      (off 0, off 1, eqb-true (total lengths) (length pdus) (not-false (eqb (total lengths) (length pdus)) (off 2)))

  -- an accepted batch takes all its PDUs
  pub takes_all : (batch_received lengths carry pdus log r).answer.refusal ≡ 0 → (batch_received lengths carry pdus log r).answer.taken ≡ length lengths
  takes_all h =
      let e = one_by_one_lem (passed_on h) in
      ap (λ (x : Result). x.answer.taken) e ∙ all-taken lengths r carry pdus log (sym (ap (λ (x : Result). x.answer.refusal) e) ∙ h)

  pub keeps-room : length carry ≤ length (batch_received lengths carry pdus log r).carry
  unfolding batch_received
  keeps-room = go (eqb number 0) refl
    where
      go : (b : Bool) → eqb number 0 ≡ b → length carry ≤ length (batch_received lengths carry pdus log r).carry
      go true e = rw e (carry-on lengths r carry pdus log)
      go false e = rw e (omega arith)

-- where it is accepted, a batch with others after its PDUs is this one, and then the others
pub then-others : (lengths carry pdus log ms bytes : List ℕ) (r : Receiver) → total ms ≡ length bytes → (batch_received lengths carry pdus log r).answer.refusal ≡ 0
    → batch_received (lengths ++ ms) carry (pdus ++ bytes) log r ≡ and_then (batch_received lengths carry pdus log r) ms bytes
then-others lengths carry pdus log ms bytes r s h =
    let z = passed_on lengths carry pdus log r h in
    let o = rows-off lengths carry pdus log r z in
    let e = one_by_one_lem lengths carry pdus log r z in
    let sum : total (lengths ++ ms) ≡ length (pdus ++ bytes) = total-append lengths ms ∙ ap₂ (λ (i j : ℕ). i + j) o.2 s ∙ sym (length-append pdus bytes) in
    one_by_one_lem (lengths ++ ms) carry (pdus ++ bytes) log r (passes (lengths ++ ms) carry (pdus ++ bytes) log r o.0 o.1 sum)
    ∙ appended lengths r carry pdus log ms bytes o.2 (sym (ap (λ (x : Result). x.answer.refusal) e) ∙ h)
    ∙ ap (λ (x : Result). and_then x ms bytes) (sym e)
