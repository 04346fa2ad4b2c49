-- PDUs one by one: results one after another, and the first PDU of some.
use mathlib.Core.Path.{◌≡◌, refl, sym, ap, ap₂, ◌∙◌}
use mathlib.Core.Bool.{Bool, true, false}
use mathlib.Core.List.{List, [], ◌∷◌, ◌++◌, append_assoc}
use Prim.Native.Nat.{ℕ, ◌+◌}
use native.Mathlib.Omega.{arith}
use native.Mathlib.Nat.{add_assoc, zero-add}
use lib.Dec.{eqb}
use borrow.Author.Tests.{eq-eqb, ne_eqb, eqb-true, eqb-false}
use lib.ListN.{length, take, drop}
use lib.Seq.{take_at, drop_at}
use Rattle.receiver.specs.Receiving.{receive_answer, carry_after, pdu_after, log_after}
use Rattle.receiver.specs.declared.Receiver.{Receiver}
use Rattle.receiver.specs.declared.Received.{Received}
use Rattle.batch.specs.Batches.{Result, unchanged, followed, one_by_one, word_ends, batch_number, batch_received}

pub followed-none : (x : Result) → followed 0 0 [] [] x ≡ x
followed-none x = rw (zero-add x.answer.taken, zero-add x.answer.words)

pub followed-twice : (t u v w : ℕ) (p q k l : List ℕ) (x : Result) → followed t v p k (followed u w q l x) ≡ followed (t + u) (v + w) (p ++ q) (k ++ l) x
followed-twice t u v w p q k l x = rw (add_assoc t u x.answer.taken, add_assoc v w x.answer.words, append_assoc p q x.pdus, append_assoc k l x.log)

-- ---- the first PDU of some, taken or refused

module _ (n : ℕ) (ns : List ℕ) (r : Receiver) (carry pdus log : List ℕ) where
  abbrev pub first : Received
  first = receive_answer [] carry (take n pdus) log r

  abbrev pub first_log : List ℕ
  first_log = log_after [] carry (take n pdus) log r

  pub first_taken : first.refusal ≡ 0
      → one_by_one (n ∷ ns) r carry pdus log
      ≡ followed 1 first.words (pdu_after [] carry (take n pdus) log r) (take first.words first_log) (one_by_one ns first.receiver (carry_after [] carry (take n pdus) log r) (drop n pdus) (drop first.words first_log))
  unfolding one_by_one
  first_taken h = let t : eqb first.refusal 0 ≡ true = eq-eqb first.refusal 0 h in rw t

  pub first-refused : ¬ (first.refusal ≡ 0) → one_by_one (n ∷ ns) r carry pdus log ≡ unchanged first.refusal first.wrong r carry pdus log
  unfolding one_by_one
  first-refused h = let t : eqb first.refusal 0 ≡ false = ne_eqb first.refusal 0 h in rw t

  -- where its words end, after those before them
  pub end-taken : (before : ℕ) → first.refusal ≡ 0
      → word_ends before (n ∷ ns) r carry pdus log ≡ (before + first.words) ∷ word_ends (before + first.words) ns first.receiver (carry_after [] carry (take n pdus) log r) (drop n pdus) (drop first.words first_log)
  unfolding word_ends
  end-taken before h = let t : eqb first.refusal 0 ≡ true = eq-eqb first.refusal 0 h in rw t

  pub end_refused : (before : ℕ) → ¬ (first.refusal ≡ 0) → word_ends before (n ∷ ns) r carry pdus log ≡ []
  unfolding word_ends
  end_refused before h = let t : eqb first.refusal 0 ≡ false = ne_eqb first.refusal 0 h in rw t

  -- its bytes stand first in the buffer
  module _ (rest q : List ℕ) (l : length q ≡ n) (e : pdus ≡ q ++ rest) where
    part : take n pdus ≡ q
    part = ap (take n) e ∙ take_at q rest n l

    left : drop n pdus ≡ rest
    left = ap (drop n) e ∙ drop_at q rest n l

    pub next-taken : (receive_answer [] carry q log r).refusal ≡ 0
        → one_by_one (n ∷ ns) r carry pdus log
        ≡ followed 1 (receive_answer [] carry q log r).words (pdu_after [] carry q log r) (take (receive_answer [] carry q log r).words (log_after [] carry q log r))
        (one_by_one ns (receive_answer [] carry q log r).receiver (carry_after [] carry q log r) rest (drop (receive_answer [] carry q log r).words (log_after [] carry q log r)))
    next-taken h =
        first_taken (rw part h)
        ∙ ap₂ (λ (p t : List ℕ). followed 1 (receive_answer [] carry p log r).words (pdu_after [] carry p log r) (take (receive_answer [] carry p log r).words (log_after [] carry p log r)) (one_by_one ns (receive_answer [] carry p log r).receiver (carry_after [] carry p log r) t (drop (receive_answer [] carry p log r).words (log_after [] carry p log r)))) part left

-- ---- refused with no PDU taken: all is as it was

pub first_stops : (ns : List ℕ) (r : Receiver) (carry pdus log : List ℕ) → ¬ ((one_by_one ns r carry pdus log).answer.refusal ≡ 0) → (one_by_one ns r carry pdus log).answer.taken ≡ 0
    → one_by_one ns r carry pdus log ≡ unchanged (one_by_one ns r carry pdus log).answer.refusal (one_by_one ns r carry pdus log).answer.wrong r carry pdus log
unfolding one_by_one
first_stops [] r carry pdus log h t = refl
first_stops (n ∷ ns) r carry pdus log h t = go (eqb (first n ns r carry pdus log).refusal 0) refl
  where
    go : (b : Bool) → eqb (first n ns r carry pdus log).refusal 0 ≡ b
        → one_by_one (n ∷ ns) r carry pdus log ≡ unchanged (one_by_one (n ∷ ns) r carry pdus log).answer.refusal (one_by_one (n ∷ ns) r carry pdus log).answer.wrong r carry pdus log
    go true e = absurd (let z = sym (ap (λ (x : Result). x.answer.taken) (first_taken n ns r carry pdus log (eqb-true (first n ns r carry pdus log).refusal 0 e))) ∙ t in omega (arith, z))
    go false e =
        let f = first-refused n ns r carry pdus log (eqb-false (first n ns r carry pdus log).refusal 0 e) in
        f ∙ ap₂ (λ (i j : ℕ). unchanged i j r carry pdus log) (sym (ap (λ (x : Result). x.answer.refusal) f)) (sym (ap (λ (x : Result). x.answer.wrong) f))

pub none-taken : (lengths carry pdus log : List ℕ) (r : Receiver) → ¬ ((batch_received lengths carry pdus log r).answer.refusal ≡ 0) → (batch_received lengths carry pdus log r).answer.taken ≡ 0
    → ((batch_received lengths carry pdus log r).answer.receiver ≡ r) × ((batch_received lengths carry pdus log r).carry ≡ carry)
unfolding batch_received
none-taken lengths carry pdus log r = go (eqb (batch_number lengths carry pdus log r) 0) refl
  where
    go : (b : Bool) → eqb (batch_number lengths carry pdus log r) 0 ≡ b → ¬ ((batch_received lengths carry pdus log r).answer.refusal ≡ 0) → (batch_received lengths carry pdus log r).answer.taken ≡ 0
        → ((batch_received lengths carry pdus log r).answer.receiver ≡ r) × ((batch_received lengths carry pdus log r).carry ≡ carry)
    go true e h t =
        let f = first_stops lengths r carry pdus log (rw e at h) (rw e at t) in
        rw e (ap (λ (x : Result). x.answer.receiver) f, ap (λ (x : Result). x.carry) f)
    go false e h t = rw e (refl, refl)
