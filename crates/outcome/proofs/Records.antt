-- What comes of a record, case by case: it is empty, or the PDU is refused, or it is accepted.
use mathlib.Core.Path.{◌≡◌, refl, sym, ap, ap₂, ◌∙◌}
use mathlib.Core.Bool.{Bool, true, false, ◌&&◌, cond}
use mathlib.Core.List.{List, [], ◌∷◌}
use Prim.Native.Nat.{ℕ}
use native.Mathlib.Omega.{arith}
use lib.Dec.{eqb}
use lib.ListN.{length}
use borrow.Author.Tests.{eq-eqb, ne_eqb, eqb-true}
use Rattle.header.specs.Header.{header_of, distance}
use Rattle.correction.specs.Marks.{corrected_pdu_with}
use Rattle.pdu.specs.Reading.{wrong_of}
use Rattle.pdu.proofs.Lowest.{without-eleven}
use Rattle.receiver.specs.Receiving.{refused_answer, receive_number, receive_answer, carry_after, pdu_after, log_after, lost_tests, lost_number, lost_answer, log_after_lost}
use Rattle.receiver.specs.declared.Receiver.{Receiver}
use Rattle.receiver.specs.declared.Received.{Received}
use Rattle.outcome.specs.Logging.{outcome_of, record_number, record_outcome, record_carry, record_pdu, record_log}
use Rattle.outcome.specs.declared.Outcome.{Outcome}

-- ---- the parts of an outcome

-- an outcome of equal parts
parts : (kind m n k l i j : ℕ) (a b : Received) → m ≡ n → k ≡ l → i ≡ j → a ≡ b → outcome_of kind m k i a ≡ outcome_of kind n l j b
parts kind m n k l i j a b e f g h =
    ap (λ (x : ℕ). outcome_of kind x k i a) e ∙ ap (λ (x : ℕ). outcome_of kind n x i a) f ∙ ap (λ (x : ℕ). outcome_of kind n l x a) g ∙ ap (outcome_of kind n l j) h

-- ---- the number of an answer

number_by : (t : Bool) (n : ℕ) (a : Received) (r : Receiver) (k : ℕ) → eqb n 0 ≡ t → a.refusal ≡ 0 → (cond t a (refused_answer r n k)).refusal ≡ n
number_by true n a r k e z = z ∙ sym (eqb-true n 0 e)
number_by false n a r k e z = refl

lost-number : (log : List ℕ) (r : Receiver) → (lost_answer log r).refusal ≡ lost_number log r
unfolding lost_answer
lost-number log r = number_by (eqb (lost_number log r) 0) (lost_number log r) _ r 0 refl refl

-- whether the first of a list of tests applies, and whether the second does
abbrev first : List (Bool × ℕ) → Bool
first [] = false
first (t ∷ ts) = t.0

abbrev second : List (Bool × ℕ) → Bool
second [] = false
second (t ∷ ts) = first ts

not-11 : (s t : Bool) → ◌≡◌ {A = ℕ} (cond s 1 (cond t 13 0)) 11 → ⊥
not-11 true t e = omega arith
not-11 false true e = omega arith
not-11 false false e = omega arith

-- marking a PDU lost is never refused with 11
lost-not-11 : (log : List ℕ) (r : Receiver) → lost_number log r ≡ 11 → ⊥
unfolding lost_number
lost-not-11 log r e = not-11 (first (lost_tests log r)) (second (lost_tests log r)) e

-- ---- marking lost, where the record is empty

module _ (log : List ℕ) (r : Receiver) where
  -- what is promised of the outcome
  abbrev pub Lost : Outcome → Type 0
  Lost o = o ≡ cond (eqb (lost_number log r) 0) (outcome_of 1 0 0 0 (lost_answer log r)) (outcome_of 2 (lost_number log r) 0 0 (lost_answer log r))

  module _ (a : Received) (e : a ≡ lost_answer log r) (o : Outcome) where
    number-lost : a.refusal ≡ lost_number log r
    number-lost = ap (λ (x : Received). x.refusal) e ∙ lost-number log r

    pub not-marked : (a.refusal ≡ 0 → ⊥) → o ≡ outcome_of 2 a.refusal 0 0 a → Lost o
    not-marked d q =
        let t : eqb (lost_number log r) 0 ≡ false = ne_eqb (lost_number log r) 0 (λ z. d (number-lost ∙ z)) in
        rw t (q ∙ parts 2 a.refusal (lost_number log r) 0 0 0 0 a (lost_answer log r) number-lost refl refl e)

    pub marked : a.refusal ≡ 0 → o ≡ outcome_of 1 0 0 0 a → Lost o
    marked z q =
        let t : eqb (lost_number log r) 0 ≡ true = eq-eqb (lost_number log r) 0 (sym number-lost ∙ z) in
        rw t (q ∙ ap (outcome_of 1 0 0 0) e)

-- by the number n with its k, for a record of length m
lost-by : (t : Bool) (n m k : ℕ) (a : Received) (o : Outcome) → 0 ≡ m → 0 ≡ k → o ≡ cond t (outcome_of 1 0 0 0 a) (outcome_of 2 n 0 0 a) → o ≡ cond t (outcome_of 1 0 0 0 a) (outcome_of 2 n k m a)
lost-by true n m k a o l w q = q
lost-by false n m k a o l w q = q ∙ parts 2 n n 0 k 0 m a a refl w l refl

-- ---- a record

module _ (marks carry pdu log : List ℕ) (r : Receiver) where
  -- the k that comes with a number
  abbrev k_of : ℕ → ℕ
  k_of = wrong_of (corrected_pdu_with marks pdu)

  receive-number : (receive_answer marks carry pdu log r).refusal ≡ receive_number marks carry pdu log r
  unfolding receive_answer
  receive-number = number_by (eqb (receive_number marks carry pdu log r) 0) (receive_number marks carry pdu log r) _ r _ refl refl

  -- what is promised of the outcome, and of the carry, the record and the log after it
  abbrev pub Comes : Outcome → List ℕ → List ℕ → List ℕ → Type 0
  Comes o carry_end pdu_end log_end =
      (o ≡ record_outcome marks carry pdu log r) × ((carry_end ≡ record_carry marks carry pdu log r) × ((pdu_end ≡ record_pdu marks carry pdu log r) × (log_end ≡ record_log marks carry pdu log r)))

  pub empty-record : (o : Outcome) (log_end : List ℕ) → length pdu ≡ 0 → Lost log r o → log_end ≡ log_after_lost log r → Comes o carry pdu log_end
  unfolding record_outcome record_number record_carry record_pdu record_log
  empty-record o log_end l q e =
      let t : eqb (length pdu) 0 ≡ true = eq-eqb (length pdu) 0 l in
      let k : 0 ≡ k_of (lost_number log r) = sym (without-eleven (corrected_pdu_with marks pdu) (lost_number log r) (lost-not-11 log r)) in (
        rw t (lost-by (eqb (lost_number log r) 0) (lost_number log r) (length pdu) (k_of (lost_number log r)) (lost_answer log r) o (sym l) k q),
        (rw t, (rw t, rw t (e ∙ neither (eqb (lost_number log r) 0)))),
      )
    where
      neither : (s : Bool) → log_after_lost log r ≡ cond (s && false) (log_after marks carry pdu log r) (log_after_lost log r)
      neither true = refl
      neither false = refl

  -- the answer of receiving a PDU that is not empty, and the three buffers after it
  module _ (full : length pdu ≡ 0 → ⊥) (a : Received) (carry_end pdu_end log_mid : List ℕ) (ea : a ≡ receive_answer marks carry pdu log r)
      (ec : carry_end ≡ carry_after marks carry pdu log r) (ep : pdu_end ≡ pdu_after marks carry pdu log r) (el : log_mid ≡ log_after marks carry pdu log r) (n : ℕ) (long : n ≡ length pdu) (o : Outcome) where
    number : a.refusal ≡ receive_number marks carry pdu log r
    number = ap (λ (x : Received). x.refusal) ea ∙ receive-number

    some : eqb (length pdu) 0 ≡ false
    some = ne_eqb (length pdu) 0 full

    carry-is : carry_end ≡ record_carry marks carry pdu log r
    unfolding record_carry
    carry-is = rw some ec

    pdu-is : pdu_end ≡ record_pdu marks carry pdu log r
    unfolding record_pdu
    pdu-is = rw some ep

    pub refused-record : (last : Received) (log_end : List ℕ) → (a.refusal ≡ 0 → ⊥) → o ≡ outcome_of 2 a.refusal a.wrong n last → last ≡ lost_answer log_mid a.receiver → log_end ≡ log_after_lost log_mid a.receiver → Comes o carry_end pdu_end log_end
    unfolding record_outcome record_number record_log receive_answer log_after
    refused-record last log_end d q f e =
        let t : eqb (receive_number marks carry pdu log r) 0 ≡ false = ne_eqb (receive_number marks carry pdu log r) 0 (λ z. d (number ∙ z)) in
        let kept : a ≡ refused_answer r (receive_number marks carry pdu log r) (k_of (receive_number marks carry pdu log r)) = rw t at ea in
        let same : log_mid ≡ log = rw t at el in
        let known : a.receiver ≡ r = ap (λ (x : Received). x.receiver) kept in
        let k : a.wrong ≡ k_of (receive_number marks carry pdu log r) = ap (λ (x : Received). x.wrong) kept in
        let lost : last ≡ lost_answer log r = f ∙ ap₂ lost_answer same known in (
          rw (some, t) (q ∙ parts 2 a.refusal (receive_number marks carry pdu log r) a.wrong (k_of (receive_number marks carry pdu log r)) n (length pdu) last (lost_answer log r) number k long lost),
          (carry-is, (pdu-is, rw (some, t) (e ∙ ap₂ log_after_lost same known))),
        )

    pub accepted-record : (before after : List ℕ) (count : ℕ) → a.refusal ≡ 0 → before ≡ header_of pdu → after ≡ header_of pdu_end → count ≡ distance before after → o ≡ outcome_of 0 count 0 n a → Comes o carry_end pdu_end log_mid
    unfolding record_outcome record_number record_log
    accepted-record before after count z eb eh en q =
        let t : eqb (receive_number marks carry pdu log r) 0 ≡ true = eq-eqb (receive_number marks carry pdu log r) 0 (sym number ∙ z) in
        let d : count ≡ distance (header_of pdu) (header_of (pdu_after marks carry pdu log r)) = en ∙ ap₂ distance eb (eh ∙ ap header_of ep) in (
          rw (some, t) (q ∙ parts 0 count _ 0 0 n (length pdu) a (receive_answer marks carry pdu log r) d refl long ea),
          (carry-is, (pdu-is, rw (some, t) el)),
        )
