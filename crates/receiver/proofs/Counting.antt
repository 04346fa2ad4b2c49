-- Document 02, Ask 14: delivered and missing over a call, and when it is refused with 27.
use mathlib.Core.Path.{◌≡◌, refl, sym, ap, ◌∙◌}
use mathlib.Core.Bool.{Bool, true, false, not, ◌&&◌, cond}
use mathlib.Core.List.{List, [], ◌∷◌}
use mathlib.Core.Option.{Option}
use Prim.Native.Nat.{ℕ, ◌<◌, ◌≤◌}
use native.Mathlib.Omega.{arith}
use lib.Dec.{eqb, ltb}
use lib.ListN.{length, get_or, drop}
use borrow.Author.Tests.{eqb-true, ltb-false, lt-ltb, le-ltb, eq-eqb}
use Rattle.refusal.specs.Refusal.{first_of, any_of}
use Rattle.refusal.proofs.Rows.{past, passed, never, row_on, none-at}
use Rattle.packet_log.specs.Log.{packets_of}
use Rattle.reassembly.specs.Reassembly.{Memory}
use Rattle.reassembly.specs.Tally.{Tally, Grows, Countable, passes_limit}
use Rattle.reassembly.proofs.Tallies.{not-passed, tally-quiet, tally-grows, FairTally}
use Rattle.receiver.proofs.AfterReceiving.{received_words, tally_after}
use Rattle.receiver.specs.Receiving.{remembering, tally_of, wrong_counts, wrong_state, outcome, receive_tests, receive_number, receive_answer, lost_tests, lost_number, lost_answer}
use Rattle.receiver.specs.declared.Receiver.{Receiver}
use Rattle.receiver.specs.declared.Received.{Received}
use Rattle.receiver.proofs.Enough.{first_twelve}
use Rattle.receiver.proofs.Rows.{number-held}

-- an answer that is one of two
either : (P : Received → Type 0) (b : Bool) (x y : Received) → P x → P y → P (cond b x y)
either P true x y p q = p
either P false x y p q = q

-- ---- number 1

-- counts in their ranges are those that number 1 does not turn down
pub counts-fair : (r : Receiver) → any_of (wrong_state r) ≡ false → FairTally (tally_of r)
counts-fair r e =
    let off : (k : ℕ) → get_or (wrong_state r) k false ≡ false = λ k. none-at (wrong_state r) k e in
    record { last = ltb-false 63 r.last (off 9); none = λ z. (number-held r r.delivered r.missing (off 10) z, number-held r r.delivered r.last (off 11) z) }

zero_or_not : (d n : ℕ) → (d ≡ 0 → n ≡ 0) → (eqb d 0 && not (eqb n 0)) ≡ false
zero_or_not d n h = go (eqb d 0) refl
  where
    go : (b : Bool) → eqb d 0 ≡ b → (b && not (eqb n 0)) ≡ false
    go true e = let z : eqb n 0 ≡ true = eq-eqb n 0 (h (eqb-true d 0 e)) in rw z
    go false e = refl

pub counts-right : (r : Receiver) (x : Memory) (kept : Option ℕ) (t : Tally) → FairTally t → any_of (wrong_counts (remembering r x kept t)) ≡ false
unfolding remembering
counts-right r x kept t f =
    rw (le-ltb 63 t.last f.last, zero_or_not t.delivered t.missing (λ z. (f.none z).0), zero_or_not t.delivered t.last (λ z. (f.none z).1)) refl

-- ---- 13, then 27

module _ (marks carry pdu log : List ℕ) (r : Receiver) where
  abbrev number : ℕ
  number = receive_number marks carry pdu log r

  module _ (e : first_of (first_twelve marks carry pdu log r) ≡ 0) where
    last-rows : number ≡ cond (ltb (length log) (length (received_words marks carry pdu log r))) 13 (cond (passes_limit (tally_after marks carry pdu log r)) 27 0)
    unfolding receive_number
    last-rows = past (first_twelve marks carry pdu log r) (drop 13 (receive_tests marks carry pdu log r)) refl e

    -- a log too short is 13, whatever the counts are
    pub room-before-limit : length log < length (received_words marks carry pdu log r) → number ≡ 13
    room-before-limit h =
        let t : ltb (length log) (length (received_words marks carry pdu log r)) ≡ true = lt-ltb (length log) (length (received_words marks carry pdu log r)) h in
        last-rows ∙ rw t

    module _ (room : length (received_words marks carry pdu log r) ≤ length log) where
      fits : ltb (length log) (length (received_words marks carry pdu log r)) ≡ false
      fits = le-ltb (length log) (length (received_words marks carry pdu log r)) room

      pub limit-passed : passes_limit (tally_after marks carry pdu log r) ≡ true → number ≡ 27
      limit-passed p = last-rows ∙ rw (fits, p)

      -- where neither count would pass 4,294,967,295, it is accepted
      pub countable-accepted : Countable (tally_after marks carry pdu log r) → number ≡ 0
      countable-accepted c = last-rows ∙ rw (fits, not-passed (tally_after marks carry pdu log r) c)

  -- with 27 a count would pass
  pub limit-only : number ≡ 27 → passes_limit (tally_after marks carry pdu log r) ≡ true
  unfolding receive_number
  limit-only e =
      let t = passed 27 (first_twelve marks carry pdu log r) (drop 13 (receive_tests marks carry pdu log r)) refl e in
      row_on (passes_limit (tally_after marks carry pdu log r)) 27 ((ltb (length log) (length (received_words marks carry pdu log r)), 13) ∷ []) [] refl refl refl t.1

  -- a PDU that delivers nothing is never refused with 27, and leaves the counts and the last number as they were
  module _ (quiet : packets_of (outcome marks carry pdu log r).entries ≡ []) where
    pub nothing-counted : tally_after marks carry pdu log r ≡ tally_of r
    nothing-counted = tally-quiet (outcome marks carry pdu log r).entries (tally_of r) quiet

    pub quiet-accepted : Countable (tally_of r) → ¬ (number ≡ 27)
    quiet-accepted c e =
        let p : passes_limit (tally_of r) ≡ true = ap passes_limit (sym nothing-counted) ∙ limit-only e in
        let z : ◌≡◌ {A = ℕ} 0 1 = ap (λ (b : Bool). cond b 0 1) (sym p ∙ not-passed (tally_of r) c) in
        omega (arith, z)

  -- ---- over a call

  -- counts never fall
  pub call-grows : Grows (tally_of r) (tally_of (receive_answer marks carry pdu log r).receiver)
  unfolding receive_answer remembering
  call-grows =
      either (λ (a : Received). Grows (tally_of r) (tally_of a.receiver)) (eqb number 0) _ _ (tally-grows (outcome marks carry pdu log r).entries (tally_of r))
      (record { delivered = omega arith; missing = omega arith })

-- marking lost keeps them
pub lost-keeps : (log : List ℕ) (r : Receiver) → tally_of (lost_answer log r).receiver ≡ tally_of r
unfolding lost_answer remembering
lost-keeps log r = either (λ (a : Received). tally_of a.receiver ≡ tally_of r) (eqb (lost_number log r) 0) _ _ refl refl

-- and is never refused with 27
pub lost-never : (log : List ℕ) (r : Receiver) → ¬ (lost_number log r ≡ 27)
unfolding lost_number
lost-never log r = never 27 (lost_tests log r) refl refl
