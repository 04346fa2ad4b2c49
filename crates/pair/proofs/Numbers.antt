-- The numbers that a pair's call answers: 3 never, because a length that the single call refuses with 3 counts as one that can't be corrected; and with 11 the
-- smallest k whose locator is wrong in either corrected copy (document 02, Ask 6).
use mathlib.Core.Path.{◌≡◌, refl, sym, ap, ap₂, subst, ◌∙◌}
use mathlib.Core.Bool.{Bool, true, false, not, ◌&&◌, ◌||◌, cond, true≢false}
use mathlib.Core.List.{List, [], ◌∷◌, ◌++◌}
use Prim.Native.Nat.{ℕ, ◌<◌, ◌≤◌, min}
use native.Mathlib.Decide.{dec_lt, dec_le}
use native.Mathlib.Omega.{arith}
use lib.Dec.{eqb, ltb, leb}
use lib.ListN.{length, take, drop}
use borrow.Author.Tests.{le-leb, lt-ltb, le-ltb}
use Rattle.refusal.specs.Refusal.{first_of}
use Rattle.refusal.proofs.Rows.{without, passed, never, row_on}
use Rattle.layout.specs.Control.{control_at}
use Rattle.correction.specs.Correction.{correction_of, corrected_pdu}
use Rattle.correction.proofs.Answers.{corrected-allowed}
use Rattle.pdu.specs.Reading.{wrong_locator, lowest_below, reader_tests, mode_in, listing_of, width_of, wrong_of}
use Rattle.pdu.proofs.Filling.{each-fails}
use Rattle.pdu.proofs.Lowest.{with-eleven}
use Rattle.receiver.specs.Receiving.{receive_tests, receive_number, receive_answer}
use Rattle.receiver.specs.Steps.{state_tests, stream_tests}
use Rattle.receiver.specs.declared.Receiver.{Receiver}
use Rattle.receiver.specs.declared.Received.{Received}
use Rattle.diversity.specs.Diversity.{correctable, copy_number, lower, wrong_in, wrong_in_pair, pair_tests, pair_number, together, received_by, pair_received}
use Rattle.pair.proofs.Calling.{corrected-is}
use Rattle.pair.proofs.Lowest.{any, small, some-wrong, both-lowest}

-- the lower of two numbers is one of them
lower-from : {P : Type 0} (a b n : ℕ) → (a ≡ n → P) → (b ≡ n → P) → lower a b ≡ n → P
lower-from {P} a b n f g = go (eqb a 0) (eqb b 0 || leb a b)
  where
    go : (s t : Bool) → cond s b (cond t a b) ≡ n → P
    go true t e = g e
    go false true e = f e
    go false false e = g e

module _ (carry log : List ℕ) (r : Receiver) (p q : List ℕ) where
  -- a number that is none of 1, 2, 20 and 13 is of one of the copies
  of-copies : (n : ℕ) → eqb n 0 ≡ false → without n (state_tests r (length carry)) ≡ true → without n (drop 3 (pair_tests carry p q log r)) ≡ true → pair_number carry p q log r ≡ n
      → lower (copy_number r (corrected_pdu p)) (copy_number r (corrected_pdu q)) ≡ n
  unfolding pair_number
  of-copies n z v w e = go (eqb (lower (copy_number r (corrected_pdu p)) (copy_number r (corrected_pdu q))) 0) (passed n (state_tests r (length carry)) (drop 2 (pair_tests carry p q log r)) v e).1
    where
      go : (t : Bool) → first_of ((not t, lower (copy_number r (corrected_pdu p)) (copy_number r (corrected_pdu q))) ∷ drop 3 (pair_tests carry p q log r)) ≡ n
          → lower (copy_number r (corrected_pdu p)) (copy_number r (corrected_pdu q)) ≡ n
      go true h = absurd (never n (drop 3 (pair_tests carry p q log r)) z w h)
      go false h = h

-- ---- never 3

-- an answer that is refused with a number, or accepted
refused-with : (n : ℕ) (a b : Received) → a.refusal ≡ 0 → b.refusal ≡ n → (cond (eqb n 0) a b).refusal ≡ 3 → n ≡ 3
refused-with n a b ea eb = go (eqb n 0)
  where
    go : (t : Bool) → (cond t a b).refusal ≡ 3 → n ≡ 3
    go true e = absurd (omega (arith, ea, e))
    go false e = sym eb ∙ e

module _ (carry log : List ℕ) (r : Receiver) where
  -- received alone, where it can be corrected
  alone : (p : List ℕ) → correctable (correction_of p) ≡ true → ¬ ((receive_answer [] carry p log r).refusal ≡ 3)
  unfolding receive_answer receive_number
  alone p c e =
      let rows = receive_tests [] carry p log r in
      let n = corrected-is (correction_of p) c in
      let s = corrected-allowed p n.0 n.1 in
      let on : not (leb 96 (length p) && leb (length p) 20480) ≡ true = row_on _ 3 (take 2 rows) (drop 3 rows) refl refl refl (refused-with (first_of rows) _ _ refl refl e) in
      let low : leb 96 (length p) ≡ true = le-leb 96 (length p) s.0 in
      let high : leb (length p) 20480 ≡ true = le-leb (length p) 20480 s.1 in
      true≢false (sym on ∙ rw (low, high))

  rows-never : (y : List ℕ) → ¬ (copy_number r y ≡ 3)
  unfolding copy_number
  rows-never y = let c = control_at y in never 3 (stream_tests r c ++ reader_tests (mode_in (listing_of c)) c y) refl refl

  both : (p q : List ℕ) → ¬ ((together carry p q log r).answer.refusal ≡ 3)
  unfolding together
  both p q e =
      lower-from (copy_number r (corrected_pdu p)) (copy_number r (corrected_pdu q)) 3 (rows-never (corrected_pdu p)) (rows-never (corrected_pdu q))
      (of-copies carry log r p q 3 refl refl refl (number (eqb (pair_number carry p q log r) 0) refl e))
    where
      number : (t : Bool) → eqb (pair_number carry p q log r) 0 ≡ t → (together carry p q log r).answer.refusal ≡ 3 → pair_number carry p q log r ≡ 3
      number true h e = absurd (let z : ◌≡◌ {A = ℕ} 0 3 = rw h at e in omega (arith, z))
      number false h e = rw h at e

  pub never-three : (p q : List ℕ) → ¬ ((pair_received carry p q log r).answer.refusal ≡ 3)
  unfolding pair_received
  never-three p q = go (correctable (correction_of p)) (correctable (correction_of q)) refl refl
    where
      go : (s t : Bool) → correctable (correction_of p) ≡ s → correctable (correction_of q) ≡ t → ¬ ((received_by carry p q log r s t).answer.refusal ≡ 3)
      go true true es et = both p q
      go true false es et = alone p es
      go false true es et = alone q et
      go false false es et = never 3 (state_tests r (length carry) ++ (true, 4) ∷ []) refl refl

-- ---- with 11

-- k is the smallest whose locator is wrong in a corrected PDU y, or in z
pub record LowestOfBoth (y z : List ℕ) (k : ℕ) : Type 0 where
  pub wrong : (wrong_in y k || wrong_in z k) ≡ true
  pub below : (j : ℕ) → j < k → (wrong_in y j || wrong_in z j) ≡ false

module _ (y : List ℕ) where
  found : any y ≡ true → wrong_in y (wrong_of y 11) ≡ true
  found e = let l = with-eleven y e in ap₂ ◌&&◌ (lt-ltb (wrong_of y 11) (control_at y).nop l.inside) l.wrong

  not-wrong : (b c : Bool) → c ≡ false → (b && c) ≡ false
  not-wrong true c e = e
  not-wrong false c e = refl

  not-below : (j : ℕ) → j < cond (any y) (wrong_of y 11) 64 → wrong_in y j ≡ false
  not-below j = go (any y) refl (dec_lt j (control_at y).nop)
    where
      go : (b : Bool) → any y ≡ b → Dec (j < (control_at y).nop) → j < cond b (wrong_of y 11) 64 → wrong_in y j ≡ false
      go true e d h = not-wrong (ltb j (control_at y).nop) _ ((with-eleven y e).below j h)
      go false e (yes l) h = not-wrong (ltb j (control_at y).nop) _ (each-fails (wrong_locator (width_of y) (control_at y) y) (control_at y).nop j e l)
      go false e (no l) h = ap (λ (b : Bool). b && wrong_locator (width_of y) (control_at y) y j) (le-ltb j (control_at y).nop (omega arith))

module _ (y z : List ℕ) where
  abbrev smaller : Bool → Bool → ℕ
  smaller a b = min (cond a (wrong_of y 11) 64) (cond b (wrong_of z 11) 64)

  or-true : (b : Bool) → (b || true) ≡ true
  or-true true = refl
  or-true false = refl

  in-first : (k : ℕ) → k ≡ wrong_of y 11 → any y ≡ true → (wrong_in y k || wrong_in z k) ≡ true
  in-first k e a = subst (λ (i : ℕ). (wrong_in y i || wrong_in z i) ≡ true) (sym e) (ap (λ (b : Bool). b || wrong_in z (wrong_of y 11)) (found y a))

  in-second : (k : ℕ) → k ≡ wrong_of z 11 → any z ≡ true → (wrong_in y k || wrong_in z k) ≡ true
  in-second k e a = subst (λ (i : ℕ). (wrong_in y i || wrong_in z i) ≡ true) (sym e) (ap (λ (b : Bool). wrong_in y (wrong_of z 11) || b) (found z a) ∙ or-true (wrong_in y (wrong_of z 11)))

  is-wrong : (a b : Bool) → any y ≡ a → any z ≡ b → (a || b) ≡ true → (wrong_in y (smaller a b) || wrong_in z (smaller a b)) ≡ true
  is-wrong true true ea eb h = go (dec_le (wrong_of y 11) (wrong_of z 11))
    where
      go : Dec (wrong_of y 11 ≤ wrong_of z 11) → (wrong_in y (smaller true true) || wrong_in z (smaller true true)) ≡ true
      go (yes l) = in-first (smaller true true) (omega (arith, l)) ea
      go (no l) = in-second (smaller true true) (omega (arith, l)) eb
  is-wrong true false ea eb h = in-first (smaller true false) (let l = small y ea in omega (arith, l)) ea
  is-wrong false true ea eb h = in-second (smaller false true) (let l = small z eb in omega (arith, l)) eb
  is-wrong false false ea eb h = absurd (true≢false (sym h))

  lowest-of-both : (r : Receiver) → (any y || any z) ≡ true → LowestOfBoth y z (lowest_below 64 (λ k. wrong_in y k || wrong_in z k))
  lowest-of-both r some = subst (LowestOfBoth y z) (sym (both-lowest r y z)) (record {
    wrong = is-wrong (any y) (any z) refl refl some;
    below = λ j h. ap₂ ◌||◌ (not-below y j (omega (arith, h))) (not-below z j (omega (arith, h)));
  })

pub pair-lowest : (carry p q log : List ℕ) (r : Receiver) → correctable (correction_of p) ≡ true → correctable (correction_of q) ≡ true → pair_number carry p q log r ≡ 11
    → LowestOfBoth (corrected_pdu p) (corrected_pdu q) (pair_received carry p q log r).answer.wrong
unfolding pair_received together wrong_in_pair
pair-lowest carry p q log r ep eq e =
    let y = corrected_pdu p in
    let z = corrected_pdu q in
    let some : (any y || any z) ≡ true =
    lower-from (copy_number r y) (copy_number r z) 11 (λ a. ap (λ (b : Bool). b || any z) (some-wrong r y a)) (λ a. ap (λ (b : Bool). any y || b) (some-wrong r z a) ∙ or-true y z (any y))
    (of-copies carry log r p q 11 refl refl refl e) in
    let k : (pair_received carry p q log r).answer.wrong ≡ lowest_below 64 (λ k. wrong_in y k || wrong_in z k) = ap₂ (λ (s t : Bool). (received_by carry p q log r s t).answer.wrong) ep eq ∙ rw e in
    subst (LowestOfBoth y z) (sym k) (lowest-of-both y z r some)
