-- The k that comes with 11: the smallest whose locator is wrong in either of two corrected copies (document 02, Asks 5 and 6).
use mathlib.Core.Path.{◌≡◌, refl, sym, ap, ap₂, subst, ◌∙◌}
use mathlib.Core.Bool.{Bool, true, false, not, ◌&&◌, ◌||◌, cond, true≢false}
use mathlib.Core.List.{List, [], ◌∷◌, ◌++◌}
use Prim.Native.Nat.{ℕ, zero, suc, ◌<◌, ◌≤◌, min}
use native.Mathlib.Decide.{ℕ_discrete, dec_lt, dec_le}
use native.Mathlib.Omega.{arith}
use lib.Dec.{eqb, ltb, leb, leb-suc-suc}
use lib.ListN.{take, drop}
use borrow.Author.Tests.{eq-eqb, ne_eqb, le-leb, lt-leb, lt-ltb, le-ltb, leb-true}
use Rattle.refusal.specs.Refusal.{first_of}
use Rattle.refusal.proofs.Rows.{row-off, row_on}
use Rattle.layout.specs.Control.{control_at}
use Rattle.pdu.specs.Reading.{wrong_locator, any_below, lowest_below, lowest_wrong, reader_tests, mode_in, listing_of, width_of, wrong_of}
use Rattle.pdu.specs.declared.Verdict.{Verdict}
use Rattle.pdu.proofs.Assembling.{nop-small}
use Rattle.pdu.proofs.Lowest.{lowest-same, any-lowest, lowest-inside, without-eleven}
use Rattle.receiver.specs.Steps.{stream_tests}
use Rattle.receiver.specs.declared.Receiver.{Receiver}
use Rattle.diversity.specs.Diversity.{copy_number, lower, wrong_in, wrong_in_pair}
use Rattle.pair.specs.Steps.{lower_wrong}

-- ---- the smallest number that passes a test

-- of two tests
lowest-either : (n : ℕ) (t u : ℕ → Bool) → lowest_below n (λ k. t k || u k) ≡ min (lowest_below n t) (lowest_below n u)
unfolding lowest_below
lowest-either zero t u = refl
lowest-either (suc n) t u = go (t 0) (u 0) (lowest-either n (λ k. t (suc k)) (λ k. u (suc k)))
  where
    a : ℕ
    a = lowest_below n (λ k. t (suc k))

    b : ℕ
    b = lowest_below n (λ k. u (suc k))

    go : (x y : Bool) → lowest_below n (λ k. t (suc k) || u (suc k)) ≡ min a b → cond (x || y) 0 (suc (lowest_below n (λ k. t (suc k) || u (suc k)))) ≡ min (cond x 0 (suc a)) (cond y 0 (suc b))
    go true true e = omega arith
    go true false e = omega arith
    go false true e = omega arith
    go false false e = omega arith

none_pass : (n : ℕ) (t : ℕ → Bool) → ((k : ℕ) → t k ≡ false) → lowest_below n t ≡ n
unfolding lowest_below
none_pass zero t f = refl
none_pass (suc n) t f = let e : t 0 ≡ false = f 0 in rw e (ap suc (none_pass n (λ k. t (suc k)) (λ k. f (suc k))))

-- of a test of the numbers below m alone
lowest-cut : (n m : ℕ) (t : ℕ → Bool) → m ≤ n → lowest_below n (λ k. ltb k m && t k) ≡ cond (ltb (lowest_below m t) m) (lowest_below m t) n
unfolding lowest_below
lowest-cut n zero t h = none_pass n (λ k. ltb k 0 && t k) (λ k. ap (λ (b : Bool). b && t k) (le-ltb k 0 (omega arith)))
lowest-cut zero (suc m) t h = absurd (omega arith)
lowest-cut (suc n) (suc m) t h =
    ap₂ (λ (b : Bool) (x : ℕ). cond b 0 (suc x)) (ap (λ (b : Bool). b && t 0) (lt-ltb 0 (suc m) (omega arith))) (lowest-same (λ k. ltb (suc k) (suc m) && t (suc k)) (λ k. ltb k m && t (suc k)) n (λ k l. ap (λ (b : Bool). b && t (suc k)) (leb-suc-suc (suc k) m)) ∙ lowest-cut n m (λ k. t (suc k)) (omega arith))
    ∙ go (t 0)
  where
    a : ℕ
    a = lowest_below m (λ k. t (suc k))

    keep : (b : Bool) → suc (cond b a n) ≡ cond b (suc a) (suc n)
    keep true = refl
    keep false = refl

    go : (x : Bool) → cond x 0 (suc (cond (ltb a m) a n)) ≡ cond (ltb (cond x 0 (suc a)) (suc m)) (cond x 0 (suc a)) (suc n)
    go true = let e : ltb 0 (suc m) ≡ true = lt-ltb 0 (suc m) (omega arith) in rw e
    go false = keep (ltb a m) ∙ ap (λ (b : Bool). cond b (suc a) (suc n)) (sym (leb-suc-suc (suc a) m))

-- ---- in a corrected PDU

module _ (y : List ℕ) where
  abbrev pub any : Bool
  any = any_below (control_at y).nop (wrong_locator (width_of y) (control_at y) y)

  lowest-in : lowest_below 64 (wrong_in y) ≡ cond any (wrong_of y 11) 64
  unfolding wrong_of
  lowest-in =
      let h = nop-small y in
      lowest-cut 64 (control_at y).nop (wrong_locator (width_of y) (control_at y) y) (omega (arith, h))
      ∙ ap (λ (b : Bool). cond b (lowest_wrong (width_of y) (control_at y) y) 64) (sym (any-lowest (wrong_locator (width_of y) (control_at y) y) (control_at y).nop))

  pub small : any ≡ true → wrong_of y 11 < 64
  unfolding wrong_of
  small e = let l = lowest-inside (width_of y) (control_at y) y e in let h = nop-small y in omega (arith, l, h)

-- ---- row 11 applies where the number is 11, and not where it is none or a later one

abbrev at_most : ℕ → List (Bool × ℕ) → Bool
at_most n [] = true
at_most n (t ∷ ts) = leb t.1 n && at_most n ts

first-most : (n : ℕ) (ts us : List (Bool × ℕ)) → at_most n ts ≡ true → first_of (ts ++ (true, n) ∷ us) ≤ n
first-most n [] us h = omega arith
first-most n ((true, k) ∷ ts) us h = go (leb k n) refl h
  where
    go : (b : Bool) → leb k n ≡ b → (b && at_most n ts) ≡ true → k ≤ n
    go true e g = leb-true k n e
    go false e g = absurd (true≢false (sym g))
first-most n ((false, k) ∷ ts) us h = first-most n ts us (go (leb k n) h)
  where
    go : (b : Bool) → (b && at_most n ts) ≡ true → at_most n ts ≡ true
    go true g = g
    go false g = absurd (true≢false (sym g))

module _ (r : Receiver) (y : List ℕ) where
  abbrev rows : List (Bool × ℕ)
  rows = stream_tests r (control_at y) ++ reader_tests (mode_in (listing_of (control_at y))) (control_at y) y

  pub some-wrong : copy_number r y ≡ 11 → any y ≡ true
  unfolding copy_number width_of
  some-wrong e = row_on _ 11 (take 6 rows) (drop 7 rows) refl refl refl e

  none-wrong : ¬ (copy_number r y ≡ 11) → (¬ (copy_number r y ≡ 0) → 11 ≤ copy_number r y) → any y ≡ false
  unfolding copy_number width_of
  none-wrong d h = go (any y) refl (ℕ_discrete (copy_number r y) 0)
    where
      go : (b : Bool) → any y ≡ b → Dec (copy_number r y ≡ 0) → any y ≡ false
      go false e z = e
      go true e (yes z) = row-off rows 6 refl z
      go true e (no z) =
          let l : first_of (take 6 rows ++ (true, 11) ∷ drop 7 rows) ≤ 11 = first-most 11 (take 6 rows) (drop 7 rows) refl in
          let m : copy_number r y ≤ 11 = subst (λ (b : Bool). first_of (take 6 rows ++ (b, 11) ∷ drop 7 rows) ≤ 11) (sym e) l in
          absurd (d (let k = h z in omega (arith, m, k)))

-- ---- the lower of two numbers

pub lower-zero : (b : ℕ) → lower 0 b ≡ b
lower-zero b = refl

pub lower-same : (a : ℕ) → lower a a ≡ a
lower-same a = go (ℕ_discrete a 0)
  where
    go : Dec (a ≡ 0) → lower a a ≡ a
    go (yes e) = rw e
    go (no e) = let t : eqb a 0 ≡ false = ne_eqb a 0 e in let u : leb a a ≡ true = le-leb a a (omega arith) in rw (t, u)

pub lower-none : (a b : ℕ) → ¬ (a ≡ 0) → b ≡ 0 → lower a b ≡ a
lower-none a b e f = let t : eqb a 0 ≡ false = ne_eqb a 0 e in rw (t, f)

pub lower-first : (a b : ℕ) → ¬ (a ≡ 0) → ¬ (b ≡ 0) → a ≤ b → lower a b ≡ a
lower-first a b e f h = let t : eqb a 0 ≡ false = ne_eqb a 0 e in let u : eqb b 0 ≡ false = ne_eqb b 0 f in let v : leb a b ≡ true = le-leb a b h in rw (t, u, v)

pub lower-second : (a b : ℕ) → ¬ (a ≡ 0) → ¬ (b ≡ 0) → b < a → lower a b ≡ b
lower-second a b e f h = let t : eqb a 0 ≡ false = ne_eqb a 0 e in let u : eqb b 0 ≡ false = ne_eqb b 0 f in let v : leb a b ≡ false = lt-leb a b h in rw (t, u, v)

-- none of the two
pub lower-is-zero : (a b : ℕ) → lower a b ≡ 0 → (a ≡ 0) × (b ≡ 0)
lower-is-zero a b e = go (ℕ_discrete a 0) (ℕ_discrete b 0)
  where
    go : Dec (a ≡ 0) → Dec (b ≡ 0) → (a ≡ 0) × (b ≡ 0)
    go (yes p) d = (p, sym (ap (λ (n : ℕ). lower n b) p) ∙ e)
    go (no p) (yes q) = absurd (p (sym (lower-none a b p q) ∙ e))
    go (no p) (no q) = by (dec_le a b)
      where
        by : Dec (a ≤ b) → (a ≡ 0) × (b ≡ 0)
        by (yes l) = absurd (p (sym (lower-first a b p q l) ∙ e))
        by (no l) = absurd (q (sym (lower-second a b p q (omega arith)) ∙ e))

-- ---- verdicts

-- v is the lower one of a and b
abbrev pub Lower : Verdict → Verdict → Verdict → Type 0
Lower a b v = (v.number ≡ lower a.number b.number) × (v.wrong ≡ lower_wrong a b)

module _ (a b : Verdict) where
  pub same_first : a.number ≡ b.number → a.wrong ≤ b.wrong → Lower a b a
  same_first e h =
      let t : eqb a.number b.number ≡ true = eq-eqb a.number b.number e in
      (sym (ap (lower a.number) (sym e) ∙ lower-same a.number), sym (rw t (omega arith)))

  pub same_second : a.number ≡ b.number → b.wrong < a.wrong → Lower a b b
  same_second e h =
      let t : eqb a.number b.number ≡ true = eq-eqb a.number b.number e in
      (sym (ap (λ (n : ℕ). lower n b.number) e ∙ lower-same b.number), sym (rw t (omega arith)))

  pub is-first : ¬ (a.number ≡ b.number) → lower a.number b.number ≡ a.number → Lower a b a
  is-first d e =
      let t : eqb a.number b.number ≡ false = ne_eqb a.number b.number d in
      let u : eqb (lower a.number b.number) a.number ≡ true = eq-eqb (lower a.number b.number) a.number e in
      (sym e, sym (rw (t, u)))

  pub is-second : ¬ (a.number ≡ b.number) → lower a.number b.number ≡ b.number → Lower a b b
  is-second d e =
      let t : eqb a.number b.number ≡ false = ne_eqb a.number b.number d in
      let u : eqb (lower a.number b.number) a.number ≡ false = ne_eqb (lower a.number b.number) a.number (λ q. d (sym q ∙ e)) in
      (sym e, sym (rw (t, u)))

-- ---- the k of a pair

-- m and n are the numbers of the two
module _ (r : Receiver) (y z : List ℕ) where
  abbrev pub lowest_of_both : ℕ
  lowest_of_both = lowest_below 64 (λ k. wrong_in y k || wrong_in z k)

  pub both-lowest : lowest_of_both ≡ min (cond (any y) (wrong_of y 11) 64) (cond (any z) (wrong_of z 11) 64)
  both-lowest = lowest-either 64 (wrong_in y) (wrong_in z) ∙ ap₂ min (lowest-in y) (lowest-in z)

  k-with : (m n : ℕ) → m ≡ copy_number r y → n ≡ copy_number r z → lower_wrong (record { number = m; wrong = wrong_of y m }) (record { number = n; wrong = wrong_of z n }) ≡ wrong_in_pair y z (lower m n)
  unfolding wrong_in_pair
  k-with m n em en = go (ℕ_discrete m n) (ℕ_discrete (lower m n) m) (ℕ_discrete (lower m n) 11)
    where
      -- any other number has 0
      other : (x : ℕ) (l : List ℕ) → ¬ (x ≡ 11) → wrong_of l x ≡ 0
      other x l d = without-eleven l x d

      some_y : m ≡ 11 → any y ≡ true
      some_y e = some-wrong r y (sym em ∙ e)

      some_z : n ≡ 11 → any z ≡ true
      some_z e = some-wrong r z (sym en ∙ e)

      none_y : ¬ (m ≡ 11) → (¬ (m ≡ 0) → 11 ≤ m) → any y ≡ false
      none_y d h = none-wrong r y (λ q. d (em ∙ q)) (λ q. subst (λ (x : ℕ). 11 ≤ x) em (h (λ e. q (sym em ∙ e))))

      none_z : ¬ (n ≡ 11) → (¬ (n ≡ 0) → 11 ≤ n) → any z ≡ false
      none_z d h = none-wrong r z (λ q. d (en ∙ q)) (λ q. subst (λ (x : ℕ). 11 ≤ x) en (h (λ e. q (sym en ∙ e))))

      -- where the lower number is 11, the other is none or not below it
      later : (a b : ℕ) → a ≡ 11 → lower a b ≡ a → ¬ (b ≡ 0) → 11 ≤ b
      later a b ea el f = by (dec_lt b a)
        where
          by : Dec (b < a) → 11 ≤ b
          by (yes h) = absurd (let q = lower-second a b (λ e. absurd (omega arith)) f h in omega (arith, q, el))
          by (no h) = omega arith

      later' : (a b : ℕ) → b ≡ 11 → lower a b ≡ b → ¬ (a ≡ 0) → 11 ≤ a
      later' a b eb el f = by (dec_lt a b)
        where
          by : Dec (a < b) → 11 ≤ a
          by (yes h) = absurd (let q = lower-first a b f (λ e. absurd (omega arith)) (omega arith) in omega (arith, q, el))
          by (no h) = omega arith

      -- one of the two is the lower
      one : ¬ (lower m n ≡ m) → lower m n ≡ n
      one d = by (ℕ_discrete m 0) (ℕ_discrete n 0)
        where
          by : Dec (m ≡ 0) → Dec (n ≡ 0) → lower m n ≡ n
          by (yes e) g = ap (λ (x : ℕ). lower x n) e
          by (no e) (yes f) = absurd (d (lower-none m n e f))
          by (no e) (no f) = at (dec_le m n)
            where
              at : Dec (m ≤ n) → lower m n ≡ n
              at (yes h) = absurd (d (lower-first m n e f h))
              at (no h) = lower-second m n e f (omega arith)

      go : Dec (m ≡ n) → Dec (lower m n ≡ m) → Dec (lower m n ≡ 11) → lower_wrong (record { number = m; wrong = wrong_of y m }) (record { number = n; wrong = wrong_of z n }) ≡ cond (eqb (lower m n) 11) lowest_of_both 0
      go (yes e) l (yes q) =
          let ml : m ≡ 11 = sym (ap (lower m) (sym e) ∙ lower-same m) ∙ q in
          let nl : n ≡ 11 = sym e ∙ ml in
          let t : eqb m n ≡ true = eq-eqb m n e in
          let u : eqb (lower m n) 11 ≡ true = eq-eqb (lower m n) 11 q in
          rw (t, u) (ap₂ (λ (a b : ℕ). min (wrong_of y a) (wrong_of z b)) ml nl ∙ sym (both-lowest ∙ ap₂ (λ (a b : Bool). min (cond a (wrong_of y 11) 64) (cond b (wrong_of z 11) 64)) (some_y ml) (some_z nl)))
      go (yes e) l (no q) =
          let md : ¬ (m ≡ 11) = λ x. q (ap (lower m) (sym e) ∙ lower-same m ∙ x) in
          let t : eqb m n ≡ true = eq-eqb m n e in
          let u : eqb (lower m n) 11 ≡ false = ne_eqb (lower m n) 11 q in
          rw (t, u) (ap₂ min (other m y md) (other n z (λ x. md (e ∙ x))))
      go (no e) (yes l) (yes q) =
          let ml : m ≡ 11 = sym l ∙ q in
          let nd : ¬ (n ≡ 11) = λ x. e (ml ∙ sym x) in
          let t : eqb m n ≡ false = ne_eqb m n e in
          let v : eqb (lower m n) m ≡ true = eq-eqb (lower m n) m l in
          let u : eqb (lower m n) 11 ≡ true = eq-eqb (lower m n) 11 q in
          let s = small y (some_y ml) in
          let w : wrong_of y 11 ≡ min (wrong_of y 11) 64 = omega (arith, s) in
          rw (t, v, u) (ap (wrong_of y) ml ∙ w ∙ sym (both-lowest ∙ ap₂ (λ (a b : Bool). min (cond a (wrong_of y 11) 64) (cond b (wrong_of z 11) 64)) (some_y ml) (none_z nd (later m n ml l))))
      go (no e) (yes l) (no q) =
          let t : eqb m n ≡ false = ne_eqb m n e in
          let v : eqb (lower m n) m ≡ true = eq-eqb (lower m n) m l in
          let u : eqb (lower m n) 11 ≡ false = ne_eqb (lower m n) 11 q in
          rw (t, v, u) (other m y (λ x. q (l ∙ x)))
      go (no e) (no l) (yes q) =
          let o = one l in
          let nl : n ≡ 11 = sym o ∙ q in
          let md : ¬ (m ≡ 11) = λ x. e (x ∙ sym nl) in
          let t : eqb m n ≡ false = ne_eqb m n e in
          let v : eqb (lower m n) m ≡ false = ne_eqb (lower m n) m l in
          let u : eqb (lower m n) 11 ≡ true = eq-eqb (lower m n) 11 q in
          let s = small z (some_z nl) in
          let w : wrong_of z 11 ≡ min 64 (wrong_of z 11) = omega (arith, s) in
          rw (t, v, u) (ap (wrong_of z) nl ∙ w ∙ sym (both-lowest ∙ ap₂ (λ (a b : Bool). min (cond a (wrong_of y 11) 64) (cond b (wrong_of z 11) 64)) (none_y md (later' m n nl o)) (some_z nl)))
      go (no e) (no l) (no q) =
          let t : eqb m n ≡ false = ne_eqb m n e in
          let v : eqb (lower m n) m ≡ false = ne_eqb (lower m n) m l in
          let u : eqb (lower m n) 11 ≡ false = ne_eqb (lower m n) 11 q in
          rw (t, v, u) (other n z (λ x. q (one l ∙ x)))

  pub pair-wrong : (a b v : Verdict) → a.number ≡ copy_number r y → a.wrong ≡ wrong_of y a.number → b.number ≡ copy_number r z → b.wrong ≡ wrong_of z b.number → Lower a b v
      → (v.number ≡ lower (copy_number r y) (copy_number r z)) × (v.wrong ≡ wrong_in_pair y z v.number)
  pair-wrong a b v ea wa eb wb l = (
    l.0 ∙ ap₂ lower ea eb,
    l.1 ∙ ap₂ (λ (i j : ℕ). lower_wrong (record { number = a.number; wrong = i }) (record { number = b.number; wrong = j })) wa wb ∙ k-with a.number b.number ea eb ∙ ap (wrong_in_pair y z) (sym l.0),
  )
