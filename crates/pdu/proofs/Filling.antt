-- Arrays of 64 entries, filled from the front.
use mathlib.Core.Path.{◌≡◌, refl, sym, ap, ap₂, ◌∙◌}
use mathlib.Core.Bool.{Bool, true, false, ◌||◌, cond, true≢false}
use mathlib.Core.List.{List, ◌∷◌}
use Prim.Native.Nat.{ℕ, zero, suc, ◌+◌, ◌-◌, ◌<◌, ◌≤◌}
use native.Mathlib.Decide.{ℕ_discrete, dec_lt}
use native.Mathlib.Omega.{arith}
use lib.Dec.{ltb, leb}
use lib.ListN.{length, get_or, set, replicate, length-set, get_or-replicate}
use lib.Seq.{get_or-set_same, get_or-set_other, ext_get_or}
use borrow.Author.Tests.{lt-ltb, le-ltb, ltb-false}
use Rattle.layout.specs.Locators.{locator_at}
use Rattle.layout.specs.declared.ControlWord.{ControlWord}
use Rattle.pdu.specs.Reading.{start_at, wrong_locator, any_below, filled_from, filled_to}

-- the first k entries are f's, the others 0
pub record Filled (f : ℕ → ℕ) (k : ℕ) (s : List ℕ) : Type 0 where
  pub long : length s ≡ 64
  pub entry : (j : ℕ) → j < 64 → get_or s j 0 ≡ cond (ltb j k) (f j) 0

pub filled-start : (f : ℕ → ℕ) → Filled f 0 (replicate 64 0)
filled-start f = record { long = refl; entry = λ j h. get_or-replicate 64 j 0 0 h ∙ sym (ap (λ (b : Bool). cond b (f j) 0) (le-ltb j 0 (omega arith))) }

pub filled_next : (f : ℕ → ℕ) (k v : ℕ) (s : List ℕ) → k < 64 → v ≡ f k → Filled f k s → Filled f (k + 1) (set s k v)
filled_next f k v s h e g = record { long = length-set s k v ∙ g.long; entry = λ j b. go j b (ℕ_discrete j k) (dec_lt j k) }
  where
    go : (j : ℕ) → j < 64 → Dec (j ≡ k) → Dec (j < k) → get_or (set s k v) j 0 ≡ cond (ltb j (k + 1)) (f j) 0
    go j b (yes q) d =
        let l : length s ≡ 64 = g.long in
        let t : ltb j (k + 1) ≡ true = lt-ltb j (k + 1) (omega arith) in
        rw t (ap (λ (i : ℕ). get_or (set s k v) i 0) q ∙ get_or-set_same s k v 0 (omega arith) ∙ e ∙ ap f (sym q))
    go j b (no q) (yes d) =
        let t : ltb j (k + 1) ≡ true = lt-ltb j (k + 1) (omega arith) in
        let u : ltb j k ≡ true = lt-ltb j k d in
        rw t (get_or-set_other s k j v 0 q ∙ g.entry j b ∙ rw u)
    go j b (no q) (no d) =
        let t : ltb j (k + 1) ≡ false = le-ltb j (k + 1) (omega arith) in
        let u : ltb j k ≡ false = le-ltb j k (omega arith) in
        rw t (get_or-set_other s k j v 0 q ∙ g.entry j b ∙ rw u)

entry-from : (m k n j : ℕ) (f : ℕ → ℕ) → j < m → get_or (filled_from m k n f) j 0 ≡ cond (ltb (k + j) n) (f (k + j)) 0
entry-from zero k n j f h = absurd (omega arith)
entry-from (suc m) k n zero f h = let e : k + 0 ≡ k = omega arith in rw e
entry-from (suc m) k n (suc j) f h = let e : k + suc j ≡ suc k + j = omega arith in rw e (entry-from m (suc k) n j f (omega arith))

entries-long : (m k n : ℕ) (f : ℕ → ℕ) → length (filled_from m k n f) ≡ m
entries-long zero k n f = refl
entries-long (suc m) k n f = ap suc (entries-long m (suc k) n f)

pub filled-end : (f : ℕ → ℕ) (n k : ℕ) (s : List ℕ) → k ≡ n → Filled f k s → s ≡ filled_to n f
filled-end f n k s e g =
    ext_get_or 0 s (filled_to n f) (g.long ∙ sym (entries-long 64 0 n f))
    (λ j h. (let b : j < 64 = omega (arith, g.long) in
    let z : 0 + j ≡ j = omega arith in
    g.entry j b ∙ ap (λ (m : ℕ). cond (ltb j m) (f j) 0) e ∙ sym (entry-from 64 0 n j f b ∙ ap (λ (i : ℕ). cond (ltb i n) (f i) 0) z)))

-- functions that agree below n
pub entries-same : (m k n : ℕ) (f g : ℕ → ℕ) → ((j : ℕ) → j < n → f j ≡ g j) → filled_from m k n f ≡ filled_from m k n g
entries-same zero k n f g h = refl
entries-same (suc m) k n f g h = ap₂ ◌∷◌ (entry (dec_lt k n)) (entries-same m (suc k) n f g h)
  where
    entry : Dec (k < n) → cond (ltb k n) (f k) 0 ≡ cond (ltb k n) (g k) 0
    entry (yes l) = ap (λ (x : ℕ). cond (ltb k n) x 0) (h k l)
    entry (no l) = let t : ltb k n ≡ false = le-ltb k n (omega arith) in rw t

-- where no locator is wrong, each is past its piece's start
pub or_left : (a b : Bool) → (a || b) ≡ false → a ≡ false
or_left true b e = e
or_left false b e = refl

or_right : (a b : Bool) → (a || b) ≡ false → b ≡ false
or_right true b e = absurd (true≢false e)
or_right false b e = e

-- where no number below n passes a test, each of them fails it
pub each-fails : (t : ℕ → Bool) (n k : ℕ) → any_below n t ≡ false → k < n → t k ≡ false
unfolding any_below
each-fails t zero k e h = absurd (omega arith)
each-fails t (suc n) k e h = go (ℕ_discrete k n) (λ l. each-fails t n k (or_left (any_below n t) (t n) e) l)
  where
    go : Dec (k ≡ n) → (k < n → t k ≡ false) → t k ≡ false
    go (yes q) rec = ap t q ∙ or_right (any_below n t) (t n) e
    go (no q) rec = rec (omega arith)

pub past-start : (width : ℕ) (c : ControlWord) (y : List ℕ) (k : ℕ) → any_below c.nop (wrong_locator width c y) ≡ false → k < c.nop
    → start_at width c y k + 1 ≤ locator_at width y k
unfolding wrong_locator
past-start width c y k e h =
    ltb-false (locator_at width y k) (start_at width c y k + 1)
    (or_left (ltb (locator_at width y k) (start_at width c y k + 1)) (leb (length y) (locator_at width y k)) (each-fails (wrong_locator width c y) c.nop k e h))
