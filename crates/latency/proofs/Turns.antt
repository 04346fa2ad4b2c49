-- A turn of each loop over ticks.
use mathlib.Core.Path.{◌≡◌, refl, sym, ap, ap₂, ◌∙◌}
use mathlib.Core.Bool.{Bool, true, false, cond}
use mathlib.Core.List.{List, [], ◌∷◌, ◌++◌, append-nil}
use Prim.Native.Nat.{ℕ, zero, suc, ◌+◌, ◌-◌, ◌*◌, max, ◌<◌, ◌≤◌}
use native.Mathlib.Nat.{add-zero, max-le, min-le_right}
use native.Mathlib.Numerals.{add-one}
use native.Mathlib.Omega.{arith}
use lib.Dec.{eqb}
use lib.ListN.{length, get_or, set, length-append}
use borrow.Author.Tests.{ne_eqb}
use Rattle.buffer.specs.Buffer.{put_at}
use Rattle.buffer.proofs.Laws.{put-nil, put-cons}
use Rattle.latency.specs.declared.Tally.{Tally}
use Rattle.latency.specs.Latency.{is_dry, waiting, ticks, dry_ticks, most_waiting, tally, waiting_from, shown_count}
use Rattle.latency.specs.Bench.{Tried}
use Rattle.latency.proofs.Ticks.{ticks-most, waiting-most}

-- ---- a list of ticks, and one more where that is dry

pub noted-length : (d : List ℕ) (b : Bool) (t : ℕ) → length d + cond b 1 0 ≡ length (d ++ cond b (t ∷ []) [])
noted-length d true t = sym (length-append d (t ∷ []))
noted-length d false t = add-zero (length d) ∙ ap length (sym (append-nil d))

pub noted-first : (d : List ℕ) (b : Bool) (t : ℕ)
    → cond (eqb (length d) 0) (cond b t (get_or d 0 0)) (get_or d 0 0) ≡ get_or (d ++ cond b (t ∷ []) []) 0 0
noted-first [] true t = refl
noted-first [] false t = refl
noted-first (x ∷ d) b t =
    let e : suc (length d) ≡ 0 → ⊥ = λ f. omega arith in
    rw (ne_eqb (suc (length d)) 0 e)

-- ---- what is told of one tick more

tally-step : (n : ℕ) (counts : List ℕ) (v t : ℕ) (b : Bool) → b ≡ is_dry v t (waiting n counts v t)
    → (let d = dry_ticks n counts v t in
    record { dry = length d + cond b 1 0; first = cond (eqb (length d) 0) (cond b t (get_or d 0 0)) (get_or d 0 0); most = max (most_waiting n counts v t) (waiting n counts v t) })
    ≡ tally n counts v (suc t)
unfolding dry_ticks most_waiting
tally-step n counts v t b e =
    let d = dry_ticks n counts v t in
    rw e (ap₂ (λ (x y : ℕ). record { dry = x; first = y; most = max (most_waiting n counts v t) (waiting n counts v t) })
    (noted-length d (is_dry v t (waiting n counts v t)) t) (noted-first d (is_dry v t (waiting n counts v t)) t))

pub tally-turn : (n : ℕ) (counts : List ℕ) (v t : ℕ) (q : Tally) (w one first most : ℕ) (b : Bool) → q ≡ tally n counts v t → w ≡ waiting n counts v t
    → b ≡ is_dry v t w → one ≡ cond b 1 0 → first ≡ cond (eqb q.dry 0) (cond b t q.first) q.first → most ≡ max q.most w
    → record { dry = q.dry + one; first = first; most = most } ≡ tally n counts v (t + 1)
tally-turn n counts v t q w one first most b eq ew eb e1 ef em = rw (e1, ef, em, eq, ew, add-one) (tally-step n counts v t b (rw ew at eb))

-- ---- how far the numbers go

dry-most : (n : ℕ) (counts : List ℕ) (v t : ℕ) → length (dry_ticks n counts v t) ≤ t
unfolding dry_ticks
dry-most n counts v zero = omega arith
dry-most n counts v (suc t) = go (is_dry v t (waiting n counts v t)) (dry-most n counts v t)
  where
    go : (b : Bool) → length (dry_ticks n counts v t) ≤ t → length (dry_ticks n counts v t ++ cond b (t ∷ []) []) ≤ suc t
    go true h = omega (arith, noted-length (dry_ticks n counts v t) true t)
    go false h = omega (arith, noted-length (dry_ticks n counts v t) false t)

first-most : (n : ℕ) (counts : List ℕ) (v t : ℕ) → get_or (dry_ticks n counts v t) 0 0 ≤ t
unfolding dry_ticks
first-most n counts v zero = omega arith
first-most n counts v (suc t) = go (dry_ticks n counts v t) (is_dry v t (waiting n counts v t)) (first-most n counts v t)
  where
    go : (d : List ℕ) (b : Bool) → get_or d 0 0 ≤ t → get_or (d ++ cond b (t ∷ []) []) 0 0 ≤ suc t
    go [] true h = omega arith
    go [] false h = omega arith
    go (x ∷ d) b h = omega arith

most-most : (n : ℕ) (counts : List ℕ) → Tried n counts → (v t : ℕ) → most_waiting n counts v t ≤ 63 * t
unfolding most_waiting
most-most n counts tried v zero = omega arith
most-most n counts tried v (suc t) =
    let before : most_waiting n counts v t ≤ 63 * suc t = omega (arith, most-most n counts tried v t) in
    let now : waiting n counts v t ≤ 63 * suc t = omega (arith, waiting-most n counts tried v t) in
    max-le before now

pub one-most : (one : ℕ) (b : Bool) → one ≡ cond b 1 0 → one ≤ 1
one-most one true e = omega arith
one-most one false e = omega arith

pub record Small (n : ℕ) (counts : List ℕ) (v t : ℕ) : Type 0 where
  pub dry : (tally n counts v t).dry ≤ t
  pub first : (tally n counts v t).first ≤ t
  pub most : (tally n counts v t).most ≤ 63 * t

pub tally-small : (n : ℕ) (counts : List ℕ) → Tried n counts → (v t : ℕ) → Small n counts v t
tally-small n counts tried v t = record { dry = dry-most n counts v t; first = first-most n counts v t; most = most-most n counts tried v t }

-- what is told of a whole run fits 32 bits
pub told-small : (n : ℕ) (counts : List ℕ) → Tried n counts → (v : ℕ) (q : Tally) → q ≡ tally n counts v (ticks n counts)
    → (q.dry ≤ 8257536) × (q.first ≤ 8257536) × (q.most ≤ 8257536)
told-small n counts tried v q e =
    let s = tally-small n counts tried v (ticks n counts) in
    let h = ticks-most n counts tried in
    let d : (tally n counts v (ticks n counts)).dry ≤ 8257536 = omega (arith, s.dry) in
    let f : (tally n counts v (ticks n counts)).first ≤ 8257536 = omega (arith, s.first) in
    let m : (tally n counts v (ticks n counts)).most ≤ 8257536 = omega (arith, s.most) in
    rw e (d, f, m)

-- ---- a row with the packets that wait at one tick more

pub row-turn : (n : ℕ) (counts : List ℕ) (v first k count : ℕ) (whole row : List ℕ) (w : ℕ) → k < count → k < length row → w ≡ waiting n counts v (first + k)
    → put_at row k (waiting_from n counts v (first + k) (count - k)) ≡ whole
    → put_at (set row k w) (k + 1) (waiting_from n counts v (first + (k + 1)) (count - (k + 1))) ≡ whole
unfolding waiting_from
row-turn n counts v first k count whole row w h room e inv =
    let more : count - k ≡ suc (count - (k + 1)) = omega arith in
    let next : first + (k + 1) ≡ suc (first + k) = omega arith in
    let i : put_at row k (waiting n counts v (first + k) ∷ waiting_from n counts v (suc (first + k)) (count - (k + 1))) ≡ whole = rw more at inv in
    rw (e, next) (put-cons row (waiting_from n counts v (suc (first + k)) (count - (k + 1))) k (waiting n counts v (first + k)) room ∙ i)

pub row-end : (n : ℕ) (counts : List ℕ) (v t k count : ℕ) (row : List ℕ) → k ≡ count → row ≡ put_at row k (waiting_from n counts v t (count - k))
unfolding waiting_from
row-end n counts v t k count row e =
    let none : count - k ≡ 0 = omega arith in
    rw none (sym (put-nil row k))

pub row-none : (n : ℕ) (counts : List ℕ) (v t count : ℕ) (row : List ℕ) → count ≡ 0 → row ≡ put_at row 0 (waiting_from n counts v t count)
unfolding waiting_from
row-none n counts v t count row e = rw e (sym (put-nil row 0))

pub count_most : (n : ℕ) (counts : List ℕ) → Tried n counts → (t room count : ℕ) → count ≡ shown_count n counts t room → count ≤ 131072
count_most n counts tried t room count e = omega (arith, min-le_right room (ticks n counts - t), ticks-most n counts tried)
