-- A tick: what it adds and takes, how far the numbers go, and that no packet is lost.
use mathlib.Core.Path.{◌≡◌, refl}
use mathlib.Core.Bool.{Bool, true, false, cond}
use mathlib.Core.List.{List}
use Prim.Native.Nat.{ℕ, zero, suc, ◌+◌, ◌-◌, ◌*◌, ◌/◌, ◌%◌, min, ◌<◌, ◌≤◌}
use native.Mathlib.Nat.{mul-le-mul, min-le_right, min-eq_left}
use native.Mathlib.Numerals.{add-one}
use native.Mathlib.Omega.{arith}
use lib.Dec.{eqb, ltb}
use lib.ListN.{get_or}
use borrow.Author.Tests.{eq-eqb, ne_eqb, lt-ltb, le-ltb}
use Rattle.latency.specs.Latency.{added, taken, is_dry, left, waiting, ticks}
use Rattle.latency.specs.Bench.{Tried, added_in, taken_in, Conserved}

-- ---- what a tick adds

pub added-count : (n t : ℕ) (counts : List ℕ) → t % n ≡ 0 → get_or counts (t / n) 0 ≡ added n counts t
unfolding added
added-count n t counts e = simp (eq-eqb (t % n) 0 e)

pub added_none : (n t : ℕ) (counts : List ℕ) → (t % n ≡ 0 → ⊥) → 0 ≡ added n counts t
unfolding added
added_none n t counts e = simp (ne_eqb (t % n) 0 e)

-- ---- what a tick takes, and whether it is dry

module _ (v t waiting : ℕ) where
  pub early-taken : t < 2 * v → 0 ≡ taken v t waiting
  unfolding taken
  early-taken h = simp (lt-ltb t (2 * v) h)

  pub none-taken : 2 * v ≤ t → waiting ≡ 0 → 0 ≡ taken v t waiting
  unfolding taken
  none-taken h e = rw (le-ltb t (2 * v) h, e)

  pub one-taken : 2 * v ≤ t → (waiting ≡ 0 → ⊥) → 1 ≡ taken v t waiting
  unfolding taken
  one-taken h e =
      let some : 1 ≤ waiting = omega arith in
      rw (le-ltb t (2 * v) h, min-eq_left some)

  pub taken-most : taken v t waiting ≤ waiting
  unfolding taken
  taken-most = go (ltb t (2 * v))
    where
      go : (b : Bool) → cond b 0 (min 1 waiting) ≤ waiting
      go true = omega arith
      go false = min-le_right 1 waiting

  pub early-dry : t < 2 * v → false ≡ is_dry v t waiting
  unfolding is_dry
  early-dry h = simp (lt-ltb t (2 * v) h)

  pub late-dry : 2 * v ≤ t → eqb waiting 0 ≡ is_dry v t waiting
  unfolding is_dry
  late-dry h = simp (le-ltb t (2 * v) h)

-- ---- how far the numbers go

module _ (n : ℕ) (counts : List ℕ) (tried : Tried n counts) where
  pub ticks-most : ticks n counts ≤ 131072
  ticks-most = mul-le-mul tried.few tried.near

  added-most : (t : ℕ) → added n counts t ≤ 63
  unfolding added
  added-most t = go (eqb (t % n) 0)
    where
      go : (b : Bool) → cond b (get_or counts (t / n) 0) 0 ≤ 63
      go true = tried.small (t / n)
      go false = omega arith

  left-most : (v t : ℕ) → left n counts v t ≤ 63 * t
  unfolding left
  left-most v zero = omega arith
  left-most v (suc t) = omega (arith, left-most v t, added-most t)

  pub waiting-most : (v t : ℕ) → waiting n counts v t ≤ 63 * t + 63
  waiting-most v t = omega (arith, left-most v t, added-most t)

-- ---- a turn of a loop over ticks, with what is kept before it and what comes

module _ (n : ℕ) (counts : List ℕ) (v t kept come : ℕ) (is-left : kept ≡ left n counts v t) (is-added : come ≡ added n counts t) where
  pub turn-waiting : kept + come ≡ waiting n counts v t
  turn-waiting = rw (is-left, is-added)

  pub turn-fits : Tried n counts → t < ticks n counts → kept + come ≤ 8257536
  turn-fits tried h = omega (arith, turn-waiting, waiting-most n counts tried v t, ticks-most n counts tried)

  pub turn-left : (takes : ℕ) → takes ≡ taken v t (kept + come) → kept + come - takes ≡ left n counts v (t + 1)
  unfolding left
  turn-left takes e = rw (e, is-left, is-added, add-one)

-- ---- packets added equal taken plus waiting

added-taken : (n : ℕ) (counts : List ℕ) (v t : ℕ) → added_in n counts t ≡ taken_in n counts v t + left n counts v t
unfolding added_in taken_in left
added-taken n counts v zero = refl
added-taken n counts v (suc t) = omega (arith, added-taken n counts v t, taken-most v t (waiting n counts v t))

-- at every tick, for every spacing, counts and latency
pub conserved : (n : ℕ) (counts : List ℕ) (v t : ℕ) → Conserved n counts v t
unfolding added_in
conserved n counts v t = record { once-added = omega (arith, added-taken n counts v t); once-taken = added-taken n counts v (suc t) }
