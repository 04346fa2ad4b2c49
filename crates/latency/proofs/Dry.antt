-- Which ticks are dry, the first of them, and the most packets that wait, of a whole run.
use mathlib.Core.Path.{◌≡◌, refl, sym, ap, ◌∙◌}
use mathlib.Core.Bool.{Bool, true, false, cond}
use mathlib.Core.List.{List, [], ◌∷◌, ◌++◌}
use Prim.Native.Nat.{ℕ, zero, suc, ◌*◌, max, ◌<◌, ◌≤◌}
use native.Mathlib.Nat.{le-max_left, le-max_right, max-eq_left, max-eq_right, zero-max}
use native.Mathlib.Omega.{arith}
use lib.Dec.{eqb, leb}
use lib.ListN.{length, get_or}
use borrow.Author.Tests.{ltb-true, ltb-false, le-ltb, leb-true, leb-false, eqb-true, eqb-false}
use Rattle.latency.specs.Latency.{is_dry, waiting, ticks, dry_ticks, most_waiting, runs_dry}
use Rattle.latency.specs.Bench.{Told}
use Rattle.latency.proofs.Ticks.{early-dry}
use Rattle.latency.proofs.Turns.{noted-length}

-- that x is the first dry one of k ticks
record First (n : ℕ) (counts : List ℕ) (v k x : ℕ) : Type 0 where
  within : x < k
  dry : is_dry v x (waiting n counts v x) ≡ true
  earlier : (t : ℕ) → t < x → is_dry v t (waiting n counts v t) ≡ false

-- what holds below k and of k holds below the next
below_next : (P : ℕ → Type 0) (k : ℕ) → ((t : ℕ) → t < k → P t) → P k → (t : ℕ) → t < suc k → P t
below_next P k before now t h = go (eqb t k) refl
  where
    go : (b : Bool) → eqb t k ≡ b → P t
    go true e = rw (eqb-true t k e) now
    go false e =
        let q : t ≡ k → ⊥ = eqb-false t k e in
        before t (omega arith)

module _ (n : ℕ) (counts : List ℕ) (v : ℕ) where
  none-dry : (k : ℕ) → length (dry_ticks n counts v k) ≡ 0 → (t : ℕ) → t < k → is_dry v t (waiting n counts v t) ≡ false
  unfolding dry_ticks
  none-dry zero e = λ t h. absurd (omega arith)
  none-dry (suc k) e = go (is_dry v k (waiting n counts v k)) refl e (none-dry k)
    where
      go : (b : Bool) → is_dry v k (waiting n counts v k) ≡ b → length (dry_ticks n counts v k ++ cond b (k ∷ []) []) ≡ 0
          → (length (dry_ticks n counts v k) ≡ 0 → (t : ℕ) → t < k → is_dry v t (waiting n counts v t) ≡ false)
          → (t : ℕ) → t < suc k → is_dry v t (waiting n counts v t) ≡ false
      go true p q before = absurd (omega (arith, noted-length (dry_ticks n counts v k) true k))
      go false p q before =
          below_next (λ t. is_dry v t (waiting n counts v t) ≡ false) k (before (omega (arith, noted-length (dry_ticks n counts v k) false k))) p

  first-dry : (k : ℕ) → 0 < length (dry_ticks n counts v k) → First n counts v k (get_or (dry_ticks n counts v k) 0 0)
  unfolding dry_ticks
  first-dry zero h = absurd (omega arith)
  first-dry (suc k) h = go (dry_ticks n counts v k) (is_dry v k (waiting n counts v k)) refl h (first-dry k) (none-dry k)
    where
      go : (d : List ℕ) (b : Bool) → is_dry v k (waiting n counts v k) ≡ b → 0 < length (d ++ cond b (k ∷ []) [])
          → (0 < length d → First n counts v k (get_or d 0 0))
          → (length d ≡ 0 → (t : ℕ) → t < k → is_dry v t (waiting n counts v t) ≡ false)
          → First n counts v (suc k) (get_or (d ++ cond b (k ∷ []) []) 0 0)
      go [] true p q before none = record { within = omega arith; dry = p; earlier = none refl }
      go [] false p q before none = absurd (omega arith)
      go (x ∷ d) b p q before none =
          let f = before (omega arith) in
          record { within = omega (arith, f.within); dry = f.dry; earlier = f.earlier }

  late-none : (k : ℕ) → k ≤ 2 * v → dry_ticks n counts v k ≡ []
  unfolding dry_ticks
  late-none zero h = refl
  late-none (suc k) h = rw (late-none k (omega arith), ← early-dry v k (waiting n counts v k) (omega arith))

  below-most : (k t : ℕ) → t < k → waiting n counts v t ≤ most_waiting n counts v k
  unfolding most_waiting
  below-most zero = λ t h. absurd (omega arith)
  below-most (suc k) = go (below-most k)
    where
      go : ((t : ℕ) → t < k → waiting n counts v t ≤ most_waiting n counts v k)
          → (t : ℕ) → t < suc k → waiting n counts v t ≤ max (most_waiting n counts v k) (waiting n counts v k)
      go before =
          below_next (λ t. waiting n counts v t ≤ max (most_waiting n counts v k) (waiting n counts v k)) k
          (λ t h. omega (arith, before t h, le-max_left (most_waiting n counts v k) (waiting n counts v k)))
          (le-max_right (most_waiting n counts v k) (waiting n counts v k))

  reached-most : (k : ℕ) → (t : ℕ) × (t < suc k) × (waiting n counts v t ≡ most_waiting n counts v (suc k))
  unfolding most_waiting
  reached-most zero = (0, omega arith, sym (zero-max (waiting n counts v 0)))
  reached-most (suc k) = go (leb (most_waiting n counts v (suc k)) (waiting n counts v (suc k))) refl (reached-most k)
    where
      go : (l : Bool) → leb (most_waiting n counts v (suc k)) (waiting n counts v (suc k)) ≡ l
          → ((t : ℕ) × (t < suc k) × (waiting n counts v t ≡ most_waiting n counts v (suc k)))
          → (t : ℕ) × (t < suc (suc k)) × (waiting n counts v t ≡ max (most_waiting n counts v (suc k)) (waiting n counts v (suc k)))
      go true e before = (suc k, omega arith, sym (max-eq_right (leb-true (most_waiting n counts v (suc k)) (waiting n counts v (suc k)) e)))
      go false e before =
          let less = leb-false (most_waiting n counts v (suc k)) (waiting n counts v (suc k)) e in
          let less' : waiting n counts v (suc k) ≤ most_waiting n counts v (suc k) = omega arith in
          (before.0, omega (arith, before.1), before.2 ∙ sym (max-eq_left less'))

  all_of : (k : ℕ) → 0 < k → (t : ℕ) × (t < k) × (waiting n counts v t ≡ most_waiting n counts v k)
  all_of zero h = absurd (omega arith)
  all_of (suc k) h = reached-most k

  -- of every spacing, counts and latency
  pub told : Told n counts v
  unfolding runs_dry
  told =
      let k = ticks n counts in
      let l = length (dry_ticks n counts v k) in
      record {
        none = λ e. none-dry k (omega (arith, ltb-false 0 l e));
        within = λ e. (first-dry k (ltb-true 0 l e)).within;
        dry = λ e. (first-dry k (ltb-true 0 l e)).dry;
        earlier = λ e. (first-dry k (ltb-true 0 l e)).earlier;
        late = λ h. le-ltb 0 l (omega (arith, ap length (late-none k h)));
        most = below-most k;
        reached = all_of k;
      }
