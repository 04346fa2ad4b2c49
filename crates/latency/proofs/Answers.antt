-- The smallest latency without a dry tick, or none exactly when all eight have one.
use mathlib.Core.Path.{◌≡◌, refl, sym, ap, ◌∙◌}
use mathlib.Core.Bool.{Bool, true, false, cond, true≢false}
use mathlib.Core.List.{List}
use Prim.Native.Nat.{ℕ, zero, suc, ◌+◌, ◌-◌, ◌<◌, ◌≤◌}
use native.Mathlib.Numerals.{add-one}
use native.Mathlib.Omega.{arith}
use lib.Dec.{eqb}
use borrow.Author.Tests.{eqb-true, eqb-false}
use Rattle.latency.specs.declared.Answer.{Answer}
use Rattle.latency.specs.declared.Answer.TheVariants.{Smallest, AllDry, Refused}
use Rattle.latency.specs.declared.Spacing.TheVariants.{Every}
use Rattle.latency.specs.Latency.{runs_dry, smallest_of, spacing_of, answer}
use Rattle.latency.specs.Bench.{Answers}

-- what an answer says of k latencies from v on
record Says (n : ℕ) (counts : List ℕ) (v k : ℕ) (a : Answer) : Type 0 where
  accepted : (x : ℕ) → a ≡ Refused x → ⊥
  below : (x : ℕ) → a ≡ Smallest x → x < v + k
  without : (x : ℕ) → a ≡ Smallest x → runs_dry n counts x ≡ false
  least : (x : ℕ) → a ≡ Smallest x → (u : ℕ) → v ≤ u → u < x → runs_dry n counts u ≡ true
  all-dry : a ≡ AllDry → (u : ℕ) → v ≤ u → u < v + k → runs_dry n counts u ≡ true
  none_found : ((u : ℕ) → v ≤ u → u < v + k → runs_dry n counts u ≡ true) → a ≡ AllDry

-- what holds of v and of all after it
first : (n : ℕ) (counts : List ℕ) (v u : ℕ) → runs_dry n counts v ≡ true → v ≤ u → (suc v ≤ u → runs_dry n counts u ≡ true) → runs_dry n counts u ≡ true
first n counts v u e l h = go (eqb u v) refl
  where
    go : (b : Bool) → eqb u v ≡ b → runs_dry n counts u ≡ true
    go true p = ap (runs_dry n counts) (eqb-true u v p) ∙ e
    go false p =
        let q : u ≡ v → ⊥ = eqb-false u v p in
        h (omega arith)

not_none : (x : ℕ) → AllDry ≡ Smallest x → ⊥
not_none x e =
    let z : ◌≡◌ {A = ℕ} 0 1 = cc in
    omega arith

none-accepted : (x : ℕ) → AllDry ≡ Refused x → ⊥
none-accepted x e =
    let z : ◌≡◌ {A = ℕ} 0 1 = cc in
    omega arith

found-accepted : (v x : ℕ) → Smallest v ≡ Refused x → ⊥
found-accepted v x e =
    let z : ◌≡◌ {A = ℕ} 0 1 = cc in
    omega arith

same : (v x : ℕ) → Smallest v ≡ Smallest x → v ≡ x
same v x e = cc

smallest-says : (n : ℕ) (counts : List ℕ) (v k : ℕ) → Says n counts v k (smallest_of n counts v k)
unfolding smallest_of
smallest-says n counts v zero =
    record {
      accepted = none-accepted;
      below = λ x e. absurd (not_none x e);
      without = λ x e. absurd (not_none x e);
      least = λ x e. absurd (not_none x e);
      all-dry = λ e u l h. absurd (omega arith);
      none_found = λ h. refl;
    }
smallest-says n counts v (suc k) = go (runs_dry n counts v) refl (smallest-says n counts (suc v) k)
  where
    go : (b : Bool) → runs_dry n counts v ≡ b → Says n counts (suc v) k (smallest_of n counts (suc v) k)
        → Says n counts v (suc k) (cond b (smallest_of n counts (suc v) k) (Smallest v))
    go true e s =
        record {
          accepted = s.accepted;
          below = λ x f. (let w = s.below x f in omega arith);
          without = s.without;
          least = λ x f u l h. first n counts v u e l (λ p. s.least x f u p h);
          all-dry = λ f u l h. first n counts v u e l (λ p. s.all-dry f u p (omega arith));
          none_found = λ h. s.none_found (λ u l b. h u (omega arith) (omega arith));
        }
    go false e s =
        record {
          accepted = found-accepted v;
          below = λ x f. (let w = same v x f in omega arith);
          without = λ x f. ap (runs_dry n counts) (sym (same v x f)) ∙ e;
          least = λ x f u l h. (let w = same v x f in absurd (omega arith));
          all-dry = λ f. absurd (not_none v (sym f));
          none_found = λ h. absurd (true≢false (sym (h v (omega arith) (omega arith)) ∙ e));
        }

-- of the latencies 0 to 7
pub answers : (n : ℕ) (counts : List ℕ) → Answers n counts (smallest_of n counts 0 8)
answers n counts =
    let s = smallest-says n counts 0 8 in
    record {
      accepted = s.accepted;
      below = s.below;
      without = s.without;
      least = λ x e u h. s.least x e u (omega arith) h;
      all-dry = λ e u h. s.all-dry e u (omega arith) h;
      none_found = λ h. s.none_found (λ u l b. h u b);
    }

-- the answer of a call whose counts are not refused
pub reported : (mode stream n : ℕ) (counts : List ℕ) → spacing_of mode stream counts ≡ Every n → Answers n counts (answer mode stream counts)
unfolding answer
reported mode stream n counts e = rw e (answers n counts)

-- ---- a turn of the loop

module _ (n : ℕ) (counts : List ℕ) (v : ℕ) (h : v < 8) where
  more : suc (7 - v) ≡ 8 - v
  more = omega arith

  pub here : runs_dry n counts v ≡ false → Smallest v ≡ smallest_of n counts v (8 - v)
  unfolding smallest_of
  here e = rw (← more, e)

  pub further : runs_dry n counts v ≡ true → smallest_of n counts (v + 1) (8 - (v + 1)) ≡ smallest_of n counts v (8 - v)
  unfolding smallest_of
  further e =
      let k : 8 - (v + 1) ≡ 7 - v = omega arith in
      rw (← more, e, k, add-one)

pub none_left : (n : ℕ) (counts : List ℕ) (v : ℕ) → v ≡ 8 → AllDry ≡ smallest_of n counts v (8 - v)
unfolding smallest_of
none_left n counts v e = rw e
