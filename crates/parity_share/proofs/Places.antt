-- Which places are refused, and what adding a share does where it is taken and where it is not.
use mathlib.Core.Path.{◌≡◌, refl}
use mathlib.Core.Bool.{Bool, true, false, ◌&&◌, cond}
use mathlib.Core.List.{List}
use Prim.Native.Nat.{ℕ, ◌<◌, ◌≤◌}
use native.Mathlib.Omega.{arith}
use lib.Dec.{leb}
use borrow.Author.Tests.{le-leb, lt-leb, leb-true, eq-eqb, ne_eqb}
use Rattle.parity_share.specs.Shares.{in_message, share_refusal, share, parity_sum, with_share}

pub inside : (i : ℕ) → 8 ≤ i → i ≤ 95 → in_message i ≡ true
inside i l h = simp (le-leb 8 i l, le-leb i 95 h)

-- ---- the number

pub taken : (i : ℕ) → 8 ≤ i → i ≤ 95 → 0 ≡ share_refusal i
unfolding share_refusal
taken i l h = simp (inside i l h)

pub below-8 : (i : ℕ) → i < 8 → 14 ≡ share_refusal i
unfolding share_refusal
below-8 i h = simp (lt-leb 8 i h)

and-false : (t : Bool) → (t && false) ≡ false
and-false true = refl
and-false false = refl

pub above-95 : (i : ℕ) → 95 < i → 14 ≡ share_refusal i
unfolding share_refusal
above-95 i h = simp (lt-leb i 95 h, and-false (leb 8 i))

pub in-message : (i : ℕ) → share_refusal i ≡ 0 → (8 ≤ i) × (i < 96)
unfolding share_refusal
in-message i z = go (leb 8 i) refl (leb i 95) refl z
  where
    go : (s : Bool) → leb 8 i ≡ s → (t : Bool) → leb i 95 ≡ t → ◌≡◌ {A = ℕ} (cond (s && t) 0 14) 0 → (8 ≤ i) × (i < 96)
    go true e true f z =
        let l : 8 ≤ i = leb-true 8 i e in
        let h : i ≤ 95 = leb-true i 95 f in
        (l, omega arith)
    go true e false f z = absurd (omega arith)
    go false e t f z = absurd (omega arith)

-- ---- the parity

module _ (p : List ℕ) (i b : ℕ) where
  pub share-added : share_refusal i ≡ 0 → parity_sum p (share i b) ≡ with_share p i b
  unfolding with_share
  share-added z = simp (eq-eqb (share_refusal i) 0 z)

  pub share-refused : (share_refusal i ≡ 0 → ⊥) → p ≡ with_share p i b
  unfolding with_share
  share-refused n = simp (ne_eqb (share_refusal i) 0 n)
