-- The shares of bytes 8 to 95, added in any order, each once, give the parity that division gives.
use mathlib.Core.Path.{◌≡◌, refl, sym, ap, ◌∙◌}
use mathlib.Core.Bool.{Bool, true, false, ◌&&◌, cond}
use mathlib.Core.List.{List, [], ◌∷◌}
use Prim.Native.Nat.{ℕ, zero, suc, ◌+◌, ◌≤◌, ◌<◌}
use native.Mathlib.Omega.{arith}
use lib.Bits.{bit_xor, xor_zero_r, xor_zero_l, xor_self}
use lib.Dec.{eqb, leb}
use lib.ListN.{length, get_or, set, take, replicate, length-set, length-replicate, get_or-replicate}
use lib.Seq.{slice, ext_get_or, get_or-set_same, get_or-set_other, get_or-take, get_or-drop, length-slice}
use borrow.Author.Tests.{eqb-true, eqb-false, eq-eqb, ne_eqb, leb-true, leb-false}
use Rattle.bits.proofs.Xor.{xor_assoc}
use Rattle.algebra.specs.Places.{All}
use Rattle.header.specs.Header.{remainder, parity_of}
use Rattle.header.proofs.Division.{add_all}
use Rattle.parity_share.specs.Shares.{alone, share, in_message, share_refusal, with_share, with_shares, occurrences, EachOnce, AnyOrder, ByteChanged}
use Rattle.parity_share.proofs.Places.{inside, taken, share-added}
use Rattle.parity_share.proofs.Linear.{add_all-at, add_all-length, parity-sum, zero-parity, alone-length}

-- ---- a byte alone

alone-same : (i b : ℕ) → i < 96 → get_or (alone i b) i 0 ≡ b
unfolding alone
alone-same i b h = get_or-set_same (replicate 96 0) i b 0 (omega arith)

alone-other : (i j b : ℕ) → j < 96 → (j ≡ i → ⊥) → get_or (alone i b) j 0 ≡ 0
unfolding alone
alone-other i j b h n = get_or-set_other (replicate 96 0) i j b 0 n ∙ get_or-replicate 96 j 0 0 h

-- ---- bytes added one after the other

-- a header with the bytes of another at these places added
abbrev gathered : List ℕ → List ℕ → List ℕ → List ℕ
gathered w base [] = base
gathered w base (i ∷ is) = gathered w (add_all base (alone i (get_or w i 0))) is

step-length : (base : List ℕ) (i b : ℕ) → length base ≡ 96 → length (add_all base (alone i b)) ≡ 96
step-length base i b l = add_all-length base (alone i b) (l ∙ sym (alone-length i b)) ∙ l

gathered-length : (w base is : List ℕ) → length base ≡ 96 → length (gathered w base is) ≡ 96
gathered-length w base [] l = l
gathered-length w base (i ∷ is) l = gathered-length w (add_all base (alone i (get_or w i 0))) is (step-length base i (get_or w i 0) l)

-- a byte added n times
abbrev repeated : ℕ → ℕ → ℕ → ℕ
repeated zero x b = b
repeated (suc n) x b = repeated n x (bit_xor b x)

suc_one : (n : ℕ) → suc n ≡ 1 + n
suc_one n = omega arith

-- each place gets its byte as often as it stands in the list
gathered-at : (w base is : List ℕ) (j : ℕ) → j < 96 → get_or (gathered w base is) j 0 ≡ repeated (occurrences j is) (get_or w j 0) (get_or base j 0)
unfolding occurrences
gathered-at w base [] j h = refl
gathered-at w base (i ∷ is) j h =
    gathered-at w (add_all base (alone i (get_or w i 0))) is j h
    ∙ ap (repeated (occurrences j is) (get_or w j 0)) (add_all-at base (alone i (get_or w i 0)) j)
    ∙ go (eqb j i) refl
  where
    go : (t : Bool) → eqb j i ≡ t
        → repeated (occurrences j is) (get_or w j 0) (bit_xor (get_or base j 0) (get_or (alone i (get_or w i 0)) j 0))
        ≡ repeated (cond t (1 + occurrences j is) (occurrences j is)) (get_or w j 0) (get_or base j 0)
    go true e =
        let p : j ≡ i = eqb-true j i e in
        ap (λ (x : ℕ). repeated (occurrences j is) (get_or w j 0) (bit_xor (get_or base j 0) x))
        (ap (λ (k : ℕ). get_or (alone k (get_or w k 0)) j 0) (sym p) ∙ alone-same j (get_or w j 0) h)
        ∙ ap (λ (n : ℕ). repeated n (get_or w j 0) (get_or base j 0)) (suc_one (occurrences j is))
    go false e =
        ap (repeated (occurrences j is) (get_or w j 0))
        (ap (bit_xor (get_or base j 0)) (alone-other i j (get_or w i 0) h (eqb-false j i e)) ∙ xor_zero_r (get_or base j 0))

-- ---- shares added one after the other

abbrev Taken : ℕ → Type 0
Taken i = share_refusal i ≡ 0

-- a share added to a parity gives the parity of the sum
share-sum : (base : List ℕ) (i b : ℕ) → length base ≡ 96 → Taken i → with_share (parity_of base) i b ≡ parity_of (add_all base (alone i b))
unfolding share
share-sum base i b l z = sym (share-added (parity_of base) i b z) ∙ sym (parity-sum base (alone i b) l (alone-length i b))

shares-gathered : (w base is : List ℕ) → length base ≡ 96 → All Taken is → with_shares w (parity_of base) is ≡ parity_of (gathered w base is)
unfolding with_shares
shares-gathered w base [] l a = refl
shares-gathered w base (i ∷ is) l a =
    ap (λ (p : List ℕ). with_shares w p is) (share-sum base i (get_or w i 0) l a.0)
    ∙ shares-gathered w (add_all base (alone i (get_or w i 0))) is (step-length base i (get_or w i 0) l) a.1

-- the parity depends on bytes 8 to 95 alone
same-message : (u v : List ℕ) → length u ≡ 96 → length v ≡ 96 → ((j : ℕ) → 8 ≤ j → j < 96 → get_or u j 0 ≡ get_or v j 0) → parity_of u ≡ parity_of v
unfolding parity_of
same-message u v lu lv e =
    ap remainder
    (ext_get_or 0 (slice 8 96 u) (slice 8 96 v) (long u lu ∙ sym (long v lv))
    (λ i h. (let b : i < 88 = rw (long u lu) at h in at u i b ∙ e (8 + i) (omega arith) (omega arith) ∙ sym (at v i b))))
  where
    long : (w : List ℕ) → length w ≡ 96 → length (slice 8 96 w) ≡ 88
    long w l = length-slice 8 96 w (omega arith)

    at : (w : List ℕ) (i : ℕ) → i < 88 → get_or (slice 8 96 w) i 0 ≡ get_or w (8 + i) 0
    at w i h = get_or-drop 8 (take 96 w) i 0 ∙ get_or-take 96 w (8 + i) 0 (omega arith)

-- ---- each once

stands : (i : ℕ) (ks : List ℕ) → 0 < occurrences i (i ∷ ks)
unfolding occurrences
stands i ks = rw (eq-eqb i i refl) (omega arith)

stands-more : (j i : ℕ) (ks : List ℕ) → 0 < occurrences j ks → 0 < occurrences j (i ∷ ks)
unfolding occurrences
stands-more j i ks h = go (eqb j i)
  where
    go : (t : Bool) → 0 < cond t (1 + occurrences j ks) (occurrences j ks)
    go true = omega arith
    go false = h

all-taken : (is : List ℕ) → ((j : ℕ) → 0 < occurrences j is → Taken j) → All Taken is
all-taken [] h = tt
all-taken (i ∷ is) h = (h i (stands i is), all-taken is (λ j p. h j (stands-more j i is p)))

once-taken : (is : List ℕ) → EachOnce is → All Taken is
unfolding share_refusal
once-taken is once = all-taken is (λ j p. go j p (in_message j) refl)
  where
    go : (j : ℕ) → 0 < occurrences j is → (t : Bool) → in_message j ≡ t → ◌≡◌ {A = ℕ} (cond t 0 14) 0
    go j p true e = refl
    go j p false e =
        let z : occurrences j is ≡ 0 = once j ∙ ap (λ (t : Bool). cond t 1 0) e in
        absurd (omega arith)

-- for every header and every order of the places 8 to 95, adding each byte's share to eight zero bytes gives the parity
-- that division gives
pub any_order : AnyOrder
any_order w is l once = record {
  accepted = once-taken is once;
  parity =
      ap (λ (p : List ℕ). with_shares w p is) (sym zero-parity)
      ∙ shares-gathered w (replicate 96 0) is (length-replicate {A = ℕ} 96 0) (once-taken is once)
      ∙ same-message (gathered w (replicate 96 0) is) w (gathered-length w (replicate 96 0) is (length-replicate {A = ℕ} 96 0)) l
      (λ j lo hi. gathered-at w (replicate 96 0) is j hi
      ∙ ap (λ (n : ℕ). repeated n (get_or w j 0) (get_or (replicate 96 0) j 0)) (once j ∙ ap (λ (t : Bool). cond t 1 0) (inside j lo (omega arith)))
      ∙ ap (λ (b : ℕ). bit_xor b (get_or w j 0)) (get_or-replicate 96 j 0 0 hi) ∙ xor_zero_l (get_or w j 0));
}

-- where a byte changes once its share was added, the share of the difference is added
pub byte-changed : ByteChanged
byte-changed w i b l lo hi =
    share-sum w i d l (sym (taken i lo hi))
    ∙ same-message (add_all w (alone i d)) (set w i b) (step-length w i d l) (length-set w i b ∙ l)
    (λ j p q. add_all-at w (alone i d) j ∙ go j q (eqb j i) refl)
  where
    d : ℕ
    d = bit_xor (get_or w i 0) b

    go : (j : ℕ) → j < 96 → (t : Bool) → eqb j i ≡ t → bit_xor (get_or w j 0) (get_or (alone i (bit_xor (get_or w i 0) b)) j 0) ≡ get_or (set w i b) j 0
    go j h true e =
        let p : j ≡ i = eqb-true j i e in
        rw p
        (ap (bit_xor (get_or w i 0)) (alone-same i (bit_xor (get_or w i 0) b) (omega arith)) ∙ sym (xor_assoc (get_or w i 0) (get_or w i 0) b)
        ∙ ap (λ (x : ℕ). bit_xor x b) (xor_self (get_or w i 0)) ∙ xor_zero_l b ∙ sym (get_or-set_same w i b 0 (omega arith)))
    go j h false e =
        let n : j ≡ i → ⊥ = eqb-false j i e in
        ap (bit_xor (get_or w j 0)) (alone-other i j (bit_xor (get_or w i 0) b) h n) ∙ xor_zero_r (get_or w j 0) ∙ sym (get_or-set_other w i j b 0 n)

-- ---- the rising order is one of them

abbrev pub up_from : ℕ → ℕ → List ℕ
up_from a zero = []
up_from a (suc n) = a ∷ up_from (suc a) n

before : (i a n : ℕ) → i < a → occurrences i (up_from a n) ≡ 0
unfolding occurrences
before i a zero h = refl
before i a (suc n) h = rw (ne_eqb i a (λ e. omega arith)) (before i (suc a) n (omega arith))

past : (i a n : ℕ) → a + n ≤ i → occurrences i (up_from a n) ≡ 0
unfolding occurrences
past i a zero h = refl
past i a (suc n) h = rw (ne_eqb i a (λ e. omega arith)) (past i (suc a) n (omega arith))

among : (i a n : ℕ) → a ≤ i → i < a + n → occurrences i (up_from a n) ≡ 1
unfolding occurrences
among i a zero l h = absurd (omega arith)
among i a (suc n) l h = go (eqb i a) refl (among i (suc a) n)
  where
    go : (t : Bool) → eqb i a ≡ t → (suc a ≤ i → i < suc a + n → occurrences i (up_from (suc a) n) ≡ 1)
        → cond t (1 + occurrences i (up_from (suc a) n)) (occurrences i (up_from (suc a) n)) ≡ 1
    go true e more =
        let p : i ≡ a = eqb-true i a e in
        ap (λ (k : ℕ). 1 + k) (before i (suc a) n (omega arith))
    go false e more =
        let q : i ≡ a → ⊥ = eqb-false i a e in
        more (omega arith) (omega arith)

pub rising : EachOnce (up_from 8 88)
rising i = go (leb 8 i) refl (leb i 95) refl
  where
    go : (s : Bool) → leb 8 i ≡ s → (t : Bool) → leb i 95 ≡ t → occurrences i (up_from 8 88) ≡ cond (s && t) 1 0
    go true e true f =
        let l : 8 ≤ i = leb-true 8 i e in
        let h : i ≤ 95 = leb-true i 95 f in
        among i 8 88 l (omega arith)
    go true e false f =
        let h : 95 < i = leb-false i 95 f in
        past i 8 88 (omega arith)
    go false e t f =
        let h : i < 8 = leb-false 8 i e in
        before i 8 88 h
