-- Pieces of two PDUs exchanged: which bytes are whose, and what the first then says.
use mathlib.Core.Path.{◌≡◌, refl, sym, ap, ap₂, subst, ◌∙◌}
use mathlib.Core.Bool.{Bool, true, false, not, ◌&&◌}
use mathlib.Core.List.{List}
use Prim.Native.Nat.{ℕ, zero, suc, ◌+◌, ◌<◌, ◌≤◌}
use native.Mathlib.Decide.{ℕ_discrete, dec_lt}
use native.Mathlib.Numerals.{add-one}
use native.Mathlib.Omega.{arith}
use lib.Dec.{eqb, ltb, leb}
use lib.ListN.{length, get_or, set}
use borrow.Author.Tests.{eq-eqb, ne_eqb, le-leb, lt-leb, lt-ltb, le-ltb}
use Rattle.reassembly.specs.Run.{place_at, Marked}
use Rattle.diversity.specs.Steps.{mixed, in_places, exactly_one, piece_to, exchanged}
use Rattle.diversity.proofs.Mixing.{mixed-same, mixed-none, mixed-twice, mixed-at, mixed-more}

no-and : (t : Bool) → (t && false) ≡ false
no-and true = refl
no-and false = refl

-- ---- places from one up to another

pub within-yes : (from to i : ℕ) → from ≤ i → i < to → in_places from to i ≡ true
unfolding in_places
within-yes from to i a b = let e : leb from i ≡ true = le-leb from i a in let f : ltb i to ≡ true = lt-ltb i to b in rw (e, f)

pub within-below : (from to i : ℕ) → i < from → in_places from to i ≡ false
unfolding in_places
within-below from to i a = let e : leb from i ≡ false = lt-leb from i a in rw e

pub within-past : (from to i : ℕ) → to ≤ i → in_places from to i ≡ false
unfolding in_places
within-past from to i b = let f : ltb i to ≡ false = le-ltb i to b in rw f (no-and (leb from i))

-- none
pub within_none : (from : ℕ) (y z : List ℕ) → y ≡ mixed (in_places from from) y z
within_none from y z = sym (mixed-none (in_places from from) y z (λ i. go i (dec_lt i from)))
  where
    go : (i : ℕ) → Dec (i < from) → in_places from from i ≡ false
    go i (yes h) = within-below from from i h
    go i (no h) = within-past from from i (omega arith)

-- one more: y and z are mixed up to place i, and v is the byte of z there
pub within_more : (from i : ℕ) (y z l m : List ℕ) (v : ℕ) → from ≤ i → i < length y → length y ≡ length z → l ≡ mixed (in_places from i) y z → m ≡ mixed (in_places from i) z y → v ≡ get_or m i 0
    → set l i v ≡ mixed (in_places from (i + 1)) y z
within_more from i y z l m v h a e el em ev =
    ap₂ (λ (k : List ℕ) (n : ℕ). set k i n) el (ev ∙ ap (λ (k : List ℕ). get_or k i 0) em ∙ mixed-at (in_places from i) i z y (within-past from i i (omega arith)))
    ∙ mixed-more (in_places from i) (in_places from (i + 1)) i y z a (omega arith) (within-yes from (i + 1) i h (omega arith)) (λ j n. go j n (dec_lt j i) (dec_lt j from))
  where
    go : (j : ℕ) → ¬ (j ≡ i) → Dec (j < i) → Dec (j < from) → in_places from i j ≡ in_places from (i + 1) j
    go j n a (yes b) = within-below from i j b ∙ sym (within-below from (i + 1) j b)
    go j n (yes a) (no b) = within-yes from i j (omega arith) a ∙ sym (within-yes from (i + 1) j (omega arith) (omega arith))
    go j n (no a) (no b) = within-past from i j (omega arith) ∙ sym (within-past from (i + 1) j (omega arith))

-- ---- a piece

pub piece-stays : (marks : List ℕ) (cause k : ℕ) (y z : List ℕ) → cause ≡ 0 → y ≡ mixed (piece_to marks cause k) y z
unfolding piece_to
piece-stays marks cause k y z e = sym (mixed-none (piece_to marks cause k) y z (λ i. let t : eqb cause 0 ≡ true = eq-eqb cause 0 e in rw t))

-- a and e are the marks before and after it
pub piece-goes : (marks : List ℕ) (cause k a e : ℕ) (y z l : List ℕ) → ¬ (cause ≡ 0) → a ≡ get_or marks k 0 → e ≡ get_or marks (k + 1) 0 → l ≡ mixed (in_places (a + 1) e) y z → l ≡ mixed (piece_to marks cause k) y z
unfolding piece_to
piece-goes marks cause k a e y z l n ea ee el =
    el ∙ mixed-same (in_places (a + 1) e) (piece_to marks cause k) y z
    (λ i. (let t : eqb cause 0 ≡ false = ne_eqb cause 0 n in ap₂ (λ (u v : ℕ). in_places (u + 1) v i) ea ee ∙ ap (λ (b : Bool). not b && in_places (place_at marks k) (get_or marks (k + 1) 0) i) (sym t)))

-- ---- pieces

pub exchanged-none : (marks causes y z : List ℕ) → y ≡ mixed (exchanged marks causes 0) y z
unfolding exchanged
exchanged-none marks causes y z = sym (mixed-none (exchanged marks causes 0) y z (λ i. refl))

pub exchanged-more : (marks causes : List ℕ) (k : ℕ) (y z l m n : List ℕ) → l ≡ mixed (exchanged marks causes k) y z → m ≡ mixed (exchanged marks causes k) z y → n ≡ mixed (piece_to marks (get_or causes k 0) k) l m
    → n ≡ mixed (exchanged marks causes (k + 1)) y z
unfolding exchanged
exchanged-more marks causes k y z l m n el em en =
    en
    ∙ ap₂ (mixed (piece_to marks (get_or causes k 0) k)) el em
    ∙ mixed-twice (piece_to marks (get_or causes k 0) k) (exchanged marks causes k) y z
    ∙ ap (λ (j : ℕ). mixed (exchanged marks causes j) y z) (sym (add-one k))

-- ---- whose bytes

piece_to-below : (marks : List ℕ) (cause k i : ℕ) → i < place_at marks k → piece_to marks cause k i ≡ false
unfolding piece_to
piece_to-below marks cause k i h = ap (λ (t : Bool). not (eqb cause 0) && t) (within-below (place_at marks k) (get_or marks (k + 1) 0) i h) ∙ no-and (not (eqb cause 0))

piece_to-past : (marks : List ℕ) (cause k i : ℕ) → get_or marks (k + 1) 0 ≤ i → piece_to marks cause k i ≡ false
unfolding piece_to
piece_to-past marks cause k i h = ap (λ (t : Bool). not (eqb cause 0) && t) (within-past (place_at marks k) (get_or marks (k + 1) 0) i h) ∙ no-and (not (eqb cause 0))

piece_to-in : (marks : List ℕ) (cause k i : ℕ) → place_at marks k ≤ i → i < get_or marks (k + 1) 0 → piece_to marks cause k i ≡ not (eqb cause 0)
unfolding piece_to
piece_to-in marks cause k i a b = ap (λ (t : Bool). not (eqb cause 0) && t) (within-yes (place_at marks k) (get_or marks (k + 1) 0) i a b) ∙ and_yes (not (eqb cause 0))
  where
    and_yes : (t : Bool) → (t && true) ≡ t
    and_yes true = refl
    and_yes false = refl

only-first : (t : Bool) → exactly_one t false ≡ t
only-first true = refl
only-first false = refl

module _ (pdu marks : List ℕ) (nop : ℕ) (w : Marked pdu marks nop) (causes : List ℕ) where
  -- marks rise
  next : (k : ℕ) → k < nop → get_or marks k 0 + 2 ≤ get_or marks (suc k) 0
  next k h = subst (λ (n : ℕ). get_or marks k 0 + 2 ≤ get_or marks n 0) (add-one k) (let r = w.rising k h in omega (arith, r))

  rises : (n k : ℕ) → k ≤ n → n ≤ nop → get_or marks k 0 ≤ get_or marks n 0
  rises zero k a b = let e : k ≡ 0 = omega arith in subst (λ (i : ℕ). get_or marks i 0 ≤ get_or marks 0 0) (sym e) (omega arith)
  rises (suc n) k a b = go (ℕ_discrete k (suc n)) (λ l. rises n k l (omega arith))
    where
      go : Dec (k ≡ suc n) → (k ≤ n → get_or marks k 0 ≤ get_or marks n 0) → get_or marks k 0 ≤ get_or marks (suc n) 0
      go (yes e) rec = subst (λ (i : ℕ). get_or marks k 0 ≤ get_or marks i 0) e (omega arith)
      go (no e) rec = let r = rec (omega arith) in let s = next n (omega arith) in omega (arith, r, s)

  -- no byte up to La is exchanged
  pub up-to-la : (n i : ℕ) → n ≤ nop → i < place_at marks 0 → exchanged marks causes n i ≡ false
  unfolding exchanged
  up-to-la zero i a h = refl
  up-to-la (suc n) i a h =
      let r = rises n 0 (omega arith) (omega arith) in
      ap₂ exactly_one (piece_to-below marks (get_or causes n 0) n i (omega (arith, r))) (up-to-la n i (omega arith) h)

  -- nor one after the pieces below n
  past-pieces : (n i : ℕ) → n ≤ nop → get_or marks n 0 < i → exchanged marks causes n i ≡ false
  unfolding exchanged
  past-pieces zero i a h = refl
  past-pieces (suc n) i a h =
      let s = next n (omega arith) in
      let e : get_or marks (n + 1) 0 ≡ get_or marks (suc n) 0 = ap (λ (j : ℕ). get_or marks j 0) (add-one n) in
      ap₂ exactly_one (piece_to-past marks (get_or causes n 0) n i (omega (arith, e))) (past-pieces n i (omega arith) (omega (arith, s)))

  -- those of piece k are, unless its cause is 0
  pub in-piece : (n k i : ℕ) → k < n → n ≤ nop → place_at marks k ≤ i → i < get_or marks (k + 1) 0 → exchanged marks causes n i ≡ not (eqb (get_or causes k 0) 0)
  unfolding exchanged
  in-piece zero k i l a b h = absurd (omega arith)
  in-piece (suc n) k i l a b h = go (ℕ_discrete k n) (λ m. in-piece n k i m (omega arith) b h)
    where
      go : Dec (k ≡ n) → (k < n → exchanged marks causes n i ≡ not (eqb (get_or causes k 0) 0)) → exactly_one (piece_to marks (get_or causes n 0) n i) (exchanged marks causes n i) ≡ not (eqb (get_or causes k 0) 0)
      go (yes e) rec =
          subst (λ (j : ℕ). exactly_one (piece_to marks (get_or causes j 0) j i) (exchanged marks causes j i) ≡ not (eqb (get_or causes k 0) 0)) e
          (ap₂ exactly_one (piece_to-in marks (get_or causes k 0) k i b h) (past-pieces k i (omega arith) (omega arith)) ∙ only-first (not (eqb (get_or causes k 0) 0)))
      go (no e) rec =
          let r = rises n (suc k) (omega arith) (omega arith) in
          let f : get_or marks (k + 1) 0 ≡ get_or marks (suc k) 0 = ap (λ (j : ℕ). get_or marks j 0) (add-one k) in
          ap (λ (t : Bool). exactly_one t (exchanged marks causes n i)) (piece_to-below marks (get_or causes n 0) n i (omega (arith, r, f))) ∙ rec (omega arith)
