-- The interpretation of septets, field by field.
use mathlib.Core.Path.{◌≡◌, refl, sym, ap, ap₂, ◌∙◌}
use mathlib.Core.Bool.{true, false, not, cond}
use mathlib.Core.List.{List, [], ◌∷◌}
use mathlib.Core.Option.{Option, none, some}
use Prim.Native.Nat.{ℕ, zero, suc, ◌+◌, ◌-◌, ◌/◌, ◌<◌, ◌≤◌}
use native.Mathlib.Numerals.{add-one}
use native.Mathlib.Omega.{arith}
use lib.Dec.{eqb, ltb}
use lib.ListN.{length, get_or, drop, length-drop, drop_of_length-le}
use lib.Seq.{drop-cons, drop-drop, get_or-drop}
use borrow.Author.Tests.{lt-ltb, le-ltb, eq-eqb, ne_eqb}
use Rattle.expansion.specs.Expansion.{Field, known, more_bytes, field_of, before, fields_from, nothing, absorb, interpreted_as, interpretation, expansion_length, septets_at, expansion_at}
use Rattle.expansion.specs.declared.Interpreted.{Interpreted}

outcome-before : (v : Interpreted) (f : Field) (o : Option (List Field)) → interpreted_as v (before f o) ≡ interpreted_as (absorb f v) o
outcome-before v f none = refl
outcome-before v f (some fs) = refl

pub skipped : (skip next : ℕ) (l : List ℕ) → fields_from skip next l ≡ fields_from 0 next (drop skip l)
unfolding fields_from
skipped zero next l = refl
skipped (suc skip) next [] = refl
skipped (suc skip) next (b ∷ l) = skipped skip next l

field-same : (id b : ℕ) (r : List ℕ) (x y z : ℕ) → x ≡ get_or r 0 0 → y ≡ get_or r 1 0 → z ≡ get_or r 2 0 → field_of id b (x ∷ y ∷ z ∷ []) ≡ field_of id b r
field-same id b r x y z ex ey ez = rw (ex, ey, ez)

-- what is left to interpret of the septets l after i of them
abbrev pub Left : List ℕ → Interpreted → ℕ → ℕ → Type 0
Left l v next i = interpreted_as v (fields_from 0 next (drop i l)) ≡ interpretation l

pub left-start : (l : List ℕ) → Left l (nothing true) 0 0
unfolding interpretation
left-start l = refl

pub left_end : (l : List ℕ) (v : Interpreted) (next i : ℕ) → length l ≤ i → Left l v next i → v ≡ interpretation l
unfolding fields_from
left_end l v next i h e = (rw (drop_of_length-le l h) at e)

-- the two cases of a chain
module _ (p : List ℕ) (at la : ℕ) where
  pub broken : (v : Interpreted) → expansion_length p at la ≡ 0 → v ≡ nothing false → v ≡ expansion_at p at la
  unfolding expansion_at
  broken v e q = rw e q

  pub said : (n : ℕ) (v : Interpreted) → ¬ (expansion_length p at la ≡ 0) → n ≡ expansion_length p at la → v ≡ interpretation (septets_at p at n) → v ≡ expansion_at p at la
  unfolding expansion_at
  said n v d e q =
      let t : eqb (expansion_length p at la) 0 ≡ false = ne_eqb _ _ d in
      rw t (q ∙ ap (λ (k : ℕ). interpretation (septets_at p at k)) e)

module _ (l : List ℕ) (v : Interpreted) (next i b : ℕ) (inside : i < length l) (e : Left l v next i) (eb : b ≡ get_or l i 0) where
  rest : List ℕ
  rest = drop (suc i) l

  -- the tests at the septet
  turn : interpreted_as v
      (cond (ltb (b / 16) next) none
      (cond (not (known (b / 16) b)) (some [])
      (cond (eqb b 0) none
      (cond (ltb (length rest) (more_bytes (b / 16) b)) none
      (before (field_of (b / 16) b rest) (fields_from (more_bytes (b / 16) b) (suc (b / 16)) rest))))))
      ≡ interpretation l
  unfolding fields_from rest
  turn = rw (drop-cons l i 0 inside, ← eb) at e

  pub left-order : b / 16 < next → nothing false ≡ interpretation l
  left-order h = let t : ltb (b / 16) next ≡ true = lt-ltb _ _ h in (rw t at turn)

  module _ (rises : next ≤ b / 16) where
    risen : ltb (b / 16) next ≡ false
    risen = le-ltb _ _ rises

    pub left-unknown : known (b / 16) b ≡ false → v ≡ interpretation l
    left-unknown k = (rw (risen, k) at turn)

    module _ (k : known (b / 16) b ≡ true) where
      pub left-class-zero : b ≡ 0 → nothing false ≡ interpretation l
      left-class-zero z = let t : eqb b 0 ≡ true = eq-eqb _ _ z in (rw (risen, k, t) at turn)

      module _ (positive : ¬ (b ≡ 0)) where
        nonzero : eqb b 0 ≡ false
        nonzero = ne_eqb _ _ positive

        pub left_cut : length l < i + 1 + more_bytes (b / 16) b → nothing false ≡ interpretation l
        unfolding rest
        left_cut h =
            let d : length (drop (suc i) l) ≡ length l - suc i = length-drop (suc i) l in
            let t : ltb (length (drop (suc i) l)) (more_bytes (b / 16) b) ≡ true = lt-ltb (length (drop (suc i) l)) (more_bytes (b / 16) b) (omega arith) in
            (rw (risen, k, nonzero, t) at turn)

        pub left-next : i + 1 + more_bytes (b / 16) b ≤ length l → (x y z : ℕ) → x ≡ get_or l (i + 1) 0 → y ≡ get_or l (i + 2) 0 → z ≡ get_or l (i + 3) 0
            → (w : Interpreted) → w ≡ absorb (field_of (b / 16) b (x ∷ y ∷ z ∷ [])) v → Left l w (b / 16 + 1) (i + 1 + more_bytes (b / 16) b)
        unfolding rest
        left-next h x y z ex ey ez w ew =
            let d : length (drop (suc i) l) ≡ length l - suc i = length-drop (suc i) l in
            let t : ltb (length (drop (suc i) l)) (more_bytes (b / 16) b) ≡ false = le-ltb (length (drop (suc i) l)) (more_bytes (b / 16) b) (omega arith) in
            let u : interpreted_as v (before (field_of (b / 16) b (drop (suc i) l)) (fields_from (more_bytes (b / 16) b) (suc (b / 16)) (drop (suc i) l))) ≡ interpretation l = (rw (risen, k, nonzero, t) at turn) in
            let plain : i + 1 + more_bytes (b / 16) b ≡ suc i + more_bytes (b / 16) b = omega arith in
            let f : field_of (b / 16) b (x ∷ y ∷ z ∷ []) ≡ field_of (b / 16) b (drop (suc i) l) =
            field-same (b / 16) b (drop (suc i) l) x y z (ex ∙ at 0 (i + 1) (omega arith)) (ey ∙ at 1 (i + 2) (omega arith)) (ez ∙ at 2 (i + 3) (omega arith)) in
            ap₂ interpreted_as (ew ∙ ap (λ (q : Field). absorb q v) f) (ap₂ (λ (n m : ℕ). fields_from 0 n (drop m l)) (add-one (b / 16)) plain
            ∙ sym (skipped (more_bytes (b / 16) b) (suc (b / 16)) (drop (suc i) l) ∙ ap (fields_from 0 (suc (b / 16))) (drop-drop (more_bytes (b / 16) b) (suc i) l)))
            ∙ sym (outcome-before v (field_of (b / 16) b (drop (suc i) l)) (fields_from (more_bytes (b / 16) b) (suc (b / 16)) (drop (suc i) l))) ∙ u
          where
            at : (j n : ℕ) → n ≡ suc i + j → get_or l n 0 ≡ get_or (drop (suc i) l) j 0
            at j n q = ap (λ (m : ℕ). get_or l m 0) q ∙ sym (get_or-drop (suc i) l j 0)
