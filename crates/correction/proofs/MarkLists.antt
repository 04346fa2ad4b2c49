-- The lists of marks: which are refused, and the loops over them, turn by turn.
use mathlib.Core.Path.{◌≡◌, refl, sym, ◌∙◌, ap}
use mathlib.Core.Bool.{Bool, true, false, not, ◌&&◌, ◌||◌, true≢false, cond}
use mathlib.Core.List.{List, [], ◌∷◌}
use Prim.Native.Nat.{ℕ, ◌+◌, ◌-◌, ◌<◌, ◌≤◌}
use native.Mathlib.Omega.{arith}
use native.Mathlib.Numerals.{add-one}
use lib.Dec.{eqb, leb}
use lib.ListN.{length, get_or, take, drop, set, length-drop, drop_of_length-le}
use lib.Seq.{drop-cons, take_all}
use borrow.Author.Tests.{eq-eqb, ne_eqb, le-leb, lt-leb, leb-true, not-true}
use Rattle.algebra.specs.Places.{All}
use Rattle.correction.specs.Marks.{is_marked, allowed_marks, marks_refusal, adopted}

-- ---- whether a place is marked

module _ (marks : List ℕ) (i k : ℕ) where
  -- what is looked for among the marks from k on
  marked_step : k < length marks → is_marked (drop k marks) i ≡ (eqb (get_or marks k 0) i || is_marked (drop (k + 1) marks) i)
  marked_step l = ap (λ (ms : List ℕ). is_marked ms i) (drop-cons marks k 0 l) ∙ ap (λ (n : ℕ). eqb (get_or marks k 0) i || is_marked (drop n marks) i) (sym (add-one k))

  pub marked-here : k < length marks → is_marked marks i ≡ is_marked (drop k marks) i → get_or marks k 0 ≡ i → true ≡ is_marked marks i
  marked-here l s e = sym (s ∙ marked_step l ∙ ap (λ (b : Bool). b || is_marked (drop (k + 1) marks) i) (eq-eqb _ _ e))

  pub marked-past : k < length marks → is_marked marks i ≡ is_marked (drop k marks) i → ¬ (get_or marks k 0 ≡ i) → is_marked marks i ≡ is_marked (drop (k + 1) marks) i
  marked-past l s n = s ∙ marked_step l ∙ ap (λ (b : Bool). b || is_marked (drop (k + 1) marks) i) (ne_eqb _ _ n)

  pub marked-end : length marks ≤ k → is_marked marks i ≡ is_marked (drop k marks) i → false ≡ is_marked marks i
  marked-end l s = sym (s ∙ ap (λ (ms : List ℕ). is_marked ms i) (drop_of_length-le marks l))

-- the marks from a on, as a part of the slice
pub marks-from : (marks : List ℕ) (a : ℕ) → take (length marks - a) (drop a marks) ≡ drop a marks
marks-from marks a = take_all (length marks - a) (drop a marks) (omega (arith, length-drop a marks))

-- ---- which marks are refused

pub many-refused : (marks : List ℕ) → 8 < length marks → 19 ≡ marks_refusal marks
unfolding marks_refusal
many-refused marks h = let e : leb (length marks) 8 ≡ false = lt-leb (length marks) 8 h in rw e

false-refused : (marks : List ℕ) → length marks ≤ 8 → allowed_marks marks ≡ false → 19 ≡ marks_refusal marks
unfolding marks_refusal
false-refused marks h f = let e : leb (length marks) 8 ≡ true = le-leb (length marks) 8 h in rw (e, f)

module _ (marks : List ℕ) (k : ℕ) (few : length marks ≤ 8) (s : allowed_marks marks ≡ allowed_marks (drop k marks)) where
  allowed-step : k < length marks
      → allowed_marks (drop k marks) ≡ (leb (get_or marks k 0) 95 && not (is_marked (drop (k + 1) marks) (get_or marks k 0)) && allowed_marks (drop (k + 1) marks))
  allowed-step l =
      ap allowed_marks (drop-cons marks k 0 l)
      ∙ ap (λ (n : ℕ). leb (get_or marks k 0) 95 && not (is_marked (drop n marks) (get_or marks k 0)) && allowed_marks (drop n marks)) (sym (add-one k))

  pub over-refused : k < length marks → 95 < get_or marks k 0 → 19 ≡ marks_refusal marks
  over-refused l h =
      false-refused marks few
      (s ∙ allowed-step l
      ∙ ap (λ (b : Bool). b && not (is_marked (drop (k + 1) marks) (get_or marks k 0)) && allowed_marks (drop (k + 1) marks)) (lt-leb (get_or marks k 0) 95 h))

  and_none : (a : Bool) (b : Bool) → (a && false && b) ≡ false
  and_none true b = refl
  and_none false b = refl

  pub repeated-refused : k < length marks → true ≡ is_marked (drop (k + 1) marks) (get_or marks k 0) → 19 ≡ marks_refusal marks
  repeated-refused l e =
      false-refused marks few
      (s ∙ allowed-step l
      ∙ ap (λ (b : Bool). leb (get_or marks k 0) 95 && not b && allowed_marks (drop (k + 1) marks)) (sym e)
      ∙ and_none (leb (get_or marks k 0) 95) (allowed_marks (drop (k + 1) marks)))

  pub allowed-past : k < length marks → get_or marks k 0 ≤ 95 → false ≡ is_marked (drop (k + 1) marks) (get_or marks k 0) → allowed_marks marks ≡ allowed_marks (drop (k + 1) marks)
  allowed-past l h e =
      s ∙ allowed-step l
      ∙ ap (λ (b : Bool). b && not (is_marked (drop (k + 1) marks) (get_or marks k 0)) && allowed_marks (drop (k + 1) marks)) (le-leb (get_or marks k 0) 95 h)
      ∙ ap (λ (b : Bool). true && not b && allowed_marks (drop (k + 1) marks)) (sym e)

  pub marks-taken : length marks ≤ k → 0 ≡ marks_refusal marks
  unfolding marks_refusal
  marks-taken l =
      let e : leb (length marks) 8 ≡ true = le-leb (length marks) 8 few in
      let f : allowed_marks marks ≡ true = s ∙ ap allowed_marks (drop_of_length-le marks l) in
      rw (e, f)

and_left : (a b : Bool) → (a && b) ≡ true → a ≡ true
and_left true b e = refl
and_left false b e = e

and_right : (a b : Bool) → (a && b) ≡ true → b ≡ true
and_right true b e = e
and_right false b e = absurd (true≢false (sym e))

-- marks that are not refused
pub allowed-marks : (marks : List ℕ) → marks_refusal marks ≡ 0 → (length marks ≤ 8) × (allowed_marks marks ≡ true)
unfolding marks_refusal
allowed-marks marks e = go (leb (length marks) 8) refl (allowed_marks marks) refl e
  where
    go : (a : Bool) → leb (length marks) 8 ≡ a → (b : Bool) → allowed_marks marks ≡ b → ◌≡◌ {A = ℕ} (cond (a && b) 0 19) 0 → (length marks ≤ 8) × (allowed_marks marks ≡ true)
    go true p true q z = (leb-true _ _ p, q)
    go true p false q z = absurd (omega arith)
    go false p b q z = absurd (omega arith)

pub marks-distinct : (k : ℕ) (marks : List ℕ) → allowed_marks (k ∷ marks) ≡ true → (k < 96) × (is_marked marks k ≡ false) × (allowed_marks marks ≡ true)
marks-distinct k marks e =
    let p : (leb k 95 && not (is_marked marks k)) ≡ true = and_left (leb k 95 && not (is_marked marks k)) (allowed_marks marks) e in
    let q : k ≤ 95 = leb-true k 95 (and_left (leb k 95) (not (is_marked marks k)) p) in
    (omega arith, not-true (is_marked marks k) (and_right (leb k 95) (not (is_marked marks k)) p), and_right (leb k 95 && not (is_marked marks k)) (allowed_marks marks) e)

pub allowed-inside : (marks : List ℕ) → allowed_marks marks ≡ true → All (λ k. k < 96) marks
allowed-inside [] e = tt
allowed-inside (k ∷ marks) e =
    let d : (k < 96) × (is_marked marks k ≡ false) × (allowed_marks marks ≡ true) = marks-distinct k marks e in
    (d.0, allowed-inside marks d.2)

-- ---- the marked bytes of another word

module _ (marks w c : List ℕ) (k : ℕ) (out : List ℕ) where
  pub adopted-next : k < length marks → adopted (drop k marks) out c ≡ adopted marks w c
      → adopted (drop (k + 1) marks) (set out (get_or marks k 0) (get_or c (get_or marks k 0) 0)) c ≡ adopted marks w c
  adopted-next l s =
      ap (λ (n : ℕ). adopted (drop n marks) (set out (get_or marks k 0) (get_or c (get_or marks k 0) 0)) c) (add-one k)
      ∙ sym (ap (λ (ms : List ℕ). adopted ms out c) (drop-cons marks k 0 l)) ∙ s

  pub adopted-end : length marks ≤ k → adopted (drop k marks) out c ≡ adopted marks w c → out ≡ adopted marks w c
  adopted-end l s = sym (ap (λ (ms : List ℕ). adopted ms out c) (drop_of_length-le marks l)) ∙ s
