-- A whole call: what correction answers, what is read, and what is put back.
use mathlib.Core.Path.{◌≡◌, refl, sym, ap, ap₂, ◌∙◌, subst}
use mathlib.Core.Bool.{Bool, true, false, not, ◌&&◌, cond}
use mathlib.Core.List.{List, ◌∷◌}
use mathlib.Core.Logic.{◌⊎◌, inl, inr, ⊎_elim}
use mathlib.Core.Option.{Option, none, some}
use Prim.Native.Nat.{ℕ, ◌<◌, ◌≤◌}
use native.Mathlib.Omega.{arith}
use lib.Dec.{eqb, leb}
use lib.ListN.{length, get_or, take}
use borrow.Author.Tests.{ne_eqb, eqb-true}
use Rattle.refusal.specs.Refusal.{first_of}
use Rattle.header.specs.Header.{length_refusal, header_of, front_replaced}
use Rattle.correction.specs.Correction.{corrected, answer_for, correction_of, corrected_pdu, correction_number}
use Rattle.correction.specs.declared.Correction.{Correction}
use Rattle.correction.specs.declared.Correction.TheVariants.{Corrected, Refused}
use Rattle.correction.proofs.Answers.{refused-unchanged, corrected-allowed, header-put-back}
use Rattle.layout.specs.Control.{control_at}
use Rattle.pdu.specs.Reading.{accepted, refused, corrected_tests, uncorrectable, judged, width_of, read_number, wrong_of, reading_by, reading_of, read_pdu}
use Rattle.pdu.specs.declared.Reading.{Reading}
use Rattle.pdu.proofs.Lowest.{without-eleven}

-- ---- the number that is read

number_by : (y : List ℕ) (n : ℕ) → (reading_by y n).refusal ≡ n
unfolding reading_by accepted refused
number_by y n = go (eqb n 0) refl
  where
    go : (b : Bool) → eqb n 0 ≡ b → (cond b (accepted (width_of y) (control_at y) y) (refused n (wrong_of y n))).refusal ≡ n
    go true e = sym (eqb-true n 0 e)
    go false e = refl

pub read_number_lem : (y : List ℕ) (r : Reading) → r ≡ reading_by y (judged y) → r.refusal ≡ judged y
read_number_lem y r e = ap (λ (x : Reading). x.refusal) e ∙ number_by y (judged y)

pub kept : (y v : List ℕ) (r : Reading) → r ≡ reading_by y (judged y) → r.refusal ≡ 0 → y ≡ cond (eqb (judged y) 0) y v
kept y v r e z = let n : judged y ≡ 0 = sym (read_number_lem y r e) ∙ z in rw n

pub put_back : (y v : List ℕ) (r : Reading) → r ≡ reading_by y (judged y) → ¬ (r.refusal ≡ 0) → v ≡ cond (eqb (judged y) 0) y v
put_back y v r e d = let t : eqb (judged y) 0 ≡ false = ne_eqb (judged y) 0 (λ z. d (read_number_lem y r e ∙ z)) in rw t

-- ---- the numbers that correction answers

refusal_in : Correction → ℕ
refusal_in (Corrected n) = 3
refusal_in (Refused n) = n

three-or-four : (p : List ℕ) → (refusal_in (correction_of p) ≡ 3) ⊎ (refusal_in (correction_of p) ≡ 4)
unfolding refusal_in correction_of
three-or-four p = go (eqb (length_refusal (length p)) 0) (corrected (take 96 p))
  where
    go : (b : Bool) (o : Option (List ℕ)) → (refusal_in (cond b (answer_for (take 96 p) o) (Refused 3)) ≡ 3) ⊎ (refusal_in (cond b (answer_for (take 96 p) o) (Refused 3)) ≡ 4)
    go true (some c) = inl refl
    go true none = inr refl
    go false o = inl refl

-- what `read` promises of its answer r, and of the PDU q after the call
abbrev pub Promised : List ℕ → Reading → List ℕ → Type 0
Promised p r q = (r ≡ reading_of p) × (q ≡ read_pdu p)

-- rows 3 and 4 of the table are correction's numbers; the others are asked of a corrected PDU
pub by-correction : (p : List ℕ) → read_number p ≡ cond (eqb (correction_number (correction_of p)) 0) (judged (corrected_pdu p)) (correction_number (correction_of p))
unfolding read_number judged correction_of length_refusal
by-correction p = go (leb 96 (length p) && leb (length p) 20480) (corrected (take 96 p)) (corrected_pdu p)
  where
    answer : Bool → Option (List ℕ) → Correction
    answer b o = cond (eqb (cond b 0 3) 0) (answer_for (take 96 p) o) (Refused 3)

    go : (b : Bool) (o : Option (List ℕ)) (y : List ℕ)
        → first_of ((not b, 3) ∷ (uncorrectable o, 4) ∷ corrected_tests (control_at y) y) ≡ cond (eqb (correction_number (answer b o)) 0) (judged y) (correction_number (answer b o))
    go true none y = refl
    go true (some c) y = refl
    go false o y = refl

module _ (p : List ℕ) where
  refused-number : (n : ℕ) → correction_of p ≡ Refused n → eqb n 0 ≡ false → read_number p ≡ n
  refused-number n e t = by-correction p ∙ rw (e, t)

  pub corrected-number : (n : ℕ) → correction_of p ≡ Corrected n → read_number p ≡ judged (corrected_pdu p)
  corrected-number n e = by-correction p ∙ rw e

  -- correction refuses it
  pub turned_down : (n : ℕ) (r : Reading) (q : List ℕ) → correction_of p ≡ Refused n → r ≡ refused n 0 → q ≡ corrected_pdu p → Promised p r q
  unfolding refusal_in reading_by read_pdu
  turned_down n r q e er eq =
      let c : (n ≡ 3) ⊎ (n ≡ 4) = subst (λ (x : Correction). (refusal_in x ≡ 3) ⊎ (refusal_in x ≡ 4)) e (three-or-four p) in
      let t : eqb n 0 ≡ false = ne_eqb n 0 (λ z. ⊎_elim (λ (u : n ≡ 3). absurd (omega arith)) (λ (u : n ≡ 4). absurd (omega arith)) c) in
      let d : wrong_of (corrected_pdu p) n ≡ 0 = without-eleven (corrected_pdu p) n (λ z. ⊎_elim (λ (u : n ≡ 3). absurd (omega arith)) (λ (u : n ≡ 4). absurd (omega arith)) c) in
      let m : read_number p ≡ n = refused-number n e t in
      (er ∙ sym (rw (m, t, d)), eq ∙ refused-unchanged p n e ∙ sym (rw (m, t)))

  -- correction takes it, and w is its header before
  pub taken : (n : ℕ) (r : Reading) (y q w : List ℕ) → ((i : ℕ) → get_or p i 0 < 256) → correction_of p ≡ Corrected n → w ≡ header_of p → y ≡ corrected_pdu p
      → r ≡ reading_by y (judged y) → q ≡ cond (eqb (judged y) 0) y (front_replaced y w)
      → Promised p r q
  unfolding read_pdu
  taken n r y q w b e ew ey er eq =
      let l : (96 ≤ length p) × (length p ≤ 20480) = corrected-allowed p n e in
      let m : read_number p ≡ judged (corrected_pdu p) = corrected-number n e in
      let u : front_replaced y w ≡ p = rw (ew, ey) (header-put-back p l.0 l.1 b) in (
        er ∙ ap₂ reading_by ey (ap judged ey ∙ sym m),
        eq ∙ ap (λ (x : List ℕ). cond (eqb (judged y) 0) y x) u ∙ rw (m, ey),
      )
