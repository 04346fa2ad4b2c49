-- A reading, from its parts.
use mathlib.Core.Path.{◌≡◌, refl, sym, ap, ap₂, ◌∙◌}
use mathlib.Core.Bool.{Bool, true, false, not}
use mathlib.Core.List.{List, [], ◌∷◌}
use Prim.Native.Nat.{ℕ, ◌+◌, ◌-◌, ◌/◌, ◌<◌}
use native.Mathlib.Nat.{mod-lt}
use native.Mathlib.Omega.{arith}
use lib.Dec.{eqb, leb, lit<}
use lib.ListN.{get_or, replicate}
use borrow.Author.Tests.{ne_eqb}
use Rattle.refusal.specs.Refusal.{first_of}
use Rattle.modes.specs.Modes.{listing, listing_number}
use Rattle.modes.specs.declared.Mode.{Mode}
use Rattle.modes.specs.declared.Listing.{Listing}
use Rattle.modes.specs.declared.Listing.TheVariants.{Listed, Refused}
use Rattle.modes.proofs.Lines.{refusal-five}
use Rattle.layout.specs.Control.{control_of, control_at}
use Rattle.layout.specs.declared.ControlWord.{ControlWord}
use Rattle.layout.specs.Locators.{locator_size}
use Rattle.expansion.specs.Expansion.{nothing}
use Rattle.expansion.specs.declared.Interpreted.{Interpreted}
use Rattle.pdu.specs.Reading.{expansion_count, fields_of, start_at, length_at, filled_to, answered, psd_of, accepted, no_control, refused, wrong_locator, any_below, wrong_flags, wrong_la, wrong_displacement, reader_tests, wrong_with, listed_reading, mode_in, width_of, judged, wrong_of, reading_by}
use Rattle.pdu.specs.declared.ExpansionFields.{ExpansionFields}
use Rattle.pdu.specs.declared.Part.{Part}
use Rattle.pdu.specs.declared.Reading.{Reading}

part_same : (width : ℕ) (c : ControlWord) (y : List ℕ) (p : Part) (s : ℕ) → s ≡ 14 + locator_size width c.nop + expansion_count width c y
    → p.start ≡ s → p.length ≡ c.la + 1 - s → p ≡ psd_of width c y
part_same width c y p s e es el =
    let a : p.start ≡ 14 + locator_size width c.nop + expansion_count width c y = es ∙ e in
    let b : p.length ≡ c.la + 1 - (14 + locator_size width c.nop + expansion_count width c y) = el ∙ ap (λ (n : ℕ). c.la + 1 - n) e in
    λ i. record { start = a i; length = b i }

pub accepted-parts : (width : ℕ) (c : ControlWord) (y : List ℕ) (v : Interpreted) (f : ExpansionFields) (p : Part) (s l : List ℕ) (at n start : ℕ)
    → v ≡ fields_of width c y → f ≡ answered v
    → at ≡ 14 + locator_size width c.nop → n ≡ expansion_count width c y → start ≡ at + n → p.start ≡ start → p.length ≡ c.la + 1 - start
    → s ≡ filled_to c.nop (start_at width c y) → l ≡ filled_to c.nop (length_at width c y)
    → record { refusal = 0; wrong = 0; control = c; fields = f; psd = p; starts = s; lengths = l } ≡ accepted width c y
unfolding accepted
accepted-parts width c y v f p s l at n start ev ef ea en et ps pl es el =
    let a : f ≡ answered (fields_of width c y) = ef ∙ ap answered ev in
    let b : p ≡ psd_of width c y = part_same width c y p start (et ∙ ap₂ (λ (j k : ℕ). j + k) ea en) ps pl in
    λ i. record { refusal = 0; wrong = 0; control = c; fields = a i; psd = b i; starts = es i; lengths = el i }

pub refused-parts : (number k : ℕ) (c : ControlWord) (v : Interpreted) (f : ExpansionFields) → c ≡ no_control → v ≡ nothing true → f ≡ answered v
    → record { refusal = number; wrong = k; control = c; fields = f; psd = record { start = 0; length = 0 }; starts = replicate 64 0; lengths = replicate 64 0 } ≡ refused number k
unfolding refused
refused-parts number k c v f ec ev ef =
    let a : f ≡ answered (nothing true) = ef ∙ ap answered ev in
    λ i. record { refusal = number; wrong = k; control = ec i; fields = a i; psd = record { start = 0; length = 0 }; starts = replicate 64 0; lengths = replicate 64 0 }

module _ (m : Mode) (c : ControlWord) (y : List ℕ) where
  -- where nothing applies, no locator is wrong
  pub none-wrong : first_of (reader_tests m c y) ≡ 0 → any_below c.nop (wrong_locator m.width c y) ≡ false
  none-wrong e =
      go (leb m.sequences c.sequence) (wrong_flags c) (wrong_la m.width c y) (not (fields_of m.width c y).right)
      (any_below c.nop (wrong_locator m.width c y)) (wrong_displacement m.width c y (fields_of m.width c y)) e
    where
      go : (s p l x a d : Bool) → first_of ((s, 7) ∷ (p, 8) ∷ (l, 9) ∷ (x, 10) ∷ (a, 11) ∷ (d, 12) ∷ []) ≡ 0 → a ≡ false
      go true p l x a d e = absurd (omega arith)
      go false true l x a d e = absurd (omega arith)
      go false false true x a d e = absurd (omega arith)
      go false false false true a d e = absurd (omega arith)
      go false false false false true d e = absurd (omega arith)
      go false false false false false d e = refl

  pub listed-accepted : (r : Reading) → first_of (reader_tests m c y) ≡ 0 → r ≡ accepted m.width c y → r ≡ listed_reading m c y
  unfolding listed_reading
  listed-accepted r e q = q ∙ sym (rw e)

  pub listed-refused : (r : Reading) (n k : ℕ) → n ≡ first_of (reader_tests m c y) → ¬ (n ≡ 0) → k ≡ wrong_with m.width c y n → r ≡ refused n k → r ≡ listed_reading m c y
  unfolding listed_reading
  listed-refused r n k e d w q =
      let t : eqb (first_of (reader_tests m c y)) 0 ≡ false = ne_eqb _ _ (λ z. d (e ∙ z)) in
      q ∙ ap (refused n) w ∙ ap (λ (i : ℕ). refused i (wrong_with m.width c y i)) e ∙ sym (rw t)

-- ---- a corrected PDU

pub nop-small : (y : List ℕ) → (control_at y).nop < 64
unfolding control_of
nop-small y = mod-lt (get_or y 12 0 / 2) (lit< tt)

module _ (y : List ℕ) where
  number-listed : (m : Mode) → listing (control_at y).mode (control_at y).stream ≡ Listed m → judged y ≡ first_of (reader_tests m (control_at y) y)
  unfolding judged
  number-listed m e = ap (λ (l : Listing). first_of ((not (eqb (listing_number l) 0), 5) ∷ reader_tests (mode_in l) (control_at y) y)) e

  width-listed : (m : Mode) → listing (control_at y).mode (control_at y).stream ≡ Listed m → width_of y ≡ m.width
  unfolding width_of
  width-listed m e = ap (λ (l : Listing). (mode_in l).width) e

  pub judged-listed : (m : Mode) (r : Reading) → listing (control_at y).mode (control_at y).stream ≡ Listed m → r ≡ listed_reading m (control_at y) y → r ≡ reading_by y (judged y)
  unfolding reading_by wrong_of listed_reading
  judged-listed m r e q = q ∙ sym (rw (number-listed m e, width-listed m e))

  pub judged-refused : (n : ℕ) (r : Reading) → listing (control_at y).mode (control_at y).stream ≡ Refused n → r ≡ refused n 0 → r ≡ reading_by y (judged y)
  unfolding reading_by wrong_of judged
  judged-refused n r e q =
      let f : n ≡ 5 = refusal-five _ _ n e in
      let t : eqb n 0 ≡ false = ne_eqb n 0 (λ z. omega arith) in
      q ∙ ap (λ (i : ℕ). refused i 0) f ∙ sym (rw (e, t))
