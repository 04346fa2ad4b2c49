-- A written PDU, listed with the register that its writer was opened with: every verdict is right (document 02, Ask 2). Also with at most four of its
-- first 96 bytes altered, as reading corrects them.
use mathlib.Core.Path.{◌≡◌, refl, sym, ap, subst, ◌∙◌}
use mathlib.Core.Bool.{true, false}
use mathlib.Core.List.{List, [], ◌++◌}
use Prim.Native.Nat.{ℕ, ◌<◌, ◌≤◌}
use native.Mathlib.Omega.{arith}
use lib.Dec.{ltb}
use lib.ListN.{length, get_or, take, drop}
use borrow.Author.Tests.{eq-eqb, le-ltb}
use Rattle.crc.specs.Crc.{crc_from}
use Rattle.modes.specs.declared.Mode.{Mode}
use Rattle.modes.specs.declared.Listing.{Listing}
use Rattle.layout.specs.Control.{control_at}
use Rattle.layout.specs.declared.ControlWord.{ControlWord}
use Rattle.layout.specs.Locators.{locator_at}
use Rattle.contents.proofs.Putting.{cut-count}
use Rattle.correction.specs.Correction.{corrected_pdu}
use Rattle.pdu.specs.Reading.{start_at, length_at, mode_in, listing_of, width_of, accepted, read_number, read_pdu}
use Rattle.pdu.specs.declared.Reading.{Reading}
use Rattle.pdu.specs.PieceRead.{PieceRead}
use Rattle.pdu.proofs.ReadBack.{read-accepted}
use Rattle.settings.specs.declared.Settings.{Settings}
use Rattle.writer.specs.Writing.{placed_lengths, pieces_of, control_for, write_answer, written_pdu}
use Rattle.writer.specs.RoundTrip.{Bytes, Altered, ReadBack, RoundTrip}
use Rattle.writer.specs.declared.Writer.{Writer}
use Rattle.writer.proofs.RoundTrip.{round_trip}
use Rattle.panel.specs.Panel.{list_number, listed_pdu, entry_at, entries_from, list_after}
use Rattle.panel.specs.declared.Piece.{Piece}
use Rattle.panel.proofs.Listing.{number-room}

-- the verdict on a piece that is read as it was written, by the register that it was written with
pub read_right : (register : ℕ) (y : List ℕ) (k : ℕ) (piece : List ℕ) → PieceRead register (width_of y) (control_at y) y k piece → (entry_at register y k).right ≡ true
read_right register y k piece f =
    let width = width_of y in
    let c = control_at y in
    eq-eqb (crc_from register (take (length_at width c y k) (drop (start_at width c y k) y))) (get_or y (locator_at width y k) 0)
    (ap (crc_from register) f.bytes ∙ sym f.crc)

-- the list l, lent with the PDU q, by a register: it is not refused, the PDU is left as p, the list begins with an entry for each piece of p and keeps
-- the others, and each verdict is right
pub record ListedRight (register : ℕ) (p q : List ℕ) (l : List Piece) : Type 0 where
  pub number : list_number q (length l) ≡ 0
  pub pdu : listed_pdu q (length l) ≡ p
  pub list : list_after register l q ≡ entries_from register p 0 (control_at p).nop ++ drop (control_at p).nop l
  pub right : (k : ℕ) → k < (control_at p).nop → (entry_at register p k).right ≡ true

-- p is what a call wrote, and q comes
module _ (settings : Settings) (psd lengths bytes : List ℕ) (size : ℕ) (w : Writer) (p q : List ℕ) (t : RoundTrip settings psd lengths bytes size w p) (a : Altered p q) where
  abbrev m : Mode
  m = t.mode

  abbrev c : ControlWord
  c = control_for settings psd lengths bytes size m w

  abbrev ps : List (List ℕ)
  ps = pieces_of settings psd lengths bytes size m w

  back : ReadBack settings psd lengths bytes size w m p q
  back = t.back q a

  corrected : corrected_pdu q ≡ p
  unfolding read_pdu
  corrected =
      let z : read_number q ≡ 0 = back.number in
      let e : read_pdu q ≡ corrected_pdu q = rw z in
      sym e ∙ back.pdu

  control : control_at p ≡ c
  unfolding accepted
  control = ap (λ (r : Reading). r.control) (sym (read-accepted q p (width_of p) (control_at p) back.number corrected refl refl).1 ∙ back.answer)

  width : width_of p ≡ m.width
  unfolding width_of
  width = ap (λ (d : ControlWord). (mode_in (listing_of d)).width) control ∙ ap (λ (i : Listing). (mode_in i).width) t.listed

  piece-right : (k : ℕ) → k < length ps → (entry_at w.register p k).right ≡ true
  piece-right k h =
      read_right w.register p k (get_or ps k [])
      (subst (λ (n : ℕ). PieceRead w.register n (control_at p) p k (get_or ps k [])) (sym width)
      (subst (λ (d : ControlWord). PieceRead w.register m.width d p k (get_or ps k [])) (sym control) (back.pieces k h)))

  count : (control_at p).nop ≡ length ps
  count = ap (λ (d : ControlWord). d.nop) control ∙ sym (cut-count (placed_lengths settings psd lengths bytes size m w) (drop w.sent bytes))

  all_right : (l : List Piece) → (control_at p).nop ≤ length l → ListedRight w.register p q l
  unfolding listed_pdu list_after
  all_right l h =
      let s : ltb (length l) (control_at p).nop ≡ false = le-ltb (length l) (control_at p).nop h in
      let n : list_number q (length l) ≡ 0 = number-room q (length l) back.number ∙ rw (corrected, s) in
      record {
        number = n;
        pdu = (let e : listed_pdu q (length l) ≡ corrected_pdu q = rw n in e ∙ corrected);
        list = rw (n, corrected);
        right = λ k b. piece-right k (omega (arith, count));
      }

-- of every accepted writing call
pub listed-right : (settings : Settings) (psd lengths bytes : List ℕ) (size : ℕ) (w : Writer) (before : List ℕ) → Bytes psd → Bytes bytes
    → (write_answer settings psd lengths bytes size w).refusal ≡ 0 → (q : List ℕ) → Altered (written_pdu settings psd lengths bytes size w before) q
    → (l : List Piece) → (control_at (written_pdu settings psd lengths bytes size w before)).nop ≤ length l
    → ListedRight w.register (written_pdu settings psd lengths bytes size w before) q l
listed-right settings psd lengths bytes size w before hp hb ok q a =
    all_right settings psd lengths bytes size w (written_pdu settings psd lengths bytes size w before) q
    (round_trip settings psd lengths bytes size w before hp hb ok) a
