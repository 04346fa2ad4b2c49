-- A PDU that an accepted call wrote says what was sent.
use mathlib.Core.Path.{◌≡◌, refl, sym, ap, ap₂, subst, ◌∙◌}
use mathlib.Core.Bool.{Bool, true, false, ◌||◌, cond}
use mathlib.Core.List.{List, [], ◌∷◌}
use Prim.Native.Nat.{ℕ, suc, ◌+◌, ◌-◌, ◌%◌, ◌<◌, ◌≤◌}
use native.Mathlib.Omega.{arith}
use lib.Dec.{eqb, ltb}
use borrow.Author.Tests.{eq-eqb}
use lib.ListN.{length, get_or, take, drop}
use Rattle.algebra.specs.Places.{All}
use Rattle.refusal.specs.Refusal.{first_of, any_of}
use Rattle.refusal.proofs.Rows.{rest-off}
use Rattle.modes.specs.Modes.{listing}
use Rattle.modes.specs.declared.Mode.{Mode}
use Rattle.modes.specs.declared.Listing.TheVariants.{Listed}
use Rattle.crc.specs.Crc.{crc_from}
use Rattle.layout.specs.Control.{bit, control_at}
use Rattle.layout.specs.Locators.{locator_at}
use Rattle.layout.specs.declared.ControlWord.{ControlWord}
use Rattle.settings.specs.declared.Settings.{Settings}
use Rattle.correction.specs.Correction.{corrected_pdu}
use Rattle.header.proofs.Distances.{distance_self}
use Rattle.contents.proofs.Putting.{cut-count}
use Rattle.settings.specs.Settings.{program_of, fields_for}
use Rattle.expansion.specs.Writing.{interpreted_of}
use Rattle.pdu.specs.Reading.{start_at, length_at, fields_of, answered, psd_of, accepted, width_of, corrected_tests, judged, read_tests, read_number, read_pdu}
use Rattle.pdu.specs.declared.ExpansionFields.{ExpansionFields}
use Rattle.pdu.specs.declared.Part.{Part}
use Rattle.pdu.specs.declared.Reading.{Reading}
use Rattle.pdu.specs.PieceRead.{PieceRead}
use Rattle.pdu.proofs.ReadBack.{read-accepted}
use Rattle.reassembly.specs.Reassembly.{Piece, Said}
use Rattle.reassembly.specs.Rights.{Label}
use Rattle.receiver.specs.Receiving.{piece_in, pieces_in, said_by, label_in, come_by}
use Rattle.writer.specs.Writing.{writer_tests, pieces_of, part_of, placed_lengths, control_for, pdu_of}
use Rattle.writer.specs.declared.Writer.{Writer}
use Rattle.writer.proofs.Bytes.{Byte}
use Rattle.writer.specs.RoundTrip.{ReadBack}
use Rattle.writer.proofs.Accepted.{fine}
use Rattle.writer.proofs.RoundTrip.{read_back, pdu-length, pdu-bytes}
use Rattle.delivery.specs.Entitlement.{label_of}

-- pieces that are taken
abbrev pub taken : List (List ℕ) → List Piece
taken [] = []
taken (b ∷ bs) = record { cause = 0; bytes = b } ∷ taken bs

-- a piece that is read as it was written is taken
piece_back : (register width : ℕ) (c : ControlWord) (y : List ℕ) (k : ℕ) (b : List ℕ) → PieceRead register width c y k b → piece_in register width c y k ≡ record { cause = 0; bytes = b }
piece_back register width c y k b r =
    let e : eqb (crc_from register b) (get_or y (locator_at width y k) 0) ≡ true = eq-eqb (crc_from register b) (get_or y (locator_at width y k) 0) (sym r.crc) in
    ap {B = Piece} (λ (bs : List ℕ). record { cause = cond (eqb (crc_from register bs) (get_or y (locator_at width y k) 0)) 0 2; bytes = bs }) r.bytes
    ∙ ap {B = Piece} (λ (v : Bool). record { cause = cond v 0 2; bytes = b }) e

pieces-back : (register width : ℕ) (c : ControlWord) (y : List ℕ) (ps : List (List ℕ)) (k : ℕ) → ((j : ℕ) → j < length ps → PieceRead register width c y (k + j) (get_or ps j []))
    → pieces_in register width c y k (length ps) ≡ taken ps
unfolding pieces_in
pieces-back register width c y [] k h = refl
pieces-back register width c y (b ∷ ps) k h =
    let e : k + 0 ≡ k = omega arith in
    let r : PieceRead register width c y k b = subst (λ (n : ℕ). PieceRead register width c y n b) e (h 0 (omega arith)) in
    ap₂ (λ (p : Piece) (l : List Piece). p ∷ l) (piece_back register width c y k b r)
    (pieces-back register width c y ps (suc k) (λ j l. let e : suc k + j ≡ k + suc j = omega arith in subst (λ (n : ℕ). PieceRead register width c y n (get_or ps j [])) (sym e) (h (suc j) (omega arith))))

-- the answers of reading
control-of : (width : ℕ) (c : ControlWord) (y : List ℕ) → (accepted width c y).control ≡ c
unfolding accepted
control-of width c y = refl

psd-of : (width : ℕ) (c : ControlWord) (y : List ℕ) → (accepted width c y).psd ≡ psd_of width c y
unfolding accepted
psd-of width c y = refl

fields-of : (width : ℕ) (c : ControlWord) (y : List ℕ) → (accepted width c y).fields ≡ answered (fields_of width c y)
unfolding accepted
fields-of width c y = refl

-- the program number is sent whenever any field is
program-sent : (s : Settings) (size : ℕ) → (interpreted_of (fields_for s size)).program ≡ program_of s
unfolding fields_for
program-sent s size = go s.classed s.programmed (any_of (s.displaced ∷ s.typed ∷ s.serviced ∷ []))
  where
    none-either : (b : Bool) → ◌≡◌ {A = ℕ} (cond b 0 0) 0
    none-either true = refl
    none-either false = refl

    go : (a b more : Bool) → cond (a || (b || more)) (cond b s.program 0) 0 ≡ cond b s.program 0
    go true b more = refl
    go false true more = refl
    go false false more = none-either more

-- a PDU that is read as it is
corrected-is : (p : List ℕ) → read_number p ≡ 0 → read_pdu p ≡ p → corrected_pdu p ≡ p
unfolding read_pdu
corrected-is p z e = let t : eqb (read_number p) 0 ≡ true = eq-eqb (read_number p) 0 z in sym (ap (λ (b : Bool). cond b (corrected_pdu p) p) t) ∙ e

reads-is : (p : List ℕ) → read_number p ≡ 0 → corrected_pdu p ≡ p → judged p ≡ 0
unfolding read_number judged
reads-is p z e = ap (λ (y : List ℕ). first_of (corrected_tests (control_at y) y)) (sym e) ∙ rest-off (read_tests p) 2 refl z

module _ (settings : Settings) (psd lengths bytes : List ℕ) (size : ℕ) (m : Mode) (w : Writer) (l : listing w.mode w.stream ≡ Listed m)
    (t : first_of (writer_tests settings psd lengths bytes size m w) ≡ 0) (hp : All Byte psd) (hb : All Byte bytes) where
  abbrev p : List ℕ
  p = pdu_of settings psd lengths bytes size m w

  abbrev ps : List (List ℕ)
  ps = pieces_of settings psd lengths bytes size m w

  abbrev c : ControlWord
  c = control_for settings psd lengths bytes size m w

  -- what was sent
  abbrev pub sent : Said
  sent = record {
    sequence = w.sequence;
    pfirst = ltb 0 w.sent;
    plast = ltb 0 (part_of settings psd lengths bytes size m w);
    start = (w.number + bit (ltb 0 w.sent)) % 64;
    psd_bytes = psd;
    pieces = taken ps;
    withheld = false;
  }

  -- p as it was written
  back : ReadBack settings psd lengths bytes size w m p p
  back =
      read_back settings psd lengths bytes size m w l t hp hb p
      (record { long = refl; rest = refl; few = omega (arith, distance_self (take 96 p)); bytes = pdu-bytes settings psd lengths bytes size m w l t hp hb })

  itself : corrected_pdu p ≡ p
  itself = corrected-is p back.number back.pdu

  pub reads-back : judged p ≡ 0
  reads-back = reads-is p back.number itself

  pub control-back : control_at p ≡ c
  control-back =
      sym (control-of (width_of p) (control_at p) p)
      ∙ ap (λ (r : Reading). r.control) (sym (read-accepted p p (width_of p) (control_at p) back.number itself refl refl).1 ∙ back.answer)
      ∙ control-of m.width c p

  pub at_least : 96 ≤ length p
  at_least = let f = fine settings psd lengths bytes size m w t in omega (arith, pdu-length settings psd lengths bytes size m w l t hp hb, f.long)

  pub at_most : length p ≤ 20480
  at_most = let f = fine settings psd lengths bytes size m w t in omega (arith, pdu-length settings psd lengths bytes size m w l t hp hb, f.short)

  psd-back : take (psd_of m.width c p).length (drop (psd_of m.width c p).start p) ≡ psd
  psd-back =
      ap (λ (r : Part). take r.length (drop r.start p)) (sym (psd-of m.width c p) ∙ back.place) ∙ back.psd-read

  nop-is : c.nop ≡ length ps
  nop-is = sym (cut-count (placed_lengths settings psd lengths bytes size m w) (drop w.sent bytes))

  -- the CRC of each piece stands at its locator
  pub crcs-right : (k : ℕ) → k < (control_at p).nop → crc_from w.register (take (length_at m.width (control_at p) p k) (drop (start_at m.width (control_at p) p k) p)) ≡ get_or p (locator_at m.width p k) 0
  crcs-right =
      subst (λ (r : ControlWord). (k : ℕ) → k < r.nop → crc_from w.register (take (length_at m.width r p k) (drop (start_at m.width r p k) p)) ≡ get_or p (locator_at m.width p k) 0) (sym control-back)
      (λ k h. let r = back.pieces k (let n = nop-is in omega (arith, n, h)) in ap (crc_from w.register) r.bytes ∙ sym r.crc)

  said-back : said_by w.register m.width c p ≡ sent
  unfolding said_by
  said-back = ap₂ (λ (s : List ℕ) (l : List Piece). record { sequence = c.sequence; pfirst = c.pfirst; plast = c.plast; start = c.start; psd_bytes = s; pieces = l; withheld = false }) psd-back
      (ap (pieces_in w.register m.width c p 0) nop-is ∙ pieces-back w.register m.width c p ps 0 (λ j h. subst (λ (n : ℕ). PieceRead w.register m.width c p n (get_or ps j [])) (zero-plus j) (back.pieces j h)))
    where
      zero-plus : (j : ℕ) → j ≡ 0 + j
      zero-plus j = omega arith

  -- document 02, Ask 10: its label is the one that the settings send
  label-back : label_in m.width c p ≡ label_of settings
  unfolding fields_for
  label-back =
      let e : answered (fields_of m.width c p) ≡ answered (interpreted_of (fields_for settings size)) = sym (fields-of m.width c p) ∙ back.fields in
      ap (λ (x : ExpansionFields). record { program = x.program; services = x.services }) e ∙ ap (λ (n : ℕ). record { program = n; services = cond settings.serviced settings.services 0 }) (program-sent settings size)

  pub come-back : come_by w.register m.width c p ≡ record { said = sent; label = label_of settings }
  unfolding come_by
  come-back = ap₂ (λ (d : Said) (l : Label). record { said = d; label = l }) said-back label-back
