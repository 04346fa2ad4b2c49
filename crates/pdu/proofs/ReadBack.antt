-- A PDU that holds contents which may be sent is accepted, and reading it gives them.
use mathlib.Core.Path.{◌≡◌, refl, sym, ap, ap₂, subst, ◌∙◌}
use mathlib.Core.Bool.{Bool, true, false, not, ◌&&◌, ◌||◌, cond}
use mathlib.Core.List.{List, [], ◌∷◌, ◌++◌, append_assoc}
use Prim.Native.Nat.{ℕ, zero, suc, ◌+◌, ◌-◌, ◌<◌, ◌≤◌}
use native.Mathlib.Omega.{arith}
use lib.Dec.{eqb, ltb, leb}
use borrow.Author.Tests.{le-ltb, lt-leb, eq-eqb, ltb-true, ltb-false, eqb-true}
use lib.ListN.{length, get_or, take, drop, length-append}
use Rattle.refusal.specs.Refusal.{first_of}
use Rattle.modes.specs.Modes.{listing, listing_number}
use Rattle.modes.specs.declared.Mode.{Mode}
use Rattle.modes.specs.declared.Listing.{Listing}
use Rattle.modes.specs.declared.Listing.TheVariants.{Listed}
use Rattle.layout.specs.Control.{control_at, control_bytes, InWidth}
use Rattle.layout.specs.declared.ControlWord.{ControlWord}
use Rattle.layout.specs.Locators.{locator_size, locator_at}
use Rattle.layout.proofs.ControlLaw.{control-law}
use Rattle.layout.proofs.LocatorLaw.{roof}
use Rattle.expansion.specs.Expansion.{nothing, expansion_length, expansion_at}
use Rattle.expansion.specs.Writing.{InRange, interpreted_of, expansion_bytes}
use Rattle.expansion.specs.declared.Fields.{Fields}
use Rattle.expansion.specs.declared.Interpreted.{Interpreted}
use Rattle.expansion.proofs.ExpansionLaw.{expansion-law, none-sent}
use Rattle.correction.specs.Correction.{corrected_pdu}
use Rattle.contents.specs.Contents.{first_piece, locators_of, contents}
use Rattle.pdu.specs.Reading.{after_locators, expansion_count, fields_of, mark_at, start_at, wrong_locator, any_below, wrong_flags, wrong_la, wrong_displacement, reader_tests, listing_of, mode_in, corrected_tests, judged, width_of, psd_of, answered, accepted, refused, read_number, wrong_of, reading_by, reading_of, read_pdu}
use Rattle.pdu.specs.PieceRead.{PieceRead}
use Rattle.pdu.specs.declared.Part.{Part}
use Rattle.pdu.proofs.ContentsLaw.{locators-back, locators-below, written-length, expansion-back, psd-back, pieces-back}

-- what may be sent in a PDU of `size` bytes: control word c, expansion fields x, PSD, and pieces
pub record Sendable (m : Mode) (c : ControlWord) (x : Fields) (psd : List ℕ) (ps : List (List ℕ)) (size : ℕ) : Type 0 where
  pub listed : listing c.mode c.stream ≡ Listed m
  pub widths : InWidth c
  pub sequence : c.sequence < m.sequences
  pub count : c.nop ≡ length ps
  pub none : length ps ≡ 0 → (c.pfirst ≡ false) × (c.plast ≡ false)
  pub la : c.la + 1 ≡ first_piece m.width (expansion_bytes x) psd ps
  pub flag : c.flag ≡ ltb 0 (length (expansion_bytes x))
  pub fields : InRange x
  pub bytes : (k : ℕ) → k < length ps → 0 < length (get_or ps k [])
  pub displaced : (interpreted_of x).displaced ≡ true → (interpreted_of x).displacement + 1 ≡ size
  pub short : size ≤ roof m.width

module _ (register : ℕ) (m : Mode) (c : ControlWord) (x : Fields) (psd : List ℕ) (ps : List (List ℕ)) (parity rest : List ℕ) (long : length parity ≡ 8) where
  -- the PDU: parity, control word, contents, and whatever follows
  abbrev pub sent : List ℕ
  sent = parity ++ (control_bytes c ++ (contents register m.width (expansion_bytes x) psd ps ++ rest))

  front : List ℕ
  front = parity ++ control_bytes c

  fourteen : length front ≡ 14
  unfolding front control_bytes
  fourteen = length-append parity (control_bytes c) ∙ omega (arith, long)

  split : sent ≡ front ++ (contents register m.width (expansion_bytes x) psd ps ++ rest)
  unfolding front
  split = sym (append_assoc parity (control_bytes c) (contents register m.width (expansion_bytes x) psd ps ++ rest))

  module _ (s : Sendable m c x psd ps (length sent)) where
    pub control-back : control_at sent ≡ c
    control-back = control-law parity (contents register m.width (expansion_bytes x) psd ps ++ rest) c long s.widths

    abbrev at : ℕ
    at = first_piece m.width (expansion_bytes x) psd ps

    abbrev ls : List ℕ
    ls = locators_of m.width (expansion_bytes x) psd ps

    y : List ℕ
    y = front ++ (contents register m.width (expansion_bytes x) psd ps ++ rest)

    same : sent ≡ y
    unfolding y
    same = split

    fits : (k : ℕ) → k < length ps → get_or ls k 0 < roof m.width
    unfolding y
    fits k h = let b = locators-below register m.width front (expansion_bytes x) psd rest ps fourteen k h in let l = s.short in let e = ap length split in omega (arith, b, l, e)

    piece-in : (k : ℕ) → k < length ps → PieceRead register m.width c y k (get_or ps k [])
    unfolding y
    piece-in k h =
        let b = pieces-back register m.width front (expansion_bytes x) psd rest ps fourteen c s.la fits k h in
        let l = locators-back register m.width front (expansion_bytes x) psd rest ps fourteen k h (fits k h) in
        record { size = b.size; bytes = b.bytes; ends = b.ends; crc = b.crc }

    long-enough : at ≤ length y
    unfolding y
    long-enough = let w = written-length register m.width front (expansion_bytes x) psd rest ps fourteen in omega (arith, w)

    after : after_locators m.width c ≡ 14 + locator_size m.width (length ps)
    after = ap (λ (n : ℕ). 14 + locator_size m.width n) s.count

    la-right : wrong_la m.width c y ≡ false
    la-right =
        let e = s.la in
        let a : ltb (c.la + 1) (after_locators m.width c) ≡ false = le-ltb (c.la + 1) (after_locators m.width c) (omega (arith, e, after)) in
        let b : leb (length y) c.la ≡ false = lt-leb (length y) c.la (omega (arith, e, long-enough)) in
        rw (a, b)

    -- the expansion
    expansion-read : (b : Bool) → ltb 0 (length (expansion_bytes x)) ≡ b
        → (cond b (expansion_length y (after_locators m.width c) c.la) 0 ≡ length (expansion_bytes x)) × (cond b (expansion_at y (after_locators m.width c) c.la) (nothing true) ≡ interpreted_of x)
    unfolding y
    expansion-read true e =
        let stands : take (length (expansion_bytes x)) (drop (after_locators m.width c) y) ≡ expansion_bytes x = rw after (expansion-back register m.width front (expansion_bytes x) psd rest ps fourteen) in
        let q = s.la in
        expansion-law y (after_locators m.width c) c.la x s.fields (ltb-true 0 (length (expansion_bytes x)) e) stands (omega (arith, q, after))
    expansion-read false e =
        let z : length (expansion_bytes x) ≡ 0 = let h = ltb-false 0 (length (expansion_bytes x)) e in omega arith in
        (sym z, sym (none-sent x z))

    read_count : expansion_count m.width c y ≡ length (expansion_bytes x)
    read_count = ap (λ (b : Bool). cond b (expansion_length y (after_locators m.width c) c.la) 0) s.flag ∙ (expansion-read (ltb 0 (length (expansion_bytes x))) refl).0

    read-fields : fields_of m.width c y ≡ interpreted_of x
    read-fields = ap (λ (b : Bool). cond b (expansion_at y (after_locators m.width c) c.la) (nothing true)) s.flag ∙ (expansion-read (ltb 0 (length (expansion_bytes x))) refl).1

    read-psd : psd_of m.width c y ≡ record { start = 14 + locator_size m.width (length ps) + length (expansion_bytes x); length = length psd }
    read-psd =
        let q = s.la in
        let n : c.la + 1 - (14 + locator_size m.width (length ps) + length (expansion_bytes x)) ≡ length psd = omega (arith, q) in
        rw (read_count, after, n)

    -- no locator is wrong
    locator-right : (k : ℕ) → k < length ps → wrong_locator m.width c y k ≡ false
    unfolding y wrong_locator
    locator-right k h =
        let p = piece-in k h in
        let b = s.bytes k h in
        let e = p.ends in
        let z = p.size in
        let l = locators-back register m.width front (expansion_bytes x) psd rest ps fourteen k h (fits k h) in
        let r = locators-below register m.width front (expansion_bytes x) psd rest ps fourteen k h in
        let u : ltb (locator_at m.width y k) (start_at m.width c y k + 1) ≡ false = le-ltb (locator_at m.width y k) (start_at m.width c y k + 1) (omega (arith, b, e, z)) in
        let v : leb (length y) (locator_at m.width y k) ≡ false = lt-leb (length y) (locator_at m.width y k) (omega (arith, l, r)) in
        rw (u, v)

    none_below : (n : ℕ) → n ≤ length ps → any_below n (wrong_locator m.width c y) ≡ false
    unfolding any_below
    none_below zero h = refl
    none_below (suc n) h = rw (none_below n (omega arith), locator-right n (omega arith))

    -- the last piece's end is below the length
    end_below : (n : ℕ) → n ≤ length ps → mark_at m.width c y n < length y
    unfolding y
    end_below zero h = let q = s.la in let l = long-enough in omega (arith, q, l)
    end_below (suc k) h =
        let l = locators-back register m.width front (expansion_bytes x) psd rest ps fourteen k (omega arith) (fits k (omega arith)) in
        let r = locators-below register m.width front (expansion_bytes x) psd rest ps fourteen k (omega arith) in
        omega (arith, l, r)

    displacement-right : wrong_displacement m.width c y (fields_of m.width c y) ≡ false
    displacement-right = rw read-fields (go (interpreted_of x).displaced refl)
      where
        go : (b : Bool) → (interpreted_of x).displaced ≡ b → (b && (ltb (interpreted_of x).displacement (mark_at m.width c y c.nop) || leb (length y) (interpreted_of x).displacement)) ≡ false
        go false e = refl
        go true e =
            let d = s.displaced e in
            let n = ap length same in
            let h = end_below c.nop (omega (arith, s.count)) in
            let u : ltb (interpreted_of x).displacement (mark_at m.width c y c.nop) ≡ false = le-ltb (interpreted_of x).displacement (mark_at m.width c y c.nop) (omega (arith, d, n, h)) in
            let v : leb (length y) (interpreted_of x).displacement ≡ false = lt-leb (length y) (interpreted_of x).displacement (omega (arith, d, n)) in
            rw (u, v)

    flags-right : wrong_flags c ≡ false
    flags-right = go (eqb c.nop 0) refl
      where
        go : (b : Bool) → eqb c.nop 0 ≡ b → ((b && c.pfirst) || (b && c.plast)) ≡ false
        go false e = refl
        go true e = let n = s.none (sym s.count ∙ eqb-true c.nop 0 e) in rw (n.0, n.1)

    -- no row of the table applies
    none-applies : first_of (reader_tests m c y) ≡ 0
    none-applies =
        let q : leb m.sequences c.sequence ≡ false = lt-leb m.sequences c.sequence s.sequence in
        let r : not (fields_of m.width c y).right ≡ false = ap (λ (i : Interpreted). not i.right) read-fields in
        let a : any_below c.nop (wrong_locator m.width c y) ≡ false = none_below c.nop (omega (arith, s.count)) in
        rw (q, flags-right, la-right, r, a, displacement-right)

    -- the PDU is accepted, and this is its answer
    pub accepted-back : judged sent ≡ 0
    unfolding judged
    accepted-back =
        let l : listing_of c ≡ Listed m = s.listed in
        let t : first_of (corrected_tests c y) ≡ 0 = ap (λ (i : Listing). first_of ((not (eqb (listing_number i) 0), 5) ∷ reader_tests (mode_in i) c y)) l ∙ none-applies in
        ap₂ (λ (d : ControlWord) (r : List ℕ). first_of (corrected_tests d r)) control-back same ∙ t

    pub fields_back : fields_of m.width c sent ≡ interpreted_of x
    fields_back = ap (fields_of m.width c) same ∙ read-fields

    pub psd-place : psd_of m.width c sent ≡ record { start = 14 + locator_size m.width (length ps) + length (expansion_bytes x); length = length psd }
    psd-place = ap (psd_of m.width c) same ∙ read-psd

    pub psd-bytes : take (length psd) (drop (14 + locator_size m.width (length ps) + length (expansion_bytes x)) sent) ≡ psd
    psd-bytes = ap (λ (r : List ℕ). take (length psd) (drop (14 + locator_size m.width (length ps) + length (expansion_bytes x)) r)) split ∙ psd-back register m.width front (expansion_bytes x) psd rest ps fourteen

    pub pieces-read : (k : ℕ) → k < length ps → PieceRead register m.width c sent k (get_or ps k [])
    pieces-read k h = subst (λ (r : List ℕ). PieceRead register m.width c r k (get_or ps k [])) (sym same) (piece-in k h)

    pub width_back : width_of sent ≡ m.width
    unfolding width_of
    width_back = ap (λ (d : ControlWord). (mode_in (listing_of d)).width) control-back ∙ ap (λ (i : Listing). (mode_in i).width) s.listed

-- the answer for a PDU that is accepted, and what is left of it
pub read-accepted : (q p : List ℕ) (width : ℕ) (c : ControlWord) → read_number q ≡ 0 → corrected_pdu q ≡ p → width_of p ≡ width → control_at p ≡ c
    → (read_pdu q ≡ p) × (reading_of q ≡ accepted width c p)
unfolding read_pdu reading_by
read-accepted q p width c z e d o =
    let t : eqb (read_number q) 0 ≡ true = eq-eqb (read_number q) 0 z in (
      ap (λ (b : Bool). cond b (corrected_pdu q) q) t ∙ e,
      ap (λ (b : Bool). cond b (accepted (width_of (corrected_pdu q)) (control_at (corrected_pdu q)) (corrected_pdu q)) (refused (read_number q) (wrong_of (corrected_pdu q) (read_number q)))) t
          ∙ ap (λ (r : List ℕ). accepted (width_of r) (control_at r) r) e
          ∙ ap₂ (λ (i : ℕ) (j : ControlWord). accepted i j p) d o,
    )

-- the parts of an answer
pub answer-fields : (width : ℕ) (c : ControlWord) (p : List ℕ) (x : Fields) → fields_of width c p ≡ interpreted_of x → (accepted width c p).fields ≡ answered (interpreted_of x)
unfolding accepted
answer-fields width c p x e = ap answered e

pub answer-psd : (width : ℕ) (c : ControlWord) (p : List ℕ) (place : Part) → psd_of width c p ≡ place → (accepted width c p).psd ≡ place
unfolding accepted
answer-psd width c p place e = e
