-- A copy of a PDU, read by a receiver, says what the PDU says, with a wrong CRC for each piece that is not sound.
use mathlib.Core.Path.{◌≡◌, refl, sym, ap, ap₂, subst, ◌∙◌, fun_ext}
use mathlib.Core.Bool.{Bool, true, false, ◌&&◌, cond}
use mathlib.Core.List.{List, [], ◌∷◌}
use Prim.Native.Nat.{ℕ, zero, suc, ◌+◌, ◌-◌, ◌<◌, ◌≤◌, min}
use native.Mathlib.Omega.{arith}
use native.Mathlib.Nat.{zero-add}
use native.Mathlib.Decide.{dec_le}
use lib.Dec.{eqb, ltb, leb}
use borrow.Author.Tests.{eq-eqb, ne_eqb, le-leb, ltb-false}
use lib.ListN.{length, get_or, take, drop, length-take, length-drop, length-append}
use lib.Seq.{take-take, get_or-take, length-take-le}
use Rattle.algebra.proofs.Places.{all_join}
use Rattle.packet_log.proofs.Packets.{Bytes as log_bytes}
use Rattle.refusal.proofs.Rows.{row-off, none-at}
use Rattle.crc.specs.Crc.{crc_from}
use Rattle.burst.proofs.Found.{burst-found}
use Rattle.header.specs.Header.{is_code_word}
use Rattle.header.proofs.Unique.{all-bytes, all_take, all_drop}
use Rattle.layout.specs.Control.{control_at}
use Rattle.layout.specs.declared.ControlWord.{ControlWord}
use Rattle.layout.specs.Locators.{locator_at}
use Rattle.correction.specs.Marks.{Within, corrected_with, corrected_pdu_with}
use Rattle.correction.proofs.MarkLists.{allowed-marks}
use Rattle.correction.proofs.Marking.{with-some}
use Rattle.correction.proofs.Theorem.{corrects-with}
use Rattle.expansion.specs.Expansion.{chain_length, expansion_length}
use Rattle.pdu.specs.Reading.{after_locators, expansion_count, mark_at, start_at, length_at, psd_of, wrong_la, fields_of, corrected_tests, listing_of, mode_in, answered, accepted, judged, width_of, uncorrectable}
use Rattle.pdu.specs.declared.ExpansionFields.{ExpansionFields}
use Rattle.pdu.specs.declared.Reading.{Reading}
use Rattle.pdu.proofs.Ignored.{control-same, locator-same, reserved-ignored}
use Rattle.reassembly.specs.Reassembly.{Piece, Said}
use Rattle.reassembly.proofs.Fitting.{SanePiece, SanePieces, SaneSaid}
use Rattle.reassembly.proofs.Blind.{blank, blanks, blank_said}
use Rattle.receiver.specs.Receiving.{piece_in, pieces_in, said_by, label_in}
use Rattle.runs.proofs.Model.{later, read_pieces}
use Rattle.writer.specs.RoundTrip.{Bytes}
use Rattle.delivery.proofs.Made.{bytes_of, bytes_drop, bytes_take}
use Rattle.delivery.specs.Delivery.{Correctable}
use Rattle.delivery.specs.Copies.{front_length, restored, bytes_at, crc_at}
use Rattle.delivery.proofs.SoundSteps.{PieceDamage, wrong, burst, Copy, causes_for}

-- ---- bytes that agree up to a place

slice : (at n m : ℕ) (l : List ℕ) → at + n ≤ m → take n (drop at (take m l)) ≡ take n (drop at l)
slice zero n m l h = take-take n m l (omega arith)
slice (suc at) n zero l h = absurd (omega arith)
slice (suc at) n (suc m) [] h = refl
slice (suc at) n (suc m) (b ∷ l) h = slice at n m l (omega arith)

pub same-slice : (at m : ℕ) (y z : List ℕ) → take m y ≡ take m z → take (m - at) (drop at y) ≡ take (m - at) (drop at z)
same-slice at m y z e = sym (part y) ∙ ap (λ (l : List ℕ). take (m - at) (drop at l)) e ∙ part z
  where
    by : (l : List ℕ) → Dec (at ≤ m) → take (m - at) (drop at (take m l)) ≡ take (m - at) (drop at l)
    by l (yes h) = slice at (m - at) m l (omega arith)
    by l (no h) = let z : m - at ≡ 0 = omega arith in rw z

    part : (l : List ℕ) → take (m - at) (drop at (take m l)) ≡ take (m - at) (drop at l)
    part l = by l (dec_le at m)

-- lists that agree up to a place agree up to one before it
agree-before : (n m : ℕ) (y z : List ℕ) → n ≤ m → take m y ≡ take m z → take n y ≡ take n z
agree-before n m y z h e = sym (take-take n m y h) ∙ ap (take n) e ∙ take-take n m z h

-- ---- pieces that are struck

-- a wrong CRC where a piece is not sound
unfoldable pub struck : (ℕ → Bool) → List Piece → List Piece
struck s [] = []
struck s (p ∷ ps) = record { cause = cond (s 0) p.cause 2; bytes = p.bytes } ∷ struck (later s) ps

pub struck-read : (s : ℕ → Bool) (bs : List (List ℕ)) → struck s (read_pieces (λ k. 0) bs) ≡ read_pieces (causes_for s) bs
unfolding struck read_pieces
struck-read s [] = refl
struck-read s (b ∷ bs) = ap (λ (l : List Piece). record { cause = cond (s 0) 0 2; bytes = b } ∷ l) (struck-read (later s) bs)

-- two pieces with a wrong CRC
pub blank-two : (a : Piece) (bytes : List ℕ) → a.cause ≡ 2 → blank a ≡ blank (record { cause = 2; bytes = bytes })
blank-two a bytes e = ap {B = Piece} (λ (n : ℕ). record { cause = n; bytes = cond (eqb n 0) a.bytes [] }) e

abbrev pub stricken : (ℕ → Bool) → Said → Said
stricken s d = record { sequence = d.sequence; pfirst = d.pfirst; plast = d.plast; start = d.start; psd_bytes = d.psd_bytes; pieces = struck s d.pieces; withheld = d.withheld }

small : (b : Bool) → cond b 0 2 < 16384
small true = omega arith
small false = omega arith

as_long : (n at : ℕ) (y p : List ℕ) → length y ≡ length p → 1 ≤ length (take n (drop at p)) → 1 ≤ length (take n (drop at y))
as_long n at y p e h =
    let a : length (take n (drop at p)) ≡ min n (length p - at) = simp (length-take, length-drop) in
    let b : length (take n (drop at y)) ≡ min n (length y - at) = simp (length-take, length-drop) in
    omega (arith, a, b, e, h)

pub count-pieces : (register width : ℕ) (c : ControlWord) (y : List ℕ) (k n : ℕ) → length (pieces_in register width c y k n) ≡ n
unfolding pieces_in
count-pieces register width c y k zero = refl
count-pieces register width c y k (suc n) = ap suc (count-pieces register width c y (suc k) n)

-- ---- a PDU as it was written

pub record Plain (register width : ℕ) (p : List ℕ) : Type 0 where
  pub code : is_code_word (take 96 p) ≡ true
  pub least : 96 ≤ length p
  pub most : length p ≤ 20480
  pub bytes : Bytes p
  pub accepted : judged p ≡ 0
  pub wide : width_of p ≡ width
  pub right : (k : ℕ) → k < (control_at p).nop → crc_from register (bytes_at width p p k) ≡ crc_at width p p k

-- its header is found again where it is altered and marked within the bound
module _ (p marks q : List ℕ) (code : is_code_word (take 96 p) ≡ true) (least : 96 ≤ length p) (most : length p ≤ 20480) (bytes : Bytes p) (x : Correctable marks p q) where
  low : 96 ≤ length q
  low = let e = x.long in omega (arith, e, least)

  high : length q ≤ 20480
  high = let e = x.long in omega (arith, e, most)

  within : Within marks (take 96 q) (take 96 p)
  within = record {
    right = code;
    close = (let f = x.few in omega (arith, f));
    long = length-take-le 96 p least ∙ sym (length-take-le 96 q low);
    bytes = all_take 96 p (all-bytes p bytes);
  }

  pub corrected-back : corrected_pdu_with marks q ≡ restored p q
  corrected-back = (corrects-with q low high (all-bytes q x.bytes) marks x.allowed).header (take 96 p) within

module _ (register width : ℕ) (p marks q : List ℕ) (sound : ℕ → Bool) (w : Plain register width p) (x : Copy register width p marks q sound) where
  abbrev c : ControlWord
  c = control_at p

  abbrev y : List ℕ
  y = restored p q

  q-low : 96 ≤ length q
  q-low = low p marks q w.code w.least w.most w.bytes x.header

  back : corrected_pdu_with marks q ≡ y
  back = corrected-back p marks q w.code w.least w.most w.bytes x.header

  lengths-same : length y ≡ length p
  lengths-same =
      let n : length (take 96 p) ≡ 96 = length-take-le 96 p w.least in
      let d = length-drop 96 q in
      let a = length-append (take 96 p) (drop 96 q) in
      let e = x.header.long in
      let l = w.least in
      omega (arith, n, d, a, e, l)

  -- all agrees up to La
  front : take (c.la + 1) y ≡ take (c.la + 1) p
  front = agree-before (c.la + 1) (front_length p) y p (omega arith) x.front

  row-nine : wrong_la (width_of p) c p ≡ false
  unfolding judged width_of
  row-nine = row-off (corrected_tests (control_at p) p) 3 refl w.accepted

  after-locators : after_locators width c ≤ c.la + 1
  after-locators =
      subst (λ (n : ℕ). after_locators n c ≤ c.la + 1) w.wide
      (ltb-false (c.la + 1) (after_locators (width_of p) c) (none-at (ltb (c.la + 1) (after_locators (width_of p) c) ∷ leb (length p) c.la ∷ []) 0 row-nine))

  judged-is : judged y ≡ 0
  judged-is = sym (reserved-ignored p y (sym lengths-same) (sym (front)) row-nine).0 ∙ w.accepted

  byte : (i : ℕ) → i < c.la + 1 → get_or y i 0 ≡ get_or p i 0
  byte i h = sym (get_or-take (c.la + 1) y i 0 h) ∙ ap (λ (l : List ℕ). get_or l i 0) (front) ∙ get_or-take (c.la + 1) p i 0 h

  control-is : control_at y ≡ c
  control-is = control-same y p (λ i g h. byte i (let a = after-locators in omega (arith, a)))

  locators-are : (k : ℕ) → k < c.nop → locator_at width y k ≡ locator_at width p k
  locators-are k h = locator-same y p width c.nop k h (λ i g l. byte i (let a = after-locators in omega (arith, a)))

  mark-is : (k : ℕ) → k ≤ c.nop → mark_at width c y k ≡ mark_at width c p k
  mark-is zero h = refl
  mark-is (suc k) h = locators-are k h

  start_is : (k : ℕ) → k < c.nop → start_at width c y k ≡ start_at width c p k
  start_is k h = ap (λ (n : ℕ). n + 1) (mark-is k (omega arith))

  length-is : (k : ℕ) → k < c.nop → length_at width c y k ≡ length_at width c p k
  length-is k h = ap₂ (λ (a b : ℕ). a - b) (locators-are k h) (start_is k h)

  -- ---- PSD

  expansion-is : expansion_count width c y ≡ expansion_count width c p
  unfolding expansion_length
  expansion-is = ap (λ (l : List ℕ). cond c.flag (chain_length (take 16 (drop (after_locators width c) l))) 0) (front)

  psd-is : take (psd_of width c y).length (drop (psd_of width c y).start y) ≡ take (psd_of width c p).length (drop (psd_of width c p).start p)
  psd-is =
      ap (λ (n : ℕ). take (c.la + 1 - (after_locators width c + n)) (drop (after_locators width c + n) y)) expansion-is
      ∙ same-slice (after_locators width c + expansion_count width c p) (c.la + 1) y p (front)

  -- ---- pieces

  piece_is : (k : ℕ) → k < c.nop → piece_in register width c y k ≡ record { cause = cond (eqb (crc_from register (bytes_at width p y k)) (crc_at width p y k)) 0 2; bytes = bytes_at width p y k }
  piece_is k h =
      λ i. record {
        cause = cond (eqb (crc_from register (take (length-is k h i) (drop (start_is k h i) y))) (get_or y (locators-are k h i) 0)) 0 2;
        bytes = take (length-is k h i) (drop (start_is k h i) y);
      }

  -- a damaged piece has a wrong CRC
  found-wrong : (k : ℕ) → k < c.nop → PieceDamage register width p y k → ¬ (crc_from register (bytes_at width p y k) ≡ crc_at width p y k)
  found-wrong k h (wrong n) = n
  found-wrong k h (burst b) = burst-found register (crc_at width p p k) (crc_at width p y k) (bytes_at width p p k) (bytes_at width p y k) (w.right k h) b

  -- a sound piece is read as it was written
  pub sound-piece : (k : ℕ) → k < c.nop → sound k ≡ true → piece_in register width c y k ≡ piece_in register width c p k
  sound-piece k h e =
      let s = x.whole k h e in
      piece_is k h ∙ ap₂ (λ (l : List ℕ) (n : ℕ). record { cause = cond (eqb (crc_from register l) n) 0 2; bytes = l }) s.0 s.1

  -- any other is not taken
  pub unsound-piece : (k : ℕ) → k < c.nop → sound k ≡ false → (piece_in register width c y k).cause ≡ 2
  unsound-piece k h e =
      let n : eqb (crc_from register (bytes_at width p y k)) (crc_at width p y k) ≡ false = ne_eqb _ _ (found-wrong k h (x.found k h e)) in
      ap (λ (a : Piece). a.cause) (piece_is k h) ∙ ap (λ (b : Bool). cond b 0 2) n

  piece-blank : (k : ℕ) → k < c.nop → blank (piece_in register width c y k) ≡ blank (record { cause = cond (sound k) (piece_in register width c p k).cause 2; bytes = (piece_in register width c p k).bytes })
  piece-blank k h = go (sound k) refl
    where
      go : (b : Bool) → sound k ≡ b → blank (piece_in register width c y k) ≡ blank (record { cause = cond b (piece_in register width c p k).cause 2; bytes = (piece_in register width c p k).bytes })
      go true e = ap blank (sound-piece k h e)
      go false e = blank-two (piece_in register width c y k) (piece_in register width c p k).bytes (unsound-piece k h e)

  -- pieces struck from piece k on
  pieces-blank : (n k : ℕ) → k + n ≤ c.nop → blanks (pieces_in register width c y k n) ≡ blanks (struck (λ j. sound (k + j)) (pieces_in register width c p k n))
  unfolding pieces_in blanks struck
  pieces-blank zero k h = refl
  pieces-blank (suc n) k h =
      let z : k ≡ k + 0 = omega arith in
      let f : (λ j. sound (suc k + j)) ≡ later (λ j. sound (k + j)) = fun_ext (λ j. let e : suc k + j ≡ k + suc j = omega arith in ap sound e) in
      ap₂ (λ (a : Piece) (l : List Piece). a ∷ l)
      (piece-blank k (omega arith) ∙ ap (λ (i : ℕ). blank (record { cause = cond (sound i) (piece_in register width c p k).cause 2; bytes = (piece_in register width c p k).bytes })) z)
      (pieces-blank n (suc k) (omega arith) ∙ ap (λ (s : ℕ → Bool). blanks (struck s (pieces_in register width c p (suc k) n))) f)

  -- what a receiver takes the copy to say
  said-blank : blank_said (said_by register width (control_at y) y) ≡ blank_said (stricken sound (said_by register width c p))
  unfolding said_by
  said-blank =
      let f : (λ j. sound (0 + j)) ≡ sound = fun_ext (λ j. ap sound (zero-add j)) in
      let e : blanks (pieces_in register width c y 0 c.nop) ≡ blanks (struck sound (pieces_in register width c p 0 c.nop)) = pieces-blank c.nop 0 (omega arith) ∙ ap (λ (s : ℕ → Bool). blanks (struck s (pieces_in register width c p 0 c.nop))) f in
      ap (λ (r : ControlWord). blank_said (said_by register width r y)) control-is
      ∙ (λ i. record { sequence = c.sequence; pfirst = c.pfirst; plast = c.plast; start = c.start; psd_bytes = psd-is i; pieces = e i; withheld = false })

  -- ---- within its bounds

  y-bytes : Bytes y
  y-bytes = all_join (λ n. n < 256) (take 96 p) (drop 96 q) (all_take 96 p (all-bytes p w.bytes)) (all_drop 96 q x.header.bytes)

  pub sane-piece : (k : ℕ) → k < c.nop → SanePiece (piece_in register width c p k) → SanePiece (piece_in register width c y k)
  sane-piece k h s = subst SanePiece (sym (piece_is k h)) (record {
    bytes = bytes_of (bytes_at width p y k) (bytes_take (length_at width c p k) (drop (start_at width c p k) y) (bytes_drop (start_at width c p k) y y-bytes));
    some = as_long (length_at width c p k) (start_at width c p k) y p lengths-same s.some;
    cause = small (eqb (crc_from register (bytes_at width p y k)) (crc_at width p y k));
  })

  sane-pieces : (n k : ℕ) → k + n ≤ c.nop → SanePieces (pieces_in register width c p k n) → SanePieces (pieces_in register width c y k n)
  unfolding pieces_in
  sane-pieces zero k h s = tt
  sane-pieces (suc n) k h s = (sane-piece k (omega arith) s.0, sane-pieces n (suc k) (omega arith) s.1)

  sane-said : SaneSaid (said_by register width c p) → SaneSaid (said_by register width (control_at y) y)
  sane-said s = subst (λ (r : ControlWord). SaneSaid (said_by register width r y)) (sym control-is) (unfold said_by in record {
    psd = subst (λ (l : List ℕ). (length l < 65536) × log_bytes l) (sym psd-is) s.psd;
    pieces = sane-pieces c.nop 0 (omega arith) s.pieces;
    few = (let a = count-pieces register width c y 0 c.nop in let b = count-pieces register width c p 0 c.nop in let f = s.few in omega (arith, a, b, f));
  })

  pub own-right : (k : ℕ) → k < c.nop → (piece_in register width c p k).cause ≡ 0
  own-right k h = let e : eqb (crc_from register (bytes_at width p p k)) (crc_at width p p k) ≡ true = eq-eqb _ _ (w.right k h) in ap (λ (b : Bool). cond b 0 2) e

  -- document 02, Ask 10: the copy's expansion fields, program and applied services among them, are those of p
  fields-is : answered (fields_of width (control_at y) y) ≡ answered (fields_of width c p)
  unfolding accepted width_of
  fields-is =
      let a : accepted (width_of p) c p ≡ accepted (width_of y) (control_at y) y = (reserved-ignored p y (sym lengths-same) (sym (front)) row-nine).1 in
      let e : width_of y ≡ width = ap (λ (k : ControlWord). (mode_in (listing_of k)).width) control-is ∙ w.wide in
      ap (λ (n : ℕ). answered (fields_of n (control_at y) y)) (sym e) ∙ sym (ap (λ (r : Reading). r.fields) a) ∙ ap (λ (n : ℕ). answered (fields_of n c p)) w.wide

  -- the parts of what a copy says
  pub copy-corrected : corrected_pdu_with marks q ≡ y
  copy-corrected = back

  pub copy-long : length (corrected_pdu_with marks q) ≡ length p
  copy-long = ap length back ∙ lengths-same

  pub copy-control-is : control_at y ≡ c
  copy-control-is = control-is

  pub copy-psd : take (psd_of width c y).length (drop (psd_of width c y).start y) ≡ take (psd_of width c p).length (drop (psd_of width c p).start p)
  copy-psd = psd-is

  -- all that a receiver needs of the copy
  pub copy-size : (leb 96 (length q) && leb (length q) 20480) ≡ true
  copy-size = ap₂ ◌&&◌ (le-leb 96 (length q) q-low) (le-leb (length q) 20480 (high p marks q w.code w.least w.most w.bytes x.header))

  pub copy-correctable : uncorrectable (corrected_with marks (take 96 q)) ≡ false
  copy-correctable =
      ap uncorrectable
      (with-some marks (allowed-marks marks x.header.allowed).0 (take 96 q) (length-take-le 96 q q-low) (all_take 96 q (all-bytes q x.header.bytes)) (take 96 p) (within p marks q w.code w.least w.most w.bytes x.header))

  pub copy-reads : judged (corrected_pdu_with marks q) ≡ 0
  copy-reads = ap judged back ∙ judged-is

  pub copy-control : control_at (corrected_pdu_with marks q) ≡ control_at p
  copy-control = ap control_at back ∙ control-is

  pub copy-label : label_in width (control_at (corrected_pdu_with marks q)) (corrected_pdu_with marks q) ≡ label_in width (control_at p) p
  copy-label = ap (λ (z : List ℕ). label_in width (control_at z) z) back ∙ ap (λ (x : ExpansionFields). record { program = x.program; services = x.services }) fields-is

  pub copy-says : blank_said (said_by register width (control_at (corrected_pdu_with marks q)) (corrected_pdu_with marks q)) ≡ blank_said (stricken sound (said_by register width (control_at p) p))
  copy-says = ap (λ (z : List ℕ). blank_said (said_by register width (control_at z) z)) back ∙ said-blank

  pub copy-sane : SaneSaid (said_by register width (control_at p) p) → SaneSaid (said_by register width (control_at (corrected_pdu_with marks q)) (corrected_pdu_with marks q))
  copy-sane s = subst (λ (z : List ℕ). SaneSaid (said_by register width (control_at z) z)) (sym back) (sane-said s)
