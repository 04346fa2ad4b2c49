-- What an accepted PDU of bytes says is within its bounds, alone or as a pair, whoever wrote it.
use mathlib.Core.Path.{◌≡◌, refl, sym, ap, subst}
use mathlib.Core.Bool.{Bool, true, false, not, cond}
use mathlib.Core.List.{List, [], ◌∷◌}
use mathlib.Core.Option.{Option, none, some}
use Prim.Native.Nat.{ℕ, zero, suc, ◌+◌, ◌-◌, ◌*◌, ◌/◌, ◌%◌, ◌<◌, ◌≤◌, min}
use native.Mathlib.Nat.{mod-lt}
use native.Mathlib.Omega.{arith}
use lib.Dec.{eqb, ltb, lit<}
use borrow.Author.Tests.{leb-false}
use lib.ListN.{length, get_or, take, drop, length-take, length-drop}
use lib.Seq.{length-take-le}
use Rattle.algebra.specs.Places.{All}
use Rattle.algebra.proofs.Places.{all_join}
use Rattle.packet_log.proofs.Packets.{Bytes as log_bytes}
use Rattle.refusal.specs.Refusal.{first_of}
use Rattle.refusal.proofs.Rows.{row-off}
use Rattle.modes.specs.declared.Mode.{Mode}
use Rattle.crc.specs.Crc.{crc_from}
use Rattle.layout.specs.Control.{control_at, odd}
use Rattle.layout.specs.declared.ControlWord.{ControlWord}
use Rattle.layout.specs.Locators.{locator_at}
use Rattle.expansion.specs.Expansion.{Field, class, program, ptype, services, known, more_bytes, field_of, before, fields_from, nothing, absorb, absorb_all, interpreted_as, interpretation, expansion_length, septets_at, expansion_at}
use Rattle.expansion.specs.declared.Interpreted.{Interpreted}
use Rattle.correction.specs.Correction.{header_after}
use Rattle.correction.specs.Marks.{marks_refusal, corrected_with, corrected_pdu_with}
use Rattle.correction.proofs.MarkLists.{allowed-marks}
use Rattle.correction.proofs.Marking.{with-within}
use Rattle.correction.proofs.Answers.{corrected-pdu}
use Rattle.pdu.specs.Reading.{after_locators, mark_at, start_at, length_at, psd_of, reader_tests}
use Rattle.pdu.proofs.Assembling.{nop-small}
use Rattle.pdu.proofs.Sizes.{Sized, sized}
use Rattle.reassembly.specs.Reassembly.{Piece}
use Rattle.reassembly.proofs.Fitting.{SanePiece, SanePieces, SaneSaid}
use Rattle.receiver.specs.Receiving.{piece_in, pieces_in, said_by, label_in}
use Rattle.receiver.proofs.Enough.{taken-few}
use Rattle.writer.specs.RoundTrip.{Bytes}
use Rattle.diversity.specs.Diversity.{pair_piece, pair_pieces, pair_said, differ}
use Rattle.diversity.proofs.Alike.{alike-length, locators-same}
use Rattle.packet_log.specs.Log.{same_list}
use Rattle.delivery.proofs.Made.{bytes_of, bytes_drop, bytes_take}
use Rattle.delivery.proofs.Copies.{count-pieces}

-- ---- applied services are of three bits

abbrev Narrow : Field → Type 0
Narrow (class c) = Unit {0}
Narrow (program p d) = Unit {0}
Narrow (ptype a t) = Unit {0}
Narrow (services s m) = s < 8

abbrev NarrowIf : Option (List Field) → Type 0
NarrowIf none = Unit {0}
NarrowIf (some fs) = All Narrow fs

narrow-field : (id b : ℕ) (r : List ℕ) → Narrow (field_of id b r)
narrow-field id b r =
    narrow_one (eqb id 0) (class (b % 16)) _ tt
    (narrow_one (eqb id 1) (program (b / 2 % 8) (cond (odd b) (some (128 * get_or r 0 0 + get_or r 1 0)) none)) _ tt
    (narrow_one (eqb id 2) (ptype (b / 8 % 2) (128 * (b % 2) + get_or r 0 0)) (services (b % 8) (16384 * get_or r 0 0 + 128 * get_or r 1 0 + get_or r 2 0)) tt (mod-lt b (lit< tt))))
  where
    narrow_one : (t : Bool) (f g : Field) → Narrow f → Narrow g → Narrow (cond t f g)
    narrow_one true f g m n = m
    narrow_one false f g m n = n

narrow-before : (f : Field) (o : Option (List Field)) → Narrow f → NarrowIf o → NarrowIf (before f o)
narrow-before f none h n = tt
narrow-before f (some fs) h n = (h, n)

narrow-cond : (t : Bool) (a b : Option (List Field)) → NarrowIf a → NarrowIf b → NarrowIf (cond t a b)
narrow-cond true a b m n = m
narrow-cond false a b m n = n

narrow-fields : (l : List ℕ) (skip next : ℕ) → NarrowIf (fields_from skip next l)
unfolding fields_from
narrow-fields [] zero next = tt
narrow-fields [] (suc skip) next = tt
narrow-fields (b ∷ r) (suc skip) next = narrow-fields r skip next
narrow-fields (b ∷ r) zero next =
    narrow-cond (ltb (b / 16) next) none _ tt
    (narrow-cond (not (known (b / 16) b)) (some []) _ tt
    (narrow-cond (eqb b 0) none _ tt
    (narrow-cond (ltb (length r) (more_bytes (b / 16) b)) none _ tt (narrow-before (field_of (b / 16) b r) (fields_from (more_bytes (b / 16) b) (suc (b / 16)) r) (narrow-field (b / 16) b r) (narrow-fields r (more_bytes (b / 16) b) (suc (b / 16)))))))

narrow-absorbed : (fs : List Field) (v : Interpreted) → v.services < 8 → All Narrow fs → (absorb_all v fs).services < 8
narrow-absorbed [] v h n = h
narrow-absorbed (class c ∷ fs) v h n = narrow-absorbed fs (absorb (class c) v) h n.1
narrow-absorbed (program p none ∷ fs) v h n = narrow-absorbed fs (absorb (program p none) v) h n.1
narrow-absorbed (program p (some d) ∷ fs) v h n = narrow-absorbed fs (absorb (program p (some d)) v) h n.1
narrow-absorbed (ptype a t ∷ fs) v h n = narrow-absorbed fs (absorb (ptype a t) v) h n.1
narrow-absorbed (services s m ∷ fs) v h n = narrow-absorbed fs (absorb (services s m) v) n.0 n.1

narrow-outcome : (o : Option (List Field)) → NarrowIf o → (interpreted_as (nothing true) o).services < 8
narrow-outcome none n = omega arith
narrow-outcome (some fs) n = narrow-absorbed fs (nothing true) (omega arith) n

narrow-expansion : (p : List ℕ) (at la : ℕ) → (expansion_at p at la).services < 8
unfolding expansion_at interpretation
narrow-expansion p at la = go (eqb (expansion_length p at la) 0)
  where
    go : (t : Bool) → (cond t (nothing false) (interpreted_as (nothing true) (fields_from 0 0 (septets_at p at (expansion_length p at la))))).services < 8
    go true = omega arith
    go false = narrow-outcome (fields_from 0 0 (septets_at p at (expansion_length p at la))) (narrow-fields (septets_at p at (expansion_length p at la)) 0 0)

pub narrow-label : (width : ℕ) (c : ControlWord) (y : List ℕ) → (label_in width c y).services < 8
narrow-label width c y = go c.flag
  where
    go : (t : Bool) → (cond t (expansion_at y (after_locators width c) c.la) (nothing true)).services < 8
    go true = narrow-expansion y (after_locators width c) c.la
    go false = omega arith

-- ---- a corrected PDU is of bytes

pub corrected-bytes : (marks p : List ℕ) → 96 ≤ length p → length p ≤ 20480 → Bytes p → marks_refusal marks ≡ 0 → Bytes (corrected_pdu_with marks p)
corrected-bytes marks p lo hi b ok =
    let w : List ℕ = take 96 p in
    subst Bytes (sym (corrected-pdu marks p lo hi ok)) (all_join (λ x. x < 256) (header_after w (corrected_with marks w)) (drop 96 p) (go (corrected_with marks w) refl) (bytes_drop 96 p b))
  where
    go : (o : Option (List ℕ)) → corrected_with marks (take 96 p) ≡ o → Bytes (header_after (take 96 p) o)
    go none e = bytes_take 96 p b
    go (some c) e = (with-within marks (allowed-marks marks ok).0 (take 96 p) (length-take-le 96 p lo) (bytes_take 96 p b) c e).bytes

-- ---- a corrected PDU that no row from 7 to 12 turns down

small-cause : (t : Bool) → cond t 0 2 < 16384
small-cause true = omega arith
small-cause false = omega arith

-- a piece that ends within its PDU and has a byte or more
piece-in : (register width : ℕ) (c : ControlWord) (y : List ℕ) (k : ℕ) → Bytes y → start_at width c y k + 1 ≤ locator_at width y k → locator_at width y k < length y → SanePiece (piece_in register width c y k)
piece-in register width c y k b past within =
    let here : List ℕ = take (length_at width c y k) (drop (start_at width c y k) y) in
    let a : length here ≡ min (length_at width c y k) (length y - start_at width c y k) = simp (length-take, length-drop) in
    record {
      bytes = bytes_of here (bytes_take (length_at width c y k) (drop (start_at width c y k) y) (bytes_drop (start_at width c y k) y b));
      some = omega (arith, a, past, within);
      cause = small-cause (eqb (crc_from register here) (get_or y (locator_at width y k) 0));
    }

module _ (register : ℕ) (m : Mode) (c : ControlWord) (y : List ℕ) (b : Bytes y) (right : first_of (reader_tests m c y) ≡ 0) where
  parts : Sized m.width c y
  parts = sized m c y right

  sane-pieces : (n k : ℕ) → k + n ≤ c.nop → SanePieces (pieces_in register m.width c y k n)
  unfolding pieces_in
  sane-pieces zero k h = tt
  sane-pieces (suc n) k h = (piece-in register m.width c y k b (parts.past k (omega (arith, h))) (parts.within k (omega (arith, h))), sane-pieces n (suc k) (omega (arith, h)))

  abbrev psd : List ℕ
  psd = take (psd_of m.width c y).length (drop (psd_of m.width c y).start y)

  sane-psd : length y ≤ 20480 → (length psd < 65536) × log_bytes psd
  sane-psd size =
      let t = taken-few (psd_of m.width c y).length (psd_of m.width c y).start y in
      let l = parts.la in
      (omega (arith, t, l, size), bytes_of psd (bytes_take (psd_of m.width c y).length (drop (psd_of m.width c y).start y) (bytes_drop (psd_of m.width c y).start y b)))

  pub sane-said : length y ≤ 20480 → c.nop < 64 → SaneSaid (said_by register m.width c y)
  unfolding said_by
  sane-said size few = record {
    psd = sane-psd size;
    pieces = sane-pieces c.nop 0 (omega arith);
    few = (let e = count-pieces register m.width c y 0 c.nop in omega (arith, e, few));
  }

  pub below-range : c.sequence < m.sequences
  below-range = leb-false m.sequences c.sequence (row-off (reader_tests m c y) 0 refl right)

-- ---- two such that are alike

sane-both : (a b : Piece) → SanePiece a → SanePiece b → SanePiece (pair_piece a b)
sane-both a b h k = go (eqb a.cause 0) (eqb b.cause 0) (same_list a.bytes b.bytes)
  where
    go : (t u v : Bool) → SanePiece (cond t (cond u (cond v a (record { cause = 7; bytes = a.bytes })) a) b)
    go true true true = h
    go true true false = record { bytes = h.bytes; some = h.some; cause = omega arith }
    go true false v = h
    go false u v = k

module _ (register : ℕ) (m : Mode) (y z : List ℕ) (by : Bytes y) (bz : Bytes z) (right : first_of (reader_tests m (control_at y) y) ≡ 0) (alike : differ y z ≡ false) where
  abbrev word : ControlWord
  word = control_at y

  first : Sized m.width word y
  first = sized m word y right

  locators : (k : ℕ) → k < word.nop → locator_at m.width y k ≡ locator_at m.width z k
  locators = locators-same y z alike m.width word refl first.la first.after

  marks : (k : ℕ) → k < word.nop → mark_at m.width word z k ≡ mark_at m.width word y k
  marks zero h = refl
  marks (suc k) h = sym (locators k (omega (arith, h)))

  second-piece : (k : ℕ) → k < word.nop → SanePiece (piece_in register m.width word z k)
  second-piece k h =
      let e = locators k h in
      let f = marks k h in
      let p = first.past k h in
      let w = first.within k h in
      let l = alike-length y z alike in
      piece-in register m.width word z k bz (omega (arith, e, f, p)) (omega (arith, e, w, l))

  sane-pairs : (n k : ℕ) → k + n ≤ word.nop → SanePieces (pair_pieces register m.width word y z k n)
  unfolding pair_pieces
  sane-pairs zero k h = tt
  sane-pairs (suc n) k h = (
    sane-both (piece_in register m.width word y k) (piece_in register m.width word z k) (piece-in register m.width word y k by (first.past k (omega (arith, h))) (first.within k (omega (arith, h)))) (second-piece k (omega (arith, h))),
    sane-pairs n (suc k) (omega (arith, h)),
  )

  count-pairs : (n k : ℕ) → length (pair_pieces register m.width word y z k n) ≡ n
  unfolding pair_pieces
  count-pairs zero k = refl
  count-pairs (suc n) k = ap suc (count-pairs n (suc k))

  pub sane-pair : length y ≤ 20480 → SaneSaid (pair_said register m.width word y z)
  unfolding said_by pair_said
  sane-pair size = record {
    psd = sane-psd register m word y by right size;
    pieces = sane-pairs word.nop 0 (omega arith);
    few = (let e = count-pairs word.nop 0 in let n = nop-small y in omega (arith, e, n));
  }
