-- Two corrected copies that are alike in length and bytes 8 to La: their marks are the same, and once pieces are exchanged the first says what both say together.
use mathlib.Core.Path.{◌≡◌, refl, sym, ap, ap₂, subst, ◌∙◌}
use mathlib.Core.Bool.{Bool, true, false, not, cond}
use mathlib.Core.List.{List, ◌∷◌}
use Prim.Native.Nat.{ℕ, zero, suc, ◌+◌, ◌-◌, ◌<◌, ◌≤◌}
use native.Mathlib.Numerals.{add-one}
use native.Mathlib.Omega.{arith}
use lib.Dec.{eqb}
use lib.ListN.{length, get_or, take, drop, length-take, length-drop}
use lib.Seq.{get_or-take, get_or-drop}
use borrow.Author.Tests.{eqb-true}
use Rattle.layout.specs.Control.{control_at}
use Rattle.layout.specs.declared.ControlWord.{ControlWord}
use Rattle.layout.specs.Locators.{locator_at}
use Rattle.refusal.specs.Refusal.{first_of}
use Rattle.modes.specs.declared.Mode.{Mode}
use Rattle.pdu.specs.Reading.{after_locators, reader_tests}
use Rattle.pdu.proofs.Assembling.{nop-small}
use Rattle.pdu.proofs.Ignored.{locator-same}
use Rattle.pdu.proofs.Sizes.{sized}
use Rattle.reassembly.specs.Reassembly.{Piece, Said}
use Rattle.reassembly.specs.Run.{place_at, length_by, piece_at, piece_of, pieces_from, Marked, psd_by, Parsed, said_of}
use Rattle.reassembly.specs.declared.Head.{Head}
use Rattle.receiver.specs.Receiving.{piece_in, said_by, label_in}
use Rattle.receiver.specs.Steps.{MarksOf, cause_at, CausesOf, head_of, come_of}
use Rattle.receiver.proofs.Parsing.{all-marked, parsed}
use Rattle.receiver.proofs.Rows.{both-on}
use Rattle.receiver.proofs.Saying.{piece-here, same-said}
use Rattle.packet_log.specs.Log.{same_list}
use Rattle.packet_log.proofs.Same.{same_true}
use Rattle.diversity.specs.Diversity.{pair_piece, pair_pieces, pair_said, pair_come, front_of, differ}
use Rattle.diversity.specs.Steps.{piece_by, pair_cause_at, PairCausesOf, mixed, exchanged}
use Rattle.diversity.proofs.Mixing.{part-first, part-second}
use Rattle.diversity.proofs.Exchanging.{up-to-la, in-piece}

taken-long : (n : ℕ) (l : List ℕ) (j : ℕ) → j < n → j < length l → j < length (take n l)
taken-long n l j a b = rw (length-take n l) (omega arith)

taken-short : (n : ℕ) (l : List ℕ) (j : ℕ) → j < length (take n l) → j < n
taken-short n l j a = let e = length-take n l in omega (arith, e)

-- ---- where row 20 does not apply

module _ (y z : List ℕ) (e : differ y z ≡ false) where
  pub alike-length : length y ≡ length z
  unfolding differ
  alike-length = eqb-true (length y) (length z) (both-on (eqb (length y) (length z)) (same_list (front_of y) (front_of z)) e).0

  front : front_of y ≡ front_of z
  unfolding differ
  front = same_true (front_of y) (front_of z) (both-on (eqb (length y) (length z)) (same_list (front_of y) (front_of z)) e).1

  -- a byte from 8 to La
  from-eight : (j : ℕ) → (control_at y).la < length y → 8 + j < (control_at y).la + 1 → get_or y (8 + j) 0 ≡ get_or z (8 + j) 0
  from-eight j l b =
      let there : j < length (front_of y) = taken-long ((control_at y).la + 1 - 8) (drop 8 y) j (omega arith) (rw (length-drop 8 y) (omega arith)) in
      let both : j < length (front_of z) = subst (λ (f : List ℕ). j < length f) front there in
      sym (get_or-take ((control_at y).la + 1 - 8) (drop 8 y) j 0 (omega arith) ∙ get_or-drop 8 y j 0)
      ∙ ap (λ (f : List ℕ). get_or f j 0) front
      ∙ get_or-take ((control_at z).la + 1 - 8) (drop 8 z) j 0 (taken-short ((control_at z).la + 1 - 8) (drop 8 z) j both)
      ∙ get_or-drop 8 z j 0

  front-byte : (i : ℕ) → (control_at y).la < length y → 8 ≤ i → i < (control_at y).la + 1 → get_or y i 0 ≡ get_or z i 0
  front-byte i l a b = let s : 8 + (i - 8) ≡ i = omega arith in subst (λ (j : ℕ). get_or y j 0 ≡ get_or z j 0) s (from-eight (i - 8) l (omega arith))

  -- the locators are those of both
  pub locators-same : (width : ℕ) (c : ControlWord) → c ≡ control_at y → (control_at y).la < length y → after_locators width c ≤ c.la + 1 → (k : ℕ) → k < c.nop → locator_at width y k ≡ locator_at width z k
  locators-same width c ec l a k h =
      let d : c.la ≡ (control_at y).la = ap (λ (x : ControlWord). x.la) ec in
      locator-same y z width c.nop k h (λ i f g. front-byte i l (omega arith) (omega (arith, d)))

  marks-same : (width : ℕ) (c : ControlWord) (marks : List ℕ) → c ≡ control_at y → (control_at y).la < length y → after_locators width c ≤ c.la + 1 → MarksOf width c y marks → MarksOf width c z marks
  marks-same width c marks ec l a em zero h = em 0 h
  marks-same width c marks ec l a em (suc k) h = em (suc k) h ∙ locators-same width c ec l a k h

-- the same marks in a PDU of the same length
marked-long : (y z marks : List ℕ) (n : ℕ) → length y ≡ length z → Marked y marks n → Marked z marks n
marked-long y z marks n e w = record {
  few = w.few;
  first = subst (λ (m : ℕ). get_or marks 0 0 < m) e w.first;
  rising = w.rising;
  within = λ k h. subst (λ (m : ℕ). get_or marks (k + 1) 0 < m) e (w.within k h);
}

pub parsed-long : (head : Head) (y z marks : List ℕ) → length y ≡ length z → Parsed head y marks → Parsed head z marks
parsed-long head y z marks e p = record { marked = marked-long y z marks head.nop e p.marked; psd = p.psd; size = subst (λ (m : ℕ). m ≤ 20480) e p.size }

-- ---- what the first says once pieces are exchanged

pub pair-bytes : (a b : Piece) → (pair_piece a b).bytes ≡ cond (eqb a.cause 0) a.bytes b.bytes
pair-bytes a b = go (eqb a.cause 0) (eqb b.cause 0) (same_list a.bytes b.bytes)
  where
    go : (u v w : Bool) → (cond u (cond v (cond w a (record { cause = 7; bytes = a.bytes })) a) b).bytes ≡ cond u a.bytes b.bytes
    go true true true = refl
    go true true false = refl
    go true false w = refl
    go false v w = refl

module _ (register width : ℕ) (c : ControlWord) (y z marks causes both : List ℕ) (em : MarksOf width c y marks) (en : MarksOf width c z marks) (w : Marked y marks c.nop)
    (ec : CausesOf register y marks c.nop causes) (eb : PairCausesOf register y z marks c.nop both) (long : length y ≡ length z) where
  abbrev mix : List ℕ
  mix = mixed (exchanged marks causes c.nop) y z

  piece-mixed : (k : ℕ) → k < c.nop → piece_at mix marks k ≡ cond (eqb (cause_at register y marks k) 0) (piece_at y marks k) (piece_at z marks k)
  unfolding piece_at
  piece-mixed k h = go (eqb (cause_at register y marks k) 0) refl
    where
      mask : (i : ℕ) → place_at marks k ≤ i → i < place_at marks k + length_by marks k → exchanged marks causes c.nop i ≡ not (eqb (cause_at register y marks k) 0)
      mask i a b = in-piece y marks c.nop w causes c.nop k i h (omega arith) a (let r = w.rising k h in omega (arith, r)) ∙ ap (λ (n : ℕ). not (eqb n 0)) (ec k h)

      go : (t : Bool) → eqb (cause_at register y marks k) 0 ≡ t → piece_at mix marks k ≡ cond t (piece_at y marks k) (piece_at z marks k)
      go true e = part-first (exchanged marks causes c.nop) (place_at marks k) (length_by marks k) y z (λ i a b. mask i a b ∙ ap not e)
      go false e = part-second (exchanged marks causes c.nop) (place_at marks k) (length_by marks k) y z long (λ i a b. mask i a b ∙ ap not e)

  piece-pair : (k : ℕ) → k < c.nop → piece_of (get_or both k 0) (piece_at mix marks k) ≡ pair_piece (piece_in register width c y k) (piece_in register width c z k)
  unfolding pair_cause_at
  piece-pair k h =
      let f : get_or both k 0 ≡ (pair_piece (piece_by register y marks k) (piece_by register z marks k)).cause = eb k h in
      let g : piece_at mix marks k ≡ (pair_piece (piece_by register y marks k) (piece_by register z marks k)).bytes = piece-mixed k h ∙ sym (pair-bytes (piece_by register y marks k) (piece_by register z marks k)) in
      ap₂ piece_of f g ∙ ap₂ pair_piece (piece-here register width c y marks em k h) (piece-here register width c z marks en k h)

  pieces-pair : (n k : ℕ) → k + n ≤ c.nop → pieces_from mix marks both k n ≡ pair_pieces register width c y z k n
  unfolding pieces_from pair_pieces
  pieces-pair zero k h = refl
  pieces-pair (suc n) k h = ap₂ ◌∷◌ (piece-pair k (omega arith)) (ap (λ (i : ℕ). pieces_from mix marks both i n) (add-one k) ∙ pieces-pair n (suc k) (omega arith))

  psd-mixed : psd_by (head_of width c y) marks mix ≡ psd_by (head_of width c y) marks y
  unfolding psd_by
  psd-mixed =
      part-first (exchanged marks causes c.nop) (head_of width c y).psd (place_at marks 0 - (head_of width c y).psd) y z
      (λ i a b. up-to-la y marks c.nop w causes c.nop i (omega arith) (omega arith))

  said-pair : said_of (head_of width c y) marks both mix ≡ pair_said register width c y z
  unfolding said_of said_by pair_said
  said-pair =
      let p : pieces_from mix marks both 0 c.nop ≡ pair_pieces register width c y z 0 c.nop = pieces-pair c.nop 0 (omega arith) in
      let q = psd-mixed ∙ ap (λ (d : Said). d.psd_bytes) (same-said register width c y marks causes em ec) in
      λ i. record { sequence = c.sequence; pfirst = c.pfirst; plast = c.plast; start = c.start; psd_bytes = q i; pieces = p i; withheld = false }

  come-pair : come_of (head_of width c y) marks both mix ≡ pair_come register width c y z
  unfolding pair_come
  come-pair = λ i. record { said = said-pair i; label = label_in width c y }

-- ---- a corrected PDU y that no row from 7 to 12 turns down, and another that is alike

module _ (m : Mode) (c : ControlWord) (y z : List ℕ) (ec : c ≡ control_at y) (right : first_of (reader_tests m (control_at y) y) ≡ 0) (e : differ y z ≡ false) where
  pub few : c.nop < 64
  few = subst (λ (d : ControlWord). d.nop < 64) (sym ec) (nop-small y)

  right-here : first_of (reader_tests m c y) ≡ 0
  right-here = subst (λ (d : ControlWord). first_of (reader_tests m d y) ≡ 0) (sym ec) right

  module _ (marks : List ℕ) (em : MarksOf m.width c y marks) where
    pub marked-first : Marked y marks c.nop
    marked-first = all-marked m c y few right-here marks em

    pub marked-second : Marked z marks c.nop
    marked-second = marked-long y z marks c.nop (alike-length y z e) marked-first

    marks-second : MarksOf m.width c z marks
    marks-second = let s = sized m c y right-here in marks-same y z e m.width c marks ec (sized m (control_at y) y right).la s.after em

    module _ (head : Head) (eh : head ≡ head_of m.width c y) where
      pub parsed-first : length y ≤ 20480 → Parsed head y marks
      parsed-first size = rw eh (parsed m c y few right-here marks em size)

      pub come-here : (register : ℕ) (causes both : List ℕ) → CausesOf register y marks c.nop causes → PairCausesOf register y z marks c.nop both
          → come_of head marks both (mixed (exchanged marks causes head.nop) y z) ≡ pair_come register m.width (control_at y) y z
      come-here register causes both es eb =
          ap (λ (h : Head). come_of h marks both (mixed (exchanged marks causes h.nop) y z)) eh
          ∙ come-pair register m.width c y z marks causes both em marks-second marked-first es eb (alike-length y z e)
          ∙ ap (λ (d : ControlWord). pair_come register m.width d y z) ec
