-- The lowest number that applies, row by row.
use mathlib.Core.Path.{◌≡◌, refl, sym, ap, ap₂, ◌∙◌}
use mathlib.Core.Bool.{Bool, true, false, not, ◌&&◌, ◌||◌, cond, true≢false}
use mathlib.Core.List.{List, [], ◌∷◌, ◌++◌}
use mathlib.Core.Option.{Option, none, some}
use Prim.Native.Nat.{ℕ, ◌<◌, ◌≤◌}
use native.Mathlib.Omega.{arith}
use lib.Dec.{eqb, ltb, leb}
use lib.ListN.{length, get_or, take}
use borrow.Author.Tests.{eqb-true, leb-false, ltb-false, eq-eqb, lt-ltb, le-ltb}
use Rattle.refusal.specs.Refusal.{first_of, any_of}
use Rattle.refusal.proofs.Rows.{past, row-off, none-at}
use Rattle.modes.specs.Modes.{listing, listing_number}
use Rattle.modes.specs.declared.Mode.{Mode}
use Rattle.modes.specs.declared.Listing.{Listing}
use Rattle.modes.specs.declared.Listing.TheVariants.{Listed, Refused}
use Rattle.modes.proofs.Lines.{refusal-five}
use Rattle.modes.proofs.Listable.{listable}
use Rattle.header.specs.Header.{length_refusal}
use Rattle.correction.specs.Correction.{answer_for}
use Rattle.correction.specs.Marks.{marks_refusal, corrected_with, correction_with, corrected_pdu_with}
use Rattle.correction.specs.declared.Correction.{Correction}
use Rattle.correction.specs.declared.Correction.TheVariants.{Corrected, Refused as CorrectionRefused}
use Rattle.layout.specs.Control.{control_at}
use Rattle.layout.specs.declared.ControlWord.{ControlWord}
use Rattle.pdu.specs.Reading.{reader_tests, mode_in, listing_of, uncorrectable, width_of}
use Rattle.receiver.specs.Receiving.{come_by, mode_of, wrong_fields, wrong_state, receive_number, last_tests}
use Rattle.receiver.specs.Steps.{Usable, stream_tests, corrected_number}
use Rattle.receiver.specs.declared.Receiver.{Receiver}

-- rows of which one applies: later ones are not looked at
pub first_on : (ts us : List (Bool × ℕ)) → ¬ (first_of ts ≡ 0) → first_of (ts ++ us) ≡ first_of ts
first_on [] us z = absurd (z refl)
first_on ((true, n) ∷ ts) us z = refl
first_on ((false, n) ∷ ts) us z = first_on ts us z

pub both-on : (a b : Bool) → not (a && b) ≡ false → (a ≡ true) × (b ≡ true)
both-on true true e = (refl, refl)
both-on true false e = absurd (true≢false e)
both-on false b e = absurd (true≢false e)

-- ---- rows 5 and 6

-- what is asked of the listing of a PDU's mode and stream, and of whether these are those opened
abbrev stream_rows : Listing → Bool → ℕ
stream_rows l same = first_of ((not (eqb (listing_number l) 0), 5) ∷ (not same, 6) ∷ [])

module _ (r : Receiver) (c : ControlWord) where
  pub stream-listed : (l : Listing) (m : Mode) → l ≡ listing c.mode c.stream → l ≡ Listed m
      → first_of (stream_tests r c) ≡ cond (not (eqb c.mode r.mode && eqb c.stream r.stream)) 6 0
  stream-listed l m e q = ap (λ (x : Listing). stream_rows x (eqb c.mode r.mode && eqb c.stream r.stream)) (sym e ∙ q)

  pub stream-refused : (l : Listing) (n : ℕ) → l ≡ listing c.mode c.stream → l ≡ Refused n → n ≡ first_of (stream_tests r c)
  stream-refused l n e q =
      let f : n ≡ 5 = refusal-five c.mode c.stream n (sym e ∙ q) in
      f ∙ sym (ap (λ (x : Listing). stream_rows x (eqb c.mode r.mode && eqb c.stream r.stream)) (sym e ∙ q ∙ ap Refused f))

  -- where 6 does not apply, the PDU's line of the table is the receiver's
  pub same-listing : not (eqb c.mode r.mode && eqb c.stream r.stream) ≡ false → listing_of c ≡ listing r.mode r.stream
  same-listing e =
      let h = both-on (eqb c.mode r.mode) (eqb c.stream r.stream) e in
      ap₂ listing (eqb-true c.mode r.mode h.0) (eqb-true c.stream r.stream h.1)

-- ---- rows 5 to 13, and 27, of a corrected PDU

module _ (m : Mode) (r : Receiver) (carry y log : List ℕ) (c : ControlWord) (ec : c ≡ control_at y) where
  -- rows 13 and 27
  abbrev room : List (Bool × ℕ)
  room = last_tests m.sequences (come_by r.register m.width c y) r carry log

  -- rows 7 to 13, and 27, for a line of the table
  abbrev later : Listing → List (Bool × ℕ)
  later l = reader_tests (mode_in l) c y ++ room

  all-rows : corrected_number m r carry y log ≡ first_of (stream_tests r c ++ later (listing_of c))
  unfolding corrected_number
  all-rows = rw ec refl

  pub at-stream : (n : ℕ) → n ≡ first_of (stream_tests r c) → (n ≡ 0 → ⊥) → corrected_number m r carry y log ≡ n
  at-stream n e z = all-rows ∙ first_on (stream_tests r c) (later (listing_of c)) (λ q. z (e ∙ q)) ∙ sym e

  module _ (l : listing r.mode r.stream ≡ Listed m) (s : first_of (stream_tests r c) ≡ 0) where
    same_line : listing_of c ≡ Listed m
    same_line = same-listing r c (row-off (stream_tests r c) 1 refl s) ∙ l

    pub same_width : width_of y ≡ m.width
    unfolding width_of
    same_width = ap (λ (d : ControlWord). (mode_in (listing_of d)).width) (sym ec) ∙ ap (λ (x : Listing). (mode_in x).width) same_line

    later_rows : corrected_number m r carry y log ≡ first_of (reader_tests m c y ++ room)
    later_rows = all-rows ∙ past (stream_tests r c) (later (listing_of c)) refl s ∙ ap (λ (x : Listing). first_of (later x)) same_line

    pub at-reader : (n : ℕ) → n ≡ first_of (reader_tests m c y) → (n ≡ 0 → ⊥) → corrected_number m r carry y log ≡ n
    at-reader n e z = later_rows ∙ first_on (reader_tests m c y) room (λ q. z (e ∙ q)) ∙ sym e

    pub at-log : first_of (reader_tests m c y) ≡ 0 → corrected_number m r carry y log ≡ first_of room
    at-log e = later_rows ∙ past (reader_tests m c y) room refl e

-- ---- rows 3, 19 and 4 are correction's numbers

module _ (marks p : List ℕ) (x : ℕ) where
  abbrev length_rows : Bool → Bool → Option (List ℕ) → ℕ
  length_rows b m o = cond (not b) 3 (cond (not m) 19 (cond (uncorrectable o) 4 x))

  abbrev correction_rows : ℕ
  correction_rows = length_rows (leb 96 (length p) && leb (length p) 20480) (eqb (marks_refusal marks) 0) (corrected_with marks (take 96 p))

  abbrev answer : Bool → Bool → Option (List ℕ) → Correction
  answer b m o = cond (eqb (cond b 0 3) 0) (cond m (answer_for (take 96 p) o) (CorrectionRefused 19)) (CorrectionRefused 3)

  rows-corrected : (n : ℕ) → correction_with marks p ≡ Corrected n → correction_rows ≡ x
  unfolding correction_with length_refusal
  rows-corrected n = go (leb 96 (length p) && leb (length p) 20480) (eqb (marks_refusal marks) 0) (corrected_with marks (take 96 p))
    where
      go : (b m : Bool) (o : Option (List ℕ)) → answer b m o ≡ Corrected n → length_rows b m o ≡ x
      go true true (some c) e = refl
      go true true none e = let z : ◌≡◌ {A = ℕ} 0 1 = cc in absurd (omega arith)
      go true false o e = let z : ◌≡◌ {A = ℕ} 0 1 = cc in absurd (omega arith)
      go false m o e = let z : ◌≡◌ {A = ℕ} 0 1 = cc in absurd (omega arith)

  rows-refused : (n : ℕ) → correction_with marks p ≡ CorrectionRefused n → (correction_rows ≡ n) × (¬ (n ≡ 0)) × (¬ (n ≡ 11))
  unfolding correction_with length_refusal
  rows-refused n = go (leb 96 (length p) && leb (length p) 20480) (eqb (marks_refusal marks) 0) (corrected_with marks (take 96 p))
    where
      go : (b m : Bool) (o : Option (List ℕ)) → answer b m o ≡ CorrectionRefused n → (length_rows b m o ≡ n) × (¬ (n ≡ 0)) × (¬ (n ≡ 11))
      go true true (some c) e = let z : ◌≡◌ {A = ℕ} 0 1 = cc in absurd (omega arith)
      go true true none e = let q : 4 ≡ n = cc in (q, (λ z. omega arith), (λ z. omega arith))
      go true false o e = let q : 19 ≡ n = cc in (q, (λ z. omega arith), (λ z. omega arith))
      go false m o e = let q : 3 ≡ n = cc in (q, (λ z. omega arith), (λ z. omega arith))

-- ---- row 1

pub three-or : (a b c d : Bool) → ((a || (b || c)) || d) ≡ (a || (b || (c || d)))
three-or true b c d = refl
three-or false true c d = refl
three-or false false c d = refl

module _ (r : Receiver) where
  pub state-listed : (m : Mode) → listing r.mode r.stream ≡ Listed m → any_of (wrong_state r) ≡ any_of (wrong_fields m r)
  state-listed m e = ap (λ (l : Listing). any_of (not (eqb (listing_number l) 0) ∷ wrong_fields (mode_in l) r)) e

  pub state-unlisted : (n : ℕ) → listing r.mode r.stream ≡ Refused n → any_of (wrong_state r) ≡ true
  state-unlisted n e =
      let f : n ≡ 5 = refusal-five r.mode r.stream n e in
      ap (λ (l : Listing). any_of (not (eqb (listing_number l) 0) ∷ wrong_fields (mode_in l) r)) (e ∙ ap Refused f)

  pub number-held : (held number : ℕ) → (eqb held 0 && not (eqb number 0)) ≡ false → held ≡ 0 → number ≡ 0
  number-held held number e z = eqb-true number 0 (go (eqb number 0) (rw t at e))
    where
      t : eqb held 0 ≡ true
      t = eq-eqb held 0 z

      go : (b : Bool) → (true && not b) ≡ false → b ≡ true
      go true h = refl
      go false h = absurd (true≢false h)

  none-known : (known : Bool) (value : ℕ) → (not known && not (eqb value 0)) ≡ false → known ≡ false → value ≡ 0
  none-known known value e z = eqb-true value 0 (go (eqb value 0) (rw z at e))
    where
      go : (b : Bool) → (true && not b) ≡ false → b ≡ true
      go true h = refl
      go false h = absurd (true≢false h)

  -- a receiver that is not refused
  pub usable : (m : Mode) (carry : List ℕ) → listing r.mode r.stream ≡ Listed m → any_of (wrong_fields m r) ≡ false → 4096 ≤ length carry → Usable r carry
  usable m carry l e h =
      let off : (k : ℕ) → get_or (wrong_fields m r) k false ≡ false = λ k. none-at (wrong_fields m r) k e in
      record {
        sequence = omega (arith, leb-false m.sequences r.sequence (off 0), (listable r.mode r.stream m l).most);
        held = ltb-false 4096 r.held (off 2);
        number = number-held r.held r.number (off 4);
        services = none-known r.serviced r.services (off 6);
        last = ltb-false 63 r.last (off 8);
        room = h;
      }

-- ---- the whole table

module _ (marks carry pdu log : List ℕ) (r : Receiver) where
  table : receive_number marks carry pdu log r
      ≡ cond (any_of (wrong_state r)) 1 (cond (ltb (length carry) 4096) 2 (correction_rows marks pdu (corrected_number (mode_of r) r carry (corrected_pdu_with marks pdu) log)))
  unfolding receive_number corrected_number
  table = refl

  pub at-state : any_of (wrong_state r) ≡ true → receive_number marks carry pdu log r ≡ 1
  at-state t = table ∙ rw t

  module _ (s : any_of (wrong_state r) ≡ false) where
    pub at-carry : length carry < 4096 → receive_number marks carry pdu log r ≡ 2
    at-carry h = let t : ltb (length carry) 4096 ≡ true = lt-ltb (length carry) 4096 h in table ∙ rw (s, t)

    module _ (h : 4096 ≤ length carry) where
      past-carry : receive_number marks carry pdu log r ≡ correction_rows marks pdu (corrected_number (mode_of r) r carry (corrected_pdu_with marks pdu) log)
      past-carry = let t : ltb (length carry) 4096 ≡ false = le-ltb (length carry) 4096 h in table ∙ rw (s, t)

      pub at-correction : (n : ℕ) → correction_with marks pdu ≡ CorrectionRefused n → (receive_number marks carry pdu log r ≡ n) × (¬ (n ≡ 0)) × (¬ (n ≡ 11))
      at-correction n e = let q = rows-refused marks pdu (corrected_number (mode_of r) r carry (corrected_pdu_with marks pdu) log) n e in (past-carry ∙ q.0, q.1, q.2)

      pub at-corrected : (n : ℕ) → correction_with marks pdu ≡ Corrected n → receive_number marks carry pdu log r ≡ corrected_number (mode_of r) r carry (corrected_pdu_with marks pdu) log
      at-corrected n e = past-carry ∙ rows-corrected marks pdu (corrected_number (mode_of r) r carry (corrected_pdu_with marks pdu) log) n e
