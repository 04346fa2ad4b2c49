-- The list of a PDU's pieces: the number that is answered, and what each entry holds.
use mathlib.Core.Path.{◌≡◌, refl, sym, ap, ◌∙◌}
use mathlib.Core.Bool.{Bool, true, false, not, ◌&&◌, cond, true≢false}
use mathlib.Core.List.{List, [], ◌∷◌, ◌++◌, map}
use Prim.Native.Nat.{ℕ, zero, suc, ◌+◌, ◌-◌, ◌<◌, ◌≤◌}
use native.Mathlib.Decide.{ℕ_discrete}
use native.Mathlib.Numerals.{add-one}
use native.Mathlib.Omega.{arith}
use lib.Dec.{eqb, ltb, leb}
use lib.ListN.{length, get_or, take, drop, set, length-map}
use lib.Seq.{take-suc-set}
use borrow.Author.Tests.{lt-ltb, le-ltb, ltb-false, leb-true, ne_eqb}
use Rattle.refusal.specs.Refusal.{first_of}
use Rattle.refusal.proofs.Rows.{past, row-off, row_on, rest-off}
use Rattle.crc.specs.Crc.{crc_from}
use Rattle.header.specs.Header.{header_of, front_replaced}
use Rattle.correction.specs.Correction.{corrected_pdu}
use Rattle.correction.proofs.Answers.{header-put-back}
use Rattle.layout.specs.Control.{control_at}
use Rattle.layout.specs.declared.ControlWord.{ControlWord}
use Rattle.layout.specs.Locators.{locator_at}
use Rattle.pdu.specs.Reading.{start_at, length_at, read_tests, corrected_tests, mode_in, listing_of, filled_from, accepted, refused, judged, width_of, wrong_of, read_number, reading_by, reading_of, read_pdu}
use Rattle.pdu.specs.declared.Reading.{Reading}
use Rattle.pdu.proofs.Assembling.{nop-small}
use Rattle.pdu.proofs.Sizes.{Sized, sized}
use Rattle.pdu.proofs.Lowest.{Lowest, without-eleven, lowest_by}
use Rattle.panel.specs.Panel.{list_tests, list_number, list_reading, listed_pdu, entry_at, entries_from, list_after}
use Rattle.panel.specs.declared.Piece.{Piece}

-- ---- the number

-- where a row applies, later ones are not asked
first-stays : (ts us : List (Bool × ℕ)) → ¬ (first_of ts ≡ 0) → first_of (ts ++ us) ≡ first_of ts
first-stays [] us d = absurd (d refl)
first-stays ((true, k) ∷ ts) us d = refl
first-stays ((false, k) ∷ ts) us d = first-stays ts us d

module _ (p : List ℕ) where
  abbrev y : List ℕ
  y = corrected_pdu p

  abbrev whole : Reading
  whole = accepted (width_of y) (control_at y) y

  number_read : (room : ℕ) → ¬ (read_number p ≡ 0) → list_number p room ≡ read_number p
  unfolding list_number read_number
  number_read room d = first-stays (read_tests p) ((ltb room (control_at y).nop, 13) ∷ []) d

  pub number-room : (room : ℕ) → read_number p ≡ 0 → list_number p room ≡ cond (ltb room (control_at y).nop) 13 0
  unfolding list_number read_number
  number-room room z = past (read_tests p) ((ltb room (control_at y).nop, 13) ∷ []) refl z

  -- ---- what reading without a receiver answered

  module _ (r : Reading) (er : r ≡ reading_of p) where
    read-accepted : read_number p ≡ 0 → r ≡ whole
    unfolding reading_by
    read-accepted z = er ∙ rw z

    read-refused : ¬ (read_number p ≡ 0) → r ≡ refused (read_number p) (wrong_of y (read_number p))
    unfolding reading_by
    read-refused d = let t : eqb (read_number p) 0 ≡ false = ne_eqb (read_number p) 0 d in er ∙ rw t

    nop-accepted : read_number p ≡ 0 → r.control.nop ≡ (control_at y).nop
    unfolding accepted
    nop-accepted z = ap (λ (x : Reading). x.control.nop) (read-accepted z)

    nop-refused : ¬ (read_number p ≡ 0) → r.control.nop ≡ 0
    unfolding refused
    nop-refused d = ap (λ (x : Reading). x.control.nop) (read-refused d)

    -- pieces are there only where it was accepted
    was-accepted : 0 < r.control.nop → read_number p ≡ 0
    was-accepted h = go (ℕ_discrete (read_number p) 0)
      where
        go : Dec (read_number p ≡ 0) → read_number p ≡ 0
        go (yes z) = z
        go (no d) = let n = nop-refused d in absurd (omega arith)

    number_same : (room : ℕ) → r.control.nop ≤ room → list_number p room ≡ read_number p
    number_same room h = go (ℕ_discrete (read_number p) 0)
      where
        go : Dec (read_number p ≡ 0) → list_number p room ≡ read_number p
        go (yes z) =
            let n = nop-accepted z in
            let t : ltb room (control_at y).nop ≡ false = le-ltb room (control_at y).nop (omega arith) in
            number-room room z ∙ rw t (sym z)
        go (no d) = number_read room d

  -- what `read_for` promises of its answer r, and of the PDU q after the call
  abbrev pub Answered : ℕ → Reading → List ℕ → Type 0
  Answered room r q = (r ≡ list_reading p room) × (q ≡ listed_pdu p room)

  -- NOP entries fit
  pub with-room : (room : ℕ) (r : Reading) (q : List ℕ) → r ≡ reading_of p → q ≡ read_pdu p → r.control.nop ≤ room → Answered room r q
  unfolding listed_pdu read_pdu
  with-room room r q er eq h =
      let m : list_number p room ≡ read_number p = number_same r er room h in
      (er ∙ ap (reading_by y) (sym m), eq ∙ sym (rw m))

  length-allowed : read_number p ≡ 0 → (96 ≤ length p) × (length p ≤ 20480)
  unfolding read_number
  length-allowed z = go (leb 96 (length p)) (leb (length p) 20480) refl refl (row-off (read_tests p) 0 refl z)
    where
      go : (a b : Bool) → leb 96 (length p) ≡ a → leb (length p) 20480 ≡ b → not (a && b) ≡ false → (96 ≤ length p) × (length p ≤ 20480)
      go true true ea eb e = (leb-true 96 (length p) ea, leb-true (length p) 20480 eb)
      go true false ea eb e = absurd (true≢false e)
      go false b ea eb e = absurd (true≢false e)

  -- they don't: w is the header before, s what reading answered, v the PDU after it
  pub without-room : (room : ℕ) (w v q : List ℕ) (s r : Reading) → ((i : ℕ) → get_or p i 0 < 256) → w ≡ header_of p → s ≡ reading_of p → v ≡ read_pdu p
      → room < s.control.nop → q ≡ front_replaced v w → r ≡ refused 13 0 → Answered room r q
  unfolding reading_by listed_pdu read_pdu
  without-room room w v q s r b ew es ev h eq er =
      let z : read_number p ≡ 0 = was-accepted s es (omega arith) in
      let n : s.control.nop ≡ (control_at y).nop = nop-accepted s es z in
      let t : ltb room (control_at y).nop ≡ true = lt-ltb room (control_at y).nop (omega arith) in
      let m : list_number p room ≡ 13 = number-room room z ∙ rw t in
      let l : (96 ≤ length p) × (length p ≤ 20480) = length-allowed z in
      let ey : v ≡ y = ev ∙ rw z in
      let u : front_replaced v w ≡ p = rw (ew, ey) (header-put-back p l.0 l.1 b) in
      let k : wrong_of y 13 ≡ 0 = without-eleven y 13 (λ e. absurd (omega arith)) in
      (er ∙ sym (rw (m, k)), eq ∙ u ∙ sym (rw m))

-- ---- one entry

-- entry j of an array's first entries
filled_at : (m k n j : ℕ) (f : ℕ → ℕ) → j < m → k + j < n → get_or (filled_from m k n f) j 0 ≡ f (k + j)
filled_at zero k n j f h l = absurd (omega arith)
filled_at (suc m) k n zero f h l =
    let e : k + 0 ≡ k = omega arith in
    let t : ltb k n ≡ true = lt-ltb k n (omega arith) in
    rw (t, e)
filled_at (suc m) k n (suc j) f h l =
    let e : k + suc j ≡ suc k + j = omega arith in
    rw e (filled_at m (suc k) n j f (omega arith) (omega arith))

module _ (y : List ℕ) where
  abbrev width : ℕ
  width = width_of y

  abbrev c : ControlWord
  c = control_at y

  pub sized-judged : judged y ≡ 0 → Sized width c y
  unfolding judged width_of
  sized-judged z = sized (mode_in (listing_of c)) c y (rest-off (corrected_tests c y) 1 refl z)

  module _ (z : judged y ≡ 0) (r : Reading) (er : r ≡ accepted width c y) (k : ℕ) (h : k < c.nop) where
    abbrev s : ℕ
    s = get_or r.starts k 0

    abbrev n : ℕ
    n = get_or r.lengths k 0

    pub few : k < 63
    few = let l = nop-small y in omega arith

    start_is : s ≡ start_at width c y k
    unfolding accepted
    start_is =
        let e : 0 + k ≡ k = omega arith in
        ap (λ (x : Reading). get_or x.starts k 0) er ∙ filled_at 64 0 c.nop k (start_at width c y) (omega (arith, few)) (omega arith) ∙ ap (start_at width c y) e

    length-is : n ≡ length_at width c y k
    unfolding accepted
    length-is =
        let e : 0 + k ≡ k = omega arith in
        ap (λ (x : Reading). get_or x.lengths k 0) er ∙ filled_at 64 0 c.nop k (length_at width c y) (omega (arith, few)) (omega arith) ∙ ap (length_at width c y) e

    ends : s + n ≡ locator_at width y k
    ends = omega (arith, start_is, length-is, (sized-judged z).past k h)

    pub inside : s + n < length y
    inside = omega (arith, ends, (sized-judged z).within k h)

    pub entry-is : (register crc : ℕ) → crc ≡ crc_from register (take (s + n - s) (drop s y)) → record { start = s; length = n; right = eqb crc (get_or y (s + n) 0) } ≡ entry_at register y k
    entry-is register crc ec =
        let m : s + n - s ≡ n = omega arith in
        let g : crc ≡ crc_from register (take (length_at width c y k) (drop (start_at width c y k) y)) = ec ∙ rw (m, start_is, length-is) in
        let b : eqb crc (get_or y (s + n) 0) ≡ eqb (crc_from register (take (length_at width c y k) (drop (start_at width c y k) y))) (get_or y (locator_at width y k) 0) = rw (g, ends) in
        λ i. record { start = start_is i; length = length-is i; right = b i }

-- ---- lists of pieces

-- the length of an array, from that of its elements' machine values
pub long : {A : Type 0} (ps : List Piece) (f : Piece → A) {n : ℕ} → length (map f ps) ≡ n → length ps ≡ n
long ps f e = sym (length-map ps f) ∙ e

entries_next : (register : ℕ) (y : List ℕ) (k n : ℕ) → entries_from register y k n ++ (entry_at register y (k + n) ∷ []) ≡ entries_from register y k (suc n)
unfolding entries_from
entries_next register y k zero = let e : k + 0 ≡ k = omega arith in rw e
entries_next register y k (suc n) = let e : k + suc n ≡ suc k + n = omega arith in rw e (ap (λ (l : List Piece). entry_at register y k ∷ l) (entries_next register y (suc k) n))

pub filled_next : (register : ℕ) (y : List ℕ) (k : ℕ) (e : Piece) (ps : List Piece) → k < length ps → e ≡ entry_at register y k → take k ps ≡ entries_from register y 0 k → take (k + 1) (set ps k e) ≡ entries_from register y 0 (k + 1)
filled_next register y k e ps h q t =
    let a : k + 1 ≡ suc k = add-one k in
    let z : 0 + k ≡ k = omega arith in
    rw a (take-suc-set ps k e h ∙ ap (λ (l : List Piece). l ++ (e ∷ [])) t ∙ ap (λ (x : Piece). entries_from register y 0 k ++ (x ∷ [])) (q ∙ ap (entry_at register y) (sym z)) ∙ entries_next register y 0 k)

-- ---- a whole call

module _ (p : List ℕ) where
  judged-zero : read_number p ≡ 0 → judged (corrected_pdu p) ≡ 0
  unfolding read_number judged
  judged-zero z = rest-off (read_tests p) 2 refl z

  module _ (room : ℕ) where
    number-zero : list_number p room ≡ 0 → read_number p ≡ 0
    number-zero z = go (ℕ_discrete (read_number p) 0)
      where
        go : Dec (read_number p ≡ 0) → read_number p ≡ 0
        go (yes e) = e
        go (no d) = absurd (d (sym (number_read p room d) ∙ z))

    number_fits : list_number p room ≡ 0 → (control_at (corrected_pdu p)).nop ≤ room
    number_fits z = go (ltb room (control_at (corrected_pdu p)).nop) refl (sym (number-room p room (number-zero z)) ∙ z)
      where
        go : (b : Bool) → ltb room (control_at (corrected_pdu p)).nop ≡ b → ◌≡◌ {A = ℕ} (cond b 13 0) 0 → (control_at (corrected_pdu p)).nop ≤ room
        go true e h = absurd (omega arith)
        go false e h = ltb-false room (control_at (corrected_pdu p)).nop e

    -- r is the answer, q the PDU after the call
    module _ (r : Reading) (q : List ℕ) (er : r ≡ list_reading p room) (eq : q ≡ listed_pdu p room) where
      abbrev nop : ℕ
      nop = r.control.nop

      accepted-with : list_number p room ≡ 0 → r ≡ accepted (width_of q) (control_at q) q
      unfolding reading_by listed_pdu
      accepted-with z =
          let e : q ≡ corrected_pdu p = eq ∙ rw z in
          let a : r ≡ accepted (width_of (corrected_pdu p)) (control_at (corrected_pdu p)) (corrected_pdu p) = er ∙ rw z in
          rw e a

      nop-with : list_number p room ≡ 0 → nop ≡ (control_at q).nop
      unfolding accepted
      nop-with z = ap (λ (x : Reading). x.control.nop) (accepted-with z)

      same-pdu : list_number p room ≡ 0 → q ≡ corrected_pdu p
      unfolding listed_pdu
      same-pdu z = eq ∙ rw z

      nop-none : ¬ (list_number p room ≡ 0) → nop ≡ 0
      unfolding reading_by refused
      nop-none d =
          let t : eqb (list_number p room) 0 ≡ false = ne_eqb (list_number p room) 0 d in
          let a : r ≡ refused (list_number p room) (wrong_of (corrected_pdu p) (list_number p room)) = er ∙ rw t in
          ap (λ (x : Reading). x.control.nop) a

      pub ready : 0 < nop → (judged q ≡ 0) × (r ≡ accepted (width_of q) (control_at q) q) × (nop ≡ (control_at q).nop)
      ready h = go (ℕ_discrete (list_number p room) 0)
        where
          go : Dec (list_number p room ≡ 0) → (judged q ≡ 0) × (r ≡ accepted (width_of q) (control_at q) q) × (nop ≡ (control_at q).nop)
          go (yes z) = (ap judged (same-pdu z) ∙ judged-zero (number-zero z), accepted-with z, nop-with z)
          go (no d) = let n = nop-none d in absurd (omega arith)

      pub nop-fits : nop ≤ room
      nop-fits = go (ℕ_discrete (list_number p room) 0)
        where
          go : Dec (list_number p room ≡ 0) → nop ≤ room
          go (yes z) = omega (arith, number_fits z, nop-with z, ap (λ (x : List ℕ). (control_at x).nop) (same-pdu z))
          go (no d) = omega (arith, nop-none d)

      pub nop-few : nop ≤ 63
      nop-few = go (ℕ_discrete (list_number p room) 0)
        where
          go : Dec (list_number p room ≡ 0) → nop ≤ 63
          go (yes z) = omega (arith, nop-small q, nop-with z)
          go (no d) = omega (arith, nop-none d)

      -- what the list is to hold
      pub list-end : (register : ℕ) (ps l : List Piece) → take nop ps ≡ entries_from register q 0 nop → length l ≡ room → take nop ps ++ drop nop l ≡ list_after register l p
      unfolding list_after
      list-end register ps l t e = go (ℕ_discrete (list_number p room) 0)
        where
          go : Dec (list_number p room ≡ 0) → take nop ps ++ drop nop l ≡ list_after register l p
          go (yes z) =
              let m : list_number p (length l) ≡ 0 = ap (list_number p) e ∙ z in
              let k : nop ≡ (control_at (corrected_pdu p)).nop = nop-with z ∙ ap (λ (x : List ℕ). (control_at x).nop) (same-pdu z) in
              let a : take nop ps ++ drop nop l ≡ entries_from register (corrected_pdu p) 0 (control_at (corrected_pdu p)).nop ++ drop (control_at (corrected_pdu p)).nop l =
              ap (λ (u : List Piece). u ++ drop nop l) (t ∙ ap (λ (x : List ℕ). entries_from register x 0 nop) (same-pdu z)) ∙ ap (λ (n : ℕ). entries_from register (corrected_pdu p) 0 n ++ drop n l) k in
              a ∙ sym (rw m)
          go (no d) =
              let f : eqb (list_number p (length l)) 0 ≡ false = ne_eqb (list_number p (length l)) 0 (λ z. d (ap (list_number p) (sym e) ∙ z)) in
              ap (λ (n : ℕ). take n ps ++ drop n l) (nop-none d) ∙ sym (rw f)

-- ---- the k of a refused list (document 02, Ask 6)

pub list-lowest : (p : List ℕ) (room : ℕ) → list_number p room ≡ 11 → Lowest (corrected_pdu p) (list_reading p room).wrong
unfolding list_number width_of
list-lowest p room e = lowest_by (corrected_pdu p) (list_number p room) e (row_on _ 11 (take 7 (list_tests p room)) (drop 8 (list_tests p room)) refl refl refl e)
