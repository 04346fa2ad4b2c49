-- What reading ignores (document 01, "Control word", "Expansion, PSD, pieces"): the four bits that an odd last locator of 12
-- bits leaves, and all bytes after La: those of pieces, of their CRCs, and the reserved ones after the last locator.
use mathlib.Core.Path.{◌≡◌, refl, sym, ap, ap₂, ◌∙◌, subst}
use mathlib.Core.Bool.{Bool, true, false, not, ◌&&◌, ◌||◌, cond}
use mathlib.Core.List.{List, [], ◌∷◌, map}
use Prim.Native.Nat.{ℕ, zero, suc, ◌+◌, ◌-◌, ◌*◌, ◌/◌, ◌%◌, ◌<◌, ◌≤◌, min}
use native.Mathlib.Decide.{ℕ_discrete}
use native.Mathlib.Omega.{arith}
use lib.Dec.{eqb, ltb, leb}
use lib.ListN.{length, get_or, take, drop, length-map, length-take, length-drop}
use lib.Seq.{take-take, get_or-take, get_or-drop, ext_get_or}
use borrow.Author.Tests.{ltb-false, ne_eqb}
use Rattle.refusal.specs.Refusal.{first_of, any_of}
use Rattle.modes.specs.Modes.{listing_number}
use Rattle.modes.specs.declared.Mode.{Mode}
use Rattle.layout.specs.Control.{control_of, control_at}
use Rattle.layout.specs.declared.ControlWord.{ControlWord}
use Rattle.layout.specs.Locators.{locator_size, locator16, locator12, locator_at}
use Rattle.layout.proofs.LocatorLaw.{spare-bits-ignored}
use Rattle.correction.specs.Correction.{correction_of, corrected_pdu}
use Rattle.correction.specs.declared.Correction.TheVariants.{Corrected}
use Rattle.expansion.specs.Expansion.{nothing, chain_length, interpretation, expansion_length, septets_at, expansion_at}
use Rattle.expansion.specs.declared.Interpreted.{Interpreted}
use Rattle.expansion.proofs.Chains.{outside, expansion-there}
use Rattle.pdu.specs.Reading.{after_locators, expansion_count, fields_of, mark_at, start_at, length_at, wrong_locator, any_below, wrong_flags, wrong_la, wrong_displacement, reader_tests, mode_in, listing_of, corrected_tests, filled_to, answered, accepted, refused, judged, width_of, read_number, lowest_wrong, wrong_of, reading_by, reading_of}
use Rattle.pdu.proofs.Any.{any_same}
use Rattle.pdu.proofs.Lowest.{lowest-same}
use Rattle.pdu.proofs.Filling.{entries-same, or_left}
use Rattle.pdu.proofs.Restoring.{corrected-number}

-- ---- the expansion is read from the bytes between the locators and La

-- n bytes that are there in a list cut off are those of the whole list
cut : (n m : ℕ) (p : List ℕ) → length (take n (take m p)) ≡ n → take n (take m p) ≡ take n p
cut zero m p e = refl
cut (suc n) zero p e = absurd (omega arith)
cut (suc n) (suc m) [] e = refl
cut (suc n) (suc m) (b ∷ p) e = ap (λ (l : List ℕ). b ∷ l) (cut n m p (omega arith))

cut-from : (n at m : ℕ) (p : List ℕ) → length (take n (drop at (take m p))) ≡ n → take n (drop at (take m p)) ≡ take n (drop at p)
cut-from n zero m p e = cut n m p e
cut-from zero (suc at) zero p e = refl
cut-from (suc n) (suc at) zero p e = absurd (omega arith)
cut-from n (suc at) (suc m) [] e = refl
cut-from n (suc at) (suc m) (b ∷ p) e = cut-from n at m p e

abbrev said_by : List ℕ → Interpreted
said_by w = cond (eqb (chain_length (take 16 w)) 0) (nothing false) (interpretation (map (λ b. b % 128) (take (chain_length (take 16 w)) w)))

module _ (p : List ℕ) (at la : ℕ) where
  there : length (take (chain_length (take 16 (drop at (take (la + 1) p)))) (drop at (take (la + 1) p))) ≡ chain_length (take 16 (drop at (take (la + 1) p)))
  unfolding expansion_length septets_at
  there =
      let n = chain_length (take 16 (drop at (take (la + 1) p))) in
      sym (length-map (take n (drop at (take (la + 1) p))) (λ b. b % 128))
      ∙ subst (λ (l : List ℕ). length (map (λ b. b % 128) (take (chain_length (take 16 (drop at l))) (drop at (take (la + 1) p)))) ≡ chain_length (take 16 (drop at l)))
      (take-take (la + 1) (la + 1) p (omega arith)) (expansion-there (take (la + 1) p) at la)

  said-by : expansion_at p at la ≡ said_by (drop at (take (la + 1) p))
  unfolding expansion_at expansion_length septets_at
  said-by =
      ap (λ (l : List ℕ). cond (eqb (chain_length (take 16 (drop at (take (la + 1) p)))) 0) (nothing false) (interpretation (map (λ b. b % 128) l)))
      (sym (cut-from (chain_length (take 16 (drop at (take (la + 1) p)))) at (la + 1) p there))

-- ---- what the answer depends on

-- the same length, locators and bytes from there to La
module _ (m : Mode) (c : ControlWord) (y z : List ℕ) (long : length y ≡ length z)
    (locators : (k : ℕ) → k < c.nop → locator_at m.width y k ≡ locator_at m.width z k)
    (middle : drop (after_locators m.width c) (take (c.la + 1) y) ≡ drop (after_locators m.width c) (take (c.la + 1) z)) where
  fields-same : fields_of m.width c y ≡ fields_of m.width c z
  fields-same =
      ap (λ (x : Interpreted). cond c.flag x (nothing true))
      (said-by y (after_locators m.width c) c.la ∙ ap said_by middle ∙ sym (said-by z (after_locators m.width c) c.la))

  bytes_same : expansion_count m.width c y ≡ expansion_count m.width c z
  unfolding expansion_length
  bytes_same = ap (λ (w : List ℕ). cond c.flag (chain_length (take 16 w)) 0) middle

  mark-same : (k : ℕ) → k ≤ c.nop → mark_at m.width c y k ≡ mark_at m.width c z k
  mark-same zero h = refl
  mark-same (suc k) h = locators k (omega arith)

  start-same : (k : ℕ) → k < c.nop → start_at m.width c y k ≡ start_at m.width c z k
  start-same k h = ap (λ (n : ℕ). n + 1) (mark-same k (omega arith))

  wrong-same : (k : ℕ) → k < c.nop → wrong_locator m.width c y k ≡ wrong_locator m.width c z k
  unfolding wrong_locator
  wrong-same k h = λ i. ltb (locators k h i) (start-same k h i + 1) || leb (long i) (locators k h i)

  displacement-same : wrong_displacement m.width c y (fields_of m.width c y) ≡ wrong_displacement m.width c z (fields_of m.width c z)
  displacement-same =
      let e : mark_at m.width c y c.nop ≡ mark_at m.width c z c.nop = mark-same c.nop (omega arith) in
      λ i. (fields-same i).displaced && (ltb (fields-same i).displacement (e i) || leb (long i) (fields-same i).displacement)

  accepted-same : accepted m.width c y ≡ accepted m.width c z
  unfolding accepted
  accepted-same =
      let s : filled_to c.nop (start_at m.width c y) ≡ filled_to c.nop (start_at m.width c z) = entries-same 64 0 c.nop (start_at m.width c y) (start_at m.width c z) start-same in
      let l : filled_to c.nop (length_at m.width c y) ≡ filled_to c.nop (length_at m.width c z) =
      entries-same 64 0 c.nop (length_at m.width c y) (length_at m.width c z) (λ k h. ap₂ (λ (a b : ℕ). a - b) (locators k h) (start-same k h)) in
      λ i. record {
        refusal = 0;
        wrong = 0;
        control = c;
        fields = answered (fields-same i);
        psd = record { start = after_locators m.width c + bytes_same i; length = c.la + 1 - (after_locators m.width c + bytes_same i) };
        starts = s i;
        lengths = l i;
      }

  tests_same : reader_tests m c y ≡ reader_tests m c z
  tests_same =
      let a : any_below c.nop (wrong_locator m.width c y) ≡ any_below c.nop (wrong_locator m.width c z) =
      any_same (wrong_locator m.width c y) (wrong_locator m.width c z) c.nop wrong-same in
      λ i.
      (leb m.sequences c.sequence, 7)
      ∷ (wrong_flags c, 8)
      ∷ (any_of (ltb (c.la + 1) (after_locators m.width c) ∷ leb (long i) c.la ∷ []), 9)
      ∷ (not (fields-same i).right, 10)
      ∷ (a i, 11)
      ∷ (displacement-same i, 12)
      ∷ []

-- all that the answer for a corrected PDU depends on: its length, control word, locators, and the bytes from there to La
pub record Alike (y z : List ℕ) : Type 0 where
  pub long : length y ≡ length z
  pub control : control_at y ≡ control_at z
  pub locators : (k : ℕ) → k < (control_at y).nop → locator_at (width_of y) y k ≡ locator_at (width_of y) z k
  pub middle : drop (after_locators (width_of y) (control_at y)) (take ((control_at y).la + 1) y) ≡ drop (after_locators (width_of y) (control_at y)) (take ((control_at y).la + 1) z)

-- two corrected PDUs are refused with the same number and the same k, and hold the same where they are accepted
abbrev pub SameAnswer : List ℕ → List ℕ → Type 0
SameAnswer y z = (judged y ≡ judged z) × (accepted (width_of y) (control_at y) y ≡ accepted (width_of z) (control_at z) z) × (lowest_wrong (width_of y) (control_at y) y ≡ lowest_wrong (width_of z) (control_at z) z)

pub alike : (y z : List ℕ) → Alike y z → SameAnswer y z
unfolding judged width_of
alike y z a =
    let c = control_at y in
    let m : Mode = mode_in (listing_of (control_at y)) in (
      ap (λ (ts : List (Bool × ℕ)). first_of ((not (eqb (listing_number (listing_of (control_at y))) 0), 5) ∷ ts)) (tests_same m c y z a.long a.locators a.middle)
          ∙ ap (λ (d : ControlWord). first_of (corrected_tests d z)) a.control,
      accepted-same m c y z a.long a.locators a.middle
          ∙ ap (λ (d : ControlWord). accepted (mode_in (listing_of d)).width d z) a.control,
      lowest-same (wrong_locator m.width c y) (wrong_locator m.width c z) c.nop (wrong-same m c y z a.long a.locators a.middle)
          ∙ ap (λ (d : ControlWord). lowest_wrong (mode_in (listing_of d)).width d z) a.control,
    )

-- and two PDUs whose headers can be corrected are answered alike, where that holds of them once corrected
pub reading-same : (p q : List ℕ) (m n : ℕ) → correction_of p ≡ Corrected m → correction_of q ≡ Corrected n → SameAnswer (corrected_pdu p) (corrected_pdu q) → reading_of p ≡ reading_of q
unfolding reading_by wrong_of
reading-same p q m n ep eq s =
    let e : read_number p ≡ read_number q = corrected-number p m ep ∙ s.0 ∙ sym (corrected-number q n eq) in
    λ i. cond (eqb (e i) 0) (s.1 i) (refused (e i) (cond (eqb (e i) 11) (s.2 i) 0))

-- ---- a locator is read from its own bytes

module _ (y z : List ℕ) where
  pub control-same : ((i : ℕ) → 8 ≤ i → i < 14 → get_or y i 0 ≡ get_or z i 0) → control_at y ≡ control_at z
  control-same e =
      λ i. control_of (e 8 (omega arith) (omega arith) i) (e 9 (omega arith) (omega arith) i) (e 10 (omega arith) (omega arith) i) (e 11 (omega arith) (omega arith) i) (e 12 (omega arith) (omega arith) i) (e 13 (omega arith) (omega arith) i)

  same16 : (k : ℕ) → get_or y (14 + 2 * k) 0 ≡ get_or z (14 + 2 * k) 0 → get_or y (15 + 2 * k) 0 ≡ get_or z (15 + 2 * k) 0 → locator16 y k ≡ locator16 z k
  unfolding locator16
  same16 k a b = ap₂ (λ (low high : ℕ). low + 256 * high) a b

  same12 : (k : ℕ) → (k % 2 ≡ 0 → (get_or y (14 + 3 * (k / 2)) 0 ≡ get_or z (14 + 3 * (k / 2)) 0) × (get_or y (15 + 3 * (k / 2)) 0 % 16 ≡ get_or z (15 + 3 * (k / 2)) 0 % 16))
      → (¬ (k % 2 ≡ 0) → (get_or y (15 + 3 * (k / 2)) 0 ≡ get_or z (15 + 3 * (k / 2)) 0) × (get_or y (16 + 3 * (k / 2)) 0 ≡ get_or z (16 + 3 * (k / 2)) 0))
      → locator12 y k ≡ locator12 z k
  unfolding locator12
  same12 k a b = go (ℕ_discrete (k % 2) 0)
    where
      go : Dec (k % 2 ≡ 0) → locator12 y k ≡ locator12 z k
      go (yes e) = spare-bits-ignored y z k e (a e).0 (a e).1
      go (no e) = let t : eqb (k % 2) 0 ≡ false = ne_eqb (k % 2) 0 e in rw (t, (b e).0, (b e).1)

  -- the bytes of n locators
  pub locator-same : (width n k : ℕ) → k < n → ((i : ℕ) → 14 ≤ i → i < 14 + locator_size width n → get_or y i 0 ≡ get_or z i 0) → locator_at width y k ≡ locator_at width z k
  locator-same width n k h = go (eqb width 16)
    where
      go : (b : Bool) → ((i : ℕ) → 14 ≤ i → i < 14 + cond b ((16 * n + 7) / 8) ((12 * n + 7) / 8) → get_or y i 0 ≡ get_or z i 0)
          → cond b (locator16 y k) (locator12 y k) ≡ cond b (locator16 z k) (locator12 z k)
      go true e = same16 k (e (14 + 2 * k) (omega arith) (omega arith)) (e (15 + 2 * k) (omega arith) (omega arith))
      go false e =
          same12 k (λ q. (e (14 + 3 * (k / 2)) (omega arith) (omega arith), ap (λ (x : ℕ). x % 16) (e (15 + 3 * (k / 2)) (omega arith) (omega arith))))
          (λ q. (e (15 + 3 * (k / 2)) (omega arith) (omega arith), e (16 + 3 * (k / 2)) (omega arith) (omega arith)))

  -- ---- bytes after La

  -- where row 9 of the table doesn't apply, the answer is that of the bytes up to La and the length: those of pieces and
  -- CRCs and the reserved ones after the last locator don't matter
  pub reserved-ignored : length y ≡ length z → take ((control_at y).la + 1) y ≡ take ((control_at y).la + 1) z → wrong_la (width_of y) (control_at y) y ≡ false → SameAnswer y z
  reserved-ignored long front right =
      let after : after_locators (width_of y) (control_at y) ≤ (control_at y).la + 1 =
      ltb-false ((control_at y).la + 1) (after_locators (width_of y) (control_at y))
      (or_left (ltb ((control_at y).la + 1) (after_locators (width_of y) (control_at y))) (leb (length y) (control_at y).la) right) in
      alike y z (record {
        long = long;
        control = control-same (λ i g h. byte i (omega arith));
        locators = λ k h. locator-same (width_of y) (control_at y).nop k h (λ i g l. byte i (omega arith));
        middle = ap (drop (after_locators (width_of y) (control_at y))) front;
      })
    where
      byte : (i : ℕ) → i < (control_at y).la + 1 → get_or y i 0 ≡ get_or z i 0
      byte i h =
          sym (get_or-take ((control_at y).la + 1) y i 0 h) ∙ ap (λ (l : List ℕ). get_or l i 0) front ∙ get_or-take ((control_at y).la + 1) z i 0 h

  -- ---- the four bits that an odd last locator of 12 bits leaves

  rest-same : (at m : ℕ) → length y ≡ length z → ((i : ℕ) → at ≤ i → get_or y i 0 ≡ get_or z i 0) → drop at (take m y) ≡ drop at (take m z)
  rest-same at m long e =
      ext_get_or 0 (drop at (take m y)) (drop at (take m z))
      (length-drop at (take m y) ∙ ap (λ (n : ℕ). n - at) (length-take m y ∙ ap (min m) long ∙ sym (length-take m z)) ∙ sym (length-drop at (take m z)))
      (λ i h. (let a : length (drop at (take m y)) ≡ length (take m y) - at = length-drop at (take m y) in
      let b : length (take m y) ≤ m = outside m m y (omega arith) in
      let l : at + i < m = omega arith in
      get_or-drop at (take m y) i 0 ∙ get_or-take m y (at + i) 0 l ∙ e (at + i) (omega arith) ∙ sym (get_or-drop at (take m z) i 0 ∙ get_or-take m z (at + i) 0 l)))

  -- n locators, n odd; all bytes alike but for those bits
  module _ (n : ℕ) (odd : n % 2 ≡ 1) (others : (i : ℕ) → ¬ (i ≡ 15 + 3 * (n / 2)) → get_or y i 0 ≡ get_or z i 0)
      (low : get_or y (15 + 3 * (n / 2)) 0 % 16 ≡ get_or z (15 + 3 * (n / 2)) 0 % 16) where
    spare12 : (k : ℕ) → k < n → locator12 y k ≡ locator12 z k
    spare12 k h =
        same12 k (λ q. (others (14 + 3 * (k / 2)) (λ r. absurd (omega arith)), half (ℕ_discrete (k / 2) (n / 2))))
        (λ q. (others (15 + 3 * (k / 2)) (λ r. absurd (omega arith)), others (16 + 3 * (k / 2)) (λ r. absurd (omega arith))))
      where
        half : Dec (k / 2 ≡ n / 2) → get_or y (15 + 3 * (k / 2)) 0 % 16 ≡ get_or z (15 + 3 * (k / 2)) 0 % 16
        half (yes q) = subst (λ (j : ℕ). get_or y (15 + 3 * j) 0 % 16 ≡ get_or z (15 + 3 * j) 0 % 16) (sym q) low
        half (no q) = ap (λ (x : ℕ). x % 16) (others (15 + 3 * (k / 2)) (λ r. q (omega arith)))

  pub spare-ignored : width_of y ≡ 12 → (control_at y).nop % 2 ≡ 1 → length y ≡ length z
      → ((i : ℕ) → ¬ (i ≡ 15 + 3 * ((control_at y).nop / 2)) → get_or y i 0 ≡ get_or z i 0)
      → get_or y (15 + 3 * ((control_at y).nop / 2)) 0 % 16 ≡ get_or z (15 + 3 * ((control_at y).nop / 2)) 0 % 16
      → SameAnswer y z
  spare-ignored w odd long others low =
      let at : after_locators (width_of y) (control_at y) ≡ 14 + (12 * (control_at y).nop + 7) / 8 = ap (λ (b : ℕ). 14 + locator_size b (control_at y).nop) w in
      alike y z (record {
        long = long;
        control = control-same (λ i g h. others i (λ q. absurd (omega arith)));
        locators = λ k h. ap (λ (b : ℕ). locator_at b y k) w ∙ spare12 (control_at y).nop odd others low k h ∙ sym (ap (λ (b : ℕ). locator_at b z k) w);
        middle = rest-same (after_locators (width_of y) (control_at y)) ((control_at y).la + 1) long (λ i h. others i (λ q. absurd (omega arith)));
      })
