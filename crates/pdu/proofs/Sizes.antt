-- The parts of a PDU that no row from 7 to 12 turns down lie in order, within its length.
use mathlib.Core.Path.{◌≡◌, refl, sym, ap, ◌∙◌, subst}
use mathlib.Core.Bool.{Bool, true, false, cond, true≢false}
use mathlib.Core.List.{List, ◌∷◌}
use Prim.Native.Nat.{ℕ, zero, suc, ◌+◌, ◌-◌, ◌*◌, ◌/◌, ◌%◌, ◌<◌, ◌≤◌, min}
use native.Mathlib.Decide.{dec_lt, dec_le}
use native.Mathlib.Omega.{arith}
use lib.Dec.{eqb, ltb, leb}
use lib.ListN.{length, take, drop, length-map, length-take, length-drop}
use lib.Seq.{take-take}
use borrow.Author.Tests.{lt-ltb, le-leb, ltb-false, leb-false}
use Rattle.refusal.specs.Refusal.{first_of}
use Rattle.modes.specs.declared.Mode.{Mode}
use Rattle.layout.specs.declared.ControlWord.{ControlWord}
use Rattle.layout.specs.Locators.{locator_size, locator_at}
use Rattle.expansion.specs.Expansion.{chain_length, expansion_length, septets_at}
use Rattle.expansion.proofs.Chains.{outside, expansion-there}
use Rattle.pdu.specs.Reading.{after_locators, expansion_count, start_at, length_at, wrong_locator, any_below, wrong_flags, wrong_la, reader_tests}
use Rattle.pdu.proofs.Any.{any_found}
use Rattle.pdu.proofs.Assembling.{none-wrong}
use Rattle.pdu.proofs.Filling.{or_left, past-start}
use Rattle.pdu.proofs.Judging.{la-low, la-high, locator-high}

-- the bytes of n pieces from piece k on
unfoldable pub lengths_from : ℕ → ControlWord → List ℕ → ℕ → ℕ → ℕ
lengths_from width c y k zero = 0
lengths_from width c y k (suc n) = length_at width c y k + lengths_from width c y (suc k) n

-- locators, expansion bytes, PSD and pieces follow one another; each piece has at least one byte
pub record Sized (width : ℕ) (c : ControlWord) (y : List ℕ) : Type 0 where
  pub la : c.la < length y
  pub after : after_locators width c ≤ c.la + 1
  pub psd : after_locators width c + expansion_count width c y ≤ c.la + 1  -- where PSD starts
  pub past : (k : ℕ) → k < c.nop → start_at width c y k + 1 ≤ locator_at width y k
  pub within : (k : ℕ) → k < c.nop → locator_at width y k < length y
  pub lengths : (k n : ℕ) → k + n ≤ c.nop → lengths_from width c y k n + start_at width c y k ≤ length y

-- ---- the expansion bytes end by La

septets-length : (p : List ℕ) (at n : ℕ) → length (septets_at p at n) ≡ min n (length p - at)
unfolding septets_at
septets-length p at n = length-map (take n (drop at p)) (λ b. b % 128) ∙ length-take n (drop at p) ∙ ap (min n) (length-drop at p)

-- at most as many as there are bytes from the place up to La
pub expansion-ends : (p : List ℕ) (at la : ℕ) → expansion_length p at la ≤ la + 1 - at
expansion-ends p at la =
    let q : List ℕ = take (la + 1) p in
    let n : ℕ = expansion_length p at la in
    let e : expansion_length q at la ≡ n = unfold expansion_length in ap (λ (l : List ℕ). chain_length (take 16 (drop at l))) (take-take (la + 1) (la + 1) p (omega arith)) in
    let t : length (septets_at q at n) ≡ n = subst (λ (i : ℕ). length (septets_at q at i) ≡ i) e (expansion-there q at la) in
    let s : length (septets_at q at n) ≡ min n (length q - at) = septets-length q at n in
    let o : length q ≤ la + 1 = outside (la + 1) (la + 1) p (omega arith) in
    omega arith

psd-start : (width : ℕ) (c : ControlWord) (y : List ℕ) → after_locators width c ≤ c.la + 1 → after_locators width c + expansion_count width c y ≤ c.la + 1
psd-start width c y h =
    let e = expansion-ends y (after_locators width c) c.la in
    go (after_locators width c) (expansion_length y (after_locators width c) c.la) c.flag h e
  where
    go : (at n : ℕ) (b : Bool) → at ≤ c.la + 1 → n ≤ c.la + 1 - at → at + cond b n 0 ≤ c.la + 1
    go at n true h e = omega arith
    go at n false h e = omega arith

-- ---- locators and pieces

module _ (width : ℕ) (c : ControlWord) (y : List ℕ) (none : any_below c.nop (wrong_locator width c y) ≡ false) where
  below_end : (k : ℕ) → k < c.nop → locator_at width y k < length y
  below_end k h = go (dec_lt (locator_at width y k) (length y))
    where
      past-it : leb (length y) (locator_at width y k) ≡ wrong_locator width c y k
      past-it = locator-high width c y k (locator_at width y k) _ refl refl (past-start width c y k none h)

      go : Dec (locator_at width y k < length y) → locator_at width y k < length y
      go (yes l) = l
      go (no l) =
          let w : wrong_locator width c y k ≡ true = sym past-it ∙ le-leb (length y) (locator_at width y k) (omega arith) in
          let a : any_below c.nop (wrong_locator width c y) ≡ true = any_found (wrong_locator width c y) c.nop k h w ∙ lt-ltb k c.nop h in
          absurd (true≢false (sym a ∙ none))

  start-within : c.la < length y → (k : ℕ) → k ≤ c.nop → start_at width c y k ≤ length y
  start-within l zero h = omega arith
  start-within l (suc k) h = let b = below_end k (omega arith) in omega arith

  lengths-within : c.la < length y → (k n : ℕ) → k + n ≤ c.nop → lengths_from width c y k n + start_at width c y k ≤ length y
  unfolding lengths_from
  lengths-within l k zero h = let s = start-within l k (omega arith) in omega arith
  lengths-within l k (suc n) h =
      let r = lengths-within l (suc k) n (omega arith) in
      let p = past-start width c y k none (omega arith) in
      omega arith

-- ---- rows 9 and 11 turn nothing down

module _ (m : Mode) (c : ControlWord) (y : List ℕ) where
  row-9 : first_of (reader_tests m c y) ≡ 0 → wrong_la m.width c y ≡ false
  row-9 e = go (leb m.sequences c.sequence) (wrong_flags c) (wrong_la m.width c y) (drop 3 (reader_tests m c y)) e
    where
      go : (s p l : Bool) (ts : List (Bool × ℕ)) → first_of ((s, 7) ∷ (p, 8) ∷ (l, 9) ∷ ts) ≡ 0 → l ≡ false
      go true p l ts e = absurd (omega arith)
      go false true l ts e = absurd (omega arith)
      go false false true ts e = absurd (omega arith)
      go false false false ts e = refl

  -- where no row applies
  pub sized : first_of (reader_tests m c y) ≡ 0 → Sized m.width c y
  sized e =
      let r = row-9 e in
      let after : after_locators m.width c ≤ c.la + 1 = ltb-false (c.la + 1) (after_locators m.width c) (or_left (ltb (c.la + 1) (after_locators m.width c)) (leb (length y) c.la) r) in
      let la : c.la < length y = leb-false (length y) c.la (la-high m.width c y (after_locators m.width c) refl after ∙ r) in
      let none : any_below c.nop (wrong_locator m.width c y) ≡ false = none-wrong m c y e in
      record {
        la = la;
        after = after;
        psd = psd-start m.width c y after;
        past = λ k h. past-start m.width c y k none h;
        within = below_end m.width c y none;
        lengths = lengths-within m.width c y none la;
      }

-- ---- row 9 turns it down before a locator is looked at

-- 63 locators do not end in 96 bytes, of either width
pub never-in-96 : (width : ℕ) (c : ControlWord) (y : List ℕ) → c.nop ≡ 63 → length y ≡ 96 → wrong_la width c y ≡ true
never-in-96 width c y n l = go (dec_le (after_locators width c) (c.la + 1))
  where
    long : 95 ≤ locator_size width c.nop
    long = by (eqb width 16)
      where
        by : (b : Bool) → 95 ≤ cond b ((16 * c.nop + 7) / 8) ((12 * c.nop + 7) / 8)
        by true = omega arith
        by false = omega arith

    go : Dec (after_locators width c ≤ c.la + 1) → wrong_la width c y ≡ true
    go (yes h) = sym (la-high width c y (after_locators width c) refl h) ∙ le-leb (length y) c.la (omega (arith, long))
    go (no h) = sym (la-low width c y (after_locators width c) refl (omega arith))
