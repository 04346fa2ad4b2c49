-- Each test of a reader, from what the code compares.
use mathlib.Core.Path.{◌≡◌, sym, ap, ◌∙◌}
use mathlib.Core.Bool.{Bool, true, false, ◌||◌, cond}
use mathlib.Core.List.{List}
use Prim.Native.Nat.{ℕ, suc, ◌+◌, ◌-◌, ◌%◌, ◌/◌, ◌*◌, ◌<◌, ◌≤◌}
use native.Mathlib.Omega.{arith}
use lib.Dec.{eqb, ltb, leb}
use lib.ListN.{length}
use borrow.Author.Tests.{lt-ltb, le-ltb, eq-eqb, ne_eqb}
use Rattle.layout.specs.Locators.{locator_size, locator_at}
use Rattle.layout.specs.declared.ControlWord.{ControlWord}
use Rattle.expansion.specs.Expansion.{nothing, expansion_length, expansion_at}
use Rattle.expansion.specs.declared.Interpreted.{Interpreted}
use Rattle.pdu.specs.Reading.{after_locators, expansion_count, fields_of, mark_at, start_at, wrong_locator, wrong_flags, wrong_la, wrong_displacement}

size_small : (width n : ℕ) → n < 256 → locator_size width n ≤ 518
size_small width n h = go (eqb width 16)
  where
    go : (b : Bool) → cond b ((16 * n + 7) / 8) ((12 * n + 7) / 8) ≤ 518
    go true = omega arith
    go false = omega arith

pub after-right : (width n r : ℕ) → n < 256 → r ≡ locator_size width n → (14 + r % 1024 ≡ 14 + locator_size width n) × (14 + r % 1024 ≤ 600)
after-right width n r h e =
    let s : locator_size width n ≤ 518 = size_small width n h in
    let m : r % 1024 ≡ locator_size width n = omega arith in
    (omega arith, omega arith)

module _ (width : ℕ) (c : ControlWord) (y : List ℕ) where
  pub flagged : c.flag ≡ true → (at n : ℕ) (v : Interpreted) → at ≡ 14 + locator_size width c.nop → n ≡ expansion_length y at c.la → v ≡ expansion_at y at c.la
      → n ≤ 16 → (n ≡ expansion_count width c y) × (n ≤ 16) × (v ≡ fields_of width c y)
  flagged f at n v e en ev few = (rw f (en ∙ ap (λ (k : ℕ). expansion_length y k c.la) e), few, rw f (ev ∙ ap (λ (k : ℕ). expansion_at y k c.la) e))

  pub unflagged : c.flag ≡ false → (v : Interpreted) → v ≡ nothing true → (0 ≡ expansion_count width c y) × (0 ≤ 16) × (v ≡ fields_of width c y)
  unflagged f v e = (rw f, omega arith, rw f e)

  pub mark-first : (k : ℕ) → k ≡ 0 → c.la ≡ mark_at width c y k
  mark-first k e = rw e

  pub mark-later : (k l : ℕ) → ¬ (k ≡ 0) → l ≡ locator_at width y (k - 1) → l ≡ mark_at width c y k
  mark-later k l n e = let s : suc (k - 1) ≡ k = omega arith in e ∙ ap (mark_at width c y) s

  module _ (k l m : ℕ) (el : l ≡ locator_at width y k) (em : m ≡ mark_at width c y k) where
    pub locator-low : l < m + 1 + 1 → true ≡ wrong_locator width c y k
    unfolding wrong_locator
    locator-low h =
        let t : ltb (locator_at width y k) (start_at width c y k + 1) ≡ true = lt-ltb (locator_at width y k) (start_at width c y k + 1) (omega (arith, sym el, sym em)) in
        rw t

    pub locator-high : m + 1 + 1 ≤ l → leb (length y) l ≡ wrong_locator width c y k
    unfolding wrong_locator
    locator-high h =
        let t : ltb (locator_at width y k) (start_at width c y k + 1) ≡ false = le-ltb (locator_at width y k) (start_at width c y k + 1) (omega (arith, sym el, sym em)) in
        rw (t, el)

  module _ (x : Interpreted) where
    pub not-displaced : x.displaced ≡ false → false ≡ wrong_displacement width c y x
    not-displaced f = rw f

    module _ (sent : x.displaced ≡ true) (m : ℕ) (em : m ≡ mark_at width c y c.nop) where
      pub displaced-low : x.displacement < m → true ≡ wrong_displacement width c y x
      displaced-low h =
          let t : ltb x.displacement (mark_at width c y c.nop) ≡ true = lt-ltb x.displacement (mark_at width c y c.nop) (omega (arith, sym em)) in
          rw (sent, t)

      pub displaced-high : m ≤ x.displacement → leb (length y) x.displacement ≡ wrong_displacement width c y x
      displaced-high h =
          let t : ltb x.displacement (mark_at width c y c.nop) ≡ false = le-ltb x.displacement (mark_at width c y c.nop) (omega (arith, sym em)) in
          rw (sent, t)

  module _ (at : ℕ) (e : at ≡ 14 + locator_size width c.nop) where
    pub la-low : c.la + 1 < at → true ≡ wrong_la width c y
    la-low h =
        let t : ltb (c.la + 1) (after_locators width c) ≡ true = lt-ltb (c.la + 1) (after_locators width c) (omega (arith, sym e)) in
        rw t

    pub la-high : at ≤ c.la + 1 → leb (length y) c.la ≡ wrong_la width c y
    la-high h =
        let t : ltb (c.la + 1) (after_locators width c) ≡ false = le-ltb (c.la + 1) (after_locators width c) (omega (arith, sym e)) in
        rw t

module _ (c : ControlWord) where
  pub flags-some : 0 < c.nop → false ≡ wrong_flags c
  flags-some h = let t : eqb c.nop 0 ≡ false = ne_eqb c.nop 0 (λ q. absurd (omega arith)) in rw t

  pub flags-none : c.nop ≤ 0 → (c.pfirst || c.plast) ≡ wrong_flags c
  flags-none h = let t : eqb c.nop 0 ≡ true = eq-eqb c.nop 0 (omega arith) in rw t
