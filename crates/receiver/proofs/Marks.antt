-- The marks of a PDU's pieces, and each piece's cause.
use mathlib.Core.Path.{◌≡◌, refl, sym, ap, ◌∙◌}
use mathlib.Core.Bool.{true, false}
use mathlib.Core.List.{List}
use Prim.Native.Nat.{ℕ, ◌+◌, ◌-◌, ◌<◌}
use native.Mathlib.Numerals.{add-one}
use native.Mathlib.Omega.{arith}
use lib.Dec.{eqb, ltb}
use lib.ListN.{get_or, take, drop}
use borrow.Author.Tests.{lt-ltb, eq-eqb, ne_eqb}
use Rattle.crc.specs.Crc.{crc_from}
use Rattle.layout.specs.declared.ControlWord.{ControlWord}
use Rattle.layout.specs.Locators.{locator_at}
use Rattle.pdu.specs.Reading.{mark_at}
use Rattle.pdu.proofs.Filling.{Filled}
use Rattle.reassembly.specs.Run.{piece_at}
use Rattle.receiver.specs.Steps.{MarksOf, cause_at}

pub filled_at : (f : ℕ → ℕ) (k j : ℕ) (s : List ℕ) → j < k → j < 64 → Filled f k s → get_or s j 0 ≡ f j
filled_at f k j s h b g = let t : ltb j k ≡ true = lt-ltb j k h in g.entry j b ∙ rw t

-- the mark after piece k is its locator
pub next-mark : (width : ℕ) (c : ControlWord) (y marks : List ℕ) → MarksOf width c y marks → (k : ℕ) → k < c.nop → get_or marks (k + 1) 0 ≡ locator_at width y k
next-mark width c y marks em k h = em (k + 1) (omega arith) ∙ ap (mark_at width c y) (add-one k)

-- a and e are the marks before and after a piece
module _ (register : ℕ) (y marks : List ℕ) (k a e crc : ℕ) (ea : a ≡ get_or marks k 0) (ee : e ≡ get_or marks (k + 1) 0) (ec : crc ≡ crc_from register (take (e - (a + 1)) (drop (a + 1) y))) where
  crc-of : crc ≡ crc_from register (piece_at y marks k)
  unfolding piece_at
  crc-of = ec ∙ rw (ea, ee) refl

  pub cause-right : crc ≡ get_or y e 0 → 0 ≡ cause_at register y marks k
  unfolding cause_at
  cause-right q =
      let t : eqb (crc_from register (piece_at y marks k)) (get_or y (get_or marks (k + 1) 0) 0) ≡ true = eq-eqb _ _ (sym crc-of ∙ q ∙ ap (λ (i : ℕ). get_or y i 0) ee) in
      rw t

  pub cause-wrong : (crc ≡ get_or y e 0 → ⊥) → 2 ≡ cause_at register y marks k
  unfolding cause_at
  cause-wrong d =
      let t : eqb (crc_from register (piece_at y marks k)) (get_or y (get_or marks (k + 1) 0) 0) ≡ false = ne_eqb _ _ (λ q. d (crc-of ∙ q ∙ ap (λ (i : ℕ). get_or y i 0) (sym ee))) in
      rw t
