-- What a PDU says by its control word is what reassembly takes from its marks and causes.
use mathlib.Core.Path.{◌≡◌, refl, ap, ap₂, ◌∙◌}
use mathlib.Core.Bool.{false, cond}
use mathlib.Core.List.{List, ◌∷◌}
use Prim.Native.Nat.{ℕ, zero, suc, ◌+◌, ◌-◌, ◌<◌, ◌≤◌}
use native.Mathlib.Numerals.{add-one}
use native.Mathlib.Omega.{arith}
use lib.Dec.{eqb}
use lib.ListN.{get_or, take, drop}
use Rattle.crc.specs.Crc.{crc_from}
use Rattle.layout.specs.declared.ControlWord.{ControlWord}
use Rattle.pdu.specs.Reading.{after_locators, expansion_count, psd_of}
use Rattle.reassembly.specs.Run.{piece_at, piece_of, pieces_from, psd_by, said_of, memory_by}
use Rattle.receiver.specs.Receiving.{piece_in, pieces_in, said_by, label_in, come_by, memory_of}
use Rattle.receiver.specs.declared.Receiver.{Receiver}
use Rattle.receiver.specs.Steps.{MarksOf, cause_at, CausesOf, head_of, come_of, state_of}
use Rattle.receiver.proofs.Marks.{next-mark}

pub same_memory : (r : Receiver) (carry : List ℕ) → memory_by (state_of r) carry ≡ memory_of r carry
unfolding memory_by memory_of
same_memory r carry = refl

-- piece k by its marks
pub piece-here : (register width : ℕ) (c : ControlWord) (y marks : List ℕ) → MarksOf width c y marks → (k : ℕ) → k < c.nop
    → piece_of (cause_at register y marks k) (piece_at y marks k) ≡ piece_in register width c y k
unfolding cause_at piece_at
piece-here register width c y marks em k h =
    ap₂ (λ (e a : ℕ). piece_of (cond (eqb (crc_from register (take (e - (a + 1)) (drop (a + 1) y))) (get_or y e 0)) 0 2) (take (e - (a + 1)) (drop (a + 1) y)))
    (next-mark width c y marks em k h) (em k (omega arith))

module _ (register width : ℕ) (c : ControlWord) (y marks causes : List ℕ) (em : MarksOf width c y marks) (ec : CausesOf register y marks c.nop causes) where
  piece-same : (k : ℕ) → k < c.nop → piece_of (get_or causes k 0) (piece_at y marks k) ≡ piece_in register width c y k
  piece-same k h = ap (λ (n : ℕ). piece_of n (piece_at y marks k)) (ec k h) ∙ piece-here register width c y marks em k h

  pieces-same : (k n : ℕ) → k + n ≤ c.nop → pieces_from y marks causes k n ≡ pieces_in register width c y k n
  unfolding pieces_from pieces_in
  pieces-same k zero h = refl
  pieces-same k (suc n) h =
      ap₂ ◌∷◌ (piece-same k (omega arith)) (ap (λ (i : ℕ). pieces_from y marks causes i n) (add-one k) ∙ pieces-same (suc k) n (omega arith))

  psd-same : psd_by (head_of width c y) marks y ≡ take (psd_of width c y).length (drop (psd_of width c y).start y)
  unfolding psd_by
  psd-same = ap (λ (l : ℕ). take (l + 1 - (after_locators width c + expansion_count width c y)) (drop (after_locators width c + expansion_count width c y) y)) (em 0 (omega arith))

  pub same-said : said_of (head_of width c y) marks causes y ≡ said_by register width c y
  unfolding said_of said_by
  same-said =
      let p : pieces_from y marks causes 0 c.nop ≡ pieces_in register width c y 0 c.nop = pieces-same 0 c.nop (omega arith) in
      λ i. record { sequence = c.sequence; pfirst = c.pfirst; plast = c.plast; start = c.start; psd_bytes = psd-same i; pieces = p i; withheld = false }

  pub same-come : come_of (head_of width c y) marks causes y ≡ come_by register width c y
  unfolding come_by
  same-come = λ i. record { said = same-said i; label = label_in width c y }
