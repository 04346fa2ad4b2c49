-- A piece's cause in a pair.
use mathlib.Core.Path.{◌≡◌, refl, sym, ap, ◌∙◌}
use mathlib.Core.Bool.{Bool, true, false, cond}
use mathlib.Core.List.{List}
use Prim.Native.Nat.{ℕ, ◌+◌, ◌-◌}
use lib.Dec.{eqb}
use lib.ListN.{get_or, take, drop}
use borrow.Author.Tests.{eq-eqb, ne_eqb}
use Rattle.reassembly.specs.Reassembly.{Piece}
use Rattle.reassembly.specs.Run.{piece_at}
use Rattle.receiver.specs.Steps.{cause_at}
use Rattle.packet_log.specs.Log.{same_list}
use Rattle.diversity.specs.Diversity.{pair_piece}
use Rattle.diversity.specs.Steps.{piece_by, pair_cause_at}

-- the bytes between two marks
pub piece_of : (y marks : List ℕ) (k a e : ℕ) → a ≡ get_or marks k 0 → e ≡ get_or marks (k + 1) 0 → take (e - (a + 1)) (drop (a + 1) y) ≡ piece_at y marks k
unfolding piece_at
piece_of y marks k a e ea ee = rw (ea, ee) refl

-- the cause of two pieces, by whether each is right and whether their bytes are the same
abbrev cause_by : Bool → Bool → Bool → ℕ → ℕ → ℕ
cause_by u v w a b = cond u (cond v (cond w a 7) a) b

cause-by : (a b : Piece) → (pair_piece a b).cause ≡ cause_by (eqb a.cause 0) (eqb b.cause 0) (same_list a.bytes b.bytes) a.cause b.cause
cause-by a b = go (eqb a.cause 0) (eqb b.cause 0) (same_list a.bytes b.bytes)
  where
    go : (u v w : Bool) → (cond u (cond v (cond w a (record { cause = 7; bytes = a.bytes })) a) b).cause ≡ cause_by u v w a.cause b.cause
    go true true true = refl
    go true true false = refl
    go true false w = refl
    go false v w = refl

-- the first's cause is n
module _ (register : ℕ) (y z marks : List ℕ) (k n : ℕ) (en : n ≡ cause_at register y marks k) where
  cause-is : pair_cause_at register y z marks k ≡ cause_by (eqb n 0) (eqb (cause_at register z marks k) 0) (same_list (piece_at y marks k) (piece_at z marks k)) n (cause_at register z marks k)
  unfolding pair_cause_at
  cause-is =
      cause-by (piece_by register y marks k) (piece_by register z marks k)
      ∙ ap (λ (m : ℕ). cause_by (eqb m 0) (eqb (cause_at register z marks k) 0) (same_list (piece_at y marks k) (piece_at z marks k)) m (cause_at register z marks k)) (sym en)

  -- the first's CRC is wrong
  pub second-cause : (m : ℕ) → ¬ (n ≡ 0) → m ≡ cause_at register z marks k → m ≡ pair_cause_at register y z marks k
  second-cause m h em = let t : eqb n 0 ≡ false = ne_eqb n 0 h in em ∙ sym (cause-is ∙ rw t)

  module _ (right : n ≡ 0) where
    t : eqb n 0 ≡ true
    t = eq-eqb n 0 right

    same-cause : (v : Bool) (m : ℕ) → cause_by true v true 0 m ≡ 0
    same-cause true m = refl
    same-cause false m = refl

    -- the bytes are the same
    pub taken-cause : (b : Bool) → b ≡ same_list (piece_at y marks k) (piece_at z marks k) → b ≡ true → 0 ≡ pair_cause_at register y z marks k
    taken-cause b eb h =
        let w : same_list (piece_at y marks k) (piece_at z marks k) ≡ true = sym eb ∙ h in
        sym (cause-is ∙ rw (t, w, right) (same-cause (eqb (cause_at register z marks k) 0) (cause_at register z marks k)))

    -- the second's CRC is wrong
    pub first-cause : (m : ℕ) → m ≡ cause_at register z marks k → ¬ (m ≡ 0) → 0 ≡ pair_cause_at register y z marks k
    first-cause m em h =
        let v : eqb (cause_at register z marks k) 0 ≡ false = ne_eqb (cause_at register z marks k) 0 (λ q. h (em ∙ q)) in
        sym (cause-is ∙ rw (t, v, right))

    -- both are right, and differ
    pub apart-cause : (m : ℕ) (b : Bool) → m ≡ cause_at register z marks k → m ≡ 0 → b ≡ same_list (piece_at y marks k) (piece_at z marks k) → b ≡ false → 7 ≡ pair_cause_at register y z marks k
    apart-cause m b em h eb f =
        let v : eqb (cause_at register z marks k) 0 ≡ true = eq-eqb (cause_at register z marks k) 0 (sym em ∙ h) in
        let w : same_list (piece_at y marks k) (piece_at z marks k) ≡ false = sym eb ∙ f in
        sym (cause-is ∙ rw (t, v, w))
