-- Error values added at their places, turn by turn.
use mathlib.Core.Path.{◌≡◌, refl, ◌∙◌}
use mathlib.Core.List.{List}
use Prim.Native.Nat.{ℕ, ◌+◌, ◌<◌}
use native.Mathlib.Omega.{arith}
use native.Mathlib.Decide.{ℕ_discrete}
use lib.ListN.{length, get_or, set, length-set}
use lib.Seq.{get_or-set_same, get_or-set_other}
use lib.Bits.{bit_xor}
use Rattle.correction.specs.ErrorValues.{points_of, value_at, DistinctPlaces, Repaired}

pub repaired-start : (w s places : List ℕ) (m : ℕ) → length w ≡ 96 → Repaired w s places m 0 w
repaired-start w s places m l = record { long = l; changed = λ k b. absurd (omega arith); kept = λ i n. refl }

pub repaired-next : (w s places : List ℕ) (m n x : ℕ) (r : List ℕ) → n < m → DistinctPlaces places m → Repaired w s places m n r
    → x ≡ bit_xor (get_or w (get_or places n 0) 0) (value_at s (points_of places) m n) → Repaired w s places m (n + 1) (set r (get_or places n 0) x)
repaired-next w s places m n x r h d g e =
    record {
      long = length-set r (get_or places n 0) x ∙ g.long;
      changed = λ k b. at k b (ℕ_discrete k n);
      kept = λ i o. get_or-set_other r (get_or places n 0) i x 0 (o n (omega arith)) ∙ g.kept i (λ k b. o k (omega arith));
    }
  where
    at : (k : ℕ) → k < n + 1 → Dec (k ≡ n) → get_or (set r (get_or places n 0) x) (get_or places k 0) 0 ≡ bit_xor (get_or w (get_or places k 0) 0) (value_at s (points_of places) m k)
    at k b (yes q) =
        let l : length r ≡ 96 = g.long in
        let i : get_or places n 0 < 96 = d.inside n h in
        rw q (get_or-set_same r (get_or places n 0) x 0 (omega arith) ∙ e)
    at k b (no q) =
        get_or-set_other r (get_or places n 0) (get_or places k 0) x 0 (d.apart k n (omega arith) h) ∙ g.changed k (omega arith)

pub repaired-end : (w s places : List ℕ) (m n : ℕ) (r : List ℕ) → n ≡ m → Repaired w s places m n r → Repaired w s places m m r
repaired-end w s places m n r e g = rw e at g
