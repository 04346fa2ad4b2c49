-- How the PDUs of a run come to the receiver; and what its counts are to be (document 02, Ask 14), by the indices of the packets delivered.
use Rattle.std.specs.Prelude.{ℕ, suc, ◌+◌, ◌%◌, ◌≤◌, ◌≡◌, List, [], ◌∷◌, length}
use Rattle.reassembly.specs.Tally.{Tally, no_tally}

-- ---- how the PDUs of a run come

-- marked lost, or handed over, with a cause for each of its pieces, 0 where the piece is taken
pub data Way : Type 0 where
  gone : Way
  here : (causes : ℕ → ℕ) → Way

-- ---- delivered and missing, by the indices of the packets delivered

-- fewer than 64 packets are missing between one and the next
abbrev pub Close : List ℕ → Type 0
Close [] = Unit {0}
Close (a ∷ []) = Unit {0}
Close (a ∷ b ∷ l) = (b ≤ a + 64) × Close (b ∷ l)

abbrev pub last_index : ℕ → List ℕ → ℕ
last_index a [] = a
last_index a (b ∷ l) = last_index b l

-- delivered plus missing: the packets from the first delivered to the last
abbrev pub AddsUp : List ℕ → Tally → Type 0
AddsUp [] t = t ≡ no_tally
AddsUp (a ∷ l) t = (t.delivered ≡ suc (length l)) × (a + (t.delivered + t.missing) ≡ suc (last_index a l)) × (t.last ≡ last_index a l % 64)
