-- The columns of small logs, computed.
use mathlib.Core.Path.{◌≡◌, refl}
use mathlib.Core.List.{List, [], ◌∷◌}
use Prim.Native.Nat.{ℕ}
use Rattle.reassembly.specs.Tally.{Tally, no_tally, counted}
use Rattle.loss.specs.Column.{after_word, after_words}
use Rattle.batch_loss.specs.Columns.{columns, last_or}

abbrev tally : ℕ → ℕ → ℕ → Tally
tally delivered missing last = record { delivered = delivered; missing = missing; last = last }

-- three PDUs: packet 5 of one byte; note 2; packets 8 and 9 of one byte each. A word of the log stands behind theirs
abbrev log : List ℕ
log = 0x00050001 ∷ 0x41610000 ∷ 0xC0020000 ∷ 0x00080001 ∷ 0x41620000 ∷ 0x00090001 ∷ 0x41630000 ∷ 0 ∷ []

pub three-columns : columns no_tally log 0 (2 ∷ 3 ∷ 7 ∷ []) ≡ tally 1 0 5 ∷ tally 1 0 5 ∷ tally 3 2 9 ∷ []
unfolding columns after_words after_word counted
three-columns = refl

pub last-column : last_or no_tally (columns no_tally log 0 (2 ∷ 3 ∷ 7 ∷ [])) ≡ tally 3 2 9
unfolding columns after_words after_word counted
last-column = refl

-- no PDU is taken
pub no-column : last_or (tally 4 1 7) (columns (tally 4 1 7) log 0 []) ≡ tally 4 1 7
unfolding columns
no-column = refl
