-- The column after small logs, computed.
use Rattle.std.proofs.Common.{◌≡◌, ℕ, [], ◌∷◌, refl}
use Rattle.reassembly.specs.Tally.{Tally, no_tally, counted}
use Rattle.loss.specs.Column.{after_word, after_words}

abbrev tally : ℕ → ℕ → ℕ → Tally
tally delivered missing last = record { delivered = delivered; missing = missing; last = last }

-- note 1, packet 62 of one byte, packet 1 of two: 63 and 0 are missing
pub two-missing : after_words no_tally (0xC0010000 ∷ 0x003E0001 ∷ 0x41610000 ∷ 0x00010002 ∷ 0x42616200 ∷ []) ≡ tally 2 2 1
unfolding after_words after_word counted
two-missing = refl

-- the same number again is 64 packets later
pub same-again : after_words (tally 1 0 5) (0x00050001 ∷ 0x41610000 ∷ []) ≡ tally 2 63 5
unfolding after_words after_word counted
same-again = refl

-- a note and PSD leave all three
pub no-packet : after_words (tally 7 3 5) (0xC0020001 ∷ 0x80000001 ∷ 0x41630000 ∷ []) ≡ tally 7 3 5
unfolding after_words after_word counted
no-packet = refl

-- bits 29-22 are not the number's
pub six-bits : after_words (tally 1 0 5) (0x20460001 ∷ []) ≡ tally 2 0 6
unfolding after_words after_word counted
six-bits = refl

-- counts have 32 bits
pub counts-wrap : after_words (tally 4294967295 4294967290 5) (0x000E0001 ∷ []) ≡ tally 0 2 14
unfolding after_words after_word counted
counts-wrap = refl
