-- Example (n) of document 01, and a log's packets.
use mathlib.Core.List.{[], ◌∷◌}
use mathlib.Core.Path.{◌≡◌, refl}
use Rattle.packet_log.specs.Log.{packet, psd, note, data_words, entry_words, log_words, packet_words_after, packet_words}

pub of-packet-5 : entry_words (packet 5 (0x11 ∷ 0x22 ∷ 0x33 ∷ 0x44 ∷ [])) ≡ 0x00050004 ∷ 0x43112233 ∷ 0x41440000 ∷ []
unfolding entry_words data_words
of-packet-5 = refl

-- a note, PSD and its data word, a packet and its data words, a note: the packet's own words stay
pub only-packet-5 : packet_words (log_words (note 3 0 ∷ psd (1 ∷ []) ∷ packet 5 (0x11 ∷ 0x22 ∷ 0x33 ∷ 0x44 ∷ []) ∷ note 6 0 ∷ [])) ≡ 0x00050004 ∷ 0x43112233 ∷ 0x41440000 ∷ []
unfolding log_words entry_words data_words packet_words_after
only-packet-5 = refl
