-- How many words bytes and entries have, and logs joined.
use mathlib.Core.Path.{◌≡◌, refl, sym, ap, ◌∙◌}
use mathlib.Core.List.{List, [], ◌∷◌, ◌++◌, append_assoc}
use Prim.Native.Nat.{ℕ, ◌+◌, ◌/◌}
use native.Mathlib.Omega.{arith}
use lib.ListN.{length}
use Rattle.packet_log.specs.Log.{Entry, packet, psd, note, data_words, entry_words, log_words}

pub data-length : (s : List ℕ) → length (data_words s) ≡ (length s + 2) / 3
unfolding data_words
data-length [] = refl
data-length (a ∷ []) = refl
data-length (a ∷ b ∷ []) = refl
data-length (a ∷ b ∷ c ∷ rest) = let h = data-length rest in omega arith

-- the bytes of an entry; a note has none
abbrev pub bytes_of : Entry → List ℕ
bytes_of (packet number bytes) = bytes
bytes_of (psd bytes) = bytes
bytes_of (note cause piece) = []

pub entry_length : (e : Entry) → length (entry_words e) ≡ 1 + (length (bytes_of e) + 2) / 3
unfolding entry_words
entry_length (packet number bytes) = let h = data-length bytes in omega arith
entry_length (psd bytes) = let h = data-length bytes in omega arith
entry_length (note cause piece) = refl

pub note-length : (cause piece : ℕ) → length (entry_words (note cause piece)) ≡ 1
note-length cause piece = entry_length (note cause piece)

-- logs joined
pub log-append : (a b : List Entry) → log_words (a ++ b) ≡ log_words a ++ log_words b
unfolding log_words
log-append [] b = refl
log-append (e ∷ a) b = ap (λ (r : List ℕ). entry_words e ++ r) (log-append a b) ∙ sym (append_assoc (entry_words e) (log_words a) (log_words b))
