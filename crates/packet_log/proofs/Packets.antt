-- The packets of a log: filtering the words is laying out the packet entries.
use mathlib.Core.Path.{◌≡◌, refl, ap, ◌∙◌}
use mathlib.Core.Bool.{Bool, true, false, cond}
use mathlib.Core.List.{List, [], ◌∷◌, ◌++◌}
use Prim.Native.Nat.{ℕ, ◌≤◌, ◌<◌}
use native.Mathlib.Omega.{arith}
use lib.ListN.{length}
use Rattle.packet_log.specs.Log.{Entry, packet, psd, note, word, data_word, data_words, entry_words, log_words, kind_of, of_packet, packet_words_after, packets_of}

-- ---- entries that fit their words

-- all are bytes
abbrev pub Bytes : List ℕ → Type 0
Bytes [] = Unit {0}
Bytes (b ∷ bs) = (b < 256) × Bytes bs

-- each part is within its bits
abbrev pub Fit : Entry → Type 0
Fit (packet number bytes) = (number < 64) × (length bytes ≤ 4096) × Bytes bytes
Fit (psd bytes) = (length bytes < 65536) × Bytes bytes
Fit (note cause piece) = (cause < 16384) × (piece < 65536)

abbrev pub FitAll : List Entry → Type 0
FitAll [] = Unit {0}
FitAll (e ∷ es) = Fit e × FitAll es

pub fit_append : (a b : List Entry) → FitAll a → FitAll b → FitAll (a ++ b)
fit_append [] b p q = q
fit_append (e ∷ a) b p q = (p.0, fit_append a b p.1 q)

-- ---- the filter, word by word

-- a word of kind k
by_kind : (before : Bool) (w : ℕ) (ws : List ℕ) (k : ℕ) → kind_of w ≡ k
    → packet_words_after before (w ∷ ws) ≡ cond (of_packet k before) (w ∷ packet_words_after (of_packet k before) ws) (packet_words_after (of_packet k before) ws)
unfolding packet_words_after
by_kind before w ws k e = rw e

-- a data word stays where the word before it does
one-data : (before : Bool) (n a b c : ℕ) (ws : List ℕ) → n ≤ 3 → a < 256 → b < 256 → c < 256
    → packet_words_after before (data_word n a b c ∷ ws) ≡ cond before (data_word n a b c ∷ []) [] ++ packet_words_after before ws
one-data true n a b c ws h p q r = by_kind true (data_word n a b c) ws 1 (omega arith)
one-data false n a b c ws h p q r = by_kind false (data_word n a b c) ws 1 (omega arith)

-- data words stay or go together
all-data : (before : Bool) (b ws : List ℕ) → Bytes b → packet_words_after before (data_words b ++ ws) ≡ cond before (data_words b) [] ++ packet_words_after before ws
unfolding data_words
all-data true [] ws h = refl
all-data false [] ws h = refl
all-data before (a ∷ []) ws h = one-data before 1 a 0 0 ws (omega arith) h.0 (omega arith) (omega arith)
all-data before (a ∷ b ∷ []) ws h = one-data before 2 a b 0 ws (omega arith) h.0 h.1.0 (omega arith)
all-data true (a ∷ b ∷ c ∷ rest) ws h =
    one-data true 3 a b c (data_words rest ++ ws) (omega arith) h.0 h.1.0 h.1.1.0 ∙ ap (λ (r : List ℕ). data_word 3 a b c ∷ r) (all-data true rest ws h.1.1.1)
all-data false (a ∷ b ∷ c ∷ rest) ws h =
    one-data false 3 a b c (data_words rest ++ ws) (omega arith) h.0 h.1.0 h.1.1.0 ∙ all-data false rest ws h.1.1.1

-- filtering the words is laying out the packet entries
pub packet-words : (before : Bool) (es : List Entry) → FitAll es → packet_words_after before (log_words es) ≡ log_words (packets_of es)
unfolding log_words entry_words packets_of
packet-words before [] h = unfold packet_words_after in refl
packet-words before (packet number bytes ∷ es) h =
    by_kind before (word 0 number (length bytes)) (data_words bytes ++ log_words es) 0 (omega (arith, h.0.0, h.0.1))
    ∙ ap (λ (r : List ℕ). word 0 number (length bytes) ∷ r) (all-data true bytes (log_words es) h.0.2 ∙ ap (λ (r : List ℕ). data_words bytes ++ r) (packet-words true es h.1))
packet-words before (psd bytes ∷ es) h =
    by_kind before (word 2 0 (length bytes)) (data_words bytes ++ log_words es) 2 (omega (arith, h.0.0)) ∙ all-data false bytes (log_words es) h.0.1 ∙ packet-words false es h.1
packet-words before (note cause piece ∷ es) h = by_kind before (word 3 cause piece) (log_words es) 3 (omega (arith, h.0.0, h.0.1)) ∙ packet-words false es h.1
