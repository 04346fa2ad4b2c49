-- Document 01, "Receiver": log words have 32 bits; bits 31-30 are the kind.
use Rattle.std.specs.Prelude.{◌≡◌, Bool, true, false, ◌&&◌, cond, List, [], ◌∷◌, ◌++◌, ℕ, zero, suc, ◌+◌, ◌-◌, ◌*◌, ◌/◌, ◌%◌, min, eqb, length, get_or, take, drop}
use Rattle.buffer.specs.Buffer.{put_at}

pub data Entry : Type 0 where
  packet : ℕ → List ℕ → Entry  -- number, bytes
  psd : List ℕ → Entry  -- bytes
  note : ℕ → ℕ → Entry  -- cause, piece (0 if none)

-- a word of a kind, from what stands in bits 29-16 and in bits 15-0
abbrev pub word : ℕ → ℕ → ℕ → ℕ
word kind high low = kind * 0x40000000 + high * 0x10000 + low

-- kind 1, data: bits 25-24 how many bytes (1 to 3), first in 23-16, unused zero
abbrev pub data_word : ℕ → ℕ → ℕ → ℕ → ℕ
data_word n a b c = word 1 (n * 0x100 + a) (b * 0x100 + c)

-- bytes by threes; the last word has 1 to 3
unfoldable pub data_words : List ℕ → List ℕ
data_words [] = []
data_words (a ∷ []) = data_word 1 a 0 0 ∷ []
data_words (a ∷ b ∷ []) = data_word 2 a b 0 ∷ []
data_words (a ∷ b ∷ c ∷ rest) = data_word 3 a b c ∷ data_words rest

-- the bytes of a data word: as many as bits 25-24 say, the first in 23-16
unfoldable pub data_bytes : ℕ → List ℕ
data_bytes w = take (w / 0x1000000 % 4) (w / 0x10000 % 0x100 ∷ w / 0x100 % 0x100 ∷ w % 0x100 ∷ [])

-- the data word of the bytes from a place on, three at most
abbrev pub data_word_at : List ℕ → ℕ → ℕ
data_word_at bytes i = data_word (min 3 (length bytes - i)) (get_or bytes i 0) (get_or bytes (i + 1) 0) (get_or bytes (i + 2) 0)

-- a log in which the first words of the bytes from a place on stand from `at` on, in number r: the others come behind them, whatever follows
-- the bytes
abbrev pub Leaves : List ℕ → ℕ → List ℕ → ℕ → List ℕ → ℕ → Type 0
Leaves log at bytes i after r =
    (rest : List ℕ) → put_at after (at + r) (data_words (drop (i + 3 * r) (bytes ++ rest))) ≡ put_at log at (data_words (drop i (bytes ++ rest)))

-- kind 0, packet: bits 21-16 number, 15-0 length; kind 2, PSD: 15-0 length; kind 3, note: 29-16 cause, 15-0 piece.
-- Data words follow kinds 0 and 2.
unfoldable pub entry_words : Entry → List ℕ
entry_words (packet number bytes) = word 0 number (length bytes) ∷ data_words bytes
entry_words (psd bytes) = word 2 0 (length bytes) ∷ data_words bytes
entry_words (note cause piece) = word 3 cause piece ∷ []

-- the words of entries, joined
unfoldable pub log_words : List Entry → List ℕ
log_words [] = []
log_words (e ∷ es) = entry_words e ++ log_words es

-- ---- the packets of a log

abbrev pub kind_of : ℕ → ℕ
kind_of w = w / 0x40000000

-- whether a word of this kind is a packet's, when the word before it was one or not: a packet's own words are the kind 0 word and the data
-- words that follow it
abbrev pub of_packet : ℕ → Bool → Bool
of_packet zero before = true
of_packet (suc zero) before = before
of_packet (suc (suc k)) before = false

-- the kind 0 words of a log, each with its data words
unfoldable pub packet_words_after : Bool → List ℕ → List ℕ
packet_words_after before [] = []
packet_words_after before (w ∷ ws) = let here = of_packet (kind_of w) before in cond here (w ∷ packet_words_after here ws) (packet_words_after here ws)

abbrev pub packet_words : List ℕ → List ℕ
packet_words ws = packet_words_after false ws

-- the packet entries
unfoldable pub packets_of : List Entry → List Entry
packets_of [] = []
packets_of (packet number bytes ∷ es) = packet number bytes ∷ packets_of es
packets_of (psd bytes ∷ es) = packets_of es
packets_of (note cause piece ∷ es) = packets_of es

-- ---- two lists of words or of bytes

unfoldable pub same_list : List ℕ → List ℕ → Bool
same_list [] [] = true
same_list [] (b ∷ l) = false
same_list (a ∷ k) [] = false
same_list (a ∷ k) (b ∷ l) = eqb a b && same_list k l
