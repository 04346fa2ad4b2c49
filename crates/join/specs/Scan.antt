-- Logs gone through word by word.
-- What private steps of `join` promise each other; its own promise is in Join.antt alone.
use Rattle.std.specs.Prelude.{◌≡◌, Bool, true, false, ◌&&◌, cond, List, [], ◌∷◌, ◌++◌, ℕ, zero, suc, ◌-◌, ◌/◌, ◌%◌, ◌<◌, ◌≤◌, min, eqb, leb, ltb, length, get_or, drop}
use Rattle.packet_log.specs.Log.{kind_of}
use Rattle.join.specs.Join.{high, low, number, with_bit29}

-- ---- whether words are a log

-- whether a word of this kind, with this in bits 29-16 and in bits 15-0, begins an entry: a packet of 1 to 4,096 bytes whose bits 29-22 are
-- clear, PSD of at least one byte whose bits 29-16 are clear, or a note
unfoldable pub head_fits_as : ℕ → ℕ → ℕ → Bool
head_fits_as zero h l = ltb h 64 && (leb 1 l && leb l 4096)
head_fits_as (suc zero) h l = false
head_fits_as (suc (suc zero)) h l = eqb h 0 && leb 1 l
head_fits_as (suc (suc (suc zero))) h l = true
head_fits_as (suc (suc (suc (suc kind)))) h l = false

-- whether the bytes that a data word of n bytes does not use are zero
unfoldable pub unused_zero : ℕ → ℕ → Bool
unused_zero n l = cond (eqb n 1) (eqb l 0) (cond (eqb n 2) (eqb (l % 256) 0) true)

-- whether a word is a data word of n bytes: bits 29-26 clear, 25-24 n, unused bytes zero
unfoldable pub data_fits : ℕ → ℕ → Bool
data_fits n w = eqb (kind_of w) 1 && (eqb (high w / 256) n && unused_zero n (low w))

-- whether a word may stand where so many bytes of the entry before it are still to come: none, and it begins an entry; else it has
-- three of them, or all that are left
unfoldable pub fits : ℕ → ℕ → Bool
fits left w = cond (eqb left 0) (head_fits_as (kind_of w) (high w) (low w)) (data_fits (min 3 left) w)

-- how many bytes are still to come after it; a note has none
unfoldable pub left_after : ℕ → ℕ → ℕ
left_after left w = cond (eqb left 0) (cond (eqb (kind_of w) 3) 0 (low w)) (left - 3)

-- whether words go on a log where so many bytes are still to come
unfoldable pub is_rest : ℕ → List ℕ → Bool
is_rest left [] = eqb left 0
is_rest left (w ∷ ws) = fits left w && is_rest (left_after left w) ws

-- ---- packets

abbrev pub is_packet : ℕ → Bool
is_packet w = eqb (kind_of w) 0

-- the packet numbers of a log
unfoldable pub numbers : List ℕ → List ℕ
numbers [] = []
numbers (w ∷ ws) = cond (is_packet w) (number w ∷ numbers ws) (numbers ws)

-- the data words that words begin with
unfoldable pub data_run : List ℕ → List ℕ
data_run [] = []
data_run (w ∷ ws) = cond (eqb (kind_of w) 1) (w ∷ data_run ws) []

-- a word and the data words after it
unfoldable pub first_words : List ℕ → List ℕ
first_words [] = []
first_words (w ∷ ws) = w ∷ data_run ws

-- the log from its first packet of a number on
unfoldable pub from_number : ℕ → List ℕ → List ℕ
from_number n [] = []
from_number n (w ∷ ws) = cond (is_packet w && eqb (number w) n) (w ∷ ws) (from_number n ws)

-- 64 places by which, from a place of the log on, the first packet of each number is found; the log's length where there is none
abbrev pub Placed : List ℕ → List ℕ → ℕ → Type 0
Placed places log i = (64 ≡ length places) × ((n : ℕ) → n < 64 → (get_or places n 0 ≤ length log) × (drop (get_or places n 0) log ≡ from_number n (drop i log)))

-- the words of the enhanced packet of a number, none where there is none
unfoldable pub partner : List ℕ → ℕ → List ℕ
partner enhanced n = with_bit29 (first_words (from_number n enhanced))

-- what comes of a core log's first word: a packet's words, and after them those of the enhanced one of its number
unfoldable pub first_joined : List ℕ → List ℕ → List ℕ
first_joined enhanced [] = []
first_joined enhanced (w ∷ ws) = cond (is_packet w) (w ∷ data_run ws ++ partner enhanced (number w)) []

-- what comes of all its words
unfoldable pub joined_words : List ℕ → List ℕ → List ℕ
joined_words enhanced [] = []
joined_words enhanced (w ∷ ws) = first_joined enhanced (w ∷ ws) ++ joined_words enhanced ws
