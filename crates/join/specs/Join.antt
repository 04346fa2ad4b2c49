-- Document 02, Ask 11: two logs of one frame, core and enhanced, joined by packet number.
use Rattle.std.specs.Prelude.{Bool, true, not, ◌&&◌, cond, List, [], ◌∷◌, ◌++◌, ℕ, zero, suc, ◌+◌, ◌-◌, ◌/◌, ◌%◌, eqb, leb, ltb, length}
use Rattle.std.specs.Int.Bits.{bit_or}
use Rattle.refusal.specs.Refusal.{first_of}
use Rattle.buffer.specs.Buffer.{put_at}
use Rattle.packet_log.specs.Log.{Entry, packet, psd, note, entry_words, log_words, kind_of, same_list, data_bytes}
use Rattle.join.specs.declared.Joined.{Joined}

-- ---- words read as entries (document 01, "Receiver"; entry_words has the layout)

-- bits 29-16 and bits 15-0 of a word
abbrev pub high : ℕ → ℕ
high w = w / 0x10000 % 0x4000

abbrev pub low : ℕ → ℕ
low w = w % 0x10000

-- bits 21-16
abbrev pub number : ℕ → ℕ
number w = w / 0x10000 % 64

-- the bytes of the data words that words begin with
unfoldable pub data_of : List ℕ → List ℕ
data_of [] = []
data_of (w ∷ ws) = cond (eqb (kind_of w) 1) (data_bytes w ++ data_of ws) []

-- the entry that a word of a kind begins, with the data words after it; a data word begins none
unfoldable pub begun_entry : ℕ → ℕ → List ℕ → List Entry
begun_entry zero w ws = packet (number w) (data_of ws) ∷ []
begun_entry (suc zero) w ws = []
begun_entry (suc (suc zero)) w ws = psd (data_of ws) ∷ []
begun_entry (suc (suc (suc kind))) w ws = note (high w) (low w) ∷ []

unfoldable pub entries_of : List ℕ → List Entry
entries_of [] = []
entries_of (w ∷ ws) = begun_entry (kind_of w) w ws ++ entries_of ws

-- ---- number 23

-- no length of 0, and no packet length over 4,096; a PSD length has 16 bits
unfoldable pub sized : Entry → Bool
sized (packet n bytes) = leb 1 (length bytes) && leb (length bytes) 4096
sized (psd bytes) = leb 1 (length bytes) && ltb (length bytes) 0x10000
sized (note cause piece) = true

unfoldable pub all_sized : List Entry → Bool
all_sized [] = true
all_sized (e ∷ es) = sized e && all_sized es

-- Whether words are a log: the layout gives these very words for their entries. It does not where data words are missing, left over, wrongly counted or not
-- filled by threes up to the last, or where a bit is set that the layout leaves without meaning.
unfoldable pub is_log : List ℕ → Bool
is_log ws = all_sized (entries_of ws) && same_list (log_words (entries_of ws)) ws

-- ---- number 24

-- the packet numbers of a log
unfoldable pub numbers_of : List Entry → List ℕ
numbers_of [] = []
numbers_of (packet n bytes ∷ es) = n ∷ numbers_of es
numbers_of (psd bytes ∷ es) = numbers_of es
numbers_of (note cause piece ∷ es) = numbers_of es

-- a number counted from the log's own first packet, modulo 64
abbrev pub counted_from : ℕ → ℕ → ℕ
counted_from first n = (n + 64 - first) % 64

-- whether numbers so counted rise strictly after the last one
unfoldable pub rising_after : ℕ → ℕ → List ℕ → Bool
rising_after first last [] = true
rising_after first last (n ∷ ns) = ltb last (counted_from first n) && rising_after first (counted_from first n) ns

-- the first one counts 0
unfoldable pub rising : List ℕ → Bool
rising [] = true
rising (n ∷ ns) = rising_after n 0 ns

-- with no core packet it isn't checked
unfoldable pub out_of_order : List ℕ → List ℕ → Bool
out_of_order core enhanced = ltb 0 (length core) && not (rising core && rising enhanced)

-- ---- the result

-- a packet's words, bit 29 set in its first
unfoldable pub with_bit29 : List ℕ → List ℕ
with_bit29 [] = []
with_bit29 (w ∷ ws) = bit_or w 0x20000000 ∷ ws

-- the words of the enhanced packet of a number, as it stands in the log; none where there is none
unfoldable pub partner_of : List Entry → ℕ → List ℕ
partner_of [] n = []
partner_of (packet m bytes ∷ es) n = cond (eqb m n) (with_bit29 (entry_words (packet m bytes))) (partner_of es n)
partner_of (psd bytes ∷ es) n = partner_of es n
partner_of (note cause piece ∷ es) n = partner_of es n

-- in the core's order each core packet's words, and for a pair the enhanced packet's after them; an enhanced packet without core is dropped, PSD and
-- notes are left off
unfoldable pub side_by_side : List Entry → List Entry → List ℕ
side_by_side enhanced [] = []
side_by_side enhanced (packet n bytes ∷ es) = entry_words (packet n bytes) ++ (partner_of enhanced n ++ side_by_side enhanced es)
side_by_side enhanced (psd bytes ∷ es) = side_by_side enhanced es
side_by_side enhanced (note cause piece ∷ es) = side_by_side enhanced es

-- ---- answer and buffer, from the words of the two logs

abbrev pub result_words : List ℕ → List ℕ → List ℕ
result_words core enhanced = side_by_side (entries_of enhanced) (entries_of core)

-- 23, 24, then 13
unfoldable pub join_refusal : List ℕ → List ℕ → ℕ → ℕ
join_refusal core enhanced room =
    first_of
    ((not (is_log core && is_log enhanced), 23)
    ∷ (out_of_order (numbers_of (entries_of core)) (numbers_of (entries_of enhanced)), 24)
    ∷ (ltb room (length (result_words core enhanced)), 13)
    ∷ [])

-- the refusal number and the count of words written
unfoldable pub join_answer : List ℕ → List ℕ → ℕ → Joined
join_answer core enhanced room =
    let n = join_refusal core enhanced room in
    cond (eqb n 0) (record { refusal = 0; words = length (result_words core enhanced) }) (record { refusal = n; words = 0 })

-- the result buffer afterwards: the words from its first on, and the rest stays; a refusal leaves it as it was
unfoldable pub result_after : List ℕ → List ℕ → List ℕ → List ℕ
result_after core enhanced result = cond (eqb (join_refusal core enhanced (length result)) 0) (put_at result 0 (result_words core enhanced)) result
