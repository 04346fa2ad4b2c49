-- Logs joined, computed.
use mathlib.Core.Path.{◌≡◌, refl}
use mathlib.Core.Bool.{Bool, true, false, cond}
use mathlib.Core.List.{List, [], ◌∷◌}
use Prim.Native.Nat.{ℕ}
use lib.ListN.{length, replicate}
use Rattle.packet_log.specs.Log.{packet, psd, note, data_words, entry_words, log_words, same_list, data_bytes}
use Rattle.join.specs.Join.{data_of, begun_entry, entries_of, sized, all_sized, is_log, numbers_of, rising_after, rising, out_of_order, with_bit29, partner_of, side_by_side, result_words, join_refusal}

-- core 62, 63 and 0, with PSD and a note between them
abbrev core : List ℕ
core = log_words (packet 62 (1 ∷ []) ∷ note 2 1 ∷ packet 63 (2 ∷ []) ∷ psd (9 ∷ []) ∷ packet 0 (3 ∷ []) ∷ [])

-- enhanced 63 and 0, and another without core
abbrev enhanced : List ℕ
enhanced = log_words (packet 63 (4 ∷ 5 ∷ 6 ∷ 7 ∷ []) ∷ packet 0 (8 ∷ []) ∷ packet 1 (9 ∷ []) ∷ [])

-- two pairs and a packet alone, over the turn of the numbers
pub two-pairs : result_words core enhanced
    ≡ 0x003E0001 ∷ 0x41010000
    ∷ 0x003F0001 ∷ 0x41020000 ∷ 0x203F0004 ∷ 0x43040506 ∷ 0x41070000
    ∷ 0x00000001 ∷ 0x41030000 ∷ 0x20000001 ∷ 0x41080000
    ∷ []
unfolding log_words entry_words data_words data_bytes data_of begun_entry entries_of numbers_of with_bit29 partner_of side_by_side
two-pairs = refl

-- bit 29 in the first word alone
pub marked-once : partner_of (packet 5 (1 ∷ 2 ∷ 3 ∷ 4 ∷ []) ∷ []) 5 ≡ 0x20050004 ∷ 0x43010203 ∷ 0x41040000 ∷ []
unfolding entry_words data_words with_bit29 partner_of
marked-once = refl

pub room-11 : join_refusal core enhanced 11 ≡ 0
unfolding log_words entry_words data_words data_bytes data_of begun_entry entries_of sized all_sized same_list is_log numbers_of rising_after rising out_of_order with_bit29 partner_of side_by_side join_refusal
room-11 = refl

pub room-10 : join_refusal core enhanced 10 ≡ 13
unfolding log_words entry_words data_words data_bytes data_of begun_entry entries_of sized all_sized same_list is_log numbers_of rising_after rising out_of_order with_bit29 partner_of side_by_side join_refusal
room-10 = refl

-- a number twice
abbrev twice : List ℕ
twice = log_words (packet 3 (1 ∷ []) ∷ packet 3 (1 ∷ []) ∷ [])

-- it is 24 in either log, whatever the room
pub core-twice : join_refusal twice core 0 ≡ 24
unfolding log_words entry_words data_words data_bytes data_of begun_entry entries_of sized all_sized same_list is_log numbers_of rising_after rising out_of_order with_bit29 partner_of side_by_side join_refusal
core-twice = refl

pub enhanced-twice : join_refusal core twice 0 ≡ 24
unfolding log_words entry_words data_words data_bytes data_of begun_entry entries_of sized all_sized same_list is_log numbers_of rising_after rising out_of_order with_bit29 partner_of side_by_side join_refusal
enhanced-twice = refl

-- a number between two that rise: 5, 7 and 6, in either log
abbrev falling : List ℕ
falling = log_words (packet 5 (1 ∷ []) ∷ packet 7 (1 ∷ []) ∷ packet 6 (1 ∷ []) ∷ [])

pub core-falling : join_refusal falling core 0 ≡ 24
unfolding log_words entry_words data_words data_bytes data_of begun_entry entries_of sized all_sized same_list is_log numbers_of rising_after rising out_of_order with_bit29 partner_of side_by_side join_refusal
core-falling = refl

pub enhanced-falling : join_refusal core falling 0 ≡ 24
unfolding log_words entry_words data_words data_bytes data_of begun_entry entries_of sized all_sized same_list is_log numbers_of rising_after rising out_of_order with_bit29 partner_of side_by_side join_refusal
enhanced-falling = refl

-- a log of notes alone is accepted; with no core packet the result is empty and 24 isn't checked
pub notes-alone : join_refusal (log_words (note 6 0 ∷ note 2 1 ∷ [])) twice 0 ≡ 0
unfolding log_words entry_words data_words data_bytes data_of begun_entry entries_of sized all_sized same_list is_log numbers_of rising_after rising out_of_order with_bit29 partner_of side_by_side join_refusal
notes-alone = refl

pub none_written : length (result_words (log_words (note 6 0 ∷ note 2 1 ∷ [])) twice) ≡ 0
unfolding log_words entry_words data_words data_bytes data_of begun_entry entries_of with_bit29 partner_of side_by_side
none_written = refl

-- whether one of these is a log
abbrev any_log : List (List ℕ) → Bool
any_log [] = false
any_log (ws ∷ wss) = cond (is_log ws) true (any_log wss)

-- no logs: the result of a join with a pair; data words missing, left over, after a note, without an entry, wrongly counted, not filled by threes, of no
-- byte; an unused byte or bit set, in each kind that has one; a length of 0; a packet over 4,096 bytes
pub no-logs : any_log
    (result_words core enhanced
    ∷ (0x00050004 ∷ 0x43112233 ∷ [])
    ∷ (0x00050003 ∷ 0x43112233 ∷ 0x41440000 ∷ [])
    ∷ (0xC0060000 ∷ 0x41440000 ∷ [])
    ∷ (0x41440000 ∷ [])
    ∷ (0x00050004 ∷ 0x43112233 ∷ 0x42440000 ∷ [])
    ∷ (0x00050004 ∷ 0x42112200 ∷ 0x42334400 ∷ [])
    ∷ (0x00050001 ∷ 0x40000000 ∷ 0x41440000 ∷ [])
    ∷ (0x00050004 ∷ 0x43112233 ∷ 0x41440001 ∷ [])
    ∷ (0x00050002 ∷ 0x42112201 ∷ [])
    ∷ (0x00050004 ∷ 0x47112233 ∷ 0x41440000 ∷ [])
    ∷ (0x00450001 ∷ 0x41440000 ∷ [])
    ∷ (0x80010001 ∷ 0x41440000 ∷ [])
    ∷ (0x00050000 ∷ [])
    ∷ (0x80000000 ∷ [])
    ∷ (0x00051001 ∷ [])
    ∷ [])
    ≡ false
unfolding log_words entry_words data_words data_bytes data_of begun_entry entries_of sized all_sized same_list is_log with_bit29 partner_of side_by_side
no-logs = refl

-- a packet of 4,096 bytes, and one of 4,097; PSD may have more
pub longest-packet : is_log (log_words (packet 5 (replicate 4096 1) ∷ [])) ≡ true
unfolding log_words entry_words data_words data_bytes data_of begun_entry entries_of sized all_sized same_list is_log
longest-packet = refl

pub packet-too-long : is_log (log_words (packet 5 (replicate 4097 1) ∷ [])) ≡ false
unfolding log_words entry_words data_words data_bytes data_of begun_entry entries_of sized all_sized same_list is_log
packet-too-long = refl

pub longer-psd : is_log (log_words (psd (replicate 4097 1) ∷ [])) ≡ true
unfolding log_words entry_words data_words data_bytes data_of begun_entry entries_of sized all_sized same_list is_log
longer-psd = refl
