-- Lists of words, computed: which are read, and which are 25.
use mathlib.Core.Path.{◌≡◌, refl}
use mathlib.Core.Bool.{true, false, not}
use mathlib.Core.List.{List, [], ◌∷◌, map}
use Prim.Native.Nat.{ℕ}
use Rattle.refusal.specs.Refusal.{any_of}
use Rattle.modes.specs.Modes.{listing}
use Rattle.packet_log.specs.Log.{data_words, same_list, data_bytes}
use Rattle.receiver.specs.Receiving.{fresh}
use Rattle.receiver.specs.declared.Receiver.{Receiver}
use Rattle.snapshot.specs.Snapshot.{today, head_words, byte_words, count_words, words_with, has, value_of, bytes_in, from_kind, receiver_in, is_form, wrong_words}

-- mode 1, core, after sequence 3, with the beginning of packet 5, bytes 0A 0B 0C 0D, held; register 255; programs 0 and 7, services 1 in force
abbrev running : Receiver
running = record { mode = 1; stream = 0; register = 255; entitled = 0x81; known = true; sequence = 3; held = 4; number = 5; serviced = true; services = 1; delivered = 0; missing = 0; last = 0 }

abbrev running_words : List ℕ
running_words = 0x00000001 ∷ 0x10000003 ∷ 0x20050004 ∷ 0x300000FF ∷ 0x40000981 ∷ 0x530A0B0C ∷ 0x510D0000 ∷ []

pub written : words_with today running (0x0A ∷ 0x0B ∷ 0x0C ∷ 0x0D ∷ []) ≡ running_words
unfolding words_with head_words byte_words count_words data_words
written = refl

pub read : receiver_in running_words ≡ running
unfolding receiver_in has value_of from_kind
read = refl

pub read-bytes : bytes_in running_words ≡ 0x0A ∷ 0x0B ∷ 0x0C ∷ 0x0D ∷ []
unfolding bytes_in data_bytes
read-bytes = refl

pub accepted : wrong_words running_words ≡ false
unfolding wrong_words is_form same_list receiver_in words_with head_words byte_words count_words data_words has value_of data_bytes bytes_in from_kind listing
accepted = refl

-- before the first delivery there is no word of kind 6
pub counts-absent : count_words running ≡ []
unfolding count_words
counts-absent = refl

-- the same with no services in force, 65,538 packets delivered, three missing, and number 4 the last
abbrev counting : Receiver
counting = record { mode = 1; stream = 0; register = 255; entitled = 0x81; known = true; sequence = 3; held = 4; number = 5; serviced = false; services = 0; delivered = 65538; missing = 3; last = 4 }

abbrev counting_words : List ℕ
counting_words =
    0x00000001 ∷ 0x10000003 ∷ 0x20050004 ∷ 0x300000FF ∷ 0x40000081 ∷ 0x530A0B0C ∷ 0x510D0000 ∷ 0x60000001 ∷ 0x60000002 ∷ 0x60000000 ∷ 0x60000003 ∷ 0x60000004 ∷ []

pub counts-written : words_with today counting (0x0A ∷ 0x0B ∷ 0x0C ∷ 0x0D ∷ []) ≡ counting_words
unfolding words_with head_words byte_words count_words data_words
counts-written = refl

pub counts-read : receiver_in counting_words ≡ counting
unfolding receiver_in has value_of from_kind
counts-read = refl

pub counts-accepted : wrong_words counting_words ≡ false
unfolding wrong_words is_form same_list receiver_in words_with head_words byte_words count_words data_words has value_of data_bytes bytes_in from_kind listing
counts-accepted = refl

-- mode 0, core: nothing known or held; register 0 where kind 3 is absent, nothing entitled and services unknown where 4 is, nothing delivered where 6 is
pub older : wrong_words (0 ∷ []) ≡ false
unfolding wrong_words is_form same_list receiver_in words_with head_words byte_words count_words data_words has value_of data_bytes bytes_in from_kind listing
older = refl

pub older-read : receiver_in (0 ∷ []) ≡ fresh 0 0 0 0
unfolding receiver_in has value_of from_kind
older-read = refl

-- ---- 25

-- lists that are not of this form, or have a field outside its range
abbrev wrong_lists : List (List ℕ)
wrong_lists =
    []  -- no word
    ∷ (0x30000000 ∷ [])  -- kind 0 missing
    ∷ (0 ∷ 0 ∷ [])  -- kind 0 twice
    ∷ (4 ∷ [])  -- mode 4
    ∷ (0x10 ∷ [])  -- stream 1 for mode 0
    ∷ (0 ∷ 0x20010000 ∷ [])  -- kind 2 with length 0
    ∷ (0 ∷ 0x20001001 ∷ 0x53000000 ∷ [])  -- kind 2 with length 4,097, and a word of kind 5
    ∷ (0 ∷ 0x51AA0000 ∷ [])  -- kind 5 without 2
    ∷ (0 ∷ 0x20000001 ∷ [])  -- kind 2 without 5
    ∷ (0 ∷ 0x20000001 ∷ 0x50000000 ∷ [])  -- a word of kind 5 that counts no byte
    ∷ (0 ∷ 0x20000001 ∷ 0x51AA0001 ∷ [])  -- a byte that the count leaves out
    ∷ (0 ∷ 0x20000001 ∷ 0x52AABB00 ∷ [])  -- a byte more than kind 2 says
    ∷ (0x40 ∷ [])  -- an unused bit of kind 0, and of each of the others
    ∷ (0 ∷ 0x10000008 ∷ [])  -- of kind 1
    ∷ (0 ∷ 0x20400001 ∷ 0x51AA0000 ∷ [])  -- of kind 2
    ∷ (0 ∷ 0x30000100 ∷ [])  -- of kind 3
    ∷ (0 ∷ 0x40001000 ∷ [])  -- of kind 4
    ∷ (0 ∷ 0x20000001 ∷ 0x55AA0000 ∷ [])  -- of kind 5
    ∷ (1 ∷ 0x40000100 ∷ [])  -- services while unknown, mode 1
    ∷ (0 ∷ 0x40000800 ∷ [])  -- services known for mode 0, core
    ∷ (0 ∷ 0x10000002 ∷ [])  -- sequence 2 for mode 0, core
    ∷ (0 ∷ 0xF0000000 ∷ [])  -- an unknown kind, 15
    ∷ (0 ∷ 0x40000000 ∷ 0x30000000 ∷ [])  -- kind 4 before 3
    ∷ (0 ∷ 0x30000000 ∷ 0x30000000 ∷ [])  -- kind 3 twice
    ∷ (0 ∷ 0x60000000 ∷ 0x60000001 ∷ 0x60000000 ∷ 0x60000000 ∷ [])  -- kind 6, four words
    ∷ (0 ∷ 0x60000000 ∷ 0x60000001 ∷ 0x60000000 ∷ 0x60000000 ∷ 0x60000000 ∷ 0x60000000 ∷ [])  -- kind 6, six words
    ∷ (0 ∷ 0x60000000 ∷ 0x60000000 ∷ 0x60000000 ∷ 0x60000000 ∷ 0x60000000 ∷ [])  -- delivered 0
    ∷ (0 ∷ 0x60000000 ∷ 0x60000001 ∷ 0x60000000 ∷ 0x60000000 ∷ 0x60000040 ∷ [])  -- last number 64
    ∷ (0 ∷ 0x60000000 ∷ 0x60000001 ∷ 0x60000000 ∷ 0x60000000 ∷ 0x60000100 ∷ [])  -- last number 256
    ∷ (0 ∷ 0x60010000 ∷ 0x60000001 ∷ 0x60000000 ∷ 0x60000000 ∷ 0x60000000 ∷ [])  -- bit 16 set
    ∷ (0 ∷ 0x60000000 ∷ 0x60000001 ∷ 0x60000000 ∷ 0x60000000 ∷ 0x68000000 ∷ [])  -- bit 27 set
    ∷ (0 ∷ 0x20000001 ∷ 0x60000000 ∷ 0x60000001 ∷ 0x60000000 ∷ 0x60000000 ∷ 0x60000000 ∷ 0x51AA0000 ∷ [])  -- kind 6 before 5
    ∷ []

-- none of them is taken
pub refused : any_of (map (λ (ws : List ℕ). not (wrong_words ws)) wrong_lists) ≡ false
unfolding wrong_words is_form same_list receiver_in words_with head_words byte_words count_words data_words has value_of data_bytes bytes_in from_kind listing
refused = refl

-- a short word that is not the last
pub short-first : wrong_words (0 ∷ 0x20000004 ∷ 0x51AA0000 ∷ 0x53AABBCC ∷ []) ≡ true
unfolding wrong_words is_form same_list receiver_in words_with head_words byte_words count_words data_words has value_of data_bytes bytes_in from_kind listing
short-first = refl

-- an unknown kind, 7
pub kind-seven : wrong_words (0 ∷ 0x70000000 ∷ []) ≡ true
unfolding wrong_words is_form same_list receiver_in words_with head_words byte_words count_words data_words has value_of data_bytes bytes_in from_kind listing
kind-seven = refl
