-- Document 02, Ask 13: a running receiver written out as 32-bit words, and read again; Ask 14: with its counts. A word's top four bits are its kind.
use Rattle.std.specs.Prelude.{Bool, true, false, not, ◌&&◌, ◌||◌, cond, List, [], ◌∷◌, ◌++◌, map, ℕ, ◌+◌, ◌*◌, ◌/◌, ◌%◌, eqb, ltb, length, get_or, take}
use Rattle.refusal.specs.Refusal.{first_of, any_of}
use Rattle.buffer.specs.Buffer.{put_at}
use Rattle.packet_log.specs.Log.{data_words, same_list, data_bytes}
use Rattle.receiver.specs.Receiving.{wrong_state, opened_by}
use Rattle.receiver.specs.declared.Receiver.{Receiver}
use Rattle.receiver.specs.declared.Opened.{Opened}
use Rattle.snapshot.specs.declared.Saved.{Saved}

abbrev pub state_word : ℕ → ℕ → ℕ
state_word kind value = kind * 0x10000000 + value

abbrev pub kind_in : ℕ → ℕ
kind_in w = w / 0x10000000

-- the other 28 bits
abbrev pub value_in : ℕ → ℕ
value_in w = w % 0x10000000

-- ---- the words of a receiver; unused bits are zero

-- a word that is there or absent
abbrev pub optional : Bool → ℕ → List ℕ
optional there w = cond there (w ∷ []) []

-- 0: mode (bits 3-0) and stream (5-4)
abbrev pub mode_word : Receiver → ℕ
mode_word r = state_word 0 (r.stream * 16 + r.mode)

-- 1: last sequence (2-0); absent where it is unknown
abbrev pub sequence_word : Receiver → ℕ
sequence_word r = state_word 1 r.sequence

-- 2: held number (21-16) and length (15-0); absent where nothing is held
abbrev pub held_word : Receiver → ℕ
held_word r = state_word 2 (r.number * 0x10000 + r.held)

-- 3: starting register (7-0)
abbrev pub register_word : Receiver → ℕ
register_word r = state_word 3 r.register

-- 4: entitled programs (bit p for program p), and the applied services in force (10-8; bit 11 set if known, else all four zero)
abbrev pub programs_word : Receiver → ℕ
programs_word r = state_word 4 (cond r.serviced (8 + r.services) 0 * 0x100 + r.entitled)

-- 5: the held bytes, three a word with their count, only the last word under three: the log's data words, whose top four bits are 4, with 5 there
unfoldable pub byte_words : List ℕ → List ℕ
byte_words bytes = map (λ w. w + 0x10000000) (data_words bytes)

-- 6: five words of 16 bits each (15-0), delivered high and low, missing high and low, last number; absent before the first delivery
unfoldable pub count_words : Receiver → List ℕ
count_words r =
    cond (eqb r.delivered 0) []
    (state_word 6 (r.delivered / 0x10000) ∷ state_word 6 (r.delivered % 0x10000) ∷ state_word 6 (r.missing / 0x10000) ∷ state_word 6 (r.missing % 0x10000) ∷ state_word 6 r.last ∷ [])

-- whether kinds 3 and 4 are there: words of older firmware may lack either or both
pub record Kinds : Type 0 where
  pub register : Bool
  pub programs : Bool

-- always written
abbrev pub today : Kinds
today = record { register = true; programs = true }

-- kinds rise; only 5 and 6 repeat
unfoldable pub head_words : Kinds → Receiver → List ℕ
head_words k r =
    mode_word r
    ∷ (optional r.known (sequence_word r)
    ++ (optional (not (eqb r.held 0)) (held_word r)
    ++ (optional k.register (register_word r)
    ++ optional k.programs (programs_word r))))

unfoldable pub words_with : Kinds → Receiver → List ℕ → List ℕ
words_with k r bytes = head_words k r ++ (byte_words bytes ++ count_words r)

-- the held bytes are the first ones of the carry
unfoldable pub saved_words : Receiver → List ℕ → List ℕ
saved_words r carry = words_with today r (take r.held carry)

-- ---- saving: the lent carry, the lent buffer of words before the call, and the receiver

module _ (carry words : List ℕ) (r : Receiver) where
  abbrev pub save_tests : List (Bool × ℕ)
  save_tests =
      (any_of (wrong_state r), 1)
      ∷ (ltb (length carry) 4096, 2)
      ∷ (ltb (length words) (length (saved_words r carry)), 26)  -- a word buffer too short
      ∷ []

  unfoldable pub save_number : ℕ
  save_number = first_of save_tests

  -- the answer: the refusal number, 0 where there is none, and the count of words written
  unfoldable pub saved : Saved
  saved = cond (eqb save_number 0) (record { refusal = 0; words = length (saved_words r carry) }) (record { refusal = save_number; words = 0 })

  -- the buffer after the call: the words from its first on, and the rest stays
  unfoldable pub words_after : List ℕ
  words_after = cond (eqb save_number 0) (put_at words 0 (saved_words r carry)) words

-- ---- what words say

-- whether there is one of a kind
unfoldable pub has : ℕ → List ℕ → Bool
has kind [] = false
has kind (w ∷ ws) = eqb (kind_in w) kind || has kind ws

-- the other bits of the first of a kind, 0 where there is none
unfoldable pub value_of : ℕ → List ℕ → ℕ
value_of kind [] = 0
value_of kind (w ∷ ws) = cond (eqb (kind_in w) kind) (value_in w) (value_of kind ws)

-- the bytes of all of kind 5, which stand as in data words of the log
unfoldable pub bytes_in : List ℕ → List ℕ
bytes_in [] = []
bytes_in (w ∷ ws) = cond (eqb (kind_in w) 5) (data_bytes w) [] ++ bytes_in ws

-- the words from the first of a kind on, none where there is none
unfoldable pub from_kind : ℕ → List ℕ → List ℕ
from_kind kind [] = []
from_kind kind (w ∷ ws) = cond (eqb (kind_in w) kind) (w ∷ ws) (from_kind kind ws)

-- bits 15-0 of word i of the counts, which begin with the first of kind 6; 0 where there is none
abbrev pub count_in : List ℕ → ℕ → ℕ
count_in ws i = get_or (from_kind 6 ws) i 0 % 0x10000

abbrev pub kinds_in : List ℕ → Kinds
kinds_in ws = record { register = has 3 ws; programs = has 4 ws }

-- a kind that is absent means zero: no sequence is known, nothing is held; register 0; nothing entitled, services unknown; nothing delivered
unfoldable pub receiver_in : List ℕ → Receiver
receiver_in ws = record {
  mode = value_of 0 ws % 16;
  stream = value_of 0 ws / 16 % 4;
  register = value_of 3 ws % 0x100;
  entitled = value_of 4 ws % 0x100;
  known = has 1 ws;
  sequence = value_of 1 ws % 8;
  held = value_of 2 ws % 0x10000;
  number = value_of 2 ws / 0x10000 % 64;
  serviced = eqb (value_of 4 ws / 0x800 % 2) 1;
  services = value_of 4 ws / 0x100 % 8;
  delivered = count_in ws 0 * 0x10000 + count_in ws 1;
  missing = count_in ws 2 * 0x10000 + count_in ws 3;
  last = count_in ws 4 % 0x100;
}

-- ---- number 25

-- Whether words are of this form: the receiver that they say, with as many bytes as it holds, has these very words. It has others where a kind is out of order, repeated
-- or unknown, where kind 0 is missing, 2 comes without 5 or 5 without 2, where a word of kind 5 is wrongly counted or not filled, where kind 6 has not five words or says
-- that nothing was delivered, or an unused bit is set.
unfoldable pub is_form : List ℕ → Bool
is_form ws = eqb (length (bytes_in ws)) (receiver_in ws).held && same_list (words_with (kinds_in ws) (receiver_in ws) (bytes_in ws)) ws

-- not of this form, or a field outside its range, mode and stream included: one for which number 1 turns a receiver down
unfoldable pub wrong_words : List ℕ → Bool
wrong_words ws = not (is_form ws) || any_of (wrong_state (receiver_in ws))

-- ---- loading: the words, and the lent carry before the call

module _ (ws carry : List ℕ) where
  abbrev pub load_tests : List (Bool × ℕ)
  load_tests = (ltb (length carry) 4096, 2) ∷ (wrong_words ws, 25) ∷ []

  unfoldable pub load_number : ℕ
  load_number = first_of load_tests

  -- the answer: the receiver; if refused, one that every call turns down with 1
  unfoldable pub loaded : Opened
  loaded = opened_by load_number (receiver_in ws)

  -- the carry after the call: the held bytes first, and the rest stays
  unfoldable pub carry_loaded : List ℕ
  carry_loaded = cond (eqb load_number 0) (put_at carry 0 (bytes_in ws)) carry
