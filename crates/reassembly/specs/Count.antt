-- How many log words the steps of document 01, "Receiver", write, how many bytes they leave held, and what they deliver (document 02, Ask 14), by lengths alone.
use Rattle.std.specs.Prelude.{Bool, true, false, cond, List, ℕ, zero, suc, ◌+◌, ◌-◌, ◌*◌, ◌/◌, ◌≤◌, eqb, ltb, get_or}
use Rattle.layout.specs.Control.{piece_number}
use Rattle.reassembly.specs.Run.{place_at, length_by, ends_at, first_cause}
use Rattle.reassembly.specs.Tally.{Tally, counted}
use Rattle.reassembly.specs.declared.Forecast.{Forecast}
use Rattle.reassembly.specs.declared.Head.{Head}
use Rattle.reassembly.specs.declared.PieceCount.{PieceCount}
use Rattle.reassembly.specs.declared.State.{State}

-- one word, nothing held and nothing delivered
abbrev pub noted : PieceCount
noted = record { words = 1; held = 0; delivers = false }

-- packet bytes, n with what was held
unfoldable pub count_finish : Bool → ℕ → PieceCount
count_finish ends n =
    cond (ltb 4096 n) noted (cond ends (record { words = 1 + (n + 2) / 3; held = 0; delivers = true }) (record { words = 0; held = n; delivers = false }))

-- a piece of n bytes
unfoldable pub count_piece : ℕ → Bool → Bool → ℕ → ℕ → PieceCount
count_piece held continues ends cause n =
    cond (eqb cause 0) (cond continues (cond (eqb held 0) noted (count_finish ends (held + n))) (count_finish ends n)) noted

-- a piece of packet number n more, and so many words more
unfoldable pub with_piece : Forecast → PieceCount → ℕ → Forecast
with_piece x p n = record { words = x.words + p.words; tally = cond p.delivers (counted x.tally n) x.tally }

abbrev pub with_words : Forecast → ℕ → Forecast
with_words x n = record { words = x.words + n; tally = x.tally }

-- n pieces from piece k on
unfoldable pub count_from : (ℕ → ℕ) → List ℕ → List ℕ → Bool → ℕ → ℕ → Bool → ℕ → Forecast → Forecast
count_from number marks causes plast k zero continues held x = x
count_from number marks causes plast k (suc n) continues held x =
    let p = count_piece held continues (ends_at plast n) (get_or causes k 0) (length_by marks k) in
    count_from number marks causes plast (k + 1) n false p.held (with_piece x p (number k))

-- PSD of n bytes
abbrev pub count_psd : ℕ → ℕ
count_psd n = cond (eqb n 0) 0 (1 + (n + 2) / 3)

-- the piece of a withheld PDU that continues so many held bytes, if there is one
unfoldable pub count_continuing : Head → List ℕ → List ℕ → ℕ → Forecast → Forecast
count_continuing h marks causes held x =
    cond (eqb held 0) x
    (cond (eqb h.nop 0) x (with_piece x (count_piece held true (ends_at h.plast (h.nop - 1)) (get_or causes 0 0) (length_by marks 0)) (piece_number h.pfirst h.start 0)))

-- steps 3 and 4, with so many bytes held: a withheld PDU has note 8 in place of PSD
unfoldable pub count_contents : Bool → Head → List ℕ → List ℕ → ℕ → Forecast → Forecast
count_contents false h marks causes held x =
    count_from (piece_number h.pfirst h.start) marks causes h.plast 0 h.nop h.pfirst held (with_words x (count_psd (place_at marks 0 - h.psd)))
count_contents true h marks causes held x = count_continuing h marks causes held (with_words x 1)

-- a whole PDU, withheld or not: the note with which it begins drops what is held
unfoldable pub count_all : Bool → State → ℕ → Head → List ℕ → List ℕ → Tally → Forecast
count_all withheld s range h marks causes t =
    cond (eqb (first_cause s range h) 0) (count_contents withheld h marks causes s.held (record { words = 0; tally = t }))
    (count_contents withheld h marks causes 0 (record { words = 1; tally = t }))

-- after at most j pieces: so far nothing can overflow
pub record Bounded (j : ℕ) (x : Forecast) : Type 0 where
  pub words : x.words ≤ 23000 + 1400 * j
  pub delivered : x.tally.delivered ≤ 4294967295 + j
  pub missing : x.tally.missing ≤ 4294967295 + 63 * j
  pub last : x.tally.last ≤ 63
