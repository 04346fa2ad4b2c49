-- How a PDU p with locators of a width may come as q, pieces damaged too: its first 96 bytes altered and marked within the bound (Delivery.antt, `Correctable`),
-- bytes 96 to La as sent, and each piece with its CRC byte either as sent or damaged. What may happen to a received PDU is this one notion, by whatever register the
-- CRCs start with (document 02, Ask 2), and each promise is the case in which the rest is empty: demand 3 and marks (Ask 3), no damage (Delivery.antt,
-- `HeaderAltered`); two copies of a PDU (Ask 5), wrong CRCs (Diversity.antt, `WrongCrc`); bursts (Ask 12), no other damage (Bursts.antt, `Hit`).
use Rattle.std.specs.Prelude.{◌≡◌, Bool, false, ◌||◌, cond, List, [], ◌∷◌, ◌++◌, ℕ, ◌+◌, ◌<◌, length, get_or, take, drop}
use Rattle.layout.specs.Control.{control_at}
use Rattle.layout.specs.Locators.{locator_at}
use Rattle.modes.specs.Modes.{listing}
use Rattle.pdu.specs.Reading.{mode_in, start_at, length_at}
use Rattle.runs.specs.Transmissions.{Way, gone, here}
use Rattle.packet_log.specs.Log.{same_list}
use Rattle.delivery.specs.Delivery.{Correctable, Copies, alone, paired, Step, receives, batches, stops, loses, refuses, Run, run_of, made}

-- what a receiver reads of a PDU p that came as q, once corrected: the header is p's again
abbrev pub restored : List ℕ → List ℕ → List ℕ
restored p q = take 96 p ++ drop 96 q

-- how many bytes are before the first piece of p
abbrev pub front_length : List ℕ → ℕ
front_length p = (control_at p).la + 1

module _ (width : ℕ) (p : List ℕ) where
  -- piece k of y, by the control word and the locators of p, and the byte where its CRC stands
  abbrev pub bytes_at : List ℕ → ℕ → List ℕ
  bytes_at y k = take (length_at width (control_at p) p k) (drop (start_at width (control_at p) p k) y)

  abbrev pub crc_at : List ℕ → ℕ → ℕ
  crc_at y k = get_or y (locator_at width p k) 0

  -- piece k with its CRC byte
  abbrev pub sealed_piece : List ℕ → ℕ → List ℕ
  sealed_piece y k = bytes_at y k ++ (crc_at y k ∷ [])

  -- it is as sent, once q is corrected
  abbrev pub as_sent : List ℕ → ℕ → Bool
  as_sent q k = same_list (sealed_piece (restored p q) k) (sealed_piece p k)

-- what may have become of piece k of p, read as y, by the register that CRCs start with and the locators' width
abbrev pub Damage : Type 1
Damage = (register width : ℕ) (p y : List ℕ) (k : ℕ) → Type 0

-- q has p's length, and of the first 96 bytes some are altered and marked within the bound; bytes 96 to La are as sent, and every piece that is not as sent is damaged
-- so. Bytes after the last locator may be any
pub record Damaged (damage : Damage) (register width : ℕ) (marks p q : List ℕ) : Type 0 where
  pub header : Correctable marks p q
  pub front : drop 96 (take (front_length p) q) ≡ drop 96 (take (front_length p) p)
  pub pieces : (k : ℕ) → k < (control_at p).nop → as_sent width p q k ≡ false → damage register width p (restored p q) k

-- ---- how the PDUs of a run came

-- a piece is taken that is sound
abbrev pub came_as : (ℕ → Bool) → Way
came_as sound = here (λ k. cond (sound k) 0 2)

-- told by which pieces of a copy q of p are sound
module _ (sound : (p q : List ℕ) → ℕ → Bool) where
  -- in one copy at least
  abbrev pub sound_in : List ℕ → Copies → ℕ → Bool
  sound_in p (alone marks q) k = sound p q k
  sound_in p (paired q r) k = sound p q k || sound p r k

  abbrev pub ways_in : List (List ℕ) → List (List ℕ) → List Way
  ways_in ps [] = []
  ways_in [] (q ∷ qs) = []
  ways_in (p ∷ ps) (q ∷ qs) = came_as (sound p q) ∷ ways_in ps qs

  abbrev pub ways_from : List (List ℕ) → List Step → List Way
  ways_from ps [] = []
  ways_from ps (refuses c ∷ ss) = ways_from ps ss
  ways_from ps (batches qs log ∷ ss) = ways_in ps qs ++ ways_from (drop (length qs) ps) ss
  ways_from ps (stops qs lengths bytes log ∷ ss) = ways_in ps qs ++ ways_from (drop (length qs) ps) ss
  ways_from [] (receives copies log ∷ ss) = []
  ways_from [] (loses log ∷ ss) = []
  ways_from (p ∷ ps) (receives copies log ∷ ss) = came_as (sound_in p copies) ∷ ways_from ps ss
  ways_from (p ∷ ps) (loses log ∷ ss) = gone ∷ ways_from ps ss

abbrev pub width_in : Run → ℕ
width_in r = (mode_in (listing r.mode r.stream)).width

-- the sound pieces are those as sent
abbrev pub ways_of : Run → List Way
ways_of r = ways_from (as_sent (width_in r)) (run_of r.first r.count (made r)) r.steps
