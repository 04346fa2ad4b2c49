-- Document 02, Ask 5, in its own words: a copy q of a PDU p of the run, in which at most four of the first 96 bytes are altered, bytes 96 to La arrive as sent, and
-- every piece still damaged after mending has a wrong CRC; and what the log of a run of such copies is to hold. FourBytesRuns.antt has the theorem.
use mathlib.Core.Path.{◌≡◌}
use mathlib.Core.Bool.{Bool, false}
use mathlib.Core.List.{List, [], ◌++◌, map}
use Prim.Native.Nat.{ℕ, ◌<◌, ◌≤◌}
use lib.ListN.{length, take, drop, replicate}
use Rattle.crc.specs.Crc.{crc_from}
use Rattle.header.specs.Header.{distance}
use Rattle.layout.specs.Control.{control_at}
use Rattle.correction.specs.Correction.{corrected_pdu}
use Rattle.writer.specs.RoundTrip.{Bytes}
use Rattle.receiver.specs.Entitling.{all_programs}
use Rattle.runs.specs.Spans.{lies, due_at, whole_indices}
use Rattle.runs.specs.Transmissions.{gone}
use Rattle.runs.specs.Withheld.{fate_in}
use Rattle.packet_log.specs.Log.{same_list}
use Rattle.delivery.specs.Delivery.{Coming, Run, run_of, made, spans, Asked, Claim}
use Rattle.delivery.specs.Copies.{front_length, bytes_at, crc_at, sealed_piece, ways_from, width_in}

-- ---- in the paper's words

-- piece k, with its CRC byte, is as sent once q is mended
abbrev pub sent_once_corrected : (width : ℕ) (p q : List ℕ) → ℕ → Bool
sent_once_corrected width p q k = same_list (sealed_piece width p (corrected_pdu q) k) (sealed_piece width p p k)

pub record ComesAs (register width : ℕ) (p q : List ℕ) : Type 0 where
  pub bytes : Bytes q
  pub long : length q ≡ length p
  pub few : distance (take 96 q) (take 96 p) ≤ 4
  pub front : drop 96 (take (front_length p) q) ≡ drop 96 (take (front_length p) p)
  pub damaged : (k : ℕ) → k < (control_at p).nop → sent_once_corrected width p q k ≡ false → ¬ (crc_from register (bytes_at width p (corrected_pdu q) k) ≡ crc_at width p (corrected_pdu q) k)

-- no call has marks
abbrev pub Unmarked : (register width : ℕ) → Coming
Unmarked register width marks p q = (marks ≡ []) × ComesAs register width p q

-- the packets with every byte in PDUs of the run, each of whose pieces is, once mended, as sent in at least one copy
abbrev pub arrived_corrected : Run → List ℕ
arrived_corrected r =
    whole_indices (due_at (lies r.packets (spans r) (map (fate_in false) (replicate r.first gone ++ ways_from (sent_once_corrected (width_in r)) (run_of r.first r.count (made r)) r.steps)))) 0 0 r.packets

abbrev pub corrected_pairs : Claim
corrected_pairs = record { asked = λ r b. (r.programs ≡ all_programs) × Asked r (Unmarked r.register (width_in r)) b; due = arrived_corrected }
