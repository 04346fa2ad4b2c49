-- The promise over a whole run, in the words of the papers: from the packets, where the bytes of each PDU stand, what the writer sent with it, and how
-- each PDU of the run came.
use mathlib.Core.Path.{◌≡◌}
use mathlib.Core.List.{List, [], ◌++◌}
use Prim.Native.Nat.{ℕ}
use lib.ListN.{replicate}
use Rattle.packet_log.specs.Log.{Entry, log_words, packet_words}
use Rattle.reassembly.specs.Rights.{Rights, Label}
use Rattle.reassembly.specs.Tally.{Tally, no_tally, tallied}
use Rattle.runs.specs.Spans.{Fate, Span, lies, whole_indices, due_at}
use Rattle.runs.specs.Transmissions.{Way, gone, Close, AddsUp}
use Rattle.runs.proofs.Model.{whole_packets}
use Rattle.runs.specs.Withheld.{arrivals_from, fates_told}

-- the run begins at PDU `first`; labels: program and applied services of each of the writer's PDUs, 0 where not sent
module _ (rights : Rights) (range first : ℕ) (packets : List (List ℕ)) (spans : List Span) (labels : List Label) (ways : List Way) where
  -- what came of each PDU; those before the run count as lost
  abbrev pub fates : List Fate
  fates = fates_told rights [] (arrivals_from range 0 (replicate first gone ++ ways) labels)

  -- the packets with every byte in a piece that is taken, of a PDU of the run, and that begin in a PDU not withheld
  abbrev pub arrived_by : List Entry
  arrived_by = whole_packets (due_at (lies packets spans fates)) 0 0 packets

  abbrev pub indices : List ℕ
  indices = whole_indices (due_at (lies packets spans fates)) 0 0 packets

  -- the joined logs hold exactly these, and the receiver's counts are theirs
  pub record Promise (log : List ℕ) (counts : Tally) : Type 0 where
    pub holds : packet_words log ≡ log_words arrived_by
    pub counted : counts ≡ tallied no_tally arrived_by
    pub adds-up : Close indices → AddsUp indices counts
