-- Document 02, Ask 11: what receivers logged is never refused with 23. Calls, and what they log, are those of whole runs (delivery/specs/Delivery.antt).
use Rattle.std.specs.Prelude.{◌≡◌, List, ℕ}
use Rattle.algebra.specs.Places.{All}
use Rattle.writer.specs.RoundTrip.{Bytes}
use Rattle.join.specs.Join.{join_refusal}
use Rattle.delivery.specs.Delivery.{Station, Call, defined, seen_from, logs_in}
use Rattle.delivery.specs.Interruptions.{BytesIn}

-- Any two receivers with any carries, any lists of calls, batches, pairs and refused ones included, any room: whatever the calls logged, joining it is not refused
-- with 23
abbrev pub NeverRefused : Type 0
NeverRefused =
    (core enhanced : Station) (calls others : List Call) (room : ℕ) → Bytes core.carry → Bytes enhanced.carry → All BytesIn calls → All BytesIn others
    → ¬ (join_refusal (logs_in (seen_from defined core calls)) (logs_in (seen_from defined enhanced others)) room ≡ 23)
