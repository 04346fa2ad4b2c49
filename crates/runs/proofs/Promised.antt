-- The general theorem in the words of the papers.
use Prim.Native.Nat.{ℕ}
use mathlib.Core.Path.{◌≡◌, sym, ap, subst, ◌∙◌}
use mathlib.Core.List.{List, ◌++◌}
use mathlib.Core.Option.{none}
use lib.ListN.{replicate}
use Rattle.packet_log.specs.Log.{log_words}
use Rattle.reassembly.specs.Rights.{Rights}
use Rattle.reassembly.specs.Tally.{no_tally, tallied}
use Rattle.runs.specs.Spans.{Fate, lies, whole_indices, due_at}
use Rattle.runs.specs.Transmissions.{gone, Close, AddsUp}
use Rattle.runs.proofs.Model.{whole_packets}
use Rattle.runs.proofs.Calls.{Load, spans_from, labels_of, Machine, Bridge, Step, ways_handed, logs_from, fates_from}
use Rattle.runs.proofs.Promise.{fates, arrived_by, Promise}
use Rattle.runs.proofs.General.{arrivals, Asked, general}
use Rattle.runs.proofs.Bridges.{fates-along}
use Rattle.runs.proofs.Looking.{told_is}

module _ (rights : Rights) (range : ℕ) (M : Machine) (B : Bridge rights range M) (ps : List (List ℕ)) (loads : List Load) (made : List B.Pdu) (first count : ℕ) (x : M.State) (ss : List (Step B)) where
  -- what came of each PDU, looking back from it
  told : fates_from rights range first (ways_handed B ss) loads ≡ fates rights range first ps (spans_from 0 0 ps loads) (labels_of loads) (ways_handed B ss)
  told = fates-along rights range loads (replicate first gone ++ ways_handed B ss) 0 none ∙ sym (told_is rights range (labels_of loads) (replicate first gone ++ ways_handed B ss))

  pub arrivals-told : arrivals rights range M B ps loads made first count x ss ≡ arrived_by rights range first ps (spans_from 0 0 ps loads) (labels_of loads) (ways_handed B ss)
  arrivals-told = ap (λ (w : List Fate). whole_packets (due_at (lies ps (spans_from 0 0 ps loads) w)) 0 0 ps) told

  pub promised : (d : Asked rights range M B ps loads made first count x ss)
      → Promise rights range first ps (spans_from 0 0 ps loads) (labels_of loads) (ways_handed B ss) (logs_from B x ss) (general rights range M B ps loads made first count x ss d).last.tally
  promised d =
      let g = general rights range M B ps loads made first count x ss d in
      record {
        holds = g.log ∙ ap log_words arrivals-told;
        counted = g.tally ∙ ap (tallied no_tally) arrivals-told;
        adds-up = subst (λ (w : List Fate). Close (whole_indices (due_at (lies ps (spans_from 0 0 ps loads) w)) 0 0 ps) → AddsUp (whole_indices (due_at (lies ps (spans_from 0 0 ps loads) w)) 0 0 ps) g.last.tally) told g.adds-up;
      }
