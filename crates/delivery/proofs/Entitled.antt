-- Document 02, Ask 10: a receiver that is entitled to all programs withholds nothing.
use mathlib.Core.Path.{◌≡◌, refl, ap, ◌∙◌, fun_ext}
use mathlib.Core.Bool.{cond}
use mathlib.Core.List.{List, [], ◌∷◌, ◌++◌, map}
use mathlib.Core.Option.{none}
use Prim.Native.Nat.{ℕ, ◌-◌}
use native.Mathlib.Omega.{arith}
use lib.ListN.{length, replicate}
use Rattle.algebra.specs.Places.{All}
use Rattle.modes.specs.Modes.{listing}
use Rattle.pdu.specs.Reading.{mode_in}
use Rattle.reassembly.specs.Rights.{Rights, Label}
use Rattle.receiver.specs.Entitling.{all_programs}
use Rattle.runs.specs.Spans.{Mark, verdicts, packet_at, Span, covers, lies, due_at, whole_indices}
use Rattle.runs.specs.Transmissions.{Way, gone}
use Rattle.runs.proofs.Calls.{plain_fate, plain_fates, AllEntitled}
use Rattle.runs.proofs.Promise.{fates}
use Rattle.runs.proofs.Bridges.{entitled-plain}
use Rattle.runs.proofs.Looking.{told_is}
use Rattle.delivery.specs.Delivery.{Writing, Run}
use Rattle.delivery.proofs.Parts.{spans, due_indices}
use Rattle.delivery.specs.Entitlement.{labels_from, rights_for}
use Rattle.delivery.proofs.Made.{SaneLabel}
use Rattle.delivery.proofs.Entitling.{all_listed}
use Rattle.delivery.proofs.Channel.{MadeRight}

every-entitled : (mode stream : ℕ) (ls : List Label) → All SaneLabel ls → AllEntitled (rights_for mode stream all_programs) ls
every-entitled mode stream [] h = tt
every-entitled mode stream (l ∷ ls) h = (all_listed l.program h.0.0, every-entitled mode stream ls h.1)

-- PDUs that have a label each
lies-plain : (ps : List (List ℕ)) (ss : List Span) (ls : List Label) (ws : List Way) (j : ℕ) → length ls ≡ length ss → lies ps ss (plain_fates ws ls) j ≡ lies ps ss (map plain_fate ws) j
unfolding plain_fates
lies-plain ps [] ls ws j n = refl
lies-plain ps (s ∷ ss) [] ws j n = absurd (omega (arith, n))
lies-plain ps (s ∷ ss) (l ∷ ls) [] j n = refl
lies-plain ps (s ∷ ss) (l ∷ ls) (w ∷ ws) j n =
    ap (λ (x : Mark). cond (covers s j) (verdicts (plain_fate w) (packet_at ps j - packet_at ps s.from)) x) (lies-plain ps ss ls ws j (omega (arith, n)))

-- so what came of each byte is told by the ways alone
pub all-marks : (mode stream register : ℕ) (packets : List (List ℕ)) (writings : List Writing) (first : ℕ) (ws : List Way) → MadeRight mode stream register packets writings
    → lies packets (spans mode stream packets writings) (fates (rights_for mode stream all_programs) (mode_in (listing mode stream)).sequences first packets (spans mode stream packets writings) (labels_from mode stream packets 0 writings) ws)
    ≡ lies packets (spans mode stream packets writings) (map plain_fate (replicate first gone ++ ws))
all-marks mode stream register packets writings first ws h =
    let rights : Rights = rights_for mode stream all_programs in
    let range : ℕ = (mode_in (listing mode stream)).sequences in
    let ls : List Label = labels_from mode stream packets 0 writings in
    let all : List Way = replicate first gone ++ ws in
    ap (lies packets (spans mode stream packets writings)) (told_is rights range ls all ∙ entitled-plain rights range ls all 0 none (every-entitled mode stream ls h.labels))
    ∙ fun_ext (λ j. lies-plain packets (spans mode stream packets writings) ls all j h.labelled)

-- and all packets that arrived whole are due
pub all-indices : (r : Run) → r.programs ≡ all_programs → (ws : List Way) → MadeRight r.mode r.stream r.register r.packets r.writings
    → due_indices r.mode r.stream r.programs r.packets r.writings r.first ws
    ≡ whole_indices (due_at (lies r.packets (spans r.mode r.stream r.packets r.writings) (map plain_fate (replicate r.first gone ++ ws)))) 0 0 r.packets
all-indices r e ws h =
    ap (λ (l : List ℕ). due_indices r.mode r.stream l r.packets r.writings r.first ws) e
    ∙ ap (λ (f : ℕ → Mark). whole_indices (due_at f) 0 0 r.packets) (all-marks r.mode r.stream r.register r.packets r.writings r.first ws h)
