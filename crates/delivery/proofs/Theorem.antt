-- Document 00, demand 3, and document 02, Ask 5: delivery to a receiver that is entitled to all programs, as a case of delivery to one with a list of them.
use mathlib.Core.Path.{◌≡◌, refl, sym, ap, ap₂, subst, ◌∙◌, fun_ext}
use mathlib.Core.Bool.{Bool, true, false, cond, ◌||◌}
use mathlib.Core.List.{List, [], ◌∷◌, ◌++◌, map}
use Prim.Native.Nat.{ℕ, zero, suc, ◌+◌, ◌-◌, ◌≤◌}
use native.Mathlib.Omega.{arith}
use lib.ListN.{length, drop, replicate, length-take, length-append, length-replicate}
use Rattle.packet_log.specs.Log.{log_words}
use Rattle.reassembly.specs.Tally.{no_tally, tallied}
use Rattle.receiver.specs.Entitling.{all_programs, allowed_programs}
use Rattle.runs.specs.Spans.{Fate, lose, read, Mark, lies, due_at, whole_indices, entries_at}
use Rattle.runs.specs.Transmissions.{Way, gone, here}
use Rattle.runs.proofs.Calls.{plain_fate}
use Rattle.delivery.specs.Delivery.{Station, Behaviour, defined, HeaderAltered, station_after, mark_lost, Copies, alone, paired, Comes, AllCome, Step, receives, batches, stops, loses, refuses, call_of, Through, receptions, in_received, Run, run_of, made, spans, fresh_station, arrived, Demand3}
use Rattle.delivery.specs.Copies.{as_sent, sound_in, ways_in, ways_from, width_in, ways_of}
use Rattle.delivery.specs.Entitlement.{due}
use Rattle.delivery.specs.Diversity.{arrived_pieces, PairDelivery}
use Rattle.delivery.proofs.Parts.{EntriesFit, way_by, ways_by}
use Rattle.delivery.proofs.SoundSteps.{causes_for}
use Rattle.delivery.proofs.Made.{sized_of}
use Rattle.delivery.proofs.Damages.{all_sound, entitled-delivers, entitled-pairs-deliver}
use Rattle.delivery.proofs.Counted.{adds-along}
use Rattle.delivery.proofs.Lies.{fates_by, received-take, lies-received, indices-same}
use Rattle.delivery.proofs.Channel.{made-right}
use Rattle.delivery.proofs.Entitling.{all-allowed}
use Rattle.delivery.proofs.Entitled.{all-indices}

-- ---- which PDUs are received

ways-append : (bs cs : List Bool) → ways_by (bs ++ cs) ≡ ways_by bs ++ ways_by cs
ways-append [] cs = refl
ways-append (b ∷ bs) cs = ap (λ (l : List Way). way_by b ∷ l) (ways-append bs cs)

pub none-hit : (width : ℕ) (marks p q : List ℕ) → HeaderAltered marks p q → causes_for (as_sent width p q) ≡ (λ k. 0)
none-hit width marks p q h = fun_ext (λ k. ap (λ (b : Bool). cond b 0 2) (all_sound 0 width marks p q h k))

sound-copies : (width : ℕ) (p : List ℕ) (copies : Copies) → Comes HeaderAltered p copies → causes_for (sound_in (as_sent width) p copies) ≡ (λ k. 0)
sound-copies width p (alone marks q) h = none-hit width marks p q h
sound-copies width p (paired q r) h = fun_ext (λ k. ap (λ (b : Bool). cond (b || as_sent width p r k) 0 2) (all_sound 0 width [] p q h.0 k))

ways-sound : (width : ℕ) (qs ps : List (List ℕ)) → AllCome HeaderAltered ps qs → ways_in (as_sent width) ps qs ≡ ways_by (replicate (length qs) true)
ways-sound width [] ps h = refl
ways-sound width (q ∷ qs) [] h = absurd h
ways-sound width (q ∷ qs) (p ∷ ps) h = ap₂ (λ (f : ℕ → ℕ) (l : List Way). here f ∷ l) (none-hit width [] p q h.0) (ways-sound width qs ps h.1)

pub same-ways : (b : Behaviour) (width : ℕ) (ss : List Step) (x : Station) (pdus : List (List ℕ)) → Through b HeaderAltered x pdus ss → ways_from (as_sent width) pdus ss ≡ ways_by (receptions ss)
same-ways b width [] x pdus t = refl
same-ways b width (receives copies log ∷ ss) x [] t = absurd t
same-ways b width (receives copies log ∷ ss) x (p ∷ pdus) t = ap₂ (λ (f : ℕ → ℕ) (l : List Way). here f ∷ l) (sound-copies width p copies t.0) (same-ways b width ss (station_after b x (call_of (receives copies log))) pdus t.2)
same-ways b width (batches qs log ∷ ss) x pdus t =
    ap₂ (λ (k l : List Way). k ++ l) (ways-sound width qs pdus t.0) (same-ways b width ss (station_after b x (call_of (batches qs log))) (drop (length qs) pdus) t.2) ∙ sym (ways-append (replicate (length qs) true) (receptions ss))
same-ways b width (stops qs ls bytes log ∷ ss) x pdus t =
    ap₂ (λ (k l : List Way). k ++ l) (ways-sound width qs pdus t.0) (same-ways b width ss (station_after b x (call_of (stops qs ls bytes log))) (drop (length qs) pdus) t.3) ∙ sym (ways-append (replicate (length qs) true) (receptions ss))
same-ways b width (loses log ∷ ss) x [] t = absurd t
same-ways b width (loses log ∷ ss) x (p ∷ pdus) t = ap (λ (l : List Way). gone ∷ l) (same-ways b width ss (station_after b x (mark_lost log)) pdus t.1)
same-ways b width (refuses c ∷ ss) x pdus t = same-ways b width ss (station_after b x c) pdus t.1

-- where nothing is withheld
plain-ways : (bs : List Bool) → map plain_fate (ways_by bs) ≡ fates_by bs
plain-ways [] = refl
plain-ways (true ∷ bs) = ap (λ (l : List Fate). read false (λ k. 0) ∷ l) (plain-ways bs)
plain-ways (false ∷ bs) = ap (λ (l : List Fate). lose ∷ l) (plain-ways bs)

plain-run : (first : ℕ) (bs : List Bool) → map plain_fate (replicate first gone ++ ways_by bs) ≡ replicate first lose ++ fates_by bs
plain-run zero bs = plain-ways bs
plain-run (suc first) bs = ap (λ (l : List Fate). lose ∷ l) (plain-run first bs)

-- as many as came in a batch, and those after them
some-each : (qs ps : List (List ℕ)) (n : ℕ) → AllCome HeaderAltered ps qs → n ≡ length (drop (length qs) ps) → length qs + n ≡ length ps
some-each [] ps n h e = omega (arith, e)
some-each (q ∷ qs) [] n h e = absurd h
some-each (q ∷ qs) (p ∷ ps) n h e = let r = some-each qs ps n h.1 e in omega (arith, r)

counted : (qs : List (List ℕ)) (bs : List Bool) → length (replicate (length qs) true ++ bs) ≡ length qs + length bs
counted qs bs = let e = length-append (replicate (length qs) true) bs in let f = length-replicate {A = Bool} (length qs) true in omega (arith, e, f)

one_each : (ss : List Step) (x : Station) (pdus : List (List ℕ)) → Through defined HeaderAltered x pdus ss → length (receptions ss) ≡ length pdus
one_each [] x [] t = refl
one_each [] x (p ∷ pdus) t = absurd t
one_each (receives copies log ∷ ss) x [] t = absurd t
one_each (receives copies log ∷ ss) x (p ∷ pdus) t = ap suc (one_each ss (station_after defined x (call_of (receives copies log))) pdus t.2)
one_each (batches qs log ∷ ss) x pdus t = counted qs (receptions ss) ∙ some-each qs pdus (length (receptions ss)) t.0 (one_each ss (station_after defined x (call_of (batches qs log))) (drop (length qs) pdus) t.2)
one_each (stops qs ls bytes log ∷ ss) x pdus t = counted qs (receptions ss) ∙ some-each qs pdus (length (receptions ss)) t.0 (one_each ss (station_after defined x (call_of (stops qs ls bytes log))) (drop (length qs) pdus) t.3)
one_each (loses log ∷ ss) x [] t = absurd t
one_each (loses log ∷ ss) x (p ∷ pdus) t = ap suc (one_each ss (station_after defined x (mark_lost log)) pdus t.1)
one_each (refuses c ∷ ss) x pdus t = one_each ss (station_after defined x c) pdus t.1

-- the packets that are due to a receiver of all programs
pub entitled-all : (r : Run) → r.programs ≡ all_programs → allowed_programs r.programs ≡ true
entitled-all r e = ap allowed_programs e ∙ all-allowed

-- Ask 5: all that arrived whole, in one copy at least
pub pairs-deliver : PairDelivery
pairs-deliver r (all, d) k =
    let right = made-right r.mode r.stream r.register r.packets r.writings d.opens d.sized d.offered in
    let e : due r ≡ arrived_pieces r = all-indices r all (ways_of r) right in
    let t = entitled-pairs-deliver r (entitled-all r all, d) (subst (λ (l : List ℕ). EntriesFit (entries_at r.packets l)) (sym e) k) in
    record {
      as_many = t.as_many;
      accepted = t.accepted;
      log = t.log ∙ ap (λ (l : List ℕ). log_words (entries_at r.packets l)) e;
      counts = t.counts ∙ ap (λ (l : List ℕ). tallied no_tally (entries_at r.packets l)) e;
      adds-up = adds-along e refl t.adds-up;
    }

-- demand 3: all that arrived whole
pub delivers : Demand3
delivers r (all, d) k =
    let bs : List Bool = receptions r.steps in
    let right = made-right r.mode r.stream r.register r.packets r.writings d.opens d.sized d.offered in
    let x : Station = fresh_station r defined in
    let ps : List (List ℕ) = run_of r.first r.count (made r) in
    let few : length bs ≤ r.count = (let e = one_each r.steps x ps d.through in let k = length-take r.count (drop r.first (made r)) in omega (arith, e, k)) in
    let got : ℕ → Bool = in_received (run_of r.first r.count (spans r)) bs in
    let marks : lies r.packets (spans r) (map plain_fate (replicate r.first gone ++ ways_of r)) ≡ (λ j. record { taken = got j; free = got j }) =
    fun_ext (λ j.
    ap (λ (ws : List Way). lies r.packets (spans r) (map plain_fate (replicate r.first gone ++ ws)) j) (same-ways defined (width_in r) r.steps x ps d.through)
    ∙ ap (λ (w : List Fate). lies r.packets (spans r) w j) (plain-run r.first bs)
    ∙ lies-received r.packets r.first (spans r) bs 0 j right.follow
    ∙ ap (λ (b : Bool). record { taken = b; free = b }) (sym (received-take bs r.count (drop r.first (spans r)) j few))) in
    let e : due r ≡ arrived r =
    all-indices r all (ways_of r) right
    ∙ ap (λ (f : ℕ → Mark). whole_indices (due_at f) 0 0 r.packets) marks
    ∙ indices-same got 0 0 r.packets (sized_of r.packets d.sized) in
    let t = entitled-delivers r (entitled-all r all, d) (subst (λ (l : List ℕ). EntriesFit (entries_at r.packets l)) (sym e) k) in
    record {
      as_many = t.as_many;
      accepted = t.accepted;
      log = t.log ∙ ap (λ (l : List ℕ). log_words (entries_at r.packets l)) e;
      counts = t.counts ∙ ap (λ (l : List ℕ). tallied no_tally (entries_at r.packets l)) e;
      adds-up = adds-along e refl t.adds-up;
    }
