-- Document 02, Ask 5, in its own words (FourBytes.antt): a copy comes so exactly if it comes as Diversity.antt says, with no marks; and the log of a run of such
-- copies holds exactly the packets each of whose pieces is, once mended, as sent in at least one copy.
use mathlib.Core.Path.{◌≡◌, refl, sym, ap, ap₂, subst, fun_ext, ◌∙◌}
use mathlib.Core.Bool.{Bool, false, ◌||◌}
use mathlib.Core.List.{List, [], ◌∷◌, ◌++◌, map}
use Prim.Native.Nat.{ℕ}
use native.Mathlib.Omega.{arith}
use lib.ListN.{length, take, drop, replicate}
use lib.Seq.{length-take-le}
use Rattle.algebra.specs.Places.{All}
use Rattle.crc.specs.Crc.{crc_from}
use Rattle.header.specs.Header.{distance}
use Rattle.correction.specs.Correction.{corrected_pdu}
use Rattle.correction.specs.Marks.{marks_refusal, unmarked_distance}
use Rattle.correction.proofs.Answers.{no-marks-pdu}
use Rattle.correction.proofs.Marking.{unmarked-adopted}
use Rattle.runs.specs.Spans.{lies, due_at, whole_indices, entries_at}
use Rattle.runs.specs.Transmissions.{Way, gone}
use Rattle.runs.specs.Withheld.{fate_in}
use Rattle.packet_log.specs.Log.{same_list}
use Rattle.delivery.specs.Delivery.{Correctable, Copies, alone, paired, Comes, AllCome, Station, Behaviour, defined, station_after, mark_lost, Step, receives, batches, stops, loses, refuses, call_of, Through, seen_from, finally, run_of, made, spans, fresh_station, Delivered, Holds}
use Rattle.delivery.specs.Copies.{restored, bytes_at, crc_at, sealed_piece, as_sent, Damaged, came_as, sound_in, ways_in, ways_from, width_in}
use Rattle.delivery.specs.Diversity.{WrongCrc, arrived_pieces}
use Rattle.delivery.proofs.Parts.{EntriesFit}
use Rattle.delivery.proofs.Channel.{Usable}
use Rattle.delivery.proofs.Copies.{corrected-back}
use Rattle.delivery.proofs.Possible.{all_drop as usable-drop}
use Rattle.delivery.proofs.Damages.{usable-run, asked-too}
use Rattle.delivery.proofs.Theorem.{pairs-deliver}
use Rattle.delivery.proofs.FourBytes.{sent_once_corrected, ComesAs, Unmarked, arrived_corrected, corrected_pairs}

-- ---- a copy

module _ (p q : List ℕ) (w : Usable p) where
  all-unmarked : length q ≡ length p → unmarked_distance [] (take 96 q) (take 96 p) ≡ distance (take 96 q) (take 96 p)
  all-unmarked e =
      let lp : length (take 96 p) ≡ 96 = length-take-le 96 p w.1 in
      let lq : length (take 96 q) ≡ 96 = length-take-le 96 q (let h = w.1 in omega (arith, e, h)) in
      unmarked-adopted [] (take 96 q) (take 96 p) (lp ∙ sym lq)

  -- mending restores the header
  back : Correctable [] p q → corrected_pdu q ≡ restored p q
  back h = sym (no-marks-pdu q) ∙ corrected-back p [] q w.3 w.1 w.2 w.0 h

  module _ (register width : ℕ) where
    header : ComesAs register width p q → Correctable [] p q
    unfolding marks_refusal
    header x = record { allowed = refl; bytes = x.bytes; long = x.long; few = omega (arith, x.few, all-unmarked x.long) }

    -- a piece is as sent once the copy is mended
    as-sent : Correctable [] p q → (k : ℕ) → sent_once_corrected width p q k ≡ as_sent width p q k
    as-sent h k = ap (λ (y : List ℕ). same_list (sealed_piece width p y k) (sealed_piece width p p k)) (back h)

    -- a copy comes so exactly if it comes as Diversity.antt says, with no marks
    pub four_bytes : ComesAs register width p q → Damaged WrongCrc register width [] p q
    four_bytes x = record {
      header = header x;
      front = x.front;
      pieces = λ k h e. subst (λ (y : List ℕ). ¬ (crc_from register (bytes_at width p y k) ≡ crc_at width p y k)) (back (header x)) (x.damaged k h (as-sent (header x) k ∙ e));
    }

    pub only-four : Damaged WrongCrc register width [] p q → ComesAs register width p q
    only-four x = record {
      bytes = x.header.bytes;
      long = x.header.long;
      few = omega (arith, x.header.few, all-unmarked x.header.long);
      front = x.front;
      damaged = λ k h e. subst (λ (y : List ℕ). ¬ (crc_from register (bytes_at width p y k) ≡ crc_at width p y k)) (sym (back x.header)) (x.pieces k h (sym (as-sent x.header k) ∙ e));
    }

-- ---- a run

module _ (register width : ℕ) where
  unmarked : (marks p q : List ℕ) → Usable p → Unmarked register width marks p q → Damaged WrongCrc register width marks p q
  unmarked marks p q u (e, x) = subst (λ (l : List ℕ). Damaged WrongCrc register width l p q) (sym e) (four_bytes p q u register width x)

  same-pieces : (marks p q : List ℕ) → Usable p → Unmarked register width marks p q → sent_once_corrected width p q ≡ as_sent width p q
  same-pieces marks p q u (e, x) = fun_ext (as-sent p q u register width (header p q u register width x))

  same-sound : (p : List ℕ) (copies : Copies) → Usable p → Comes (Unmarked register width) p copies → sound_in (sent_once_corrected width) p copies ≡ sound_in (as_sent width) p copies
  same-sound p (alone marks q) u h = same-pieces marks p q u h
  same-sound p (paired q r) u h = ap₂ {C = ℕ → Bool} (λ (f g : ℕ → Bool). λ k. f k || g k) (same-pieces [] p q u h.0) (same-pieces [] p r u h.1)

  same_in : (qs ps : List (List ℕ)) → All Usable ps → AllCome (Unmarked register width) ps qs → ways_in (sent_once_corrected width) ps qs ≡ ways_in (as_sent width) ps qs
  same_in [] ps u h = refl
  same_in (q ∷ qs) [] u h = absurd h
  same_in (q ∷ qs) (p ∷ ps) u h = ap₂ (λ (f : ℕ → Bool) (l : List Way). came_as f ∷ l) (same-pieces [] p q u.0 h.0) (same_in qs ps u.1 h.1)

  same-ways : (b : Behaviour) (ss : List Step) (x : Station) (ps : List (List ℕ)) → All Usable ps → Through b (Unmarked register width) x ps ss → ways_from (sent_once_corrected width) ps ss ≡ ways_from (as_sent width) ps ss
  same-ways b [] x ps u t = refl
  same-ways b (receives copies log ∷ ss) x [] u t = absurd t
  same-ways b (receives copies log ∷ ss) x (p ∷ ps) u t =
      ap₂ (λ (f : ℕ → Bool) (l : List Way). came_as f ∷ l) (same-sound p copies u.0 t.0) (same-ways b ss (station_after b x (call_of (receives copies log))) ps u.1 t.2)
  same-ways b (batches qs log ∷ ss) x ps u t =
      ap₂ (λ (k l : List Way). k ++ l) (same_in qs ps u t.0) (same-ways b ss (station_after b x (call_of (batches qs log))) (drop (length qs) ps) (usable-drop (length qs) ps u) t.2)
  same-ways b (stops qs ls bytes log ∷ ss) x ps u t =
      ap₂ (λ (k l : List Way). k ++ l) (same_in qs ps u t.0) (same-ways b ss (station_after b x (call_of (stops qs ls bytes log))) (drop (length qs) ps) (usable-drop (length qs) ps u) t.3)
  same-ways b (loses log ∷ ss) x [] u t = absurd t
  same-ways b (loses log ∷ ss) x (p ∷ ps) u t = ap (λ (l : List Way). gone ∷ l) (same-ways b ss (station_after b x (mark_lost log)) ps u.1 t.1)
  same-ways b (refuses c ∷ ss) x ps u t = same-ways b ss (station_after b x c) ps u t.1

pub corrected-pairs-deliver : Holds corrected_pairs defined
corrected-pairs-deliver r (all, d) k =
    let x : Station = fresh_station r defined in
    let ps : List (List ℕ) = run_of r.first r.count (made r) in
    let ways = same-ways r.register (width_in r) defined r.steps x ps (usable-run r defined (Unmarked r.register (width_in r)) d) d.through in
    let e : arrived_corrected r ≡ arrived_pieces r =
    ap (λ (ws : List Way). whole_indices (due_at (lies r.packets (spans r) (map (fate_in false) (replicate r.first gone ++ ws)))) 0 0 r.packets) ways in
    let asked = asked-too defined (Unmarked r.register (width_in r)) (Damaged WrongCrc r.register (width_in r)) (unmarked r.register (width_in r)) r d in
    let t = pairs-deliver r (all, asked) (subst (λ (l : List ℕ). EntriesFit (entries_at r.packets l)) e k) in
    subst (λ (l : List ℕ). Delivered r l (seen_from defined x (map call_of r.steps)) (finally defined x (map call_of r.steps)).receiver) (sym e) t
