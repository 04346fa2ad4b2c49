-- Parts of a bridge: a call for one PDU, a call for none (a refused one, an interruption), and a batch of calls.
use Prim.Native.Nat.{ℕ, ◌+◌}
use mathlib.Core.Path.{◌≡◌, refl, sym, ap, ap₂, subst, subst₂, ◌∙◌}
use mathlib.Core.Bool.{Bool, not, ◌&&◌}
use mathlib.Core.Option.{Option, none}
use mathlib.Core.List.{List, [], ◌∷◌, ◌++◌, append-nil}
use native.Mathlib.Omega.{arith}
use lib.ListN.{length, length-append}
use Rattle.packet_log.specs.Log.{log_words}
use Rattle.packet_log.proofs.Packets.{FitAll}
use Rattle.reassembly.specs.Reassembly.{following}
use Rattle.reassembly.specs.Rights.{Rights, Label, in_force, barred}
use Rattle.reassembly.specs.Holder.{Holder}
use Rattle.runs.proofs.Events.{Event, entries_for, holder_for, logged, after}
use Rattle.runs.specs.Spans.{Fate, lose, read}
use Rattle.runs.specs.Transmissions.{Way, gone, here}
use Rattle.runs.proofs.Transmissions.{fate_of, kept_of, plans_from}
use Rattle.runs.proofs.Model.{fates_of}
use Rattle.runs.proofs.Calls.{Load, transmissions_of, fates_along, labels_of, plain_fates, AllEntitled, Speech, heard, Matching, Machine, Serves, Bridge, Step, handed, ways_handed, Through, logs_from, finally, AllGood}
use Rattle.runs.proofs.General.{Served, serve}

module _ (rights : Rights) (range : ℕ) (M : Machine) (Stands : M.State → Holder → Type 0) where
  -- a call for one PDU
  pub serves-one : (x : M.State) (y : Holder) (c : M.Call) (v : Event) → M.words x c ≡ log_words (entries_for rights range y v) → FitAll (entries_for rights range y v)
      → Stands (M.next x c) (holder_for rights range y v) → Serves rights range M Stands x y c (v ∷ [])
  unfolding logged after
  serves-one x y c v l f s = let e : entries_for rights range y v ++ [] ≡ entries_for rights range y v = append-nil (entries_for rights range y v) in record { log = l ∙ ap log_words (sym e); fit = subst FitAll (sym e) f; stands = s }

  -- a call for none: it logs nothing, and leaves a state that stands for the same
  pub serves-none : (x : M.State) (y : Holder) (c : M.Call) → M.words x c ≡ [] → Stands (M.next x c) y → Serves rights range M Stands x y c []
  unfolding logged after log_words
  serves-none x y c l s = record { log = l; fit = tt; stands = s }

-- ---- batches: one call after another, each log following the last

module _ (M : Machine) where
  abbrev pub next_all : M.State → List M.Call → M.State
  next_all x [] = x
  next_all x (c ∷ cs) = next_all (M.next x c) cs

  abbrev pub words_all : M.State → List M.Call → List ℕ
  words_all x [] = []
  words_all x (c ∷ cs) = M.words x c ++ words_all (M.next x c) cs

  abbrev pub batches : Machine
  batches = record { State = M.State; Call = List M.Call; next = next_all; words = words_all }

module _ (rights : Rights) (range : ℕ) (M : Machine) (B : Bridge rights range M) where
  abbrev pub calls_of : List (Step B) → List M.Call
  calls_of [] = []
  calls_of (s ∷ ss) = s.call ∷ calls_of ss

  pub finally-is : (ss : List (Step B)) (x : M.State) → finally B x ss ≡ next_all M x (calls_of ss)
  finally-is [] x = refl
  finally-is (s ∷ ss) x = finally-is ss (M.next x s.call)

  pub logs-are : (ss : List (Step B)) (x : M.State) → logs_from B x ss ≡ words_all M x (calls_of ss)
  logs-are [] x = refl
  logs-are (s ∷ ss) x = ap (λ (l : List ℕ). M.words x s.call ++ l) (logs-are ss (M.next x s.call))

  pub many : (ss : List (Step B)) (x : M.State) → Through B x ss → length (ways_handed B ss) ≡ length (handed B ss)
  many [] x h = refl
  many (c ∷ ss) x h =
      let a = B.as_many x c.call c.pdus c.ways h.0 in
      let b = many ss (M.next x c.call) h.1 in
      simp length-append (omega (arith, a, b))

  -- the calls of a batch hand over these PDUs in these ways
  pub record HandsAll (x : M.State) (cs : List M.Call) (ps : List B.Pdu) (ws : List Way) : Type 0 where
    pub steps : List (Step B)
    pub calls : calls_of steps ≡ cs
    pub pdus : handed B steps ≡ ps
    pub ways : ways_handed B steps ≡ ws
    pub through : Through B x steps

  pub record GoodAll (x : M.State) (cs : List M.Call) (ps : List B.Pdu) : Type 0 where
    pub steps : List (Step B)
    pub calls : calls_of steps ≡ cs
    pub pdus : handed B steps ≡ ps
    pub good : AllGood B x steps

  -- what holds of runs of calls holds of runs of batches
  abbrev pub batched : Bridge rights range (batches M)
  batched = record {
    Pdu = B.Pdu;
    Says = B.Says;
    Stands = B.Stands;
    Hands = HandsAll;
    Good = GoodAll;
    Within = B.Within;
    within-less = B.within-less;
    as_many = λ x cs ps ws h. sym (ap length h.ways) ∙ many h.steps x h.through ∙ ap length h.pdus;
    serves = λ x y cs ps ws ds s h m k.
        let v : Served rights range M B x y h.steps (heard (ways_handed B h.steps) ds) =
        serve rights range M B h.steps x y ds s h.through (subst (λ (l : List B.Pdu). Matching B.Says l ds) (sym h.pdus) m)
        (subst (λ (l : List Way). B.Within (after rights range y (heard l ds)).tally) (sym h.ways) k) in
        let e : heard (ways_handed B h.steps) ds ≡ heard ws ds = ap (λ (l : List Way). heard l ds) h.ways in (
          record { steps = h.steps; calls = h.calls; pdus = h.pdus; good = v.good },
          record {
            log = ap (words_all M x) (sym h.calls) ∙ sym (logs-are h.steps x) ∙ v.log ∙ ap (λ (l : List Event). log_words (logged rights range y l)) e;
            fit = subst (λ (l : List Event). FitAll (logged rights range y l)) e v.fit;
            stands = subst₂ B.Stands (finally-is h.steps x ∙ ap (next_all M x) h.calls) (ap (after rights range y) e) v.stands;
          },
        );
  }

-- ---- Ask 10: what came of the PDUs, from ways and labels

module _ (rights : Rights) (range : ℕ) where
  pub fates-along : (cs : List Load) (ws : List Way) (q : ℕ) (kept : Option ℕ) → fates_of (plans_from rights range q kept (transmissions_of ws cs)) ≡ fates_along rights range q kept ws (labels_of cs)
  unfolding plans_from transmissions_of fates_along
  fates-along [] ws q kept = refl
  fates-along (c ∷ cs) [] q kept = refl
  fates-along (c ∷ cs) (w ∷ ws) q kept = ap (λ (l : List Fate). fate_of rights range q kept c.label w ∷ l) (fates-along cs ws (following range q) (kept_of rights range q kept c.label w))

  -- a receiver that is entitled to every program sent withholds nothing, as in demand 3
  pub entitled-plain : (ls : List Label) (ws : List Way) (q : ℕ) (kept : Option ℕ) → AllEntitled rights ls → fates_along rights range q kept ws ls ≡ plain_fates ws ls
  unfolding fates_along plain_fates
  entitled-plain [] ws q kept h = refl
  entitled-plain (l ∷ ls) [] q kept h = refl
  entitled-plain (l ∷ ls) (gone ∷ ws) q kept h = ap (λ (r : List Fate). lose ∷ r) (entitled-plain ls ws (following range q) none h.1)
  entitled-plain (l ∷ ls) (here f ∷ ws) q kept h =
      ap₂ (λ (b : Bool) (r : List Fate). read (not b && barred (in_force rights.keeps q l.services kept)) f ∷ r) h.0
      (entitled-plain ls ws (following range q) (kept_of rights range q kept l (here f)) h.1)

-- ---- Ask 13: calls that hand over the same PDUs in the same ways log the same, whatever other calls stand between them

module _ (rights : Rights) (range : ℕ) (M : Machine) (B : Bridge rights range M) where
  pub uninterrupted : (ss ts : List (Step B)) (x z : M.State) (y : Holder) (ds : List Speech) → B.Stands x y → B.Stands z y → Through B x ss → Through B z ts
      → Matching B.Says (handed B ss) ds → handed B ts ≡ handed B ss → ways_handed B ts ≡ ways_handed B ss → B.Within (after rights range y (heard (ways_handed B ss) ds)).tally
      → logs_from B x ss ≡ logs_from B z ts
  uninterrupted ss ts x z y ds a b t u m e f k =
      (serve rights range M B ss x y ds a t m k).log
      ∙ ap (λ (w : List Way). log_words (logged rights range y (heard w ds))) (sym f)
      ∙ sym (serve rights range M B ts z y ds b u (subst (λ (l : List B.Pdu). Matching B.Says l ds) (sym e) m) (subst (λ (w : List Way). B.Within (after rights range y (heard w ds)).tally) (sym f) k)).log
