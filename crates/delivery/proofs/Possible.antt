-- For every receiver, every list of writing calls that offers packets in order, and whichever PDUs of a run are lost, there are calls that go through
-- the run: so the claim's premises can be met.
use mathlib.Core.Path.{◌≡◌, refl, sym, ap, subst, ◌∙◌}
use mathlib.Core.Bool.{Bool, true, false, true≢false}
use mathlib.Core.List.{List, [], ◌∷◌, ◌++◌, append-nil}
use Prim.Native.Nat.{ℕ, zero, suc, ◌+◌, ◌*◌, ◌≤◌}
use native.Mathlib.Omega.{arith}
use lib.ListN.{length, take, drop, replicate, length-replicate}
use lib.Seq.{length-take-le, drop-append_seam, drop-length}
use Rattle.algebra.specs.Places.{All}
use Rattle.correction.specs.Marks.{marks_refusal}
use Rattle.refusal.proofs.Rows.{row-off}
use Rattle.writer.specs.Writing.{writer_opened}
use Rattle.writer.specs.RoundTrip.{Bytes, Altered}
use Rattle.correction.proofs.Marking.{unmarked-self, unmarked-adopted}
use Rattle.receiver.specs.Receiving.{receive_tests, receive_number}
use Rattle.receiver.specs.declared.Receiver.{Receiver}
use Rattle.delivery.specs.Delivery.{Packets, Writing, InOrder, Behaviour, Station, receive, mark_lost, AllCome, Step, receives, alone, batches, loses, call_of, receptions, station_after, HeaderAltered, run_of}
use Rattle.delivery.proofs.Parts.{Through, made, Asked}
use Rattle.delivery.proofs.Channel.{Usable, made-right}

-- a log of 8,400 words
abbrev pub words : List ℕ
words = replicate 8400 0

pub log-room : 8400 ≤ length words
log-room = let e : length words ≡ 8400 = length-replicate {A = ℕ} 8400 0 in omega (arith, e)

-- document 00's four bytes are the case of no mark
pub four-altered : (p q : List ℕ) → 96 ≤ length p → Altered p q → HeaderAltered [] p q
unfolding marks_refusal
four-altered p q h a =
    let lp : length (take 96 p) ≡ 96 = length-take-le 96 p h in
    let lq : length (take 96 q) ≡ 96 = length-take-le 96 q (let e = a.long in omega (arith, e)) in
    record {
      header = record { allowed = refl; bytes = a.bytes; long = a.long; few = omega (arith, a.few, unmarked-adopted [] (take 96 q) (take 96 p) (lp ∙ sym lq)) };
      rest = a.rest;
    }

unaltered : (p : List ℕ) → Bytes p → HeaderAltered [] p p
unfolding marks_refusal
unaltered p b = record { header = record { allowed = refl; bytes = b; long = refl; few = omega (arith, unmarked-self [] (take 96 p)) }; rest = refl }

-- marks that are repeated: no call that has them is accepted
pub repeated-refused : (carry q log : List ℕ) (r : Receiver) → ¬ (receive_number (0 ∷ 0 ∷ []) carry q log r ≡ 0)
unfolding receive_number marks_refusal
repeated-refused carry q log r z = true≢false (row-off (receive_tests (0 ∷ 0 ∷ []) carry q log r) 3 refl z)

-- what comes in place of a PDU that is received, and the marks with it
abbrev pub Alters : List ℕ → (List ℕ → List ℕ) → Type 0
Alters marks alter = (p : List ℕ) → Usable p → HeaderAltered marks p (alter p)

abbrev pub verbatim : List ℕ → List ℕ
verbatim p = p

pub as-sent : Alters [] verbatim
as-sent p h = unaltered p h.0

module _ (marks : List ℕ) (alter : List ℕ → List ℕ) where
  -- each PDU as it comes, or marked lost, with a log that suffices; and then these
  unfoldable pub steps_for : List Step → List (List ℕ) → List Bool → List Step
  steps_for last [] bs = last
  steps_for last (p ∷ ps) [] = loses words ∷ steps_for last ps []
  steps_for last (p ∷ ps) (true ∷ bs) = receives (alone marks (alter p)) words ∷ steps_for last ps bs
  steps_for last (p ∷ ps) (false ∷ bs) = loses words ∷ steps_for last ps bs

  -- which PDUs are received: as told, and those not told of are lost
  pub told-receptions : (last : List Step) (pdus : List (List ℕ)) (bs : List Bool) → receptions last ≡ [] → length bs ≡ length pdus → receptions (steps_for last pdus bs) ≡ bs
  unfolding steps_for
  told-receptions last [] [] n e = n
  told-receptions last [] (b ∷ bs) n e = absurd (omega (arith, e))
  told-receptions last (p ∷ ps) [] n e = absurd (omega (arith, e))
  told-receptions last (p ∷ ps) (true ∷ bs) n e = ap (λ (l : List Bool). true ∷ l) (told-receptions last ps bs n (omega (arith, e)))
  told-receptions last (p ∷ ps) (false ∷ bs) n e = ap (λ (l : List Bool). false ∷ l) (told-receptions last ps bs n (omega (arith, e)))

  module _ (b : Behaviour) (right : Alters marks alter) where
    pub goes_through : (last : List Step) (pdus : List (List ℕ)) (bs : List Bool) (x : Station) → ((y : Station) → Through b y [] last) → All Usable pdus → Through b x pdus (steps_for last pdus bs)
    unfolding steps_for
    goes_through last [] bs x t h = t x
    goes_through last (p ∷ ps) [] x t h = ((let r = log-room in omega (arith, r)), goes_through last ps [] (station_after b x (mark_lost words)) t h.1)
    goes_through last (p ∷ ps) (true ∷ bs) x t h = (right p h.0, (let r = log-room in omega (arith, r)), goes_through last ps bs (station_after b x (receive (alone marks (alter p)) words)) t h.1)
    goes_through last (p ∷ ps) (false ∷ bs) x t h = ((let r = log-room in omega (arith, r)), goes_through last ps bs (station_after b x (mark_lost words)) t h.1)

-- ---- all in one batch (document 02, Ask 1)

all-unaltered : (ps more : List (List ℕ)) → All Usable ps → AllCome HeaderAltered (ps ++ more) ps
all-unaltered [] more h = tt
all-unaltered (p ∷ ps) more h = (unaltered p h.0.0, all-unaltered ps more h.1)

-- a batch of PDUs as they were written, and those that are left
pub first-batch : (ps more : List (List ℕ)) → All Usable ps → AllCome HeaderAltered (ps ++ more) ps × (drop (length ps) (ps ++ more) ≡ more)
first-batch ps more h = (all-unaltered ps more h, drop-append_seam ps more)

pub in_one : (b : Behaviour) (x : Station) (ps : List (List ℕ)) (log : List ℕ) → All Usable ps → 8400 * length ps ≤ length log → Through b x ps (batches ps log ∷ [])
in_one b x ps log h big = (
  subst (λ (l : List (List ℕ)). AllCome HeaderAltered l ps) (append-nil ps) (all-unaltered ps [] h),
  big,
  subst (λ (l : List (List ℕ)). Through b (station_after b x (call_of (batches ps log))) l []) (sym (drop-length ps)) tt,
)

-- ---- the PDUs of a run

pub all_drop : (n : ℕ) (l : List (List ℕ)) → All Usable l → All Usable (drop n l)
all_drop zero l h = h
all_drop (suc n) [] h = tt
all_drop (suc n) (x ∷ l) h = all_drop n l h.1

all_take : (n : ℕ) (l : List (List ℕ)) → All Usable l → All Usable (take n l)
all_take zero l h = tt
all_take (suc n) [] h = tt
all_take (suc n) (x ∷ l) h = (h.0, all_take n l h.1)

module _ (mode stream register : ℕ) (packets : List (List ℕ)) (writings : List Writing) (opens : (writer_opened mode stream register).refusal ≡ 0) (sized : Packets packets) (offered : InOrder mode stream packets 0 writings) where
  -- the PDUs of a run can be received
  pub run-usable : (first count : ℕ) → All Usable (run_of first count (made mode stream register writings))
  run-usable first count = all_take count (drop first (made mode stream register writings)) (all_drop first (made mode stream register writings) (made-right mode stream register packets writings opens sized offered).usable)

  -- the calls for a run, each PDU as it was written, with some lost
  abbrev pub steps_of : ℕ → ℕ → List Bool → List Step
  steps_of first count bs = steps_for [] verbatim [] (run_of first count (made mode stream register writings)) bs

  pub possible : (b : Behaviour) (programs : List ℕ) (first count : ℕ) (carry : List ℕ) (bs : List Bool) → 4096 ≤ length carry → Asked b mode stream register programs packets writings first count carry (steps_of first count bs)
  possible b programs first count carry bs big = record {
    opens = opens;
    sized = sized;
    offered = offered;
    room = big;
    through = goes_through [] verbatim b as-sent [] (run_of first count (made mode stream register writings)) bs _ (λ y. tt) (run-usable first count);
  }
