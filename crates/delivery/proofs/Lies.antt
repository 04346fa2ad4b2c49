-- Which bytes are received, by the PDU whose bytes they are among (runs/specs/Spans.antt).
use mathlib.Core.Path.{◌≡◌, refl, sym, ap, ◌∙◌}
use mathlib.Core.Bool.{Bool, true, false, ◌&&◌, ◌||◌, cond}
use mathlib.Core.List.{List, [], ◌∷◌, ◌++◌}
use Prim.Native.Nat.{ℕ, zero, suc, ◌+◌, ◌-◌, ◌<◌, ◌≤◌}
use native.Mathlib.Omega.{arith}
use native.Mathlib.Nat.{not-suc-le-zero, le_of_suc-le-suc}
use borrow.Author.Tests.{lt-leb, ltb-true}
use lib.Dec.{ltb, leb}
use lib.ListN.{length, take, drop, replicate}
use Rattle.bits.proofs.Tests.{both}
use Rattle.runs.specs.Spans.{Fate, lose, read, Mark, verdicts, packet_at, Span, covers, lies, every, due_at, whole_indices}
use Rattle.runs.proofs.Model.{Sized}
use Rattle.delivery.specs.Delivery.{in_received}

-- received, with every piece taken, or lost
abbrev pub fate_by : Bool → Fate
fate_by true = read false (λ k. 0)
fate_by false = lose

abbrev pub fates_by : List Bool → List Fate
fates_by [] = []
fates_by (b ∷ bs) = fate_by b ∷ fates_by bs

-- spans that follow one another from g on
abbrev pub Following : ℕ → List Span → Type 0
Following g [] = Unit {0}
Following g (s ∷ ss) = (s.from ≡ g) × Following (g + s.count) ss

abbrev marked : Bool → Mark
marked b = record { taken = b; free = b }

none-received : (ss : List Span) (j : ℕ) → in_received ss [] j ≡ false
none-received [] j = refl
none-received (s ∷ ss) j = refl

pub received-take : (bs : List Bool) (n : ℕ) (ss : List Span) (j : ℕ) → length bs ≤ n → in_received (take n ss) bs j ≡ in_received ss bs j
received-take [] n ss j h = none-received (take n ss) j ∙ sym (none-received ss j)
received-take (b ∷ bs) zero ss j h = absurd (not-suc-le-zero h)
received-take (b ∷ bs) (suc n) [] j h = refl
received-take (b ∷ bs) (suc n) (s ∷ ss) j h = ap (λ (x : Bool). (b && covers s j) || x) (received-take bs n ss j (le_of_suc-le-suc h))

below : (b w more : Bool) → w ≡ false → more ≡ false → ((b && w) || more) ≡ false
below true w more e f = rw e f
below false w more e f = f

-- no byte before g lies in a PDU from there on
nothing-below : (first : ℕ) (ss : List Span) (bs : List Bool) (g j : ℕ) → Following g ss → j < g → in_received (drop first ss) bs j ≡ false
nothing-below zero [] bs g j f h = refl
nothing-below zero (s ∷ ss) [] g j f h = refl
nothing-below zero (s ∷ ss) (b ∷ bs) g j f h =
    let e : leb s.from j ≡ false = lt-leb s.from j (omega (arith, f.0)) in
    below b (covers s j) (in_received ss bs j) (ap (λ (x : Bool). x && ltb j (s.from + s.count)) e) (nothing-below zero ss bs (g + s.count) j f.1 (omega arith))
nothing-below (suc first) [] bs g j f h = refl
nothing-below (suc first) (s ∷ ss) bs g j f h = nothing-below first ss bs (g + s.count) j f.1 (omega arith)

-- a byte of this PDU is in none of those after it
alone : (first : ℕ) (s : Span) (ss : List Span) (bs : List Bool) (g j : ℕ) → Following g (s ∷ ss) → covers s j ≡ true → in_received (drop first ss) bs j ≡ false
alone first s ss bs g j f e = nothing-below first ss bs (g + s.count) j f.1 (let h = ltb-true j (s.from + s.count) (both (leb s.from j) _ e).1 in omega (arith, h, f.0))

one : (b w more : Bool) (k : ℕ) (m : Mark) → (w ≡ true → more ≡ false) → m ≡ marked more → cond w (verdicts (fate_by b) k) m ≡ marked ((b && w) || more)
one true true more k m h e = refl
one false true more k m h e = ap marked (sym (h refl))
one true false more k m h e = e
one false false more k m h e = e

-- a PDU before the run
before : (w more : Bool) (k : ℕ) (m : Mark) → (w ≡ true → more ≡ false) → m ≡ marked more → cond w (verdicts lose k) m ≡ marked more
before true more k m h e = ap marked (sym (h refl))
before false more k m h e = e

pub lies-received : (ps : List (List ℕ)) (first : ℕ) (ss : List Span) (bs : List Bool) (g j : ℕ) → Following g ss → lies ps ss (replicate first lose ++ fates_by bs) j ≡ marked (in_received (drop first ss) bs j)
lies-received ps zero [] bs g j f = refl
lies-received ps zero (s ∷ ss) [] g j f = refl
lies-received ps zero (s ∷ ss) (b ∷ bs) g j f =
    one b (covers s j) (in_received ss bs j) (packet_at ps j - packet_at ps s.from) (lies ps ss (fates_by bs) j) (alone zero s ss bs g j f) (lies-received ps zero ss bs (g + s.count) j f.1)
lies-received ps (suc first) [] bs g j f = refl
lies-received ps (suc first) (s ∷ ss) bs g j f =
    before (covers s j) (in_received (drop first ss) bs j) (packet_at ps j - packet_at ps s.from) (lies ps ss (replicate first lose ++ fates_by bs) j) (alone first s ss bs g j f) (lies-received ps first ss bs (g + s.count) j f.1)

-- ---- whole packets

twice : (a b : Bool) → (a && (a && b)) ≡ (a && b)
twice true b = refl
twice false b = refl

due-same : (f : ℕ → Bool) (o n : ℕ) → 1 ≤ n → due_at (λ j. marked (f j)) o n ≡ every f o n
due-same f o zero h = absurd (not-suc-le-zero h)
due-same f o (suc n) h = twice (f o) (every f (suc o) n)

pub indices-same : (f : ℕ → Bool) (o i : ℕ) (ps : List (List ℕ)) → Sized ps → whole_indices (due_at (λ j. marked (f j))) o i ps ≡ whole_indices (every f) o i ps
unfolding whole_indices
indices-same f o i [] z = refl
indices-same f o i (p ∷ ps) z = rw (due-same f o (length p) z.0, indices-same f (o + length p) (suc i) ps z.2)
