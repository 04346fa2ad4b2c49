-- Which counts are refused, and what holds of those that are not.
use mathlib.Core.Path.{◌≡◌, refl, sym, ap, ◌∙◌}
use mathlib.Core.Bool.{Bool, true, false, ◌||◌, cond, true≢false}
use mathlib.Core.List.{List, [], ◌∷◌}
use Prim.Native.Nat.{ℕ, zero, suc, ◌+◌, ◌<◌, ◌≤◌}
use native.Mathlib.Numerals.{add-one}
use native.Mathlib.Omega.{arith}
use lib.Dec.{eqb, ltb}
use lib.ListN.{length, get_or, drop}
use lib.Seq.{drop-cons, drop-length}
use borrow.Author.Tests.{ltb-false, eq-eqb, ne_eqb, lt-ltb, le-ltb}
use Rattle.modes.specs.declared.Mode.{Mode}
use Rattle.modes.specs.declared.Listing.{Listing}
use Rattle.modes.specs.declared.Listing.TheVariants.{Listed, Refused}
use Rattle.modes.specs.Modes.{listing}
use Rattle.latency.specs.declared.Spacing.{Spacing}
use Rattle.latency.specs.declared.Spacing.TheVariants.{Every, Refused as NotTried}
use Rattle.latency.specs.Latency.{spacing, over_most, counts_refused, spacing_for, spacing_of}
use Rattle.latency.specs.Bench.{Tried}

pub over-here : (counts : List ℕ) (i : ℕ) → i < length counts → 63 < get_or counts i 0 → true ≡ over_most (drop i counts)
unfolding over_most
over-here counts i h b = rw (drop-cons counts i 0 h, lt-ltb 63 (get_or counts i 0) b)

pub over-next : (counts : List ℕ) (i : ℕ) → i < length counts → get_or counts i 0 ≤ 63 → over_most (drop (i + 1) counts) ≡ over_most (drop i counts)
unfolding over_most
over-next counts i h b = rw (add-one, drop-cons counts i 0 h, le-ltb 63 (get_or counts i 0) b)

pub over-end : (counts : List ℕ) (i : ℕ) → i ≡ length counts → false ≡ over_most (drop i counts)
unfolding over_most
over-end counts i e = rw (e, drop-length counts)

either : (a b : Bool) → (a || b) ≡ false → (a ≡ false) × (b ≡ false)
either true b e = absurd (true≢false e)
either false b e = (refl, e)

all_small : (counts : List ℕ) → over_most counts ≡ false → (i : ℕ) → get_or counts i 0 ≤ 63
unfolding over_most
all_small [] e i = omega arith
all_small (c ∷ cs) e zero = ltb-false 63 c (either (ltb 63 c) (over_most cs) e).0
all_small (c ∷ cs) e (suc i) = all_small cs (either (ltb 63 c) (over_most cs) e).1 i

module _ (counts : List ℕ) where
  pub refused_none : length counts ≡ 0 → true ≡ counts_refused counts
  unfolding counts_refused
  refused_none e = simp (eq-eqb (length counts) 0 e)

  pub refused-many : (length counts ≡ 0 → ⊥) → 4096 < length counts → true ≡ counts_refused counts
  unfolding counts_refused
  refused-many e h = simp (ne_eqb (length counts) 0 e, lt-ltb 4096 (length counts) h)

  pub refused_over : (length counts ≡ 0 → ⊥) → length counts ≤ 4096 → over_most counts ≡ counts_refused counts
  unfolding counts_refused
  refused_over e h = simp (ne_eqb (length counts) 0 e, le-ltb 4096 (length counts) h)

-- the ticks from one PDU to the next are 4 or 32
spacing-range : (m : Mode) → (0 < spacing m) × (spacing m ≤ 32)
spacing-range m = go (eqb m.sequences 8)
  where
    go : (b : Bool) → (0 < cond b 4 32) × (cond b 4 32 ≤ 32)
    go true = (omega arith, omega arith)
    go false = (omega arith, omega arith)

-- counts that are not refused
tried-counts : (m : Mode) (counts : List ℕ) → counts_refused counts ≡ false → Tried (spacing m) counts
unfolding counts_refused
tried-counts m counts e =
    let rest = (either (eqb (length counts) 0) (ltb 4096 (length counts) || over_most counts) e).1 in
    let parts = either (ltb 4096 (length counts)) (over_most counts) rest in
    record { apart = (spacing-range m).0; near = (spacing-range m).1; few = ltb-false 4096 (length counts) parts.0; small = all_small counts parts.1 }

-- counts for which there is a spacing
spacing-tried : (l : Listing) (counts : List ℕ) (n : ℕ) → spacing_for l counts ≡ Every n → Tried n counts
spacing-tried (Refused k) counts n e =
    let z : ◌≡◌ {A = ℕ} 0 1 = cc in
    absurd (omega arith)
spacing-tried (Listed m) counts n e = go (counts_refused counts) refl e
  where
    go : (b : Bool) → counts_refused counts ≡ b → cond b (NotTried 21) (Every (spacing m)) ≡ Every n → Tried n counts
    go true p q =
        let z : ◌≡◌ {A = ℕ} 0 1 = cc in
        absurd (omega arith)
    go false p q =
        let same : spacing m ≡ n = cc in
        rw same at (tried-counts m counts p)

module _ (mode stream : ℕ) (counts : List ℕ) where
  pub every-tried : (s : Spacing) (n : ℕ) → s ≡ spacing_of mode stream counts → s ≡ Every n → Tried n counts
  unfolding spacing_of
  every-tried s n e f = spacing-tried (listing mode stream) counts n (sym e ∙ f)

  -- the spacing, by what the mode table says and whether the counts are refused
  pub spacing-by : (l k : Listing) (s : Spacing) → l ≡ listing mode stream → l ≡ k → s ≡ spacing_for k counts → s ≡ spacing_of mode stream counts
  unfolding spacing_of
  spacing-by l k s e f g = g ∙ ap (λ (x : Listing). spacing_for x counts) (sym f ∙ e)

  pub listed-refused : (m : Mode) → counts_refused counts ≡ true → NotTried 21 ≡ spacing_for (Listed m) counts
  listed-refused m e = simp e

  pub listed-every : (m : Mode) (n : ℕ) → n ≡ spacing m → counts_refused counts ≡ false → Every n ≡ spacing_for (Listed m) counts
  listed-every m n h e = rw (h, e)
