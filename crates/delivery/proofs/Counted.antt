-- Document 02, Ask 14: counts that add up, by equal indices and equal counts; and runs in which neither count can pass its limit.
use mathlib.Core.Path.{◌≡◌, refl, sym, subst, subst₂}
use mathlib.Core.Bool.{Bool, true, false, cond}
use mathlib.Core.List.{List, [], ◌∷◌, ◌++◌}
use Prim.Native.Nat.{ℕ, zero, suc, ◌+◌, ◌-◌, ◌%◌, ◌<◌, ◌≤◌}
use native.Mathlib.Omega.{arith}
use borrow.Author.Tests.{ne_eqb}
use lib.ListN.{length}
use Rattle.packet_log.specs.Log.{Entry, packet}
use Rattle.reassembly.specs.Tally.{Tally, no_tally, gap, counted, tallied, Countable}
use Rattle.runs.specs.Spans.{whole_indices, entries_at}
use Rattle.runs.specs.Transmissions.{Close, AddsUp}
use Rattle.runs.proofs.Model.{whole_packets}
use Rattle.runs.proofs.Spans.{entries-are}
use Rattle.delivery.proofs.Parts.{EntriesFit}

pub adds-along : {a b : List ℕ} {t u : Tally} → a ≡ b → t ≡ u → (Close a → AddsUp a t) → Close b → AddsUp b u
adds-along e f h c = subst₂ AddsUp e f (h (subst Close (sym e) c))

-- ---- delivered and missing together are at most the packets of the list

-- entries that are packets of n indices from i on, each index there or not
abbrev Picked : ℕ → ℕ → List Entry → Type 0
Picked i zero es = es ≡ []
Picked i (suc n) es = (b : Bool) × (p : List ℕ) × (rest : List Entry) × (es ≡ cond b (packet (i % 64) p ∷ []) [] ++ rest) × Picked (suc i) n rest

-- what is missing by the numbers of two packets is at most what is between their indices
gap-most : (a i : ℕ) → a < i → gap (a % 64) (i % 64) ≤ i - a - 1
gap-most a i h = omega arith

-- so it is after a delivery of index a
after_one : (n i a : ℕ) (es : List Entry) (t : Tally) → a < i → ¬ (t.delivered ≡ 0) → t.last ≡ a % 64 → t.delivered + t.missing ≤ suc a → Picked i n es
    → (tallied t es).delivered + (tallied t es).missing ≤ i + n
unfolding tallied
after_one zero i a es t h d l s k = rw k (omega (arith, s, h))
after_one (suc n) i a es t h d l s (b, p, rest, e, k) = subst (λ (x : List Entry). (tallied t x).delivered + (tallied t x).missing ≤ i + suc n) (sym e)
    (go b (λ (c : ℕ) (u : Tally). λ f g j q. after_one n (suc i) c rest u f g j q k))
  where
    more : counted t (i % 64) ≡ record { delivered = suc t.delivered; missing = t.missing + gap t.last (i % 64); last = i % 64 }
    more = unfold counted in rw (ne_eqb t.delivered 0 d)

    go : (b : Bool) → ((c : ℕ) (u : Tally) → c < suc i → ¬ (u.delivered ≡ 0) → u.last ≡ c % 64 → u.delivered + u.missing ≤ suc c → (tallied u rest).delivered + (tallied u rest).missing ≤ suc i + n)
        → (tallied t (cond b (packet (i % 64) p ∷ []) [] ++ rest)).delivered + (tallied t (cond b (packet (i % 64) p ∷ []) [] ++ rest)).missing ≤ i + suc n
    go false y = let r = y a t (omega (arith, h)) d l s in omega (arith, r)
    go true y =
        let g : gap t.last (i % 64) ≤ i - a - 1 = rw l (gap-most a i h) in
        let r = y i (record { delivered = suc t.delivered; missing = t.missing + gap t.last (i % 64); last = i % 64 }) (omega arith) (λ z. omega (arith, z)) refl (omega (arith, g, s, h)) in
        rw more (omega (arith, r))

first_counted : (n : ℕ) → counted no_tally n ≡ record { delivered = 1; missing = 0; last = n }
unfolding counted
first_counted n = refl

-- and from the first delivery on
after_none : (n i : ℕ) (es : List Entry) → Picked i n es → (tallied no_tally es).delivered + (tallied no_tally es).missing ≤ i + n
unfolding tallied
after_none zero i es k = rw k (omega arith)
after_none (suc n) i es (b, p, rest, e, k) = subst (λ (x : List Entry). (tallied no_tally x).delivered + (tallied no_tally x).missing ≤ i + suc n) (sym e) (go b (after_none n (suc i) rest k))
  where
    go : (b : Bool) → (tallied no_tally rest).delivered + (tallied no_tally rest).missing ≤ suc i + n
        → (tallied no_tally (cond b (packet (i % 64) p ∷ []) [] ++ rest)).delivered + (tallied no_tally (cond b (packet (i % 64) p ∷ []) [] ++ rest)).missing ≤ i + suc n
    go false r = omega (arith, r)
    go true y =
        let r = after_one n (suc i) i rest (record { delivered = 1; missing = 0; last = i % 64 }) (omega arith) (λ z. omega (arith, z)) refl (omega arith) k in
        rw (first_counted (i % 64)) (omega (arith, r))

picked_fit : (n : ℕ) (es : List Entry) → n ≤ 4294967295 → Picked 0 n es → EntriesFit es
picked_fit n es h k = let r = after_none n 0 es k in (omega (arith, r, h), omega (arith, r, h))

whole-picked : (f : ℕ → ℕ → Bool) (o i : ℕ) (ps : List (List ℕ)) → Picked i (length ps) (whole_packets f o i ps)
unfolding whole_packets
whole-picked f o i [] = refl
whole-picked f o i (p ∷ ps) = (f o (length p), p, whole_packets f (o + length p) (suc i) ps, refl, whole-picked f (o + length p) (suc i) ps)

-- so runs of so many packets meet no 27
pub packets-fit : (f : ℕ → ℕ → Bool) (packets : List (List ℕ)) → length packets ≤ 4294967295 → EntriesFit (whole_packets f 0 0 packets)
packets-fit f packets h = picked_fit (length packets) (whole_packets f 0 0 packets) h (whole-picked f 0 0 packets)

pub whole-fit : (f : ℕ → ℕ → Bool) (packets : List (List ℕ)) → length packets ≤ 4294967295 → Countable (tallied no_tally (entries_at packets (whole_indices f 0 0 packets)))
whole-fit f packets h = subst EntriesFit (sym (entries-are f packets)) (packets-fit f packets h)
