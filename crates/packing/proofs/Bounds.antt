-- What the placing rule keeps: the pieces fit, they are within the count limit, they are parts of what is offered, and none is empty.
use mathlib.Core.Path.{◌≡◌, refl, sym, ◌∙◌}
use mathlib.Core.Bool.{Bool, true, false, cond}
use mathlib.Core.List.{List, [], ◌∷◌, ◌++◌}
use Prim.Native.Nat.{ℕ, zero, suc, ◌+◌, ◌-◌, ◌<◌, ◌≤◌}
use native.Mathlib.Omega.{arith}
use lib.Dec.{eqb, leb}
use borrow.Author.Tests.{ne_eqb, leb-false, le-leb}
use lib.ListN.{length}
use Rattle.pieces.specs.Pieces.{total}
use Rattle.packing.specs.Packing.{overhead, most_pieces, fit, wholes_from, part_after, part_from, if_any, piece_lengths}
use Rattle.packing.proofs.Fitting.{fit-most, fit-room, fit-within}

-- the bytes that are left of the packets offered
abbrev pub left : ℕ → List ℕ → ℕ
left s [] = 0
left s (n ∷ ns) = n - s + total ns

-- every packet has bytes left
abbrev pub Bytes : ℕ → List ℕ → Type 0
Bytes s [] = Unit {0}
Bytes s (n ∷ ns) = (s < n) × Bytes 0 ns

abbrev pub Positive : List ℕ → Type 0
Positive [] = Unit {0}
Positive (n ∷ ns) = (0 < n) × Positive ns

abbrev pub AtMost : ℕ → List ℕ → Type 0
AtMost roof [] = Unit {0}
AtMost roof (n ∷ ns) = (n ≤ roof) × AtMost roof ns

module _ (width extra size : ℕ) where
  -- the pieces placed after k pieces that take `used` bytes
  abbrev pub placed_from : ℕ → ℕ → ℕ → List ℕ → List ℕ
  placed_from k used s ns = wholes_from width extra size k used s ns ++ if_any (part_from width extra size k used s ns)

  -- what holds of the pieces `ps` that are placed of `ns`
  pub record Kept (k used s : ℕ) (ns ps : List ℕ) : Type 0 where
    pub room : overhead width extra (k + length ps) + (used + (total ps + length ps)) ≤ size
    pub few : k + length ps ≤ most_pieces width extra
    pub offered : total ps ≤ left s ns
    pub bytes : Bytes s ns → Positive ps

  none_kept : (k used s : ℕ) (ns : List ℕ) → overhead width extra k + used ≤ size → k ≤ most_pieces width extra → Kept k used s ns []
  unfolding total
  none_kept k used s ns h m =
      let e : k + 0 ≡ k = omega arith in
      record { room = rw e (omega arith); few = omega arith; offered = omega arith; bytes = λ b. tt }

  one_more : (k used s n : ℕ) (ns ps : List ℕ) → Kept (suc k) (used + (n - s) + 1) 0 ns ps → Kept k used s (n ∷ ns) ((n - s) ∷ ps)
  unfolding total
  one_more k used s n ns ps h =
      let r = h.room in
      let e : k + suc (length ps) ≡ suc k + length ps = omega arith in
      let f = h.few in
      let o : total ps ≤ total ns = least ns h.offered in
      record { room = rw e (omega arith); few = omega arith; offered = omega arith; bytes = λ b. let q = b.0 in (omega arith, h.bytes b.1) }
    where
      least : (ns : List ℕ) → total ps ≤ left 0 ns → total ps ≤ total ns
      least [] q = q
      least (m ∷ ns) q = omega arith

  part-kept : (k used s n p : ℕ) (ns : List ℕ) → overhead width extra (suc k) + used + 1 + p ≡ size → suc k ≤ most_pieces width extra → 0 < p → p ≤ n - s → Kept k used s (n ∷ ns) (p ∷ [])
  unfolding total
  part-kept k used s n p ns e m z h =
      let f : k + 1 ≡ suc k = omega arith in
      record { room = rw f (omega arith); few = omega arith; offered = omega arith; bytes = λ b. (z, tt) }

  last-kept : (k used s n : ℕ) (ns : List ℕ) → overhead width extra k + used ≤ size → k ≤ most_pieces width extra → fit width extra size (suc k) (used + (n - s) + 1) ≡ false
      → Kept k used s (n ∷ ns) (if_any (part_after width extra size k used))
  unfolding part_after
  last-kept k used s n ns h m past = go (fit width extra size (suc k) (used + 2)) refl
    where
      go : (b : Bool) → fit width extra size (suc k) (used + 2) ≡ b → Kept k used s (n ∷ ns) (if_any (cond b (size - (overhead width extra (suc k) + used + 1)) 0))
      go false e = none_kept k used s (n ∷ ns) h m
      go true e =
          let r = fit-room width extra size (suc k) (used + 2) e in
          let f = fit-most width extra size (suc k) (used + 2) e in
          let p = size - (overhead width extra (suc k) + used + 1) in
          let t : eqb p 0 ≡ false = ne_eqb p 0 (λ q. absurd (omega (arith, r, q))) in
          let w : leb (overhead width extra (suc k) + (used + (n - s) + 1)) size ≡ false = fit-within width extra size (suc k) (used + (n - s) + 1) f ∙ past in
          let o = leb-false (overhead width extra (suc k) + (used + (n - s) + 1)) size w in
          let kept : Kept k used s (n ∷ ns) (p ∷ []) = part-kept k used s n p ns (omega (arith, r)) f (omega (arith, r)) (omega (arith, r, o)) in
          rw t kept

  pub kept_from : (ns : List ℕ) (k used s : ℕ) → overhead width extra k + used ≤ size → k ≤ most_pieces width extra → Kept k used s ns (placed_from k used s ns)
  unfolding wholes_from part_from
  kept_from [] k used s h m = none_kept k used s [] h m
  kept_from (n ∷ ns) k used s h m = go (fit width extra size (suc k) (used + (n - s) + 1)) refl (kept_from ns (suc k) (used + (n - s) + 1) 0)
    where
      go : (b : Bool) → fit width extra size (suc k) (used + (n - s) + 1) ≡ b
          → (overhead width extra (suc k) + (used + (n - s) + 1) ≤ size → suc k ≤ most_pieces width extra → Kept (suc k) (used + (n - s) + 1) 0 ns (placed_from (suc k) (used + (n - s) + 1) 0 ns))
          → Kept k used s (n ∷ ns) (cond b ((n - s) ∷ wholes_from width extra size (suc k) (used + (n - s) + 1) 0 ns) [] ++ if_any (cond b (part_from width extra size (suc k) (used + (n - s) + 1) 0 ns) (part_after width extra size k used)))
      go true e r = one_more k used s n ns (placed_from (suc k) (used + (n - s) + 1) 0 ns) (r (fit-room width extra size (suc k) (used + (n - s) + 1) e) (fit-most width extra size (suc k) (used + (n - s) + 1) e))
      go false e r = last-kept k used s n ns h m e

  -- the pieces of a PDU whose overhead fits
  pub kept : (s : ℕ) (ns : List ℕ) → overhead width extra 0 ≤ size → Kept 0 0 s ns (piece_lengths width extra size s ns)
  kept s ns h = kept_from ns 0 0 s (omega arith) (omega arith)

  -- it never places past the list: packets that end are offered, and one of which a part is placed is too
  pub in_list : (ns : List ℕ) (k used s : ℕ) → length (wholes_from width extra size k used s ns) + length (if_any (part_from width extra size k used s ns)) ≤ length ns
  unfolding wholes_from part_from
  in_list [] k used s = omega arith
  in_list (n ∷ ns) k used s = go (fit width extra size (suc k) (used + (n - s) + 1)) (in_list ns (suc k) (used + (n - s) + 1) 0) (one (part_after width extra size k used))
    where
      one : (p : ℕ) → length (if_any p) ≤ 1
      one zero = omega arith
      one (suc p) = let t : eqb (suc p) 0 ≡ false = ne_eqb (suc p) 0 (λ q. absurd (omega (arith, q))) in rw t (omega arith)

      go : (b : Bool) → length (wholes_from width extra size (suc k) (used + (n - s) + 1) 0 ns) + length (if_any (part_from width extra size (suc k) (used + (n - s) + 1) 0 ns)) ≤ length ns → length (if_any (part_after width extra size k used)) ≤ 1
          → length (cond b ((n - s) ∷ wholes_from width extra size (suc k) (used + (n - s) + 1) 0 ns) []) + length (if_any (cond b (part_from width extra size (suc k) (used + (n - s) + 1) 0 ns) (part_after width extra size k used))) ≤ suc (length ns)
      go true h p = omega arith
      go false h p = omega arith

  -- with room for a piece of one byte and its CRC, a piece is placed if a packet is offered
  pub some-placed : (s n : ℕ) (ns : List ℕ) → overhead width extra 1 + 2 ≤ size → 1 ≤ most_pieces width extra → 0 < length (piece_lengths width extra size s (n ∷ ns))
  unfolding wholes_from part_from part_after
  some-placed s n ns h m = go (fit width extra size 1 (0 + (n - s) + 1))
    where
      fits : fit width extra size 1 (0 + 2) ≡ true
      fits = sym (fit-within width extra size 1 (0 + 2) m) ∙ le-leb (overhead width extra 1 + (0 + 2)) size (omega arith)

      go : (b : Bool) → 0 < length (cond b ((n - s) ∷ wholes_from width extra size 1 (0 + (n - s) + 1) 0 ns) [] ++ if_any (cond b (part_from width extra size 1 (0 + (n - s) + 1) 0 ns) (cond (fit width extra size 1 (0 + 2)) (size - (overhead width extra 1 + 0 + 1)) 0)))
      go true = omega arith
      go false =
          let p = size - (overhead width extra 1 + 0 + 1) in
          let t : eqb p 0 ≡ false = ne_eqb p 0 (λ q. absurd (omega (arith, h, q))) in
          rw (fits, t) (omega arith)

  -- a part is shorter than what is left of its packet
  pub part-shorter : (k used s n roof : ℕ) → s ≤ roof → n ≤ suc roof → fit width extra size (suc k) (used + (n - s) + 1) ≡ false → s + part_after width extra size k used ≤ roof
  unfolding part_after
  part-shorter k used s n roof hs hn past = go (fit width extra size (suc k) (used + 2)) refl
    where
      go : (b : Bool) → fit width extra size (suc k) (used + 2) ≡ b → s + cond b (size - (overhead width extra (suc k) + used + 1)) 0 ≤ roof
      go false e = omega arith
      go true e =
          let r = fit-room width extra size (suc k) (used + 2) e in
          let f = fit-most width extra size (suc k) (used + 2) e in
          let o = leb-false (overhead width extra (suc k) + (used + (n - s) + 1)) size (fit-within width extra size (suc k) (used + (n - s) + 1) f ∙ past) in
          omega (arith, r, o)

  -- what is sent of the unfinished packet afterwards, where no packet has more than roof + 1 bytes
  pub sent-after : (ns : List ℕ) (k used s roof : ℕ) → AtMost (suc roof) ns → s ≤ roof
      → cond (eqb (length (wholes_from width extra size k used s ns)) 0) s 0 + part_from width extra size k used s ns ≤ roof
  unfolding wholes_from part_from
  sent-after [] k used s roof h hs = omega arith
  sent-after (n ∷ ns) k used s roof h hs = go (fit width extra size (suc k) (used + (n - s) + 1)) refl (sent-after ns (suc k) (used + (n - s) + 1) 0 roof h.1 (omega arith))
    where
      none : (b : Bool) → cond {A = ℕ} b 0 0 ≡ 0
      none true = refl
      none false = refl

      go : (b : Bool) → fit width extra size (suc k) (used + (n - s) + 1) ≡ b
          → cond (eqb (length (wholes_from width extra size (suc k) (used + (n - s) + 1) 0 ns)) 0) 0 0 + part_from width extra size (suc k) (used + (n - s) + 1) 0 ns ≤ roof
          → cond (eqb (length (cond b ((n - s) ∷ wholes_from width extra size (suc k) (used + (n - s) + 1) 0 ns) [])) 0) s 0 + cond b (part_from width extra size (suc k) (used + (n - s) + 1) 0 ns) (part_after width extra size k used) ≤ roof
      go true e r =
          let t : eqb (suc (length (wholes_from width extra size (suc k) (used + (n - s) + 1) 0 ns))) 0 ≡ false = ne_eqb (suc (length (wholes_from width extra size (suc k) (used + (n - s) + 1) 0 ns))) 0 (λ q. absurd (omega (arith, q))) in
          let z = none (eqb (length (wholes_from width extra size (suc k) (used + (n - s) + 1) 0 ns)) 0) in
          rw t (omega (arith, r, z))
      go false e r = part-shorter k used s n roof hs h.0 e
