-- The place of the first packet of each number: a word more.
use mathlib.Core.Path.{◌≡◌, refl, sym, ap, ◌∙◌}
use mathlib.Core.Bool.{Bool, true, false, ◌&&◌}
use mathlib.Core.List.{List}
use Prim.Native.Nat.{ℕ, ◌+◌, ◌<◌, ◌≤◌}
use native.Mathlib.Omega.{arith}
use lib.Dec.{eqb}
use lib.ListN.{length, get_or, set, drop, length-set, replicate, length-replicate, get_or-replicate}
use lib.Seq.{get_or-set_same, get_or-set_other}
use borrow.Author.Tests.{eqb-true, eqb-false}
use Rattle.join.specs.Join.{number}
use Rattle.join.specs.Scan.{is_packet, from_number, Placed}
use Rattle.join.proofs.Tests.{neither, second}
use Rattle.join.proofs.Scanning.{found_here, found-next, found-end}

module _ (places log : List ℕ) (i : ℕ) (h : i < length log) (p : Placed places log (i + 1)) where
  -- a word that begins no packet
  pub place-passed : is_packet (get_or log i 0) ≡ false → Placed places log i
  place-passed e = (p.0, λ n l. ((p.1 n l).0, (p.1 n l).1 ∙ found-next log i h n (sym (neither (is_packet (get_or log i 0)) (eqb (number (get_or log i 0)) n) e))))

  -- a packet of number m
  pub place_kept : (m : ℕ) → m ≡ number (get_or log i 0) → m < 64 → is_packet (get_or log i 0) ≡ true → Placed (set places m i) log i
  place_kept m e l t = (p.0 ∙ sym (length-set places m i), λ n k. go n k (eqb m n) refl)
    where
      this : (n : ℕ) → (b : Bool) → eqb m n ≡ b → (is_packet (get_or log i 0) && eqb (number (get_or log i 0)) n) ≡ b
      this n b f = sym (second (is_packet (get_or log i 0)) (eqb (number (get_or log i 0)) n) t) ∙ ap (λ (k : ℕ). eqb k n) (sym e) ∙ f

      go : (n : ℕ) → n < 64 → (b : Bool) → eqb m n ≡ b
          → (get_or (set places m i) n 0 ≤ length log) × (drop (get_or (set places m i) n 0) log ≡ from_number n (drop i log))
      go n k true f =
          let s : m ≡ n = eqb-true m n f in
          let r : get_or (set places m i) n 0 ≡ i = ap (λ (x : ℕ). get_or (set places m i) x 0) (sym s) ∙ get_or-set_same places m i 0 (omega (arith, p.0, l)) in
          (omega (arith, r, h), ap (λ (x : ℕ). drop x log) r ∙ found_here log i h n (this n true f))
      go n k false f =
          let r : get_or (set places m i) n 0 ≡ get_or places n 0 = get_or-set_other places m n i 0 (λ q. eqb-false m n f (sym q)) in
          (omega (arith, r, (p.1 n k).0), ap (λ (x : ℕ). drop x log) r ∙ (p.1 n k).1 ∙ found-next log i h n (this n false f))

-- past the log's last word
pub places-begin : (log : List ℕ) → Placed (replicate 64 (length log)) log (length log)
places-begin log = (
  sym (length-replicate 64 (length log)),
  λ n l. (let r : get_or (replicate 64 (length log)) n 0 ≡ length log = get_or-replicate 64 n (length log) 0 l in
      (omega (arith, r), ap (λ (x : ℕ). drop x log) r ∙ found-end log (length log) (omega arith) n)),
)
