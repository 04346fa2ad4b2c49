-- The placing rule, which goes by lengths, on the packets themselves.
use mathlib.Core.Path.{◌≡◌, refl, sym, ap, ap₂, ◌∙◌}
use mathlib.Core.Bool.{Bool, true, false, cond}
use mathlib.Core.List.{List, [], ◌∷◌, ◌++◌, map}
use Prim.Native.Nat.{ℕ, zero, suc, ◌+◌, ◌-◌, ◌<◌, ◌≤◌}
use native.Mathlib.Omega.{arith}
use lib.Dec.{eqb-suc-zero}
use lib.ListN.{length, take, drop, length-drop}
use lib.Seq.{take-append_seam, drop-append_seam, drop-append-le, take-append-le, length-take-le}
use Rattle.pieces.specs.Pieces.{cut_by}
use Rattle.packing.specs.Packing.{fit, wholes_from, part_after, part_from, if_any}
use Rattle.packing.proofs.Fitting.{fit-room}
use Rattle.packing.proofs.Bounds.{part-shorter}
use Rattle.runs.proofs.Model.{cut, Fits, Sized}
use Rattle.runs.proofs.Theorem.{Unfinished, unfinished-zero}
use Rattle.delivery.specs.Delivery.{concatenated}

-- ---- pieces cut from the joined bytes

cut-one : (t : ℕ) (b r : List ℕ) → t ≤ length b → cut_by (length (take t b) ∷ []) (b ++ r) ≡ take t b ∷ []
unfolding cut_by
cut-one t b r h =
    let e : length (take t b) ≡ t = length-take-le t b h in
    ap (λ (n : ℕ). take n (b ++ r) ∷ []) e ∙ ap (λ (l : List ℕ). l ∷ []) (take-append-le t b r h)

cut-next : (b r : List ℕ) (ns : List ℕ) → cut_by (length b ∷ ns) (b ++ r) ≡ b ∷ cut_by ns r
unfolding cut_by
cut-next b r ns = ap₂ (λ (x y : List ℕ). x ∷ cut_by ns y) (take-append_seam b r) (drop-append_seam b r)

-- of the joined packets from the first unsent byte on
pub cut-joined : (s e t : ℕ) (os : List (List ℕ)) → Fits s e t os → Sized os → Unfinished s os → cut_by (map length (cut s e t os)) (drop s (concatenated os)) ≡ cut s e t os
unfolding cut
cut-joined s e t [] h z u = unfold cut_by in refl
cut-joined s zero zero (p ∷ os) h z u = unfold cut_by in refl
cut-joined s zero (suc t) (p ∷ os) h z u =
    rw (drop-append-le s p (concatenated os) (omega arith)) (cut-one (suc t) (drop s p) (concatenated os) (let l = length-drop s p in omega (arith, l, h)))
cut-joined s (suc e) t (p ∷ os) h z u =
    rw (drop-append-le s p (concatenated os) (omega arith), cut-next (drop s p) (concatenated os) (map length (cut 0 e t os)))
    (ap (λ (l : List (List ℕ)). drop s p ∷ l) (cut-joined 0 e t os h z.2 (unfinished-zero os z.2)))

-- ---- what is placed

module _ (width extra size : ℕ) where
  -- there is room for a byte of an unfinished packet
  abbrev pub RoomFor : ℕ → ℕ → ℕ → Type 0
  RoomFor k used s = 0 < s → fit width extra size (suc k) (used + 2) ≡ true

  part_left : (k used : ℕ) → fit width extra size (suc k) (used + 2) ≡ true → 0 < part_after width extra size k used
  unfolding part_after
  part_left k used e = let r = fit-room width extra size (suc k) (used + 2) e in rw e (omega (arith, r))

  fits-part : (s t : ℕ) (p : List ℕ) (os : List (List ℕ)) → (t ≡ 0 → s ≡ 0) → s + t < length p → Fits s 0 t (p ∷ os)
  fits-part s zero p os z l = z refl
  fits-part s (suc t) p os z l = l

  none-sent : (s t : ℕ) → (0 < s → 0 < t) → t ≡ 0 → s ≡ 0
  none-sent zero t h e = refl
  none-sent (suc s) t h e = absurd (let q = h (omega arith) in omega (arith, q, e))

  -- whole remainders and a part of the next are what the packets offered have
  pub placed-fits : (os : List (List ℕ)) (k used s : ℕ) → Sized os → Unfinished s os → RoomFor k used s
      → Fits s (length (wholes_from width extra size k used s (map length os))) (part_from width extra size k used s (map length os)) os
  unfolding wholes_from part_from
  placed-fits [] k used s z u r = u
  placed-fits (p ∷ os) k used s z u r =
      go (fit width extra size (suc k) (used + (length p - s) + 1)) refl
      (placed-fits os (suc k) (used + (length p - s) + 1) 0 z.2 (unfinished-zero os z.2) (λ h. absurd (omega arith)))
    where
      go : (b : Bool) → fit width extra size (suc k) (used + (length p - s) + 1) ≡ b
          → Fits 0 (length (wholes_from width extra size (suc k) (used + (length p - s) + 1) 0 (map length os))) (part_from width extra size (suc k) (used + (length p - s) + 1) 0 (map length os)) os
          → Fits s (length (cond b ((length p - s) ∷ wholes_from width extra size (suc k) (used + (length p - s) + 1) 0 (map length os)) [])) (cond b (part_from width extra size (suc k) (used + (length p - s) + 1) 0 (map length os)) (part_after width extra size k used)) (p ∷ os)
      go true e h = h
      go false e h =
          let l = part-shorter width extra size k used s (length p) (length p - 1) (omega arith) (omega arith) e in
          fits-part s (part_after width extra size k used) p os (none-sent s (part_after width extra size k used) (λ q. part_left k used (r q))) (omega (arith, l))

  lengths-part : (s t : ℕ) (p : List ℕ) (os : List (List ℕ)) → Fits s 0 t (p ∷ os) → if_any t ≡ map length (cut s 0 t (p ∷ os))
  unfolding cut
  lengths-part s zero p os h = refl
  lengths-part s (suc t) p os h =
      let d = length-drop s p in
      rw (eqb-suc-zero t) (ap (λ (n : ℕ). n ∷ []) (sym (length-take-le (suc t) (drop s p) (omega (arith, d, h)))))

  -- the pieces' lengths are those of the parts cut
  pub placed-lengths : (os : List (List ℕ)) (k used s : ℕ)
      → Fits s (length (wholes_from width extra size k used s (map length os))) (part_from width extra size k used s (map length os)) os
      → wholes_from width extra size k used s (map length os) ++ if_any (part_from width extra size k used s (map length os))
      ≡ map length (cut s (length (wholes_from width extra size k used s (map length os))) (part_from width extra size k used s (map length os)) os)
  unfolding wholes_from part_from cut
  placed-lengths [] k used s h = refl
  placed-lengths (p ∷ os) k used s h =
      go (fit width extra size (suc k) (used + (length p - s) + 1)) (placed-lengths os (suc k) (used + (length p - s) + 1) 0) h
    where
      go : (b : Bool)
          → (Fits 0 (length (wholes_from width extra size (suc k) (used + (length p - s) + 1) 0 (map length os))) (part_from width extra size (suc k) (used + (length p - s) + 1) 0 (map length os)) os
          → wholes_from width extra size (suc k) (used + (length p - s) + 1) 0 (map length os) ++ if_any (part_from width extra size (suc k) (used + (length p - s) + 1) 0 (map length os))
          ≡ map length (cut 0 (length (wholes_from width extra size (suc k) (used + (length p - s) + 1) 0 (map length os))) (part_from width extra size (suc k) (used + (length p - s) + 1) 0 (map length os)) os))
          → Fits s (length (cond b ((length p - s) ∷ wholes_from width extra size (suc k) (used + (length p - s) + 1) 0 (map length os)) [])) (cond b (part_from width extra size (suc k) (used + (length p - s) + 1) 0 (map length os)) (part_after width extra size k used)) (p ∷ os)
          → cond b ((length p - s) ∷ wholes_from width extra size (suc k) (used + (length p - s) + 1) 0 (map length os)) [] ++ if_any (cond b (part_from width extra size (suc k) (used + (length p - s) + 1) 0 (map length os)) (part_after width extra size k used))
          ≡ map length (cut s (length (cond b ((length p - s) ∷ wholes_from width extra size (suc k) (used + (length p - s) + 1) 0 (map length os)) [])) (cond b (part_from width extra size (suc k) (used + (length p - s) + 1) 0 (map length os)) (part_after width extra size k used)) (p ∷ os))
      go true r h = ap₂ (λ (n : ℕ) (l : List ℕ). n ∷ l) (sym (length-drop s p)) (r h)
      go false r h = lengths-part s (part_after width extra size k used) p os h
