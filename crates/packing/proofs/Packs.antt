-- One turn of packing, on the packets that are left.
use mathlib.Core.Path.{◌≡◌, sym, ap, ap₂, ◌∙◌}
use mathlib.Core.Bool.{true, false}
use mathlib.Core.List.{List, [], ◌∷◌, ◌++◌}
use Prim.Native.Nat.{ℕ, suc, ◌+◌, ◌-◌, ◌<◌, ◌≤◌}
use native.Mathlib.Omega.{arith}
use native.Mathlib.Numerals.{add-one}
use lib.ListN.{length, get_or, take, drop, drop_of_length-le, length-append}
use lib.Seq.{drop-cons}
use Rattle.buffer.specs.Buffer.{put_at}
use Rattle.buffer.proofs.Laws.{put-nil, take_put}
use Rattle.packing.specs.Packing.{fit, wholes_from, part_after, part_from, if_any}

module _ (width extra size : ℕ) (ls : List ℕ) (k used s : ℕ) where
  -- what is packed of the packets from k on
  abbrev pub wholes_left : List ℕ
  wholes_left = wholes_from width extra size k used s (drop k ls)

  abbrev pub part_left : ℕ
  part_left = part_from width extra size k used s (drop k ls)

  module _ (n : ℕ) (h : k < length ls) (e : n ≡ get_or ls k 0 - s) where
    left : drop k ls ≡ get_or ls k 0 ∷ drop (suc k) ls
    left = drop-cons ls k 0 h

    -- it fits
    pub one-whole : fit width extra size (k + 1) (used + n + 1) ≡ true → wholes_left ≡ n ∷ wholes_from width extra size (k + 1) (used + n + 1) 0 (drop (k + 1) ls)
    unfolding wholes_from
    one-whole t = let f : fit width extra size (suc k) (used + (get_or ls k 0 - s) + 1) ≡ true = rw (add-one k, e) at t in rw (left, f, add-one k, e)

    pub same-part : fit width extra size (k + 1) (used + n + 1) ≡ true → part_left ≡ part_from width extra size (k + 1) (used + n + 1) 0 (drop (k + 1) ls)
    unfolding part_from
    same-part t = let f : fit width extra size (suc k) (used + (get_or ls k 0 - s) + 1) ≡ true = rw (add-one k, e) at t in rw (left, f, add-one k, e)

    -- it does not fit
    pub no_whole : fit width extra size (k + 1) (used + n + 1) ≡ false → wholes_left ≡ []
    unfolding wholes_from
    no_whole t = let f : fit width extra size (suc k) (used + (get_or ls k 0 - s) + 1) ≡ false = rw (add-one k, e) at t in rw (left, f)

    pub last-part : fit width extra size (k + 1) (used + n + 1) ≡ false → part_left ≡ part_after width extra size k used
    unfolding part_from
    last-part t = let f : fit width extra size (suc k) (used + (get_or ls k 0 - s) + 1) ≡ false = rw (add-one k, e) at t in rw (left, f)

  -- none is left
  pub none-whole : length ls ≤ k → wholes_left ≡ []
  unfolding wholes_from
  none-whole h = rw (drop_of_length-le ls {i = k} h)

  pub none-part : length ls ≤ k → part_left ≡ 0
  unfolding part_from
  none-part h = rw (drop_of_length-le ls {i = k} h)

-- what is packed once nothing more is placed whole
pub finished : (out out₀ whole wl lens : List ℕ) (k p q ended part nop : ℕ) → wl ≡ [] → put_at out k wl ≡ put_at out₀ 0 whole → k + length wl ≡ length whole → q ≡ p
    → ((ended ≡ k) × (part ≡ q)) × ((nop ≡ k + length (if_any q)) × (take nop lens ≡ take k out ++ if_any q))
    → (ended ≡ length whole) × ((part ≡ p) × ((nop ≡ length (whole ++ if_any p)) × (take nop lens ≡ whole ++ if_any p)))
finished out out₀ whole wl lens k p q ended part nop none e n same h =
    let e1 : put_at out k [] ≡ put_at out₀ 0 whole = rw none at e in
    let n1 : k + 0 ≡ length whole = rw none at n in
    let m : k ≡ length whole = omega arith in
    let o : out ≡ put_at out₀ 0 whole = sym (put-nil out k) ∙ e1 in
    let t : take k out ≡ whole = ap₂ (λ (i : ℕ) (r : List ℕ). take i r) m o ∙ take_put out₀ whole in
    let l : length (whole ++ if_any p) ≡ length whole + length (if_any p) = length-append whole (if_any p) in
    let g : nop ≡ k + length (if_any p) = rw (← same) h.1.0 in
    let f : take nop lens ≡ take k out ++ if_any p = rw (← same) h.1.1 in
    (h.0.0 ∙ m, (h.0.1 ∙ same, (g ∙ omega (arith, m, l), f ∙ ap (λ (r : List ℕ). r ++ if_any p) t)))
