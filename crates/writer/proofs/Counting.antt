-- The lengths of the packets offered, tested one after the other.
use mathlib.Core.Path.{◌≡◌, refl, sym, ap, subst, ◌∙◌}
use mathlib.Core.Bool.{Bool, true, false, not, ◌&&◌, ◌||◌}
use mathlib.Core.List.{List, [], ◌∷◌}
use Prim.Native.Nat.{ℕ, zero, suc, ◌+◌, ◌-◌, ◌<◌, ◌≤◌}
use native.Mathlib.Omega.{arith}
use native.Mathlib.Numerals.{add-one}
use lib.Dec.{eqb, ltb, leb, T}
use borrow.Author.Tests.{eq-eqb, ne_eqb, eqb-true, eqb-false, ltb-true, ltb-false}
use lib.ListN.{length, get_or, drop, drop_of_length-le}
use lib.Seq.{drop-cons}
use Rattle.pieces.specs.Pieces.{total}
use Rattle.writer.specs.Writing.{wrong_lengths, wrong_unfinished}

-- a wrong length, or lengths that do not sum to a count
abbrev pub wrongly : List ℕ → ℕ → Bool
wrongly ns count = wrong_lengths ns || not (eqb (total ns) count)

or-true : (b : Bool) → (b || true) ≡ true
or-true true = refl
or-true false = refl

same_rest : (a b c : ℕ) → b ≤ c → eqb (b + a) c ≡ eqb a (c - b)
same_rest a b c h = go (eqb (b + a) c) refl
  where
    go : (t : Bool) → eqb (b + a) c ≡ t → t ≡ eqb a (c - b)
    go true e = let q = eqb-true (b + a) c e in sym (eq-eqb a (c - b) (omega arith))
    go false e = sym (ne_eqb a (c - b) (λ q. eqb-false (b + a) c e (omega arith)))

module _ (n count : ℕ) (ns : List ℕ) where
  -- a length that is refused, or more than is left
  pub stops : (eqb n 0 || (ltb 4096 n || ltb count n)) ≡ true → wrongly (n ∷ ns) count ≡ true
  unfolding total
  stops = go (eqb n 0) (ltb 4096 n) (ltb count n) refl
    where
      go : (a b c : Bool) → ltb count n ≡ c → (a || (b || c)) ≡ true → ((a || (b || wrong_lengths ns)) || not (eqb (n + total ns) count)) ≡ true
      go true b c e h = refl
      go false true c e h = refl
      go false false true e h =
          let l = ltb-true count n e in
          let f : eqb (n + total ns) count ≡ false = ne_eqb (n + total ns) count (λ q. absurd (omega arith)) in
          rw f (or-true (wrong_lengths ns))
      go false false false e h = absurd (subst T (sym h) tt)

  pub goes_on : (eqb n 0 || (ltb 4096 n || ltb count n)) ≡ false → wrongly (n ∷ ns) count ≡ wrongly ns (count - n)
  unfolding total
  goes_on = go (eqb n 0) (ltb 4096 n) (ltb count n) refl
    where
      go : (a b c : Bool) → ltb count n ≡ c → (a || (b || c)) ≡ false
          → ((a || (b || wrong_lengths ns)) || not (eqb (n + total ns) count)) ≡ (wrong_lengths ns || not (eqb (total ns) (count - n)))
      go true b c e h = absurd (subst T h tt)
      go false true c e h = absurd (subst T h tt)
      go false false true e h = absurd (subst T h tt)
      go false false false e h = ap (λ (t : Bool). wrong_lengths ns || not t) (same_rest (total ns) n count (ltb-false count n e))

-- the packets from k on
module _ (ns : List ℕ) (k count : ℕ) where
  pub from-here : k < length ns → wrongly (drop k ns) count ≡ wrongly (get_or ns k 0 ∷ drop (k + 1) ns) count
  from-here h = ap (λ (r : List ℕ). wrongly r count) (drop-cons ns k 0 h) ∙ ap (λ (j : ℕ). wrongly (get_or ns k 0 ∷ drop j ns) count) (sym (add-one k))

  pub none_left : length ns ≤ k → wrongly (drop k ns) count ≡ not (eqb count 0)
  unfolding total
  none_left h = rw (drop_of_length-le ns {i = k} h) (ap not (flip count))
    where
      flip : (n : ℕ) → eqb 0 n ≡ eqb n 0
      flip zero = refl
      flip (suc n) = ne_eqb 0 (suc n) (λ q. absurd (omega arith)) ∙ sym (ne_eqb (suc n) 0 (λ q. absurd (omega arith)))

-- the unfinished packet
pub none-offered : (s : ℕ) (ns : List ℕ) → length ns ≡ 0 → ltb 0 s ≡ wrong_unfinished s ns
none-offered s [] e = refl
none-offered s (n ∷ ns) e = absurd (omega arith)

pub first-offered : (s : ℕ) (ns : List ℕ) → ¬ (length ns ≡ 0) → (ltb 0 s && leb (get_or ns 0 0) s) ≡ wrong_unfinished s ns
first-offered s [] e = absurd (e refl)
first-offered s (n ∷ ns) e = refl

-- lengths that are judged one by one
pub stops-here : (ns : List ℕ) (k left n : ℕ) (goal : Bool) → k < length ns → n ≡ get_or ns k 0 → wrongly (drop k ns) left ≡ goal → (eqb n 0 || (ltb 4096 n || ltb left n)) ≡ true → true ≡ goal
stops-here ns k left n goal h e i t =
    sym (stops n left (drop (k + 1) ns) t) ∙ ap (λ (m : ℕ). wrongly (m ∷ drop (k + 1) ns) left) e ∙ sym (from-here ns k left h) ∙ i

pub goes-on-here : (ns : List ℕ) (k left n : ℕ) (goal : Bool) → k < length ns → n ≡ get_or ns k 0 → wrongly (drop k ns) left ≡ goal → (eqb n 0 || (ltb 4096 n || ltb left n)) ≡ false → wrongly (drop (k + 1) ns) (left - n) ≡ goal
goes-on-here ns k left n goal h e i t =
    sym (goes_on n left (drop (k + 1) ns) t) ∙ ap (λ (m : ℕ). wrongly (m ∷ drop (k + 1) ns) left) e ∙ sym (from-here ns k left h) ∙ i

pub not_more : (n left : ℕ) → (eqb n 0 || (ltb 4096 n || ltb left n)) ≡ false → n ≤ left
not_more n left = go (eqb n 0) (ltb 4096 n) (ltb left n) refl
  where
    go : (a b c : Bool) → ltb left n ≡ c → (a || (b || c)) ≡ false → n ≤ left
    go true b c e h = absurd (subst T h tt)
    go false true c e h = absurd (subst T h tt)
    go false false true e h = absurd (subst T h tt)
    go false false false e h = ltb-false left n e
