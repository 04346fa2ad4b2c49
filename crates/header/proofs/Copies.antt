-- A copy that goes on by one byte, and what it comes to.
use mathlib.Core.Path.{◌≡◌, ◌∙◌, ap, ap₂, sym, subst}
use mathlib.Core.List.{List, ◌++◌}
use Prim.Native.Nat.{ℕ, ◌+◌, ◌<◌, min}
use native.Mathlib.Decide.{dec_lt}
use native.Mathlib.Nat.{zero-add}
use native.Mathlib.Numerals.{add-one}
use native.Mathlib.Omega.{arith}
use lib.ListN.{get_or, length, set, take, drop, drop_of_length-le}
use lib.Seq.{paste, paste-suc, take_all}

pub paste_more : (d s w : List ℕ) (k i j : ℕ) → w ≡ paste d 0 s k → k < length d → k < length s → i ≡ k → j ≡ k → set w i (get_or s j 0) ≡ paste d 0 s (k + 1)
paste_more d s w k i j e hd hs f g =
    rw (f, g) (ap₂ (λ (l : List ℕ) (n : ℕ). set l n (get_or s k 0)) e (sym (zero-add k))
    ∙ paste-suc d 0 s k 0 (subst (λ (n : ℕ). n < length d) (sym (zero-add k)) hd) hs
    ∙ ap (paste d 0 s) (sym (add-one k)))

-- as many bytes copied as there are, or as there is room for
pub pasted : (d s : List ℕ) (n : ℕ) → n ≡ min (length s) (length d) → paste d 0 s n ≡ take (length d) s ++ drop (length s) d
pasted d s n e = ap (λ (k : ℕ). take n s ++ drop k d) (zero-add n) ∙ go (dec_lt (length d) (length s))
  where
    go : Dec (length d < length s) → take n s ++ drop n d ≡ take (length d) s ++ drop (length s) d
    go (yes h) =
        let m : n ≡ length d = omega arith in
        rw m (ap (λ (u : List ℕ). take (length d) s ++ u) (drop_of_length-le d {i = length d} (omega arith) ∙ sym (drop_of_length-le d {i = length s} (omega arith))))
    go (no h) =
        let m : n ≡ length s = omega arith in
        ap₂ (λ (u : List ℕ) (k : ℕ). u ++ drop k d) (take_all n s (omega arith) ∙ sym (take_all (length d) s (omega arith))) m
