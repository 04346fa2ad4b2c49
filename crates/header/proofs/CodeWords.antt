-- What a code word is, syndrome by syndrome.
use mathlib.Core.Path.{◌≡◌, refl, sym, ap, ap₂, ◌∙◌}
use mathlib.Core.Bool.{true, ◌&&◌}
use mathlib.Core.List.{List, [], ◌∷◌, map}
use Prim.Native.Nat.{ℕ, zero, suc, ◌<◌}
use native.Mathlib.Omega.{arith}
use lib.Dec.{eqb, eqb→eq}
use lib.ListN.{length, get_or}
use borrow.Author.Tests.{eqb-true, eq-eqb}
use Rattle.bits.proofs.Computed.{below}
use Rattle.bits.proofs.Tests.{both}
use Rattle.header.specs.Header.{syndrome, syndromes, all_zero, is_code_word}

-- every entry is a byte, and so is what stands for one past the end
abbrev pub Bytes : List ℕ → Type 0
Bytes w = (i : ℕ) → get_or w i 0 < 256

pub all-zero-at : (l : List ℕ) → all_zero l ≡ true → (k : ℕ) → k < length l → get_or l k 0 ≡ 0
all-zero-at [] e k h = absurd (omega arith)
all-zero-at (x ∷ l) e zero h = eqb-true x 0 (both (eqb x 0) (all_zero l) e).0
all-zero-at (x ∷ l) e (suc k) h = all-zero-at l (both (eqb x 0) (all_zero l) e).1 k (omega arith)

at-all-zero : (l : List ℕ) → ((k : ℕ) → k < length l → get_or l k 0 ≡ 0) → all_zero l ≡ true
at-all-zero [] h = refl
at-all-zero (x ∷ l) h = ap₂ ◌&&◌ (eq-eqb x 0 (h 0 (omega arith))) (at-all-zero l (λ k b. h (suc k) (omega arith)))

pub map_at : (f : ℕ → ℕ) (l : List ℕ) (k : ℕ) → k < length l → get_or (map f l) k 0 ≡ f (get_or l k 0)
map_at f [] k h = absurd (omega arith)
map_at f (x ∷ l) zero h = refl
map_at f (x ∷ l) (suc k) h = map_at f l k (omega arith)

-- entry j of the syndromes is S of j + 1
pub syndromes-at : (w : List ℕ) (j : ℕ) → j < 8 → get_or (syndromes w) j 0 ≡ syndrome (suc j) w
unfolding syndromes
syndromes-at w j h =
    map_at (λ k. syndrome k w) (1 ∷ 2 ∷ 3 ∷ 4 ∷ 5 ∷ 6 ∷ 7 ∷ 8 ∷ []) j h
    ∙ ap (λ (k : ℕ). syndrome k w)
    (eqb→eq _ _ (below (λ k. eqb (get_or (1 ∷ 2 ∷ 3 ∷ 4 ∷ 5 ∷ 6 ∷ 7 ∷ 8 ∷ []) k 0) (suc k)) 8 tt j h))

pub syndromes-length : (w : List ℕ) → length (syndromes w) ≡ 8
unfolding syndromes
syndromes-length w = refl

pub code-word-zero : (w : List ℕ) → is_code_word w ≡ true → (j : ℕ) → j < 8 → syndrome (suc j) w ≡ 0
unfolding is_code_word
code-word-zero w e j h = sym (syndromes-at w j h) ∙ all-zero-at (syndromes w) e j (rw (syndromes-length w) h)

pub zero-code-word : (w : List ℕ) → ((j : ℕ) → j < 8 → syndrome (suc j) w ≡ 0) → is_code_word w ≡ true
unfolding is_code_word
zero-code-word w z =
    at-all-zero (syndromes w) (λ j h. (let b : j < 8 = rw (syndromes-length w) at h in syndromes-at w j b ∙ z j b))
