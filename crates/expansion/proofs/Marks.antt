-- Bit 7 of the bytes that septets are written to.
use mathlib.Core.Path.{◌≡◌, refl, sym, ap, ◌∙◌}
use mathlib.Core.Bool.{true, false}
use mathlib.Core.List.{List, [], ◌∷◌, ◌++◌, map, append_assoc}
use mathlib.Core.Option.{none, some}
use Prim.Native.Nat.{ℕ, suc, ◌+◌, ◌-◌, ◌%◌, ◌<◌, ◌≤◌}
use native.Mathlib.Omega.{arith}
use lib.Dec.{ltb}
use lib.ListN.{length, get_or, take, set, length-map}
use lib.Seq.{length-take-le, take-set-lt, get_or-take}
use borrow.Author.Tests.{lt-ltb, le-ltb}
use Rattle.expansion.specs.Expansion.{Field, class, program, ptype, services, septets_of, septets_of_all, chained, chain_length}
use Rattle.expansion.specs.Writing.{marked}

-- every one is a septet
abbrev pub Septets : List ℕ → Type 0
Septets [] = Unit {0}
Septets (b ∷ l) = (b < 128) × Septets l

septets-append : (a b : List ℕ) → Septets a → Septets b → Septets (a ++ b)
septets-append [] b h k = k
septets-append (x ∷ a) b h k = (h.0, septets-append a b h.1 k)

field-septets : (f : Field) → Septets (septets_of f)
field-septets (class c) = (omega arith, tt)
field-septets (program p none) = (omega arith, tt)
field-septets (program p (some d)) = (omega arith, (omega arith, (omega arith, tt)))
field-septets (ptype a t) = (omega arith, (omega arith, tt))
field-septets (services s m) = (omega arith, (omega arith, (omega arith, (omega arith, tt))))

pub all-septets : (fs : List Field) → Septets (septets_of_all fs)
all-septets [] = tt
all-septets (f ∷ fs) = septets-append (septets_of f) (septets_of_all fs) (field-septets f) (all-septets fs)

pub joined : (a b : List Field) → septets_of_all (a ++ b) ≡ septets_of_all a ++ septets_of_all b
joined [] b = refl
joined (f ∷ a) b = ap (λ (l : List ℕ). septets_of f ++ l) (joined a b) ∙ sym (append_assoc (septets_of f) (septets_of_all a) (septets_of_all b))

pub length-chained : (l : List ℕ) → length (chained l) ≡ length l
unfolding chained
length-chained [] = refl
length-chained (b ∷ []) = refl
length-chained (b ∷ c ∷ l) = ap suc (length-chained (c ∷ l))

-- ---- writing: bit 7 set in each, then cleared in the last

last-cleared : (b : ℕ) (l : List ℕ) → Septets (b ∷ l) → set (marked (b ∷ l)) (length l) (get_or (marked (b ∷ l)) (length l) 0 % 128) ≡ chained (b ∷ l)
unfolding chained
last-cleared b [] h = let q = h.0 in let e : (128 + b) % 128 ≡ b = omega arith in rw e
last-cleared b (c ∷ l) h = ap (λ (r : List ℕ). (128 + b) ∷ r) (last-cleared c l h.1)

pub cleared : (s w : List ℕ) (n : ℕ) → Septets s → take n w ≡ marked s → n ≤ length w → ¬ (n ≡ 0) → take n (set w (n - 1) (get_or w (n - 1) 0 % 128)) ≡ chained s
cleared s w n h e k z = go s h e (sym (length-take-le n w k) ∙ ap length e ∙ length-map s (λ b. 128 + b))
  where
    go : (s : List ℕ) → Septets s → take n w ≡ marked s → n ≡ length s → take n (set w (n - 1) (get_or w (n - 1) 0 % 128)) ≡ chained s
    go [] h e q = absurd (z q)
    go (b ∷ l) h e q =
        let i : n - 1 ≡ length l = omega arith in
        take-set-lt n w (n - 1) (get_or w (n - 1) 0 % 128) (omega arith)
        ∙ ap (λ (x : ℕ). set (take n w) (n - 1) (x % 128)) (sym (get_or-take n w (n - 1) 0 (omega arith)))
        ∙ rw (e, i) (last-cleared b l h)

-- ---- reading what is written

pub chain-found : (l r : List ℕ) → 0 < length l → Septets l → chain_length (chained l ++ r) ≡ length l
unfolding chained chain_length
chain-found [] r z h = absurd (omega arith)
chain-found (b ∷ []) r z h = let t : ltb b 128 ≡ true = lt-ltb b 128 h.0 in rw t
chain-found (b ∷ c ∷ l) r z h =
    let t : ltb (128 + b) 128 ≡ false = le-ltb (128 + b) 128 (omega arith) in
    rw (t, chain-found (c ∷ l) r (omega arith) h.1)

pub septets-back : (l : List ℕ) → Septets l → map (λ b. b % 128) (chained l) ≡ l
unfolding chained
septets-back [] h = refl
septets-back (b ∷ []) h = let q = h.0 in let e : b % 128 ≡ b = omega arith in rw e
septets-back (b ∷ c ∷ l) h =
    let q = h.0 in
    let e : (128 + b) % 128 ≡ b = omega arith in
    rw (e, septets-back (c ∷ l) h.1)
