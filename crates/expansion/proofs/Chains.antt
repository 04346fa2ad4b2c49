-- Counting the bytes of a chain, turn by turn.
use mathlib.Core.Path.{◌≡◌, refl, sym, ap, ◌∙◌, subst}
use mathlib.Core.Bool.{Bool, true, false, cond}
use mathlib.Core.List.{List, [], ◌∷◌}
use Prim.Native.Nat.{ℕ, zero, suc, ◌+◌, ◌-◌, ◌%◌, ◌<◌, ◌≤◌}
use native.Mathlib.Decide.{dec_lt}
use native.Mathlib.Omega.{arith}
use lib.Dec.{ltb}
use lib.ListN.{length, get_or, take, drop, drop_of_length-le, length-drop, length-map}
use lib.Seq.{drop-cons, take_all, take-nil, length-take-le, get_or-take}
use borrow.Author.Tests.{lt-ltb, le-ltb}
use Rattle.expansion.specs.Expansion.{one_more, chain_length, expansion_length, septets_at}

-- n bytes after i others; 0 stays 0
abbrev pub past : ℕ → ℕ → ℕ
past i zero = zero
past i (suc n) = i + suc n

past-zero : (n : ℕ) → past 0 n ≡ n
past-zero zero = refl
past-zero (suc n) = omega arith

past_more : (i n : ℕ) → past i (one_more n) ≡ past (i + 1) n
past_more i zero = refl
past_more i (suc n) = omega arith

inside : (n j : ℕ) (p : List ℕ) → j < n → j < length p → j < length (take n p)
inside n j p h l = go (dec_lt (length p) n)
  where
    go : Dec (length p < n) → j < length (take n p)
    go (yes s) = subst (λ (u : List ℕ). j < length u) (sym (take_all n p (omega arith))) l
    go (no s) = omega (arith, length-take-le n p (omega arith))

pub outside : (n j : ℕ) (p : List ℕ) → n ≤ j → length (take n p) ≤ j
outside zero j p h = omega arith
outside (suc n) j [] h = omega arith
outside (suc n) zero (x ∷ p) h = absurd (omega arith)
outside (suc n) (suc j) (x ∷ p) h = let r = outside n j p (omega arith) in omega arith

shorter : (n : ℕ) (p : List ℕ) → length (take n p) ≤ length p
shorter zero p = omega arith
shorter (suc n) [] = omega arith
shorter (suc n) (x ∷ p) = let r = shorter n p in omega arith

ended : (w : List ℕ) (j m : ℕ) → length w ≤ j → chain_length (take m (drop j w)) ≡ 0
unfolding chain_length
ended w j m h = ap (λ (u : List ℕ). chain_length (take m u)) (drop_of_length-le w h) ∙ ap chain_length (take-nil m)

module _ (p : List ℕ) (at la : ℕ) where
  -- what is left to count after i bytes
  abbrev pub Left : ℕ → Type 0
  Left i = past i (chain_length (take (16 - i) (drop (at + i) (take (la + 1) p)))) ≡ expansion_length p at la

  pub left-start : Left 0
  unfolding expansion_length
  left-start = let e : at + 0 ≡ at = omega arith in rw e (past-zero (chain_length (take 16 (drop at (take (la + 1) p)))))

  pub left-past-la : (i : ℕ) → la < at + i → Left i → 0 ≡ expansion_length p at la
  left-past-la i h l = sym (ap (past i) (ended (take (la + 1) p) (at + i) (16 - i) (outside (la + 1) (at + i) p (omega arith)))) ∙ l

  pub left-past-end : (i : ℕ) → length p ≤ at + i → Left i → 0 ≡ expansion_length p at la
  left-past-end i h l =
      let s : length (take (la + 1) p) ≤ length p = shorter (la + 1) p in
      sym (ap (past i) (ended (take (la + 1) p) (at + i) (16 - i) (omega arith))) ∙ l

  pub left-full : (i : ℕ) → i ≡ 16 → Left i → 0 ≡ expansion_length p at la
  unfolding chain_length
  left-full i e l = let z : 16 - i ≡ 0 = omega arith in (rw z at l)

  module _ (i : ℕ) (few : i < 16) (before-la : at + i ≤ la) (before-end : at + i < length p) (l : Left i) where
    here : at + i < length (take (la + 1) p)
    here = inside (la + 1) (at + i) p (omega arith) before-end

    byte : get_or (take (la + 1) p) (at + i) 0 ≡ get_or p (at + i) 0
    byte = get_or-take (la + 1) p (at + i) 0 (omega arith)

    rest : take (16 - i) (drop (at + i) (take (la + 1) p)) ≡ get_or p (at + i) 0 ∷ take (15 - i) (drop (suc (at + i)) (take (la + 1) p))
    rest =
        let s : 16 - i ≡ suc (15 - i) = omega arith in
        rw s (ap (take (suc (15 - i))) (drop-cons (take (la + 1) p) (at + i) 0 here)
        ∙ ap (λ (b : ℕ). b ∷ take (15 - i) (drop (suc (at + i)) (take (la + 1) p))) byte)

    pub left-found : get_or p (at + i) 0 < 128 → i + 1 ≡ expansion_length p at la
    unfolding chain_length
    left-found h =
        let t : ltb (get_or p (at + i) 0) 128 ≡ true = lt-ltb _ _ h in
        let m : Left i = l in
        sym (ap (λ (u : List ℕ). past i (chain_length u)) rest ∙ rw t) ∙ l

    pub left-next : 128 ≤ get_or p (at + i) 0 → Left (i + 1)
    unfolding chain_length
    left-next h =
        let t : ltb (get_or p (at + i) 0) 128 ≡ false = le-ltb _ _ h in
        let a : at + (i + 1) ≡ suc (at + i) = omega arith in
        let b : 16 - (i + 1) ≡ 15 - i = omega arith in
        rw (a, b)
        (sym (past_more i (chain_length (take (15 - i) (drop (suc (at + i)) (take (la + 1) p)))))
        ∙ sym (ap (λ (u : List ℕ). past i (chain_length u)) rest ∙ rw t) ∙ l)

-- ---- a chain is as long as it is counted

chain-le : (l : List ℕ) → chain_length l ≤ length l
unfolding chain_length
chain-le [] = omega arith
chain-le (b ∷ l) = go (ltb b 128) (chain_length l) (chain-le l)
  where
    go : (t : Bool) (n : ℕ) → n ≤ length l → cond t 1 (one_more n) ≤ suc (length l)
    go true n h = omega arith
    go false zero h = omega arith
    go false (suc n) h = omega arith

take-le : (n : ℕ) (l : List ℕ) → length (take n l) ≤ n
take-le n l = outside n n l (omega arith)

drop-take-le : (a b : ℕ) (l : List ℕ) → length (drop a (take b l)) ≤ length (drop a l)
drop-take-le a b l =
    let x : length (drop a (take b l)) ≡ length (take b l) - a = length-drop a (take b l) in
    let y : length (drop a l) ≡ length l - a = length-drop a l in
    let z : length (take b l) ≤ length l = shorter b l in
    omega arith

module _ (p : List ℕ) (at la : ℕ) where
  pub expansion-few : expansion_length p at la ≤ 16
  unfolding expansion_length
  expansion-few =
      let a : chain_length (take 16 (drop at (take (la + 1) p))) ≤ length (take 16 (drop at (take (la + 1) p))) = chain-le (take 16 (drop at (take (la + 1) p))) in
      let b : length (take 16 (drop at (take (la + 1) p))) ≤ 16 = take-le 16 (drop at (take (la + 1) p)) in
      omega arith

  pub expansion-there : length (septets_at p at (expansion_length p at la)) ≡ expansion_length p at la
  unfolding expansion_length septets_at
  expansion-there =
      let w : List ℕ = drop at (take (la + 1) p) in
      let a : chain_length (take 16 (drop at (take (la + 1) p))) ≤ length (take 16 (drop at (take (la + 1) p))) = chain-le (take 16 (drop at (take (la + 1) p))) in
      let b : length (take 16 (drop at (take (la + 1) p))) ≤ length (drop at (take (la + 1) p)) = shorter 16 (drop at (take (la + 1) p)) in
      let d : length (drop at (take (la + 1) p)) ≤ length (drop at p) = drop-take-le at (la + 1) p in
      length-map (take (chain_length (take 16 (drop at (take (la + 1) p)))) (drop at p)) (λ b. b % 128)
      ∙ length-take-le (chain_length (take 16 (drop at (take (la + 1) p)))) (drop at p) (omega arith)
