-- The expansion fields of two PDUs that are equal up to the end of the first's expansion are the same.
use mathlib.Core.Path.{◌≡◌, refl, sym, ap, ◌∙◌}
use mathlib.Core.Bool.{Bool, true, false, cond, true≢false}
use mathlib.Core.List.{List, [], ◌∷◌, map}
use Prim.Native.Nat.{ℕ, zero, suc, ◌+◌, ◌%◌, ◌<◌, ◌≤◌}
use native.Mathlib.Omega.{arith}
use lib.Dec.{eqb, ltb}
use lib.ListN.{length, get_or, take, drop, length-take, length-drop}
use lib.Seq.{get_or-take, get_or-drop, ext_get_or}
use Rattle.layout.specs.declared.ControlWord.{ControlWord}
use Rattle.expansion.specs.Expansion.{nothing, one_more, chain_length, expansion_length, septets_at, interpretation, expansion_at}
use Rattle.expansion.specs.declared.Interpreted.{Interpreted}
use Rattle.pdu.specs.Reading.{after_locators, expansion_count, fields_of}

-- ---- a chain ends within its list, and is read from its own bytes

chain-within : (l : List ℕ) → chain_length l ≤ length l
unfolding chain_length
chain-within [] = omega arith
chain-within (b ∷ l) = go (ltb b 128) (chain_length l) (chain-within l)
  where
    go : (t : Bool) (k : ℕ) → k ≤ length l → cond t 1 (one_more k) ≤ suc (length l)
    go true k h = omega arith
    go false zero h = omega arith
    go false (suc k) h = omega (arith, h)

chain_same : (l m : List ℕ) (n : ℕ) → chain_length l ≡ suc n → suc n ≤ length m → ((i : ℕ) → i < suc n → get_or l i 0 ≡ get_or m i 0) → chain_length m ≡ suc n
unfolding chain_length
chain_same [] m n e h g = absurd (omega (arith, e))
chain_same (b ∷ l) [] n e h g = absurd (omega (arith, h))
chain_same (b ∷ l) (d ∷ m) n e h g = ap (λ (x : ℕ). cond (ltb x 128) 1 (one_more (chain_length m))) (sym (g 0 (omega arith))) ∙ go (ltb b 128) (chain_length l) refl e (λ k q u v. chain_same l m k q u v)
  where
    go : (t : Bool) (k : ℕ) → chain_length l ≡ k → cond t 1 (one_more k) ≡ suc n
        → ((k : ℕ) → chain_length l ≡ suc k → suc k ≤ length m → ((i : ℕ) → i < suc k → get_or l i 0 ≡ get_or m i 0) → chain_length m ≡ suc k)
        → cond t 1 (one_more (chain_length m)) ≡ suc n
    go true k q e i = e
    go false zero q e i = absurd (omega (arith, e))
    go false (suc k) q e i =
        let f : n ≡ suc k = omega (arith, e) in
        ap one_more (i k q (omega (arith, h, f)) (λ j u. g (suc j) (omega (arith, u, f)))) ∙ e

module _ (y z : List ℕ) (at la : ℕ) (long : length y ≡ length z) (k : ℕ) (e : expansion_length y at la ≡ suc k) (same : (i : ℕ) → at ≤ i → i < at + suc k → get_or y i 0 ≡ get_or z i 0) where
  abbrev part : List ℕ → List ℕ
  part x = take 16 (drop at (take (la + 1) x))

  part_length : (x : List ℕ) → length x ≡ length y → length (part x) ≡ length (part y)
  part_length x h =
      let a = length-take 16 (drop at (take (la + 1) x)) in
      let b = length-drop at (take (la + 1) x) in
      let c = length-take (la + 1) x in
      let a' = length-take 16 (drop at (take (la + 1) y)) in
      let b' = length-drop at (take (la + 1) y) in
      let c' = length-take (la + 1) y in
      omega (arith, a, b, c, a', b', c', h)

  room : suc k ≤ length (part y)
  unfolding expansion_length
  room = let w = chain-within (part y) in omega (arith, w, e)

  within : (suc k ≤ 16) × (at + suc k ≤ la + 1) × (at + suc k ≤ length y)
  within =
      let a = length-take 16 (drop at (take (la + 1) y)) in
      let b = length-drop at (take (la + 1) y) in
      let c = length-take (la + 1) y in
      (omega (arith, room, a), omega (arith, room, a, b, c), omega (arith, room, a, b, c))

  part-byte : (x : List ℕ) (i : ℕ) → i < suc k → get_or (part x) i 0 ≡ get_or x (at + i) 0
  part-byte x i h =
      get_or-take 16 (drop at (take (la + 1) x)) i 0 (omega (arith, h, within.0)) ∙ get_or-drop at (take (la + 1) x) i 0 ∙ get_or-take (la + 1) x (at + i) 0 (omega (arith, h, within.1))

  length-same : expansion_length z at la ≡ suc k
  unfolding expansion_length
  length-same = chain_same (part y) (part z) k e (omega (arith, room, part_length z (sym long))) (λ i h. part-byte y i h ∙ same (at + i) (omega arith) (omega (arith, h)) ∙ sym (part-byte z i h))

  bytes_same : take (suc k) (drop at y) ≡ take (suc k) (drop at z)
  bytes_same =
      ext_get_or 0 (take (suc k) (drop at y)) (take (suc k) (drop at z))
      (let a = length-take (suc k) (drop at y) in
      let b = length-drop at y in
      let c = length-take (suc k) (drop at z) in
      let d = length-drop at z in
      omega (arith, a, b, c, d, long))
      (λ i h. (let a = length-take (suc k) (drop at y) in
      let l : i < suc k = omega (arith, h, a) in
      get_or-take (suc k) (drop at y) i 0 l ∙ get_or-drop at y i 0 ∙ same (at + i) (omega arith) (omega (arith, l)) ∙ sym (get_or-take (suc k) (drop at z) i 0 l ∙ get_or-drop at z i 0)))

  expansion-same : expansion_at y at la ≡ expansion_at z at la
  unfolding expansion_at septets_at
  expansion-same =
      let said : ℕ → List ℕ → Interpreted = λ n x. cond (eqb n 0) (nothing false) (interpretation (map (λ b. b % 128) x)) in
      ap (λ (n : ℕ). said n (take n (drop at y))) e ∙ ap (said (suc k)) bytes_same ∙ sym (ap (λ (n : ℕ). said n (take n (drop at z))) length-same)

-- ---- what is sent of the program

module _ (width : ℕ) (c : ControlWord) (y z : List ℕ) (long : length y ≡ length z) where
  abbrev at : ℕ
  at = after_locators width c

  some_right : (n : ℕ) → expansion_length y at c.la ≡ n → (expansion_at y at c.la).right ≡ true → ¬ (n ≡ 0)
  unfolding expansion_at
  some_right n e right z = absurd (true≢false (sym right ∙ ap (λ (m : ℕ). (cond (eqb m 0) (nothing false) (interpretation (septets_at y at m))).right) (e ∙ z)))

  pub fields-same : (fields_of width c y).right ≡ true → ((i : ℕ) → at ≤ i → i < at + expansion_count width c y → get_or y i 0 ≡ get_or z i 0) → fields_of width c y ≡ fields_of width c z
  fields-same right same = go c.flag right same
    where
      flagged : (n : ℕ) → expansion_length y at c.la ≡ n → (expansion_at y at c.la).right ≡ true → ((i : ℕ) → at ≤ i → i < at + n → get_or y i 0 ≡ get_or z i 0) → expansion_at y at c.la ≡ expansion_at z at c.la
      flagged zero e right same = absurd (some_right 0 e right refl)
      flagged (suc k) e right same = expansion-same y z at c.la long k e same

      go : (b : Bool) → (cond b (expansion_at y at c.la) (nothing true)).right ≡ true → ((i : ℕ) → at ≤ i → i < at + cond b (expansion_length y at c.la) 0 → get_or y i 0 ≡ get_or z i 0)
          → cond b (expansion_at y at c.la) (nothing true) ≡ cond b (expansion_at z at c.la) (nothing true)
      go true right same = flagged (expansion_length y at c.la) refl right same
      go false right same = refl
