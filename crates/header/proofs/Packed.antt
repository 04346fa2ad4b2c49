-- The eight bytes of a packed register; and a header has the syndromes of its remainder.
use mathlib.Core.Path.{◌≡◌, refl, sym, ap, ap₂, ◌∙◌, subst}
use mathlib.Core.Bool.{true}
use mathlib.Core.List.{List, [], ◌∷◌, ◌++◌}
use Prim.Native.Nat.{ℕ, suc, ◌+◌, ◌*◌, ◌<◌}
use native.Mathlib.Omega.{arith}
use lib.Bits.{bit_xor}
use lib.Dec.{lit<}
use lib.ListN.{length, get_or, take, drop, take-append-drop}
use lib.Seq.{slice, take_all, get_or-drop, length-take-le}
use Rattle.field.specs.Field.{times_a, shift}
use Rattle.header.specs.Header.{remainder, parity_of, syndrome, syndromes, all_zero}
use Rattle.header.specs.Horner.{value, values}
use Rattle.header.specs.Packed.{pack, unpacked}
use Rattle.header.proofs.CodeWords.{Bytes, all-zero-at}
use Rattle.header.proofs.Division.{add_all, eight, remainder-value, syndrome-value, value-append, value-add_all}

-- ---- the bytes of a packed register

module _ (r₀ r₁ r₂ r₃ r₄ r₅ r₆ r₇ : ℕ) (h : Bytes (r₀ ∷ r₁ ∷ r₂ ∷ r₃ ∷ r₄ ∷ r₅ ∷ r₆ ∷ r₇ ∷ [])) where
  unpack-parts : unpacked (pack (r₀ ∷ r₁ ∷ r₂ ∷ r₃ ∷ r₄ ∷ r₅ ∷ r₆ ∷ r₇ ∷ [])) ≡ r₀ ∷ r₁ ∷ r₂ ∷ r₃ ∷ r₄ ∷ r₅ ∷ r₆ ∷ r₇ ∷ []
  unfolding unpacked pack
  unpack-parts =
      ap₂ ◌∷◌ (omega (arith, h 0, h 1, h 2, h 3, h 4, h 5, h 6, h 7))
      (ap₂ ◌∷◌ (omega (arith, h 0, h 1, h 2, h 3, h 4, h 5, h 6, h 7))
      (ap₂ ◌∷◌ (omega (arith, h 0, h 1, h 2, h 3, h 4, h 5, h 6, h 7))
      (ap₂ ◌∷◌ (omega (arith, h 0, h 1, h 2, h 3, h 4, h 5, h 6, h 7))
      (ap₂ ◌∷◌ (omega (arith, h 0, h 1, h 2, h 3, h 4, h 5, h 6, h 7))
      (ap₂ ◌∷◌ (omega (arith, h 0, h 1, h 2, h 3, h 4, h 5, h 6, h 7))
      (ap₂ ◌∷◌ (omega (arith, h 0, h 1, h 2, h 3, h 4, h 5, h 6, h 7))
      (ap₂ ◌∷◌ (omega (arith, h 0, h 1, h 2, h 3, h 4, h 5, h 6, h 7)) refl)))))))

pub unpacked-pack : (r : List ℕ) → length r ≡ 8 → Bytes r → unpacked (pack r) ≡ r
unpacked-pack r l h =
    ap (λ (x : List ℕ). unpacked (pack x)) (eight r l)
    ∙ unpack-parts (get_or r 0 0) (get_or r 1 0) (get_or r 2 0) (get_or r 3 0) (get_or r 4 0) (get_or r 5 0) (get_or r 6 0) (get_or r 7 0) (subst Bytes (eight r l) h)
    ∙ sym (eight r l)

-- ---- the syndromes of a header are the values of its remainder

module _ (w : List ℕ) (l : length w ≡ 96) (h : Bytes w) where
  message : List ℕ
  message = slice 8 96 w

  first-eight : List ℕ
  first-eight = take 8 w

  message-drop : message ≡ drop 8 w
  unfolding message
  message-drop = ap (drop 8) (take_all 96 w (omega arith))

  message-bytes : Bytes message
  message-bytes i = rw (message-drop, get_or-drop 8 w i 0) (h (8 + i))

  first-length : length first-eight ≡ 8
  unfolding first-eight
  first-length = length-take-le 8 w (omega arith)

  split : w ≡ first-eight ++ message
  unfolding first-eight
  split = sym (take-append-drop 8 w) ∙ ap (λ (x : List ℕ). take 8 w ++ x) (sym message-drop)

  at-point : (j : ℕ) → j < 8 → syndrome (suc j) w ≡ value (suc j) (add_all (take 8 w) (parity_of w))
  unfolding message first-eight parity_of
  at-point j b =
      syndrome-value (suc j) w l h ∙ ap (value (suc j)) split ∙ value-append (suc j) first-eight message
      ∙ ap (bit_xor (value (suc j) first-eight))
      (ap (λ (n : ℕ). shift (n * suc j) (value (suc j) message)) first-length
      ∙ sym (remainder-value j b message message-bytes))
      ∙ sym (value-add_all (suc j) first-eight (remainder message))

  -- the first eight bytes of a header plus its parity: what is left of it modulo the generator
  pub syndromes-rest : syndromes w ≡ values (add_all (take 8 w) (parity_of w))
  unfolding syndromes values
  syndromes-rest =
      ap₂ ◌∷◌ (at-point 0 (lit< tt)) (ap₂ ◌∷◌ (at-point 1 (lit< tt)) (ap₂ ◌∷◌ (at-point 2 (lit< tt)) (ap₂ ◌∷◌ (at-point 3 (lit< tt))
      (ap₂ ◌∷◌ (at-point 4 (lit< tt)) (ap₂ ◌∷◌ (at-point 5 (lit< tt)) (ap₂ ◌∷◌ (at-point 6 (lit< tt)) (ap₂ ◌∷◌ (at-point 7 (lit< tt)) refl)))))))

-- eight zeros have the values zero
zeros : List ℕ
zeros = 0 ∷ 0 ∷ 0 ∷ 0 ∷ 0 ∷ 0 ∷ 0 ∷ 0 ∷ []

values-zeros : values zeros ≡ zeros
unfolding zeros values value shift times_a
values-zeros = refl

pub values-zero : (e : List ℕ) → length e ≡ 8 → all_zero e ≡ true → 0 ∷ 0 ∷ 0 ∷ 0 ∷ 0 ∷ 0 ∷ 0 ∷ 0 ∷ [] ≡ values e
unfolding zeros
values-zero e l t =
    let z : (k : ℕ) → k < 8 → get_or e k 0 ≡ 0 = λ k h. all-zero-at e t k (omega arith) in
    let q : e ≡ zeros = eight e l ∙ simp (z 0 (lit< tt), z 1 (lit< tt), z 2 (lit< tt), z 3 (lit< tt), z 4 (lit< tt), z 5 (lit< tt), z 6 (lit< tt), z 7 (lit< tt)) in
    sym (ap values q ∙ values-zeros)
