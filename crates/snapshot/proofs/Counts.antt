-- Words of kind 6: the counts are read back, and they are of no other kind.
use mathlib.Core.Path.{◌≡◌, refl, sym, ap, ap₂, ◌∙◌}
use mathlib.Core.Bool.{Bool, true, false, cond}
use mathlib.Core.List.{List, [], ◌∷◌}
use Prim.Native.Nat.{ℕ, ◌+◌, ◌*◌, ◌/◌, ◌%◌, ◌<◌, ◌≤◌}
use native.Mathlib.Omega.{arith}
use lib.Dec.{eqb}
use lib.ListN.{length, get_or}
use borrow.Author.Tests.{eqb-true, eq-eqb, ne_eqb}
use Rattle.receiver.specs.declared.Receiver.{Receiver}
use Rattle.snapshot.specs.Snapshot.{state_word, kind_in, count_words, has, value_of, bytes_in, from_kind}
use Rattle.snapshot.proofs.Bytes.{has-past, value-past, bytes_past}
use Rattle.snapshot.proofs.Parts.{word-kind}

-- the five, once a packet was delivered
abbrev pub five : Receiver → List ℕ
five r = state_word 6 (r.delivered / 0x10000) ∷ state_word 6 (r.delivered % 0x10000) ∷ state_word 6 (r.missing / 0x10000) ∷ state_word 6 (r.missing % 0x10000) ∷ state_word 6 r.last ∷ []

pub counts-none : (r : Receiver) → r.delivered ≡ 0 → count_words r ≡ []
unfolding count_words
counts-none r e = rw (eq-eqb r.delivered 0 e)

pub counts_some : (r : Receiver) → (r.delivered ≡ 0 → ⊥) → count_words r ≡ five r
unfolding count_words
counts_some r e = rw (ne_eqb r.delivered 0 e)

pub counts-length : (r : Receiver) → length (count_words r) ≡ cond (eqb r.delivered 0) 0 5
unfolding count_words
counts-length r = go (eqb r.delivered 0)
  where
    go : (t : Bool) → length (cond t [] (five r)) ≡ cond t 0 5
    go true = refl
    go false = refl

pub counts-few : (r : Receiver) → length (count_words r) ≤ 5
counts-few r = go (eqb r.delivered 0) (counts-length r)
  where
    go : (t : Bool) → length (count_words r) ≡ cond t 0 5 → length (count_words r) ≤ 5
    go true e = omega arith
    go false e = omega arith

-- its counts within their 32 bits, and its last number within eight
pub record Counted (r : Receiver) : Type 0 where
  pub delivered : r.delivered < 4294967296
  pub missing : r.missing < 4294967296
  pub last : r.last < 256

module _ (r : Receiver) (c : Counted r) where
  -- what passes over each word of kind 6 passes over all of them
  past-counts : {A : Type 0} (f : List ℕ → A) → ((w : ℕ) (ws : List ℕ) → kind_in w ≡ 6 → f (w ∷ ws) ≡ f ws) → f (count_words r) ≡ f []
  unfolding count_words
  past-counts f p = go (eqb r.delivered 0)
    where
      go : (t : Bool) → f (cond t [] (five r)) ≡ f []
      go true = refl
      go false =
          p (state_word 6 (r.delivered / 0x10000)) (state_word 6 (r.delivered % 0x10000) ∷ state_word 6 (r.missing / 0x10000) ∷ state_word 6 (r.missing % 0x10000) ∷ state_word 6 r.last ∷ []) (word-kind 6 (r.delivered / 0x10000) (omega (arith, c.delivered)))
          ∙ p (state_word 6 (r.delivered % 0x10000)) (state_word 6 (r.missing / 0x10000) ∷ state_word 6 (r.missing % 0x10000) ∷ state_word 6 r.last ∷ []) (word-kind 6 (r.delivered % 0x10000) (omega arith))
          ∙ p (state_word 6 (r.missing / 0x10000)) (state_word 6 (r.missing % 0x10000) ∷ state_word 6 r.last ∷ []) (word-kind 6 (r.missing / 0x10000) (omega (arith, c.missing)))
          ∙ p (state_word 6 (r.missing % 0x10000)) (state_word 6 r.last ∷ []) (word-kind 6 (r.missing % 0x10000) (omega arith))
          ∙ p (state_word 6 r.last) [] (word-kind 6 r.last (omega (arith, c.last)))

  pub has-counts : (kind : ℕ) → (kind ≡ 6 → ⊥) → has kind (count_words r) ≡ false
  has-counts kind other = past-counts (has kind) (has-past kind 6 other) ∙ (unfold has in refl)

  pub value-counts : (kind : ℕ) → (kind ≡ 6 → ⊥) → value_of kind (count_words r) ≡ 0
  value-counts kind other = past-counts (value_of kind) (value-past kind 6 other) ∙ (unfold value_of in refl)

  pub bytes-counts : bytes_in (count_words r) ≡ []
  bytes-counts = past-counts bytes_in (λ w ws e. bytes_past w ws (λ q. omega arith)) ∙ (unfold bytes_in in refl)

  -- they begin with the first of kind 6
  pub from-counts : from_kind 6 (count_words r) ≡ count_words r
  unfolding count_words from_kind
  from-counts = go (eqb r.delivered 0)
    where
      go : (t : Bool) → from_kind 6 (cond t [] (five r)) ≡ cond t [] (five r)
      go true = refl
      go false =
          ap (λ (b : Bool). cond b (five r) (from_kind 6 (state_word 6 (r.delivered % 0x10000) ∷ state_word 6 (r.missing / 0x10000) ∷ state_word 6 (r.missing % 0x10000) ∷ state_word 6 r.last ∷ [])))
          (eq-eqb (kind_in (state_word 6 (r.delivered / 0x10000))) 6 (word-kind 6 (r.delivered / 0x10000) (omega (arith, c.delivered))))

-- ---- the counts are read back

low : (v : ℕ) → v < 0x10000 → state_word 6 v % 0x10000 ≡ v
low v h = omega arith

both_halves : (n : ℕ) → n < 4294967296 → state_word 6 (n / 0x10000) % 0x10000 * 0x10000 + state_word 6 (n % 0x10000) % 0x10000 ≡ n
both_halves n h =
    let a : state_word 6 (n / 0x10000) % 0x10000 ≡ n / 0x10000 = low (n / 0x10000) (omega arith) in
    let b : state_word 6 (n % 0x10000) % 0x10000 ≡ n % 0x10000 = low (n % 0x10000) (omega arith) in
    ap₂ (λ (x y : ℕ). x * 0x10000 + y) a b ∙ omega arith

module _ (r : Receiver) (c : Counted r) where
  abbrev count : ℕ → ℕ
  count i = get_or (count_words r) i 0 % 0x10000

  pub delivered-back : count 0 * 0x10000 + count 1 ≡ r.delivered
  unfolding count_words
  delivered-back = go (eqb r.delivered 0) refl
    where
      go : (t : Bool) → eqb r.delivered 0 ≡ t → get_or (cond t [] (five r)) 0 0 % 0x10000 * 0x10000 + get_or (cond t [] (five r)) 1 0 % 0x10000 ≡ r.delivered
      go true e = sym (eqb-true r.delivered 0 e)
      go false e = both_halves r.delivered c.delivered

  pub missing-back : (r.delivered ≡ 0 → r.missing ≡ 0) → count 2 * 0x10000 + count 3 ≡ r.missing
  unfolding count_words
  missing-back z = go (eqb r.delivered 0) refl
    where
      go : (t : Bool) → eqb r.delivered 0 ≡ t → get_or (cond t [] (five r)) 2 0 % 0x10000 * 0x10000 + get_or (cond t [] (five r)) 3 0 % 0x10000 ≡ r.missing
      go true e = sym (z (eqb-true r.delivered 0 e))
      go false e = both_halves r.missing c.missing

  pub last-back : (r.delivered ≡ 0 → r.last ≡ 0) → count 4 % 0x100 ≡ r.last
  unfolding count_words
  last-back z = go (eqb r.delivered 0) refl
    where
      go : (t : Bool) → eqb r.delivered 0 ≡ t → get_or (cond t [] (five r)) 4 0 % 0x10000 % 0x100 ≡ r.last
      go true e = sym (z (eqb-true r.delivered 0 e))
      go false e =
          let l : r.last % 0x100 ≡ r.last = omega (arith, c.last) in
          ap (λ (n : ℕ). n % 0x100) (low r.last (omega (arith, c.last))) ∙ l
