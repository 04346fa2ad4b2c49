-- Words of kind 5: their bytes are read back, and they are of no other kind.
use mathlib.Core.Path.{◌≡◌, refl, sym, ap, ◌∙◌}
use mathlib.Core.Bool.{Bool, false, ◌||◌}
use mathlib.Core.List.{List, [], ◌∷◌, ◌++◌}
use Prim.Native.Nat.{ℕ, ◌+◌, ◌/◌, ◌<◌, ◌≤◌}
use native.Mathlib.Omega.{arith}
use lib.Dec.{eqb}
use lib.ListN.{length, take, length-map}
use borrow.Author.Tests.{eq-eqb, ne_eqb}
use Rattle.packet_log.specs.Log.{data_word, data_words, data_bytes}
use Rattle.packet_log.proofs.Data.{bytes_back as word_back}
use Rattle.packet_log.proofs.Packets.{Bytes}
use Rattle.packet_log.proofs.Words.{data-length}
use Rattle.snapshot.specs.Snapshot.{kind_in, byte_words, has, value_of, bytes_in, from_kind}

-- a word of n bytes
abbrev pub byte_word : ℕ → ℕ → ℕ → ℕ → ℕ
byte_word n a b c = data_word n a b c + 0x10000000

module _ (n a b c : ℕ) (hn : n ≤ 3) (ha : a < 256) (hb : b < 256) (hc : c < 256) where
  pub byte-kind : kind_in (byte_word n a b c) ≡ 5
  byte-kind = omega arith

  pub byte-back : data_bytes (byte_word n a b c) ≡ take n (a ∷ b ∷ c ∷ [])
  byte-back = word_back (byte_word n a b c) 20 n a b c (omega arith) hn ha hb hc

-- what passes over each word of kind 5 passes over all of them
pub past_bytes : {A : Type 0} (f : List ℕ → A) → ((w : ℕ) (ws : List ℕ) → kind_in w ≡ 5 → f (w ∷ ws) ≡ f ws)
    → (bytes ws : List ℕ) → Bytes bytes → f (byte_words bytes ++ ws) ≡ f ws
unfolding byte_words data_words
past_bytes f p [] ws h = refl
past_bytes f p (a ∷ []) ws h = p (byte_word 1 a 0 0) ws (byte-kind 1 a 0 0 (omega arith) h.0 (omega arith) (omega arith))
past_bytes f p (a ∷ b ∷ []) ws h = p (byte_word 2 a b 0) ws (byte-kind 2 a b 0 (omega arith) h.0 h.1.0 (omega arith))
past_bytes f p (a ∷ b ∷ c ∷ rest) ws h =
    p (byte_word 3 a b c) (byte_words rest ++ ws) (byte-kind 3 a b c (omega arith) h.0 h.1.0 h.1.1.0) ∙ past_bytes f p rest ws h.1.1.1

-- a word of kind n is of no other
module _ (kind n : ℕ) (other : kind ≡ n → ⊥) where
  not-kind : (w : ℕ) → kind_in w ≡ n → eqb (kind_in w) kind ≡ false
  not-kind w e = ne_eqb (kind_in w) kind (λ q. other (sym q ∙ e))

  pub has-past : (w : ℕ) (ws : List ℕ) → kind_in w ≡ n → has kind (w ∷ ws) ≡ has kind ws
  unfolding has
  has-past w ws e = ap (λ (t : Bool). t || has kind ws) (not-kind w e)

  pub value-past : (w : ℕ) (ws : List ℕ) → kind_in w ≡ n → value_of kind (w ∷ ws) ≡ value_of kind ws
  unfolding value_of
  value-past w ws e = rw (not-kind w e)

module _ (kind : ℕ) (other : kind ≡ 5 → ⊥) where
  pub has-bytes : (bytes ws : List ℕ) → Bytes bytes → has kind (byte_words bytes ++ ws) ≡ has kind ws
  has-bytes = past_bytes (has kind) (has-past kind 5 other)

  pub value-bytes : (bytes ws : List ℕ) → Bytes bytes → value_of kind (byte_words bytes ++ ws) ≡ value_of kind ws
  value-bytes = past_bytes (value_of kind) (value-past kind 5 other)

pub bytes-more : (w : ℕ) (ws : List ℕ) → kind_in w ≡ 5 → bytes_in (w ∷ ws) ≡ data_bytes w ++ bytes_in ws
unfolding bytes_in
bytes-more w ws e = rw (eq-eqb (kind_in w) 5 e)

pub bytes_past : (w : ℕ) (ws : List ℕ) → (kind_in w ≡ 5 → ⊥) → bytes_in (w ∷ ws) ≡ bytes_in ws
unfolding bytes_in
bytes_past w ws e = rw (ne_eqb (kind_in w) 5 e)

pub from_past : (kind w : ℕ) (ws : List ℕ) → (kind_in w ≡ kind → ⊥) → from_kind kind (w ∷ ws) ≡ from_kind kind ws
unfolding from_kind
from_past kind w ws e = rw (ne_eqb (kind_in w) kind e)

-- no word of them is of kind 6
pub counts-bytes : (bytes ws : List ℕ) → Bytes bytes → from_kind 6 (byte_words bytes ++ ws) ≡ from_kind 6 ws
counts-bytes = past_bytes (from_kind 6) (λ w ws e. from_past 6 w ws (λ q. omega arith))

module _ (n a b c : ℕ) (ws : List ℕ) (hn : n ≤ 3) (ha : a < 256) (hb : b < 256) (hc : c < 256) where
  one-back : bytes_in (byte_word n a b c ∷ ws) ≡ take n (a ∷ b ∷ c ∷ []) ++ bytes_in ws
  one-back = bytes-more (byte_word n a b c) ws (byte-kind n a b c hn ha hb hc) ∙ ap (λ (r : List ℕ). r ++ bytes_in ws) (byte-back n a b c hn ha hb hc)

-- the bytes are read back
pub bytes_back : (bytes ws : List ℕ) → Bytes bytes → bytes_in (byte_words bytes ++ ws) ≡ bytes ++ bytes_in ws
unfolding byte_words data_words
bytes_back [] ws h = refl
bytes_back (a ∷ []) ws h = one-back 1 a 0 0 ws (omega arith) h.0 (omega arith) (omega arith)
bytes_back (a ∷ b ∷ []) ws h = one-back 2 a b 0 ws (omega arith) h.0 h.1.0 (omega arith)
bytes_back (a ∷ b ∷ c ∷ rest) ws h =
    one-back 3 a b c (byte_words rest ++ ws) (omega arith) h.0 h.1.0 h.1.1.0
    ∙ ap (λ (r : List ℕ). a ∷ b ∷ c ∷ r) (bytes_back rest ws h.1.1.1)

-- how many words bytes have
pub bytes-length : (bytes : List ℕ) → length (byte_words bytes) ≡ (length bytes + 2) / 3
unfolding byte_words
bytes-length bytes = length-map (data_words bytes) (λ w. w + 0x10000000) ∙ data-length bytes
