-- Words written one after the other: what is left of them comes behind those written.
use mathlib.Core.Path.{◌≡◌, refl, sym, ap, ap₂, ◌∙◌}
use mathlib.Core.Bool.{Bool}
use mathlib.Core.List.{List, [], ◌∷◌, ◌++◌, map}
use Prim.Native.Nat.{ℕ, ◌+◌, ◌<◌, ◌≤◌}
use native.Mathlib.Omega.{arith}
use lib.ListN.{length, drop, set, length-append, length-set, drop_of_length-le}
use Rattle.buffer.specs.Buffer.{put_at}
use Rattle.buffer.proofs.Laws.{put-nil, put-length, put_then, put_one, put-cons}
use Rattle.packet_log.specs.Log.{data_words, data_word_at}
use Rattle.packet_log.proofs.Filling.{next_word}
use Rattle.snapshot.specs.Snapshot.{optional, byte_words}

-- of a list that is put first into a buffer, a rest is still to be written from a place on
pub record Left (l₀ whole l rest : List ℕ) (at : ℕ) : Type 0 where
  pub fills : put_at l at rest ≡ put_at l₀ 0 whole
  pub counts : at + length rest ≡ length whole
  pub same : length l ≡ length l₀

module _ (l₀ whole : List ℕ) (fit : length whole ≤ length l₀) where
  pub all_left : Left l₀ whole l₀ whole 0
  all_left = record { fills = refl; counts = omega arith; same = refl }

  -- a word that is there or absent, and what follows it
  module _ (l rest : List ℕ) (at u w : ℕ) (there : Bool) (s : Left l₀ whole l (optional there w ++ rest) at) (e : u ≡ w) where
    length-same : length (optional there u) ≡ length (optional there w)
    length-same = ap (λ (x : ℕ). length (optional there x)) e

    pub has_room : at + length (optional there u) ≤ length l
    has_room = omega (arith, s.counts, s.same, length-append (optional there w) rest, length-same)

    pub one_less : (l₁ : List ℕ) (a : ℕ) → a ≡ at + length (optional there u) → l₁ ≡ put_at l at (optional there u) → Left l₀ whole l₁ rest a
    one_less l₁ a ea el = record {
      fills = put_then l l₁ (put_at l₁ a rest) (optional there w) rest at a (omega (arith, has_room, length-same)) (ea ∙ ap (λ (n : ℕ). at + n) length-same) (el ∙ ap (λ (x : ℕ). put_at l at (optional there x)) e) refl ∙ s.fills;
      counts = omega (arith, s.counts, length-append (optional there w) rest, length-same);
      same = ap length el ∙ put-length l at (optional there u) has_room ∙ s.same;
    }

-- the last of them
module _ (l₀ whole : List ℕ) (fit : length whole ≤ length l₀) (l : List ℕ) (at u w : ℕ) (there : Bool) (s : Left l₀ whole l (optional there w) at) (e : u ≡ w) where
  pub last-room : at + length (optional there u) ≤ length l
  last-room = omega (arith, s.counts, s.same, ap (λ (x : ℕ). length (optional there x)) e)

  pub none-less : (l₁ : List ℕ) (a : ℕ) → a ≡ at + length (optional there u) → l₁ ≡ put_at l at (optional there u) → (a ≡ length whole) × (l₁ ≡ put_at l₀ 0 whole)
  none-less l₁ a ea el =
      (omega (arith, s.counts, ap (λ (x : ℕ). length (optional there x)) e), el ∙ ap (λ (x : ℕ). put_at l at (optional there x)) e ∙ s.fills)

-- ---- held bytes

-- the next word of the bytes that are left
pub next-bytes : (s : List ℕ) (i : ℕ) → i < length s → byte_words (drop i s) ≡ (data_word_at s i + 0x10000000) ∷ byte_words (drop (i + 3) s)
unfolding byte_words
next-bytes s i h = ap (λ (l : List ℕ). map (λ w. w + 0x10000000) l) (next_word s i h)

pub turn : (l s goal : List ℕ) (at i j v : ℕ) → i < length s → at + j < length l → v ≡ data_word_at s i + 0x10000000
    → put_at l (at + j) (byte_words (drop i s)) ≡ goal
    → put_at (set l (at + j) v) (at + (j + 1)) (byte_words (drop (i + 3) s)) ≡ goal
turn l s goal at i j v more room e g =
    let k : at + (j + 1) ≡ at + j + 1 = omega arith in
    ap₂ (λ (x n : ℕ). put_at (set l (at + j) x) n (byte_words (drop (i + 3) s))) e k
    ∙ put-cons l (byte_words (drop (i + 3) s)) (at + j) (data_word_at s i + 0x10000000) room ∙ ap (put_at l (at + j)) (sym (next-bytes s i more)) ∙ g

pub none_left : (l s goal : List ℕ) (at i : ℕ) → length s ≤ i → put_at l at (byte_words (drop i s)) ≡ goal → l ≡ goal
unfolding byte_words data_words
none_left l s goal at i h g =
    let t : put_at l at [] ≡ goal = rw (drop_of_length-le s {i = i} h) at g in
    sym (put-nil l at) ∙ t

-- ---- counts

-- a word, and those after it from the next place on
next-put : (l w : List ℕ) (k n v : ℕ) → n ≡ k + 1 → k < length l → put_at (set l k v) n w ≡ put_at l k (v ∷ w)
next-put l w k n v e h = ap (λ (m : ℕ). put_at (set l k v) m w) e ∙ put-cons l w k v h

pub five-put : (l : List ℕ) (at a b c d e : ℕ) → at + 5 ≤ length l
    → set (set (set (set (set l at a) (at + 1) b) (at + 2) c) (at + 3) d) (at + 4) e ≡ put_at l at (a ∷ b ∷ c ∷ d ∷ e ∷ [])
five-put l at a b c d e h =
    let l₁ : List ℕ = set l at a in
    let l₂ : List ℕ = set l₁ (at + 1) b in
    let l₃ : List ℕ = set l₂ (at + 2) c in
    let l₄ : List ℕ = set l₃ (at + 3) d in
    let n₁ : length l₁ ≡ length l = length-set l at a in
    let n₂ : length l₂ ≡ length l = length-set l₁ (at + 1) b ∙ n₁ in
    let n₃ : length l₃ ≡ length l = length-set l₂ (at + 2) c ∙ n₂ in
    let n₄ : length l₄ ≡ length l = length-set l₃ (at + 3) d ∙ n₃ in
    put_one l₄ (at + 4) e (omega arith)
    ∙ next-put l₃ (e ∷ []) (at + 3) (at + 4) d (omega arith) (omega arith)
    ∙ next-put l₂ (d ∷ e ∷ []) (at + 2) (at + 3) c (omega arith) (omega arith)
    ∙ next-put l₁ (c ∷ d ∷ e ∷ []) (at + 1) (at + 2) b (omega arith) (omega arith)
    ∙ next-put l (b ∷ c ∷ d ∷ e ∷ []) at (at + 1) a refl (omega arith)
