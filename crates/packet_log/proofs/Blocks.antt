-- Twelve bytes at a time: bytes joined to numbers, and the four data words of such numbers.
use mathlib.Core.Path.{◌≡◌, refl, sym, ap, ap₂, ◌∙◌}
use mathlib.Core.List.{List, [], ◌∷◌, ◌++◌}
use Prim.Native.Nat.{ℕ, ◌+◌, ◌*◌, ◌<◌, ◌≤◌}
use native.Mathlib.Omega.{arith}
use lib.Bits.{bit_or, or_shifted_r}
use lib.ListN.{length, get_or, set, drop, length-set, length-append}
use Rattle.buffer.specs.Buffer.{put_at}
use Rattle.buffer.proofs.Laws.{put_one, put-cons, put-put}
use Rattle.packet_log.specs.Blocks.{four_at, eight_at, block_words}
use Rattle.packet_log.specs.Log.{data_word, data_words, data_word_at}
use Rattle.packet_log.proofs.Filling.{next_word, word-in-first}

-- bytes joined by `|`
four-joined : (a b c d : ℕ) → b < 256 → c < 256 → d < 256
    → bit_or (bit_or (bit_or d (c * 256)) (b * 65536)) (a * 16777216) ≡ a * 16777216 + (b * 65536 + (c * 256 + d))
four-joined a b c d hb hc hd =
    ap (λ (n : ℕ). bit_or (bit_or n (b * 65536)) (a * 16777216)) (or_shifted_r c 8 d hd)
    ∙ ap (λ (n : ℕ). bit_or n (a * 16777216)) (or_shifted_r b 16 (c * 256 + d) (omega arith))
    ∙ or_shifted_r a 24 (b * 65536 + (c * 256 + d)) (omega arith)

pub four-or : (l : List ℕ) (i a b c d : ℕ) → a < 256 → b < 256 → c < 256 → d < 256
    → a ≡ get_or l i 0 → b ≡ get_or l (i + 1) 0 → c ≡ get_or l (i + 2) 0 → d ≡ get_or l (i + 3) 0
    → (bit_or (bit_or (bit_or d (c * 256)) (b * 65536)) (a * 16777216) ≡ four_at l i) × (bit_or (bit_or (bit_or d (c * 256)) (b * 65536)) (a * 16777216) < 4294967296)
unfolding four_at
four-or l i a b c d ha hb hc hd ea eb ec ed =
    let j = four-joined a b c d hb hc hd in
    (j ∙ rw (ea, eb, ec, ed) refl, rw j (omega arith))

pub eight-or : (l : List ℕ) (i a b c d v : ℕ) → b < 256 → c < 256 → d < 256 → v < 4294967296
    → a ≡ get_or l i 0 → b ≡ get_or l (i + 1) 0 → c ≡ get_or l (i + 2) 0 → d ≡ get_or l (i + 3) 0 → v ≡ four_at l (i + 4)
    → bit_or (bit_or (bit_or (bit_or v (d * 4294967296)) (c * 1099511627776)) (b * 281474976710656)) (a * 72057594037927936) ≡ eight_at l i
unfolding eight_at
eight-or l i a b c d v hb hc hd hv ea eb ec ed ev =
    ap (λ (n : ℕ). bit_or (bit_or (bit_or n (c * 1099511627776)) (b * 281474976710656)) (a * 72057594037927936)) (or_shifted_r d 32 v hv)
    ∙ ap (λ (n : ℕ). bit_or (bit_or n (b * 281474976710656)) (a * 72057594037927936)) (or_shifted_r c 40 (d * 4294967296 + v) (omega arith))
    ∙ ap (λ (n : ℕ). bit_or n (a * 72057594037927936)) (or_shifted_r b 48 (c * 1099511627776 + (d * 4294967296 + v)) (omega arith))
    ∙ or_shifted_r a 56 (b * 281474976710656 + (c * 1099511627776 + (d * 4294967296 + v))) (omega arith)
    ∙ rw (ea, eb, ec, ed, ev) refl

-- four words stored one after the other
pub four-put : (l : List ℕ) (at a b c d : ℕ) → at + 4 ≤ length l
    → set (set (set (set l at a) (at + 1) b) (at + 2) c) (at + 3) d ≡ put_at l at (a ∷ b ∷ c ∷ d ∷ [])
four-put l at a b c d h =
    let l₁ : List ℕ = set l at a in
    let l₂ : List ℕ = set l₁ (at + 1) b in
    let l₃ : List ℕ = set l₂ (at + 2) c in
    let n₁ : length l₁ ≡ length l = length-set l at a in
    let n₂ : length l₂ ≡ length l₁ = length-set l₁ (at + 1) b in
    let n₃ : length l₃ ≡ length l₂ = length-set l₂ (at + 2) c in
    let e₂ : at + 2 ≡ at + 1 + 1 = omega arith in
    let e₃ : at + 3 ≡ at + 2 + 1 = omega arith in
    put_one l₃ (at + 3) d (omega arith)
    ∙ ap (λ (k : ℕ). put_at l₃ k (d ∷ [])) e₃ ∙ put-cons l₂ (d ∷ []) (at + 2) c (omega arith)
    ∙ ap (λ (k : ℕ). put_at l₂ k (c ∷ d ∷ [])) e₂ ∙ put-cons l₁ (c ∷ d ∷ []) (at + 1) b (omega arith)
    ∙ put-cons l (b ∷ c ∷ d ∷ []) at a (omega arith)

-- the words of numbers are those of their bytes
words_of : (a b c d e f g h p q r s : ℕ) → b < 256 → c < 256 → d < 256 → e < 256 → f < 256 → g < 256 → h < 256 → q < 256 → r < 256 → s < 256
    → block_words (a * 72057594037927936 + (b * 281474976710656 + (c * 1099511627776 + (d * 4294967296 + (e * 16777216 + (f * 65536 + (g * 256 + h))))))) (p * 16777216 + (q * 65536 + (r * 256 + s)))
    ≡ data_word 3 a b c ∷ data_word 3 d e f ∷ data_word 3 g h p ∷ data_word 3 q r s ∷ []
unfolding block_words
words_of a b c d e f g h p q r s hb hc hd he hf hg hh hq hr hs =
    ap₂ ◌∷◌ (omega arith) (ap₂ ◌∷◌ (omega arith) (ap₂ ◌∷◌ (omega arith) (ap₂ ◌∷◌ (omega arith) refl)))

-- twelve bytes of the first of two lists are four words
pub block_words_lem : (b rest : List ℕ) (i : ℕ) → i + 12 ≤ length b → ((k : ℕ) → get_or b k 0 < 256)
    → data_words (drop i (b ++ rest)) ≡ block_words (eight_at b i) (four_at b (i + 8)) ++ data_words (drop (i + 12) (b ++ rest))
unfolding eight_at four_at
block_words_lem b rest i h hb =
    let n : length (b ++ rest) ≡ length b + length rest = length-append b rest in
    let e₁ : i + 3 + 3 ≡ i + 6 = omega arith in
    let e₂ : i + 6 + 3 ≡ i + 9 = omega arith in
    let e₃ : i + 9 + 3 ≡ i + 12 = omega arith in
    let f₁ : i + 4 + 1 ≡ i + 3 + 2 = omega arith in
    let f₂ : i + 4 + 2 ≡ i + 6 = omega arith in
    let f₃ : i + 4 + 3 ≡ i + 6 + 1 = omega arith in
    let f₄ : i + 4 ≡ i + 3 + 1 = omega arith in
    let g₁ : i + 8 + 1 ≡ i + 9 = omega arith in
    let g₂ : i + 8 + 2 ≡ i + 9 + 1 = omega arith in
    let g₃ : i + 8 + 3 ≡ i + 9 + 2 = omega arith in
    let g₄ : i + 8 ≡ i + 6 + 2 = omega arith in
    let word : (k : ℕ) → k + 3 ≤ length b → data_word_at (b ++ rest) k ≡ data_word 3 (get_or b k 0) (get_or b (k + 1) 0) (get_or b (k + 2) 0) = λ k w. sym (word-in-first b rest k w) in
    let t : data_words (drop i (b ++ rest)) ≡ data_word 3 (get_or b i 0) (get_or b (i + 1) 0) (get_or b (i + 2) 0)
    ∷ data_word 3 (get_or b (i + 3) 0) (get_or b (i + 3 + 1) 0) (get_or b (i + 3 + 2) 0)
    ∷ data_word 3 (get_or b (i + 6) 0) (get_or b (i + 6 + 1) 0) (get_or b (i + 6 + 2) 0)
    ∷ data_word 3 (get_or b (i + 9) 0) (get_or b (i + 9 + 1) 0) (get_or b (i + 9 + 2) 0) ∷ data_words (drop (i + 12) (b ++ rest)) =
    next_word (b ++ rest) i (omega arith)
    ∙ ap₂ ◌∷◌ (word i (omega arith))
    (next_word (b ++ rest) (i + 3) (omega arith)
    ∙ ap₂ ◌∷◌ (word (i + 3) (omega arith))
    (ap (λ (k : ℕ). data_words (drop k (b ++ rest))) e₁ ∙ next_word (b ++ rest) (i + 6) (omega arith)
    ∙ ap₂ ◌∷◌ (word (i + 6) (omega arith))
    (ap (λ (k : ℕ). data_words (drop k (b ++ rest))) e₂ ∙ next_word (b ++ rest) (i + 9) (omega arith)
    ∙ ap₂ ◌∷◌ (word (i + 9) (omega arith)) (ap (λ (k : ℕ). data_words (drop k (b ++ rest))) e₃)))) in
    let w : block_words (eight_at b i) (four_at b (i + 8)) ≡ data_word 3 (get_or b i 0) (get_or b (i + 1) 0) (get_or b (i + 2) 0)
    ∷ data_word 3 (get_or b (i + 3) 0) (get_or b (i + 3 + 1) 0) (get_or b (i + 3 + 2) 0)
    ∷ data_word 3 (get_or b (i + 6) 0) (get_or b (i + 6 + 1) 0) (get_or b (i + 6 + 2) 0)
    ∷ data_word 3 (get_or b (i + 9) 0) (get_or b (i + 9 + 1) 0) (get_or b (i + 9 + 2) 0) ∷ [] =
    rw (f₁, f₂, f₃, f₄, g₁, g₂, g₃, g₄)
    (words_of (get_or b i 0) (get_or b (i + 1) 0) (get_or b (i + 2) 0) (get_or b (i + 3) 0) (get_or b (i + 3 + 1) 0) (get_or b (i + 3 + 2) 0) (get_or b (i + 6) 0) (get_or b (i + 6 + 1) 0) (get_or b (i + 6 + 2) 0) (get_or b (i + 9) 0) (get_or b (i + 9 + 1) 0) (get_or b (i + 9 + 2) 0)
    (hb (i + 1)) (hb (i + 2)) (hb (i + 3)) (hb (i + 3 + 1)) (hb (i + 3 + 2)) (hb (i + 6)) (hb (i + 6 + 1)) (hb (i + 9)) (hb (i + 9 + 1)) (hb (i + 9 + 2))) in
    t ∙ ap (λ (l : List ℕ). l ++ data_words (drop (i + 12) (b ++ rest))) (sym w)

-- they are stored, and the others follow
pub block-turn : (l m b rest goal : List ℕ) (at i j x y : ℕ) → i + 12 ≤ length b → at + j + 4 ≤ length l → ((k : ℕ) → get_or b k 0 < 256)
    → x ≡ eight_at b i → y ≡ four_at b (i + 8) → m ≡ put_at l (at + j) (block_words x y)
    → put_at l (at + j) (data_words (drop i (b ++ rest))) ≡ goal
    → put_at m (at + (j + 4)) (data_words (drop (i + 12) (b ++ rest))) ≡ goal
unfolding block_words
block-turn l m b rest goal at i j x y more room hb ex ey em g =
    let k : at + (j + 4) ≡ at + j + 4 = omega arith in
    ap₂ (λ (n : ℕ) (z : List ℕ). put_at z n (data_words (drop (i + 12) (b ++ rest)))) k em
    ∙ put-put l (at + j) (block_words x y) (data_words (drop (i + 12) (b ++ rest))) room
    ∙ ap (λ (z : List ℕ). put_at l (at + j) z)
    (ap₂ (λ (u v : ℕ). block_words u v ++ data_words (drop (i + 12) (b ++ rest))) ex ey ∙ sym (block_words_lem b rest i more hb))
    ∙ g

-- words behind words
pub onward : (l m n s : List ℕ) (at i a b : ℕ) → put_at m (at + a) (data_words (drop (i + 3 * a) s)) ≡ put_at l at (data_words (drop i s))
    → put_at n (at + a + b) (data_words (drop (i + 3 * a + 3 * b) s)) ≡ put_at m (at + a) (data_words (drop (i + 3 * a) s))
    → put_at n (at + (a + b)) (data_words (drop (i + 3 * (a + b)) s)) ≡ put_at l at (data_words (drop i s))
onward l m n s at i a b e f =
    let p : at + (a + b) ≡ at + a + b = omega arith in
    let q : i + 3 * (a + b) ≡ i + 3 * a + 3 * b = omega arith in
    ap₂ (λ (x y : ℕ). put_at n x (data_words (drop y s))) p q ∙ f ∙ e
