-- Words in bytes, and back.
use mathlib.Core.Path.{◌≡◌, refl, sym, ap, ap₂, ◌∙◌}
use mathlib.Core.Bool.{true, false, ◌&&◌}
use mathlib.Core.List.{List, [], ◌∷◌, ◌++◌}
use Prim.Native.Nat.{ℕ, zero, suc, ◌+◌, ◌-◌, ◌*◌, ◌/◌, ◌%◌, ◌<◌, ◌≤◌}
use native.Mathlib.Omega.{arith}
use borrow.Author.Tests.{le-leb, lt-leb, eq-eqb, ne_eqb}
use lib.Dec.{eqb, leb}
use native.Mathlib.Nat.{not-suc-le-zero, add-zero}
use native.Mathlib.Numerals.{add-one}
use lib.ListN.{length, drop, get_or, set, length-drop}
use lib.Seq.{drop-cons, drop-drop, get_or-drop}
use Rattle.buffer.specs.Buffer.{put_at}
use Rattle.buffer.proofs.Laws.{put-put, put-cons, put-nil}
use Rattle.word_bytes.specs.WordBytes.{word_bytes, word_of, bytes_of, words_of, bytes_for, words_for}

-- the word of a word's bytes
word_back : (w : ℕ) → word_of (w % 0x100) (w / 0x100 % 0x100) (w / 0x10000 % 0x100) (w / 0x1000000) ≡ w
word_back w = omega arith

-- words in bytes, read again, are these words
pub words_back : (ws : List ℕ) → words_of (bytes_of ws) ≡ ws
unfolding bytes_of words_of
words_back [] = refl
words_back (w ∷ ws) = ap₂ (λ (x : ℕ) (y : List ℕ). x ∷ y) (word_back w) (words_back ws)

-- a byte and what stands above it
above : (a x : ℕ) → a < 256 → ((a + 0x100 * x) % 0x100 ≡ a) × ((a + 0x100 * x) / 0x100 ≡ x)
above a x h = (omega arith, omega arith)

-- the bytes of the word of four
bytes_back : (a b c d : ℕ) → a < 256 → b < 256 → c < 256 → word_bytes (word_of a b c d) ≡ a ∷ b ∷ c ∷ d ∷ []
bytes_back a b c d ha hb hc =
    let w : ℕ = word_of a b c d in
    let x : ℕ = c + 0x100 * d in
    let y : ℕ = b + 0x100 * x in
    let e₁ : w / 0x100 ≡ y = (above a y ha).1 in
    let e₂ : w / 0x10000 ≡ x = (let t : w / 0x10000 ≡ w / 0x100 / 0x100 = omega arith in t ∙ rw e₁ (above b x hb).1) in
    let e₃ : w / 0x1000000 ≡ d = (let t : w / 0x1000000 ≡ w / 0x10000 / 0x100 = omega arith in t ∙ rw e₂ (above c d hc).1) in
    rw ((above a y ha).0, e₁, e₂, e₃, (above b x hb).0, (above c d hc).0) refl

-- whole words of bytes, written again, are these bytes
pub bytes-again : (k : ℕ) (s : List ℕ) → length s ≡ 4 * k → ((j : ℕ) → get_or s j 0 < 256) → bytes_of (words_of s) ≡ s
unfolding bytes_of words_of
bytes-again zero [] h small = refl
bytes-again zero (a ∷ s) h small = absurd (not-suc-le-zero (let e : suc (length s) ≤ 0 = omega arith in e))
bytes-again (suc k) [] h small = absurd (not-suc-le-zero (let e : suc k ≤ 0 = omega arith in e))
bytes-again (suc k) (a ∷ []) h small = absurd (not-suc-le-zero (let e : suc k ≤ 0 = omega arith in e))
bytes-again (suc k) (a ∷ b ∷ []) h small = absurd (not-suc-le-zero (let e : suc k ≤ 0 = omega arith in e))
bytes-again (suc k) (a ∷ b ∷ c ∷ []) h small = absurd (not-suc-le-zero (let e : suc k ≤ 0 = omega arith in e))
bytes-again (suc k) (a ∷ b ∷ c ∷ d ∷ rest) h small =
    ap (λ (r : List ℕ). r ++ bytes_of (words_of rest)) (bytes_back a b c d (small 0) (small 1) (small 2))
    ∙ ap (λ (r : List ℕ). a ∷ b ∷ c ∷ d ∷ r) (bytes-again k rest (omega arith) (λ j. small (suc (suc (suc (suc j))))))

-- four bytes for each word
pub bytes-length : (ws : List ℕ) → length (bytes_of ws) ≡ 4 * length ws
unfolding bytes_of
bytes-length [] = refl
bytes-length (w ∷ ws) = let h = bytes-length ws in omega (arith, h)

-- a word's bytes are stored, and those of the others follow
pub turn : (l l' ws goal : List ℕ) (i : ℕ) → i < length ws → 4 * i + 4 ≤ length l → l' ≡ put_at l (4 * i) (word_bytes (get_or ws i 0))
    → put_at l (4 * i) (bytes_of (drop i ws)) ≡ goal
    → put_at l' (4 * (i + 1)) (bytes_of (drop (i + 1) ws)) ≡ goal
unfolding bytes_of
turn l l' ws goal i more room e g =
    let k : 4 * (i + 1) ≡ 4 * i + 4 = omega arith in
    let t : put_at l (4 * i) (word_bytes (get_or ws i 0) ++ bytes_of (drop (i + 1) ws)) ≡ goal = rw (add-one i) (rw (drop-cons ws i 0 more) at g) in
    rw (e, k) (put-put l (4 * i) (word_bytes (get_or ws i 0)) (bytes_of (drop (i + 1) ws)) room ∙ t)

-- the first word of bytes
first_word : (s : List ℕ) → 4 ≤ length s → words_of s ≡ word_of (get_or s 0 0) (get_or s 1 0) (get_or s 2 0) (get_or s 3 0) ∷ words_of (drop 4 s)
unfolding words_of
first_word [] h = absurd (not-suc-le-zero h)
first_word (a ∷ []) h = absurd (not-suc-le-zero (let e : suc (length {A = ℕ} []) ≤ 0 = omega arith in e))
first_word (a ∷ b ∷ []) h = absurd (not-suc-le-zero (let e : suc 0 ≤ 0 = omega arith in e))
first_word (a ∷ b ∷ c ∷ []) h = absurd (not-suc-le-zero (let e : suc 0 ≤ 0 = omega arith in e))
first_word (a ∷ b ∷ c ∷ d ∷ rest) h = refl

-- the next word of the bytes that are left
next_word : (s : List ℕ) (i : ℕ) → i + 4 ≤ length s
    → words_of (drop i s) ≡ word_of (get_or s i 0) (get_or s (i + 1) 0) (get_or s (i + 2) 0) (get_or s (i + 3) 0) ∷ words_of (drop (i + 4) s)
next_word s i h =
    let n : length (drop i s) ≡ length s - i = length-drop i s in
    let a : get_or (drop i s) 0 0 ≡ get_or s i 0 = rw (add-zero i) at (get_or-drop i s 0 0) in
    let t = first_word (drop i s) (omega arith) in
    rw (a, get_or-drop i s 1 0, get_or-drop i s 2 0, get_or-drop i s 3 0, drop-drop 4 i s) at t

-- a word is stored, and the others follow
pub word-turn : (l s goal : List ℕ) (i v : ℕ) → 4 * i + 4 ≤ length s → i < length l
    → v ≡ word_of (get_or s (4 * i) 0) (get_or s (4 * i + 1) 0) (get_or s (4 * i + 2) 0) (get_or s (4 * i + 3) 0)
    → put_at l i (words_of (drop (4 * i) s)) ≡ goal
    → put_at (set l i v) (i + 1) (words_of (drop (4 * (i + 1)) s)) ≡ goal
word-turn l s goal i v more room e g =
    let k : 4 * (i + 1) ≡ 4 * i + 4 = omega arith in
    let t = rw (next_word s (4 * i) more) at g in
    rw (k, e) (put-cons l (words_of (drop (4 * i + 4) s)) i (word_of (get_or s (4 * i) 0) (get_or s (4 * i + 1) 0) (get_or s (4 * i + 2) 0) (get_or s (4 * i + 3) 0)) room ∙ t)

-- fewer than four bytes are no word
pub none_left : (s : List ℕ) → length s < 4 → words_of s ≡ []
unfolding words_of
none_left [] h = refl
none_left (a ∷ []) h = refl
none_left (a ∷ b ∷ []) h = refl
none_left (a ∷ b ∷ c ∷ []) h = refl
none_left (a ∷ b ∷ c ∷ d ∷ rest) h = absurd (not-suc-le-zero (let e : suc (length rest) ≤ 0 = omega arith in e))

-- no word is left to be written
pub none-put : (l ws goal : List ℕ) (at : ℕ) → ws ≡ [] → put_at l at (bytes_of ws) ≡ goal → l ≡ goal
unfolding bytes_of
none-put l ws goal at e g =
    let t : put_at l at [] ≡ goal = rw e at g in
    sym (put-nil l at) ∙ t

-- no word is left to be read
pub all_read : (l s goal : List ℕ) (at : ℕ) → length s < 4 → put_at l at (words_of s) ≡ goal → l ≡ goal
all_read l s goal at h g =
    let t : put_at l at [] ≡ goal = rw (none_left s h) at g in
    sym (put-nil l at) ∙ t

-- one word for four bytes
pub words-length : (k : ℕ) (s : List ℕ) → length s ≡ 4 * k → length (words_of s) ≡ k
unfolding words_of
words-length zero [] h = refl
words-length zero (a ∷ s) h = absurd (not-suc-le-zero (let e : suc (length s) ≤ 0 = omega arith in e))
words-length (suc k) s h =
    let n : length (drop 4 s) ≡ length s - 4 = length-drop 4 s in
    ap length (first_word s (omega arith)) ∙ ap suc (words-length k (drop 4 s) (omega arith))

-- what is written where there is no room, and where there is
pub no_bytes : (l ws : List ℕ) → length l / 4 < length ws → (0 ≡ length (bytes_for ws (length l))) × (l ≡ put_at l 0 (bytes_for ws (length l)))
unfolding bytes_for
no_bytes l ws h =
    let t : leb (4 * length ws) (length l) ≡ false = lt-leb (4 * length ws) (length l) (omega arith) in
    rw t (refl, sym (put-nil l 0))

pub all-bytes : (l l' ws : List ℕ) → length ws ≤ length l / 4 → l' ≡ put_at l 0 (bytes_of ws)
    → (4 * length ws ≡ length (bytes_for ws (length l))) × (l' ≡ put_at l 0 (bytes_for ws (length l)))
unfolding bytes_for
all-bytes l l' ws h e =
    let t : leb (4 * length ws) (length l) ≡ true = le-leb (4 * length ws) (length l) (omega arith) in
    rw t (sym (bytes-length ws), e)

-- what is read where a byte is left over, where there is no room, and where there is
pub no_words : (l s : List ℕ) → (eqb (length s % 4) 0 && leb (length s / 4) (length l)) ≡ false
    → (0 ≡ length (words_for s (length l))) × (l ≡ put_at l 0 (words_for s (length l)))
unfolding words_for
no_words l s t = rw t (refl, sym (put-nil l 0))

pub left_over : (l s : List ℕ) → (length s % 4 ≡ 0 → ⊥) → (eqb (length s % 4) 0 && leb (length s / 4) (length l)) ≡ false
left_over l s h = rw (ne_eqb (length s % 4) 0 h) refl

pub no_room : (l s : List ℕ) → length s % 4 ≡ 0 → length l < length s / 4 → (eqb (length s % 4) 0 && leb (length s / 4) (length l)) ≡ false
no_room l s e h = rw (eq-eqb (length s % 4) 0 e, lt-leb (length s / 4) (length l) h) refl

pub all_words : (l l' s : List ℕ) → length s % 4 ≡ 0 → length s / 4 ≤ length l → l' ≡ put_at l 0 (words_of s)
    → (length s / 4 ≡ length (words_for s (length l))) × (l' ≡ put_at l 0 (words_for s (length l)))
unfolding words_for
all_words l l' s z h e =
    rw (eq-eqb (length s % 4) 0 z, le-leb (length s / 4) (length l) h) (sym (words-length (length s / 4) s (omega arith)), e)
