-- One turn of writing data words, on what is left of the bytes.
use mathlib.Core.Path.{◌≡◌, refl, sym, ap, ap₂, ◌∙◌}
use mathlib.Core.List.{List, [], ◌∷◌, ◌++◌, append-nil}
use Prim.Native.Nat.{ℕ, zero, suc, ◌+◌, ◌-◌, ◌*◌, ◌/◌, ◌<◌, ◌≤◌, min}
use native.Mathlib.Omega.{arith}
use native.Mathlib.Nat.{not-suc-le-zero, add-zero}
use lib.ListN.{length, get_or, set, drop, length-drop, drop_of_length-le, length-append}
use lib.Seq.{drop-drop, drop-append-add, get_or-drop, get_or-append-add}
use Rattle.buffer.specs.Buffer.{put_at}
use Rattle.buffer.proofs.Laws.{put-cons, put-nil}
use Rattle.packet_log.specs.Log.{data_word, data_words, data_word_at}
use Rattle.packet_log.proofs.Words.{data-length}

-- a byte of the second of two lists
pub in-second : (a b : List ℕ) (i : ℕ) → length a ≤ i → get_or (a ++ b) i 0 ≡ get_or b (i - length a) 0
in-second a b i h =
    let e : i ≡ length a + (i - length a) = omega arith in
    ap (λ (n : ℕ). get_or (a ++ b) n 0) e ∙ get_or-append-add a b (i - length a) 0

-- a byte of the first of two lists
in-first : (a b : List ℕ) (i : ℕ) → i < length a → get_or (a ++ b) i 0 ≡ get_or a i 0
in-first [] b i h = absurd (not-suc-le-zero h)
in-first (x ∷ a) b zero h = refl
in-first (x ∷ a) b (suc i) h = in-first a b i (omega arith)

-- three bytes of the first of two lists
pub word-in-first : (a b : List ℕ) (i : ℕ) → i + 3 ≤ length a → data_word 3 (get_or a i 0) (get_or a (i + 1) 0) (get_or a (i + 2) 0) ≡ data_word_at (a ++ b) i
word-in-first a b i h =
    let n : length (a ++ b) ≡ length a + length b = length-append a b in
    let m : min 3 (length (a ++ b) - i) ≡ 3 = omega arith in
    rw (m, in-first a b i (omega arith), in-first a b (i + 1) (omega arith), in-first a b (i + 2) (omega arith)) refl

-- the first word of bytes
first_word : (s : List ℕ) → 0 < length s → data_words s ≡ data_word (min 3 (length s)) (get_or s 0 0) (get_or s 1 0) (get_or s 2 0) ∷ data_words (drop 3 s)
unfolding data_words
first_word [] h = absurd (not-suc-le-zero h)
first_word (a ∷ []) h = refl
first_word (a ∷ b ∷ []) h = refl
first_word (a ∷ b ∷ c ∷ rest) h =
    let e : min 3 (length (a ∷ b ∷ c ∷ rest)) ≡ 3 = omega arith in
    rw e

-- the next word of the bytes that are left
pub next_word : (s : List ℕ) (i : ℕ) → i < length s → data_words (drop i s) ≡ data_word_at s i ∷ data_words (drop (i + 3) s)
next_word s i h =
    let n : length (drop i s) ≡ length s - i = length-drop i s in
    let a : get_or (drop i s) 0 0 ≡ get_or s i 0 = rw (add-zero i) at (get_or-drop i s 0 0) in
    let t = first_word (drop i s) (omega arith) in
    rw (n, a, get_or-drop i s 1 0, get_or-drop i s 2 0, drop-drop 3 i s) at t

-- it is stored, and the others follow
pub turn : (l s goal : List ℕ) (at i j v : ℕ) → i < length s → at + j < length l → v ≡ data_word_at s i
    → put_at l (at + j) (data_words (drop i s)) ≡ goal
    → put_at (set l (at + j) v) (at + (j + 1)) (data_words (drop (i + 3) s)) ≡ goal
turn l s goal at i j v more room e g =
    let k : at + (j + 1) ≡ at + j + 1 = omega arith in
    let t : put_at l (at + j) (data_word_at s i ∷ data_words (drop (i + 3) s)) ≡ goal = rw (next_word s i more) at g in
    rw (k, e) (put-cons l (data_words (drop (i + 3) s)) (at + j) (data_word_at s i) room ∙ t)

-- it counts one
pub counted : (s : List ℕ) (i : ℕ) → i < length s → length (data_words (drop i s)) ≡ suc (length (data_words (drop (i + 3) s)))
counted s i more = ap length (next_word s i more)

-- no byte is left
pub none_left : (l s goal : List ℕ) (at i : ℕ) → length s ≤ i → put_at l at (data_words (drop i s)) ≡ goal → l ≡ goal
unfolding data_words
none_left l s goal at i h g =
    let t : put_at l at [] ≡ goal = rw (drop_of_length-le s {i = i} h) at g in
    sym (put-nil l at) ∙ t

-- one word more where there is one
pub one_more : (l s : List ℕ) (at i v : ℕ) → i < length s → at < length l → v ≡ data_word_at s i
    → put_at (set l at v) (at + 1) (data_words (drop (i + 3 * 1) s)) ≡ put_at l at (data_words (drop i s))
one_more l s at i v more room e =
    ap (λ (x : ℕ). put_at (set l at x) (at + 1) (data_words (drop (i + 3) s))) e
    ∙ put-cons l (data_words (drop (i + 3) s)) at (data_word_at s i) room ∙ ap (put_at l at) (sym (next_word s i more))

-- words behind words
pub behind : (l m s goal : List ℕ) (at a r : ℕ) → put_at l (at + a) (data_words (drop (3 * a) s)) ≡ goal
    → put_at m (at + a + r) (data_words (drop (3 * a + 3 * r) s)) ≡ put_at l (at + a) (data_words (drop (3 * a) s))
    → put_at m (at + (a + r)) (data_words (drop (3 * (a + r)) s)) ≡ goal
behind l m s goal at a r g e =
    let p : at + (a + r) ≡ at + a + r = omega arith in
    let q : 3 * (a + r) ≡ 3 * a + 3 * r = omega arith in
    ap₂ (λ (x y : ℕ). put_at m x (data_words (drop y s))) p q ∙ e ∙ g

-- the first words
pub begun : (l m s : List ℕ) (at a : ℕ) → put_at m (at + a) (data_words (drop (0 + 3 * a) s)) ≡ put_at l at (data_words (drop 0 s))
    → put_at m (at + a) (data_words (drop (3 * a) s)) ≡ put_at l at (data_words s)
begun l m s at a e =
    let p : 3 * a ≡ 0 + 3 * a = omega arith in
    ap (λ (x : ℕ). put_at m (at + a) (data_words (drop x s))) p ∙ e

-- what is left of the second of two lists
left-second : (a b : List ℕ) (i k : ℕ) → length a ≤ i → drop (i - length a + k) (b ++ []) ≡ drop (i + k) (a ++ b)
left-second a b i k h =
    let e : i + k ≡ length a + (i - length a + k) = omega arith in
    ap (drop (i - length a + k)) (append-nil b) ∙ sym (ap (λ (n : ℕ). drop n (a ++ b)) e ∙ drop-append-add a b (i - length a + k))

-- words of the second list
pub in-second-list : (l m f g : List ℕ) (at i r : ℕ) → length f ≤ i
    → put_at m (at + r) (data_words (drop (i - length f + 3 * r) (g ++ []))) ≡ put_at l at (data_words (drop (i - length f) (g ++ [])))
    → put_at m (at + r) (data_words (drop (i + 3 * r) (f ++ g))) ≡ put_at l at (data_words (drop i (f ++ g)))
in-second-list l m f g at i r h e =
    let p : i - length f + 0 ≡ i - length f = omega arith in
    let q : i + 0 ≡ i = omega arith in
    ap (λ (x : List ℕ). put_at m (at + r) (data_words x)) (sym (left-second f g i (3 * r) h))
    ∙ e
    ∙ ap (λ (x : List ℕ). put_at l at (data_words x))
    (ap (λ (n : ℕ). drop n (g ++ [])) (sym p) ∙ left-second f g i 0 h ∙ ap (λ (n : ℕ). drop n (f ++ g)) q)

-- how many words two lists have, and what is left of them from a place on
pub both-length : (f g : List ℕ) → length (data_words (f ++ g)) ≡ (length f + length g + 2) / 3
both-length f g = data-length (f ++ g) ∙ ap (λ (n : ℕ). (n + 2) / 3) (length-append f g)

pub left-length : (f g : List ℕ) (i : ℕ) → length (data_words (drop i (f ++ g))) ≡ (length f + length g - i + 2) / 3
left-length f g i =
    data-length (drop i (f ++ g)) ∙ ap (λ (n : ℕ). (n + 2) / 3) (length-drop i (f ++ g) ∙ ap (λ (n : ℕ). n - i) (length-append f g))
