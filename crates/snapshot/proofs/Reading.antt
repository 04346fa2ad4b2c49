-- Words gone through one by one: what that finds is what the definitions say.
use mathlib.Core.Path.{◌≡◌, refl, sym, ap, ap₂, ◌∙◌}
use mathlib.Core.Bool.{Bool, true, false, not, ◌&&◌, ◌||◌, cond, true≢false}
use mathlib.Core.List.{List, [], ◌∷◌, ◌++◌, append-nil, append_assoc}
use Prim.Native.Nat.{ℕ, zero, suc, ◌+◌, ◌-◌, ◌*◌, ◌/◌, ◌%◌, ◌<◌, ◌≤◌, min}
use native.Mathlib.Omega.{arith}
use native.Mathlib.Numerals.{add-one}
use lib.Dec.{eqb, ltb}
use lib.ListN.{length, get_or, take, drop, length-append, length-drop, take-append-drop, drop_of_length-le}
use lib.Seq.{drop-cons, drop-append_seam, get_or-drop, take_at}
use borrow.Author.Tests.{eq-eqb, ne_eqb, eqb-true, lt-ltb, le-ltb}
use Rattle.packet_log.specs.Log.{data_words, same_list, data_bytes}
use Rattle.packet_log.proofs.Packets.{Bytes}
use Rattle.receiver.specs.declared.Receiver.{Receiver}
use Rattle.packet_log.proofs.Same.{same_true, same-itself}
use Rattle.snapshot.specs.Snapshot.{kind_in, value_in, head_words, byte_words, count_words, words_with, has, value_of, bytes_in, from_kind, kinds_in, receiver_in, is_form}
use Rattle.snapshot.specs.Steps.{begins_with, unused_clear, byte_fits, bytes_fit, are_bytes, is_front, byte_in}
use Rattle.snapshot.proofs.Bytes.{byte_word, bytes-more, bytes_back, bytes-length, counts-bytes}
use Rattle.snapshot.proofs.Parts.{InBits, head_parts, head-parts, bytes-parts, counts-parts}
use Rattle.snapshot.proofs.Counts.{Counted, bytes-counts, from-counts}
use Rattle.snapshot.proofs.Fields.{programs-small}
use Rattle.bits.proofs.Tests.{both, one-and, agree}

-- ---- the first word of a kind

module _ (ws : List ℕ) (i : ℕ) (h : i < length ws) where
  split : drop i ws ≡ get_or ws i 0 ∷ drop (i + 1) ws
  split = rw (add-one i) (drop-cons ws i 0 h)

  module _ (kind : ℕ) where
    pub from-here : kind_in (get_or ws i 0) ≡ kind → drop i ws ≡ from_kind kind (drop i ws)
    unfolding from_kind
    from-here e = rw (split, eq-eqb (kind_in (get_or ws i 0)) kind e)

    module _ (e : kind_in (get_or ws i 0) ≡ kind → ⊥) where
      pub from_next : from_kind kind (drop (i + 1) ws) ≡ from_kind kind (drop i ws)
      unfolding from_kind
      from_next = rw (split, ne_eqb (kind_in (get_or ws i 0)) kind e)

  -- ---- words of held bytes

  pub rest-stop : (left : ℕ) → bytes_fit left (get_or ws i 0) ≡ false → false ≡ are_bytes left (drop i ws)
  unfolding are_bytes
  rest-stop left e = rw (split, e)

  pub rest-next : (left : ℕ) → bytes_fit left (get_or ws i 0) ≡ true → are_bytes (left - 3) (drop (i + 1) ws) ≡ are_bytes left (drop i ws)
  unfolding are_bytes
  rest-next left e = rw (split, e)

module _ (ws : List ℕ) (i : ℕ) (h : length ws ≤ i) where
  gone : drop i ws ≡ []
  gone = drop_of_length-le ws h

  pub from_end : (kind : ℕ) → drop i ws ≡ from_kind kind (drop i ws)
  unfolding from_kind
  from_end kind = rw gone

  pub rest_end : (left : ℕ) → eqb left 0 ≡ are_bytes left (drop i ws)
  unfolding are_bytes
  rest_end left = rw gone

-- ---- whether there is a word of a kind, and its other bits, by the place where the first one stands

has-from : (kind : ℕ) (ws : List ℕ) → has kind ws ≡ ltb 0 (length (from_kind kind ws))
unfolding has from_kind
has-from kind [] = refl
has-from kind (w ∷ ws) = go (eqb (kind_in w) kind) (has-from kind ws)
  where
    go : (t : Bool) → has kind ws ≡ ltb 0 (length (from_kind kind ws)) → (t || has kind ws) ≡ ltb 0 (length (cond t (w ∷ ws) (from_kind kind ws)))
    go true h = sym (lt-ltb 0 (length (w ∷ ws)) (omega arith))
    go false h = h

value-from : (kind : ℕ) (ws : List ℕ) → value_of kind ws ≡ value_in (get_or (from_kind kind ws) 0 0)
unfolding value_of from_kind
value-from kind [] = refl
value-from kind (w ∷ ws) = go (eqb (kind_in w) kind) (value-from kind ws)
  where
    go : (t : Bool) → value_of kind ws ≡ value_in (get_or (from_kind kind ws) 0 0) → cond t (value_in w) (value_of kind ws) ≡ value_in (get_or (cond t (w ∷ ws) (from_kind kind ws)) 0 0)
    go true h = refl
    go false h = h

module _ (kind p : ℕ) (ws : List ℕ) (e : drop p ws ≡ from_kind kind ws) where
  by_length : has kind ws ≡ ltb 0 (length (drop p ws))
  by_length = has-from kind ws ∙ ap (λ (l : List ℕ). ltb 0 (length l)) (sym e)

  by_first : value_of kind ws ≡ value_in (get_or (drop p ws) 0 0)
  by_first = value-from kind ws ∙ ap (λ (l : List ℕ). value_in (get_or l 0 0)) (sym e)

  pub has_one : p < length ws → true ≡ has kind ws
  has_one h = sym (by_length ∙ lt-ltb 0 (length (drop p ws)) (omega (arith, length-drop p ws)))

  pub has-none : length ws ≤ p → false ≡ has kind ws
  has-none h = sym (by_length ∙ le-ltb 0 (length (drop p ws)) (omega (arith, length-drop p ws)))

  pub value-one : p < length ws → value_in (get_or ws p 0) ≡ value_of kind ws
  value-one h = sym (by_first ∙ ap (λ (l : List ℕ). value_in (get_or l 0 0)) (split ws p h))

  pub value_none : length ws ≤ p → 0 ≡ value_of kind ws
  value_none h = sym (by_first ∙ ap (λ (l : List ℕ). value_in (get_or l 0 0)) (gone ws p h))

-- ---- words that begin with others

pub begins-short : (vs ws : List ℕ) → length ws < length vs → false ≡ begins_with vs ws
unfolding begins_with
begins-short [] ws h = absurd (omega arith)
begins-short (v ∷ vs) [] h = refl
begins-short (v ∷ vs) (w ∷ ws) h = go (eqb v w) (begins-short vs ws (omega arith))
  where
    go : (t : Bool) → false ≡ begins_with vs ws → false ≡ (t && begins_with vs ws)
    go true e = e
    go false e = refl

module _ (vs ws : List ℕ) (i : ℕ) (h : i < length vs) (g : i < length ws) where
  pub begins-stop : (get_or ws i 0 ≡ get_or vs i 0 → ⊥) → false ≡ begins_with (drop i vs) (drop i ws)
  unfolding begins_with
  begins-stop e = rw (split vs i h, split ws i g, ne_eqb (get_or vs i 0) (get_or ws i 0) (λ q. e (sym q)))

  pub begins-next : get_or ws i 0 ≡ get_or vs i 0 → begins_with (drop (i + 1) vs) (drop (i + 1) ws) ≡ begins_with (drop i vs) (drop i ws)
  unfolding begins_with
  begins-next e = rw (split vs i h, split ws i g, eq-eqb (get_or vs i 0) (get_or ws i 0) (sym e))

pub begins-end : (vs ws : List ℕ) (i : ℕ) → length vs ≤ i → true ≡ begins_with (drop i vs) (drop i ws)
unfolding begins_with
begins-end vs ws i h = rw (gone vs i h)

-- others as many as they are
pub same-begins : (vs ws : List ℕ) → length ws ≡ length vs → begins_with vs ws ≡ same_list vs ws
unfolding begins_with same_list
same-begins [] [] e = refl
same-begins [] (w ∷ ws) e = absurd (omega arith)
same-begins (v ∷ vs) [] e = refl
same-begins (v ∷ vs) (w ∷ ws) e = ap (λ (t : Bool). eqb v w && t) (same-begins vs ws (omega arith))

pub same_not : (vs ws : List ℕ) → (length ws ≡ length vs → ⊥) → false ≡ same_list vs ws
same_not vs ws z = go (same_list vs ws) refl
  where
    go : (t : Bool) → same_list vs ws ≡ t → false ≡ t
    go true e = absurd (z (ap length (sym (same_true vs ws e))))
    go false e = refl

begins-itself : (vs ws : List ℕ) → begins_with vs (vs ++ ws) ≡ true
unfolding begins_with
begins-itself [] ws = refl
begins-itself (v ∷ vs) ws = one-and (eqb v v) (begins_with vs (vs ++ ws)) (eq-eqb v v refl) (begins-itself vs ws)

begins-true : (vs ws : List ℕ) → begins_with vs ws ≡ true → vs ++ drop (length vs) ws ≡ ws
unfolding begins_with
begins-true [] ws e = refl
begins-true (v ∷ vs) [] e = absurd (true≢false (sym e))
begins-true (v ∷ vs) (w ∷ ws) e =
    let p = both (eqb v w) (begins_with vs ws) e in
    ap₂ ◌∷◌ (eqb-true v w p.0) (begins-true vs ws p.1)

-- ---- the bytes of words

take-bytes : (n : ℕ) (l : List ℕ) → Bytes l → Bytes (take n l)
take-bytes zero l h = tt
take-bytes (suc n) [] h = tt
take-bytes (suc n) (a ∷ l) h = (h.0, take-bytes n l h.1)

append-bytes : (l m : List ℕ) → Bytes l → Bytes m → Bytes (l ++ m)
append-bytes [] m h g = g
append-bytes (a ∷ l) m h g = (h.0, append-bytes l m h.1 g)

word_bytes : (w : ℕ) → Bytes (data_bytes w)
unfolding data_bytes
word_bytes w = take-bytes (w / 0x1000000 % 4) (w / 0x10000 % 0x100 ∷ w / 0x100 % 0x100 ∷ w % 0x100 ∷ []) (omega arith, (omega arith, (omega arith, tt)))

pub all-bytes : (ws : List ℕ) → Bytes (bytes_in ws)
unfolding bytes_in
all-bytes [] = tt
all-bytes (w ∷ ws) = append-bytes (cond (eqb (kind_in w) 5) (data_bytes w) []) (bytes_in ws) (go (eqb (kind_in w) 5)) (all-bytes ws)
  where
    go : (t : Bool) → Bytes (cond t (data_bytes w) [])
    go true = word_bytes w
    go false = tt

-- ---- words of so many bytes

-- a word of one, two and three bytes
module _ (w : ℕ) where
  abbrev a : ℕ
  a = w / 0x10000 % 0x100

  abbrev b : ℕ
  b = w / 0x100 % 0x100

  abbrev c : ℕ
  c = w % 0x100

  upper : (n : ℕ) → w / 0x1000000 ≡ 0x50 + n → w / 0x10000 ≡ (0x50 + n) * 0x100 + a
  upper n e =
      let q : w / 0x10000 / 0x100 ≡ w / 0x1000000 = omega arith in
      let r : w / 0x10000 ≡ w / 0x10000 / 0x100 * 0x100 + w / 0x10000 % 0x100 = omega arith in
      omega arith

  middle : w / 0x100 ≡ w / 0x10000 * 0x100 + b
  middle =
      let q : w / 0x100 / 0x100 ≡ w / 0x10000 = omega arith in
      let r : w / 0x100 ≡ w / 0x100 / 0x100 * 0x100 + w / 0x100 % 0x100 = omega arith in
      omega arith

  made_one : w / 0x1000000 ≡ 0x51 → w % 0x10000 ≡ 0 → w ≡ byte_word 1 a 0 0
  made_one e z = let u = upper 1 e in omega arith

  made-two : w / 0x1000000 ≡ 0x52 → w % 0x100 ≡ 0 → w ≡ byte_word 2 a b 0
  made-two e z =
      let u = upper 2 e in
      let m = middle in
      omega arith

  made-three : w / 0x1000000 ≡ 0x53 → w ≡ byte_word 3 a b c
  made-three e =
      let u = upper 3 e in
      let m = middle in
      omega arith

  kind-five : (n : ℕ) → n ≤ 3 → w / 0x1000000 ≡ 0x50 + n → kind_in w ≡ 5
  kind-five n h e = omega arith

  -- the bytes of a word of n
  count-bytes : (n : ℕ) (ws : List ℕ) → n ≤ 3 → w / 0x1000000 ≡ 0x50 + n → bytes_in (w ∷ ws) ≡ take n (a ∷ b ∷ c ∷ []) ++ bytes_in ws
  unfolding data_bytes
  count-bytes n ws h e =
      let m : (0x50 + n) % 4 ≡ n = omega arith in
      bytes-more w ws (kind-five n h e) ∙ ap (λ (k : ℕ). take k (a ∷ b ∷ c ∷ []) ++ bytes_in ws) (ap (λ (q : ℕ). q % 4) e ∙ m)

  -- what a word that fits is made of
  pub fits-is : (left : ℕ) → bytes_fit left w ≡ true → (w / 0x1000000 ≡ 0x50 + min 3 left) × (unused_clear (min 3 left) w ≡ true)
  unfolding bytes_fit byte_fits
  fits-is left e =
      let p = both (not (eqb left 0)) (eqb (w / 0x1000000) (0x50 + min 3 left) && unused_clear (min 3 left) w) e in
      let q = both (eqb (w / 0x1000000) (0x50 + min 3 left)) (unused_clear (min 3 left) w) p.1 in
      (eqb-true (w / 0x1000000) (0x50 + min 3 left) q.0, q.1)

empty : (l : List ℕ) → length l ≡ 0 → l ≡ []
empty [] e = refl
empty (x ∷ l) e = absurd (omega arith)

-- words that are those of so many bytes are those of the bytes that they have
pub rest_back : (left : ℕ) (ws : List ℕ) → are_bytes left ws ≡ true → (byte_words (bytes_in ws) ≡ ws) × (length (bytes_in ws) ≡ left)
unfolding are_bytes bytes_in byte_words data_words unused_clear bytes_fit
rest_back left [] e = (refl, sym (eqb-true left 0 e))
rest_back zero (w ∷ ws) e = absurd (true≢false (sym e))
rest_back (suc zero) (w ∷ ws) e =
    let p = both (bytes_fit 1 w) (are_bytes (1 - 3) ws) e in
    let f = fits-is w 1 p.0 in
    let q = rest_back (1 - 3) ws p.1 in
    let n : bytes_in ws ≡ [] = empty (bytes_in ws) q.1 in
    let t : bytes_in (w ∷ ws) ≡ w / 0x10000 % 0x100 ∷ [] = count-bytes w 1 ws (omega arith) f.0 ∙ ap (λ (l : List ℕ). w / 0x10000 % 0x100 ∷ l) n in
    let z : ws ≡ [] = sym q.0 ∙ ap byte_words n in
    let u : w % 0x10000 ≡ 0 = eqb-true (w % 0x10000) 0 f.1 in (
      ap byte_words t ∙ ap₂ ◌∷◌ (sym (made_one w f.0 u)) (sym z),
      ap length t,
    )
rest_back (suc (suc zero)) (w ∷ ws) e =
    let p = both (bytes_fit 2 w) (are_bytes (2 - 3) ws) e in
    let f = fits-is w 2 p.0 in
    let q = rest_back (2 - 3) ws p.1 in
    let n : bytes_in ws ≡ [] = empty (bytes_in ws) q.1 in
    let t : bytes_in (w ∷ ws) ≡ w / 0x10000 % 0x100 ∷ w / 0x100 % 0x100 ∷ [] = count-bytes w 2 ws (omega arith) f.0 ∙ ap (λ (l : List ℕ). w / 0x10000 % 0x100 ∷ w / 0x100 % 0x100 ∷ l) n in
    let z : ws ≡ [] = sym q.0 ∙ ap byte_words n in
    let u : w % 0x100 ≡ 0 = eqb-true (w % 0x100) 0 f.1 in (
      ap byte_words t ∙ ap₂ ◌∷◌ (sym (made-two w f.0 u)) (sym z),
      ap length t,
    )
rest_back (suc (suc (suc left))) (w ∷ ws) e =
    let m : min 3 (suc (suc (suc left))) ≡ 3 = omega arith in
    let d : suc (suc (suc left)) - 3 ≡ left = omega arith in
    let p = both (bytes_fit (suc (suc (suc left))) w) (are_bytes (suc (suc (suc left)) - 3) ws) e in
    let f : w / 0x1000000 ≡ 0x53 = (fits-is w (suc (suc (suc left))) p.0).0 ∙ ap (λ (k : ℕ). 0x50 + k) m in
    let q = rest_back left ws (ap (λ (k : ℕ). are_bytes k ws) (sym d) ∙ p.1) in
    let t : bytes_in (w ∷ ws) ≡ w / 0x10000 % 0x100 ∷ w / 0x100 % 0x100 ∷ w % 0x100 ∷ bytes_in ws = count-bytes w 3 ws (omega arith) f in (
      ap byte_words t ∙ ap₂ ◌∷◌ (sym (made-three w f)) q.0,
      ap length t ∙ ap (λ (k : ℕ). suc (suc (suc k))) q.1,
    )

-- a word of bytes fits where these are still to come
module _ (left n x y z : ℕ) (hn : n ≤ 3) (some : eqb left 0 ≡ false) (m : min 3 left ≡ n) (hx : x < 256) (hy : y < 256) (hz : z < 256) where
  one-fits : unused_clear n (byte_word n x y z) ≡ true → bytes_fit left (byte_word n x y z) ≡ true
  unfolding bytes_fit byte_fits
  one-fits u =
      let e : byte_word n x y z / 0x1000000 ≡ 0x50 + n = omega arith in
      rw (some, m) (one-and (eqb (byte_word n x y z / 0x1000000) (0x50 + n)) (unused_clear n (byte_word n x y z)) (eq-eqb (byte_word n x y z / 0x1000000) (0x50 + n) e) u)

pub rest-words : (l : List ℕ) → Bytes l → are_bytes (length l) (byte_words l) ≡ true
unfolding are_bytes byte_words data_words unused_clear
rest-words [] h = refl
rest-words (x ∷ []) h =
    let u : byte_word 1 x 0 0 % 0x10000 ≡ 0 = omega arith in
    one-and (bytes_fit 1 (byte_word 1 x 0 0)) true (one-fits 1 1 x 0 0 (omega arith) refl refl h.0 (omega arith) (omega arith) (eq-eqb (byte_word 1 x 0 0 % 0x10000) 0 u)) refl
rest-words (x ∷ y ∷ []) h =
    let u : byte_word 2 x y 0 % 0x100 ≡ 0 = omega arith in
    one-and (bytes_fit 2 (byte_word 2 x y 0)) true (one-fits 2 2 x y 0 (omega arith) refl refl h.0 h.1.0 (omega arith) (eq-eqb (byte_word 2 x y 0 % 0x100) 0 u)) refl
rest-words (x ∷ y ∷ z ∷ l) h =
    let n : ℕ = length (x ∷ y ∷ z ∷ l) in
    let m : min 3 n ≡ 3 = omega arith in
    let d : n - 3 ≡ length l = omega arith in
    one-and (bytes_fit n (byte_word 3 x y z)) (are_bytes (n - 3) (byte_words l))
    (one-fits n 3 x y z (omega arith) (ne_eqb n 0 (λ q. omega arith)) m h.0 h.1.0 h.1.1.0 refl)
    (ap (λ (k : ℕ). are_bytes k (byte_words l)) d ∙ rest-words l h.1.1.1)

-- byte j stands in word j / 3
pub byte_at : (left : ℕ) (ws : List ℕ) (j : ℕ) → are_bytes left ws ≡ true → j < left → get_or (bytes_in ws) j 0 ≡ byte_in (get_or ws (j / 3) 0) (j % 3)
unfolding are_bytes
byte_at left [] j e h = absurd (let z = eqb-true left 0 e in omega arith)
byte_at zero (w ∷ ws) j e h = absurd (omega arith)
byte_at (suc left) (w ∷ ws) j e h = go left j (fits-is w (suc left) p.0).0 h (λ k g. byte_at (suc left - 3) ws k p.1 g)
  where
    p : (bytes_fit (suc left) w ≡ true) × (are_bytes (suc left - 3) ws ≡ true)
    p = both (bytes_fit (suc left) w) (are_bytes (suc left - 3) ws) e

    go : (left j : ℕ) → w / 0x1000000 ≡ 0x50 + min 3 (suc left) → j < suc left
        → ((k : ℕ) → k < suc left - 3 → get_or (bytes_in ws) k 0 ≡ byte_in (get_or ws (k / 3) 0) (k % 3))
        → get_or (bytes_in (w ∷ ws)) j 0 ≡ byte_in (get_or (w ∷ ws) (j / 3) 0) (j % 3)
    go zero zero f g r = ap (λ (l : List ℕ). get_or l 0 0) (count-bytes w 1 ws (omega arith) f)
    go zero (suc j) f g r = absurd (omega arith)
    go (suc zero) zero f g r = ap (λ (l : List ℕ). get_or l 0 0) (count-bytes w 2 ws (omega arith) f)
    go (suc zero) (suc zero) f g r = ap (λ (l : List ℕ). get_or l 1 0) (count-bytes w 2 ws (omega arith) f)
    go (suc zero) (suc (suc j)) f g r = absurd (omega arith)
    go (suc (suc left)) zero f g r = ap (λ (l : List ℕ). get_or l 0 0) (full left f)
      where
        full : (left : ℕ) → w / 0x1000000 ≡ 0x50 + min 3 (suc (suc (suc left))) → bytes_in (w ∷ ws) ≡ w / 0x10000 % 0x100 ∷ w / 0x100 % 0x100 ∷ w % 0x100 ∷ bytes_in ws
        full left f = let m : min 3 (suc (suc (suc left))) ≡ 3 = omega arith in count-bytes w 3 ws (omega arith) (f ∙ ap (λ (k : ℕ). 0x50 + k) m)
    go (suc (suc left)) (suc zero) f g r =
        let m : min 3 (suc (suc (suc left))) ≡ 3 = omega arith in
        ap (λ (l : List ℕ). get_or l 1 0) (count-bytes w 3 ws (omega arith) (f ∙ ap (λ (k : ℕ). 0x50 + k) m))
    go (suc (suc left)) (suc (suc zero)) f g r =
        let m : min 3 (suc (suc (suc left))) ≡ 3 = omega arith in
        ap (λ (l : List ℕ). get_or l 2 0) (count-bytes w 3 ws (omega arith) (f ∙ ap (λ (k : ℕ). 0x50 + k) m))
    go (suc (suc left)) (suc (suc (suc j))) f g r =
        let m : min 3 (suc (suc (suc left))) ≡ 3 = omega arith in
        let d : suc (suc (suc j)) / 3 ≡ suc (j / 3) = omega arith in
        let o : suc (suc (suc j)) % 3 ≡ j % 3 = omega arith in
        ap (λ (l : List ℕ). get_or l (suc (suc (suc j))) 0) (count-bytes w 3 ws (omega arith) (f ∙ ap (λ (k : ℕ). 0x50 + k) m))
        ∙ r j (omega arith) ∙ ap₂ (λ (x y : ℕ). byte_in (get_or (w ∷ ws) x 0) y) (sym d) (sym o)

-- the words of so many bytes from a place on
module _ (left from : ℕ) (ws : List ℕ) (e : are_bytes left (drop from ws) ≡ true) where
  pub rest-count : length (bytes_in (drop from ws)) ≡ left
  rest-count = (rest_back left (drop from ws) e).1

  pub rest-room : (j : ℕ) → j < left → from + j / 3 < length ws
  rest-room j h =
      let k : length (drop from ws) ≡ (left + 2) / 3 = sym (ap length (rest_back left (drop from ws) e).0) ∙ bytes-length (bytes_in (drop from ws)) ∙ ap (λ (n : ℕ). (n + 2) / 3) rest-count in
      omega (arith, length-drop from ws)

  pub byte-from : (j : ℕ) → j < left → byte_in (get_or ws (from + j / 3) 0) (j % 3) ≡ get_or (bytes_in (drop from ws)) j 0
  byte-from j h = sym (byte_at left (drop from ws) j e h ∙ ap (λ (w : ℕ). byte_in w (j % 3)) (get_or-drop from ws (j / 3) 0))

-- ---- a list cut where one of its two parts begins

cut_at : (l m ws : List ℕ) (end : ℕ) → l ++ m ≡ ws → drop end ws ≡ m → end ≤ length ws → take end ws ≡ l
cut_at l m ws end e d h =
    let k : end ≡ length l = omega (arith, length-append l m, ap length e, ap length d, length-drop end ws) in
    ap₂ take k (sym e) ∙ take_at l m (length l) refl

-- ---- the form, by parts

module _ (ws : List ℕ) where
  abbrev pub front : List ℕ
  front = head_words (kinds_in ws) (receiver_in ws)

  abbrev counts : List ℕ
  counts = count_words (receiver_in ws)

  said-counted : Counted (receiver_in ws)
  unfolding receiver_in
  said-counted = record { delivered = omega arith; missing = omega arith; last = omega arith }

  said-in-bits : InBits (head_parts (kinds_in ws) (receiver_in ws))
  unfolding receiver_in
  said-in-bits =
      let r : Receiver = receiver_in ws in
      let p = programs-small r.serviced r.services r.entitled (omega arith) (omega arith) in (
        omega arith,
        omega arith,
        (omega arith, omega arith, (omega arith, omega arith, (omega arith, omega arith, (omega (arith, p), omega arith, tt)))),
      )

  -- the words before the held bytes have none
  pub front_bytes : (rest : List ℕ) → bytes_in (front ++ rest) ≡ bytes_in rest
  front_bytes rest = ap (λ (l : List ℕ). bytes_in (l ++ rest)) (head-parts (kinds_in ws) (receiver_in ws)) ∙ bytes-parts (head_parts (kinds_in ws) (receiver_in ws)) rest said-in-bits

  -- of the words of the receiver that they say, those from the first of kind 6 on are the counts
  counts-said : from_kind 6 (front ++ (byte_words (bytes_in ws) ++ counts)) ≡ counts
  counts-said =
      ap (λ (l : List ℕ). from_kind 6 (l ++ (byte_words (bytes_in ws) ++ counts))) (head-parts (kinds_in ws) (receiver_in ws))
      ∙ counts-parts (head_parts (kinds_in ws) (receiver_in ws)) (byte_words (bytes_in ws) ++ counts) said-in-bits
      ∙ counts-bytes (bytes_in ws) counts (all-bytes ws) ∙ from-counts (receiver_in ws) said-counted

  -- where the first word of kind 6 stands
  module _ (end : ℕ) (at : drop end ws ≡ from_kind 6 ws) (within : end ≤ length ws) where
    -- the words before it, and those of them behind the front
    abbrev before : List ℕ
    before = take end ws

    abbrev rest : List ℕ
    rest = drop (length front) before

    abbrev by_parts : Bool
    by_parts = same_list counts (drop end ws) && is_front (kinds_in ws) (receiver_in ws) before

    forth : is_form ws ≡ true → by_parts ≡ true
    unfolding is_form words_with is_front
    forth e =
        let w : List ℕ = byte_words (bytes_in ws) in
        let p = both (eqb (length (bytes_in ws)) (receiver_in ws).held) (same_list (front ++ (w ++ counts)) ws) e in
        let q : front ++ (w ++ counts) ≡ ws = same_true (front ++ (w ++ counts)) ws p.1 in
        let c : drop end ws ≡ counts = at ∙ ap (from_kind 6) (sym q) ∙ counts-said in
        let b : before ≡ front ++ w = cut_at (front ++ w) counts ws end (append_assoc front w counts ∙ q) c within in
        let d : rest ≡ w = ap (drop (length front)) b ∙ drop-append_seam front w in
        one-and (same_list counts (drop end ws)) (begins_with front before && are_bytes (receiver_in ws).held rest)
        (ap (same_list counts) c ∙ same-itself counts)
        (one-and (begins_with front before) (are_bytes (receiver_in ws).held rest)
        (ap (begins_with front) b ∙ begins-itself front w)
        (ap₂ are_bytes (sym (eqb-true (length (bytes_in ws)) (receiver_in ws).held p.0)) d ∙ rest-words (bytes_in ws) (all-bytes ws)))

    module _ (c : same_list counts (drop end ws) ≡ true) (b : begins_with front before ≡ true) (t : are_bytes (receiver_in ws).held rest ≡ true) where
      whole : front ++ (rest ++ counts) ≡ ws
      whole =
          sym (append_assoc front rest counts)
          ∙ ap (λ (l : List ℕ). l ++ counts) (begins-true front before b) ∙ ap (λ (l : List ℕ). before ++ l) (same_true counts (drop end ws) c) ∙ take-append-drop end ws

      -- the bytes are those between front and counts
      rest-bytes : bytes_in rest ≡ bytes_in ws
      rest-bytes =
          sym (append-nil (bytes_in rest))
          ∙ ap (λ (l : List ℕ). bytes_in rest ++ l) (sym (bytes-counts (receiver_in ws) said-counted))
          ∙ sym (bytes_back (bytes_in rest) counts (all-bytes rest))
          ∙ ap (λ (l : List ℕ). bytes_in (l ++ counts)) (rest_back (receiver_in ws).held rest t).0 ∙ sym (front_bytes (rest ++ counts)) ∙ ap bytes_in whole

      back : is_form ws ≡ true
      unfolding is_form words_with
      back =
          let k = rest_back (receiver_in ws).held rest t in
          let q : front ++ (byte_words (bytes_in ws) ++ counts) ≡ ws =
          ap (λ (l : List ℕ). front ++ (byte_words l ++ counts)) (sym rest-bytes) ∙ ap (λ (l : List ℕ). front ++ (l ++ counts)) k.0 ∙ whole in
          one-and (eqb (length (bytes_in ws)) (receiver_in ws).held) (same_list (front ++ (byte_words (bytes_in ws) ++ counts)) ws)
          (eq-eqb (length (bytes_in ws)) (receiver_in ws).held (ap length (sym rest-bytes) ∙ k.1))
          (ap (λ (l : List ℕ). same_list l ws) q ∙ same-itself ws)

    parts : by_parts ≡ true → (same_list counts (drop end ws) ≡ true) × (begins_with front before ≡ true) × (are_bytes (receiver_in ws).held rest ≡ true)
    unfolding is_front
    parts e =
        let p = both (same_list counts (drop end ws)) (begins_with front before && are_bytes (receiver_in ws).held rest) e in
        let q = both (begins_with front before) (are_bytes (receiver_in ws).held rest) p.1 in
        (p.0, q.0, q.1)

    pub form-steps : by_parts ≡ is_form ws
    form-steps = agree by_parts (is_form ws) (λ e. let p = parts e in back p.0 p.1 p.2) forth

    pub form-rest : is_form ws ≡ true → (bytes_in rest ≡ bytes_in ws) × (are_bytes (receiver_in ws).held rest ≡ true)
    form-rest e = let p = parts (forth e) in (rest-bytes p.0 p.1 p.2, p.2)
