-- Words read as entries: reading undoes the layout, and what is read fits its bits.
use mathlib.Core.Path.{◌≡◌, refl, ap, ap₂, ◌∙◌}
use mathlib.Core.Bool.{Bool, true, false, ◌&&◌, cond}
use mathlib.Core.List.{List, [], ◌∷◌, ◌++◌, append-nil}
use Prim.Native.Nat.{ℕ, zero, suc, ◌/◌, ◌%◌, ◌<◌, ◌≤◌}
use native.Mathlib.Omega.{arith}
use lib.Dec.{eqb, leb, ltb}
use lib.ListN.{length, take}
use borrow.Author.Tests.{eq-eqb, ne_eqb, leb-true, ltb-true}
use Rattle.bits.proofs.Tests.{both}
use Rattle.packet_log.specs.Log.{Entry, packet, psd, note, word, data_word, data_words, entry_words, log_words, kind_of, same_list, data_bytes}
use Rattle.packet_log.proofs.Packets.{Bytes, FitAll}
use Rattle.packet_log.proofs.Same.{same-itself, same_true}
use Rattle.join.specs.Join.{data_of, begun_entry, entries_of, sized, all_sized, is_log}
use Rattle.join.proofs.Fields.{kind-of, high-of, low_of, number_of, data-kind, data-bytes, high-most, low-most, number-most}

-- ---- data words

-- what passes over each data word passes over all of them
pub past-data : {A : Type 0} (f : List ℕ → A) → ((w : ℕ) (ws : List ℕ) → kind_of w ≡ 1 → f (w ∷ ws) ≡ f ws)
    → (bytes ws : List ℕ) → Bytes bytes → f (data_words bytes ++ ws) ≡ f ws
unfolding data_words
past-data f p [] ws h = refl
past-data f p (a ∷ []) ws h = p (data_word 1 a 0 0) ws (data-kind 1 a 0 0 (omega arith) h.0 (omega arith) (omega arith))
past-data f p (a ∷ b ∷ []) ws h = p (data_word 2 a b 0) ws (data-kind 2 a b 0 (omega arith) h.0 h.1.0 (omega arith))
past-data f p (a ∷ b ∷ c ∷ rest) ws h =
    p (data_word 3 a b c) (data_words rest ++ ws) (data-kind 3 a b c (omega arith) h.0 h.1.0 h.1.1.0) ∙ past-data f p rest ws h.1.1.1

-- a log is empty or begins with a word that is no data word
pub begins : (P : List ℕ → Type 0) → P [] → ((w : ℕ) (ws : List ℕ) → (kind_of w ≡ 1 → ⊥) → P (w ∷ ws)) → (es : List Entry) → FitAll es → P (log_words es)
unfolding log_words entry_words
begins P p q [] h = p
begins P p q (packet n bytes ∷ es) h =
    let k : kind_of (word 0 n (length bytes)) ≡ 0 = kind-of 0 n (length bytes) (omega arith) (omega (arith, h.0.0)) (omega (arith, h.0.1)) in
    q (word 0 n (length bytes)) (data_words bytes ++ log_words es) (λ e. omega arith)
begins P p q (psd bytes ∷ es) h =
    let k : kind_of (word 2 0 (length bytes)) ≡ 2 = kind-of 2 0 (length bytes) (omega arith) (omega arith) h.0.0 in
    q (word 2 0 (length bytes)) (data_words bytes ++ log_words es) (λ e. omega arith)
begins P p q (note cause piece ∷ es) h =
    let k : kind_of (word 3 cause piece) ≡ 3 = kind-of 3 cause piece (omega arith) h.0.0 h.0.1 in
    q (word 3 cause piece) (log_words es) (λ e. omega arith)

data-more : (w : ℕ) (ws : List ℕ) → kind_of w ≡ 1 → data_of (w ∷ ws) ≡ data_bytes w ++ data_of ws
unfolding data_of
data-more w ws e = rw (eq-eqb (kind_of w) 1 e)

data-none : (w : ℕ) (ws : List ℕ) → (kind_of w ≡ 1 → ⊥) → data_of (w ∷ ws) ≡ []
unfolding data_of
data-none w ws e = rw (ne_eqb (kind_of w) 1 e)

module _ (n a b c : ℕ) (ws : List ℕ) (hn : n ≤ 3) (ha : a < 256) (hb : b < 256) (hc : c < 256) where
  one-back : data_of (data_word n a b c ∷ ws) ≡ take n (a ∷ b ∷ c ∷ []) ++ data_of ws
  one-back =
      data-more (data_word n a b c) ws (data-kind n a b c hn ha hb hc)
      ∙ ap (λ (r : List ℕ). r ++ data_of ws) (data-bytes n a b c hn ha hb hc)

data-back : (bytes ws : List ℕ) → Bytes bytes → data_of (data_words bytes ++ ws) ≡ bytes ++ data_of ws
unfolding data_words
data-back [] ws h = refl
data-back (a ∷ []) ws h = one-back 1 a 0 0 ws (omega arith) h.0 (omega arith) (omega arith)
data-back (a ∷ b ∷ []) ws h = one-back 2 a b 0 ws (omega arith) h.0 h.1.0 (omega arith)
data-back (a ∷ b ∷ c ∷ rest) ws h =
    one-back 3 a b c (data_words rest ++ ws) (omega arith) h.0 h.1.0 h.1.1.0
    ∙ ap (λ (r : List ℕ). a ∷ b ∷ c ∷ r) (data-back rest ws h.1.1.1)

bytes_back : (bytes : List ℕ) (es : List Entry) → Bytes bytes → FitAll es → data_of (data_words bytes ++ log_words es) ≡ bytes
bytes_back bytes es b h =
    data-back bytes (log_words es) b
    ∙ ap (λ (r : List ℕ). bytes ++ r) (begins (λ (ws : List ℕ). data_of ws ≡ []) (unfold data_of in refl) data-none es h)
    ∙ append-nil bytes

-- ---- reading undoes the layout

by_kind : (k w : ℕ) (ws : List ℕ) → kind_of w ≡ k → entries_of (w ∷ ws) ≡ begun_entry k w ws ++ entries_of ws
unfolding entries_of
by_kind k w ws e = rw e

past_one : (w : ℕ) (ws : List ℕ) → kind_of w ≡ 1 → entries_of (w ∷ ws) ≡ entries_of ws
unfolding begun_entry
past_one w ws e = by_kind 1 w ws e

pub entries-back : (es : List Entry) → FitAll es → entries_of (log_words es) ≡ es
unfolding log_words entry_words begun_entry
entries-back [] h = unfold entries_of in refl
entries-back (packet n bytes ∷ es) h =
    let l : length bytes < 65536 = omega (arith, h.0.1) in
    by_kind 0 (word 0 n (length bytes)) (data_words bytes ++ log_words es) (kind-of 0 n (length bytes) (omega arith) (omega (arith, h.0.0)) l)
    ∙ ap₂ ◌∷◌ (ap₂ packet (number_of n (length bytes) h.0.0 l) (bytes_back bytes es h.0.2 h.1))
    (past-data entries_of past_one bytes (log_words es) h.0.2 ∙ entries-back es h.1)
entries-back (psd bytes ∷ es) h =
    by_kind 2 (word 2 0 (length bytes)) (data_words bytes ++ log_words es) (kind-of 2 0 (length bytes) (omega arith) (omega arith) h.0.0)
    ∙ ap₂ ◌∷◌ (ap psd (bytes_back bytes es h.0.1 h.1)) (past-data entries_of past_one bytes (log_words es) h.0.1 ∙ entries-back es h.1)
entries-back (note cause piece ∷ es) h =
    by_kind 3 (word 3 cause piece) (log_words es) (kind-of 3 cause piece (omega arith) h.0.0 h.0.1)
    ∙ ap₂ ◌∷◌ (ap₂ note (high-of 3 cause piece (omega arith) h.0.0 h.0.1) (low_of 3 cause piece (omega arith) h.0.0 h.0.1)) (entries-back es h.1)

-- ---- what is read fits its bits, where lengths are in range

bytes-some : (n a b c : ℕ) → a < 256 → b < 256 → c < 256 → Bytes (take n (a ∷ b ∷ c ∷ []))
bytes-some zero a b c p q r = tt
bytes-some (suc zero) a b c p q r = (p, tt)
bytes-some (suc (suc zero)) a b c p q r = (p, (q, tt))
bytes-some (suc (suc (suc zero))) a b c p q r = (p, (q, (r, tt)))
bytes-some (suc (suc (suc (suc n)))) a b c p q r = (p, (q, (r, tt)))

bytes-append : (a b : List ℕ) → Bytes a → Bytes b → Bytes (a ++ b)
bytes-append [] b p q = q
bytes-append (x ∷ a) b p q = (p.0, bytes-append a b p.1 q)

bytes-data : (ws : List ℕ) → Bytes (data_of ws)
unfolding data_of data_bytes
bytes-data [] = tt
bytes-data (w ∷ ws) = go (eqb (kind_of w) 1) (bytes-data ws)
  where
    go : (t : Bool) → Bytes (data_of ws) → Bytes (cond t (data_bytes w ++ data_of ws) [])
    go true r =
        bytes-append (data_bytes w) (data_of ws)
        (bytes-some (w / 0x1000000 % 4) (w / 0x10000 % 0x100) (w / 0x100 % 0x100) (w % 0x100) (omega arith) (omega arith) (omega arith)) r
    go false r = tt

fit_at : (k w : ℕ) (ws : List ℕ) (es : List Entry) → FitAll es → all_sized (begun_entry k w ws ++ es) ≡ true → FitAll (begun_entry k w ws ++ es)
unfolding begun_entry all_sized sized
fit_at zero w ws es h e =
    let p = both (leb 1 (length (data_of ws)) && leb (length (data_of ws)) 4096) (all_sized es) e in
    let q = both (leb 1 (length (data_of ws))) (leb (length (data_of ws)) 4096) p.0 in
    ((number-most w, leb-true (length (data_of ws)) 4096 q.1, bytes-data ws), h)
fit_at (suc zero) w ws es h e = h
fit_at (suc (suc zero)) w ws es h e =
    let p = both (leb 1 (length (data_of ws)) && ltb (length (data_of ws)) 0x10000) (all_sized es) e in
    let q = both (leb 1 (length (data_of ws))) (ltb (length (data_of ws)) 0x10000) p.0 in
    ((ltb-true (length (data_of ws)) 0x10000 q.1, bytes-data ws), h)
fit_at (suc (suc (suc k))) w ws es h e = ((high-most w, low-most w), h)

sized-rest : (a b : List Entry) → all_sized (a ++ b) ≡ true → all_sized b ≡ true
unfolding all_sized
sized-rest [] b e = e
sized-rest (x ∷ a) b e = sized-rest a b (both (sized x) (all_sized (a ++ b)) e).1

pub fit-entries : (ws : List ℕ) → all_sized (entries_of ws) ≡ true → FitAll (entries_of ws)
unfolding entries_of
fit-entries [] e = tt
fit-entries (w ∷ ws) e = fit_at (kind_of w) w ws (entries_of ws) (fit-entries ws (sized-rest (begun_entry (kind_of w) w ws) (entries_of ws) e)) e

-- ---- a log is laid out from entries

-- the words of entries with lengths in range are a log
pub words-log : (es : List Entry) → FitAll es → all_sized es ≡ true → is_log (log_words es) ≡ true
unfolding is_log
words-log es h e = rw (entries-back es h, e) (same-itself (log_words es))

-- a log is the words of its entries
pub log-words : (ws : List ℕ) → is_log ws ≡ true → FitAll (entries_of ws) × (all_sized (entries_of ws) ≡ true) × (log_words (entries_of ws) ≡ ws)
unfolding is_log
log-words ws e =
    let p = both (all_sized (entries_of ws)) (same_list (log_words (entries_of ws)) ws) e in
    (fit-entries ws p.0, p.0, same_true (log_words (entries_of ws)) ws p.1)
