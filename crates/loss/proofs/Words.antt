-- The column after the words of entries is the tally of the entries.
use Rattle.std.proofs.Common.{◌≡◌, ℕ, suc, ◌+◌, ◌/◌, ◌%◌, ◌<◌, ◌≤◌, true, false, cond, eqb, List, [], ◌∷◌, ◌++◌, length, get_or, drop, sym, refl, ap, ◌∙◌, add-one, arith, drop_of_length-le, drop-cons, eq-eqb, ne_eqb}
use Rattle.packet_log.specs.Log.{Entry, packet, psd, note, word, data_word, data_words, entry_words, log_words, kind_of}
use Rattle.packet_log.proofs.Packets.{Bytes, FitAll}
use Rattle.reassembly.specs.Tally.{Tally, gap, counted, tallied, Grows, Countable}
use Rattle.reassembly.proofs.Tallies.{tally-grows}
use Rattle.loss.specs.Column.{wrapped, after_word, after_words}

-- ---- word by word

pub words_append : (a b : List ℕ) (t : Tally) → after_words t (a ++ b) ≡ after_words (after_words t a) b
unfolding after_words
words_append [] b t = refl
words_append (w ∷ a) b t = words_append a b (after_word t w)

-- a loop over the words of a log: a word more, and the end
pub words-next : (log : List ℕ) (i : ℕ) (t : Tally) → i < length log → after_words (after_word t (get_or log i 0)) (drop (i + 1) log) ≡ after_words t (drop i log)
unfolding after_words
words-next log i t h = let e : drop i log ≡ get_or log i 0 ∷ drop (i + 1) log = rw (add-one i) (drop-cons log i 0 h) in rw e

pub words-end : (log : List ℕ) (i : ℕ) (t : Tally) → length log ≤ i → t ≡ after_words t (drop i log)
unfolding after_words
words-end log i t h = let e : drop i log ≡ [] = drop_of_length-le log {i = i} h in rw e

-- a word of another kind
pub not-counted : (t : Tally) (w : ℕ) → ¬ (kind_of w ≡ 0) → after_word t w ≡ t
unfolding after_word
not-counted t w h = let e : eqb (kind_of w) 0 ≡ false = ne_eqb (kind_of w) 0 h in rw e

-- a packet's first
pub counts : (t : Tally) (w : ℕ) → kind_of w ≡ 0 → after_word t w ≡ wrapped (counted (wrapped t) (w / 0x10000 % 64))
unfolding after_word
counts t w h = let e : eqb (kind_of w) 0 ≡ true = eq-eqb (kind_of w) 0 h in rw e

-- its counts as sums of 32 bits: g is what it adds to missing
pub sums : (t : Tally) (n d m g : ℕ) → t.delivered < 0x100000000 → t.missing < 0x100000000 → n < 64 → d ≡ (t.delivered + 1) % 0x100000000
    → g ≡ cond (eqb t.delivered 0) 0 (gap (t.last % 64) (n % 64)) → m ≡ (t.missing + g) % 0x100000000
    → record { delivered = d; missing = m; last = n } ≡ wrapped (counted (wrapped t) n)
unfolding counted
sums t n d m g p q h ed eg em =
    let dp : t.delivered % 0x100000000 ≡ t.delivered = omega (arith, p) in
    let mp : t.missing % 0x100000000 ≡ t.missing = omega (arith, q) in
    let np : n % 64 ≡ n = omega (arith, h) in
    let more : (t.missing + g) % 0x100000000 ≡ (t.missing % 0x100000000 + cond (eqb (t.delivered % 0x100000000) 0) 0 (gap (t.last % 64) n)) % 0x100000000 = rw (eg, dp, mp, np) refl in
    let one : d ≡ suc (t.delivered % 0x100000000) % 0x100000000 = omega (arith, ed, p) in
    let missed = em ∙ more in
    λ i. record { delivered = one i; missing = missed i; last = sym np i }

-- ---- entries

-- a tally within its widths
within : (t : Tally) → Countable t → t.last ≤ 63 → wrapped t ≡ t
within t c l =
    let d : t.delivered % 0x100000000 ≡ t.delivered = omega (arith, c.0) in
    let m : t.missing % 0x100000000 ≡ t.missing = omega (arith, c.1) in
    let n : t.last % 64 ≡ t.last = omega (arith, l) in
    λ i. record { delivered = d i; missing = m i; last = n i }

-- counts that are no higher fit where higher ones do
lower-fits : (t u : Tally) → Grows t u → Countable u → Countable t
lower-fits t u g c = (omega (arith, g.delivered, c.0), omega (arith, g.missing, c.1))

-- the first word of a packet
delivery : (t : Tally) (n l : ℕ) → n < 64 → l < 65536 → t.last ≤ 63 → Countable t → Countable (counted t n) → after_word t (word 0 n l) ≡ counted t n
delivery t n l h b k c d =
    let q : word 0 n l / 0x10000 ≡ n = omega (arith, b) in
    let r : n % 64 ≡ n = omega (arith, h) in
    counts t (word 0 n l) (omega (arith, h, b))
    ∙ ap (λ (x : ℕ). wrapped (counted (wrapped t) (x % 64))) q
    ∙ ap (λ (x : ℕ). wrapped (counted (wrapped t) x)) r
    ∙ ap (λ (x : Tally). wrapped (counted x n)) (within t c k)
    ∙ within (counted t n) d (unfold counted in omega (arith, h))

-- data words
one-data : (t : Tally) (n a b c : ℕ) (ws : List ℕ) → n ≤ 3 → a < 256 → b < 256 → c < 256 → after_words t (data_word n a b c ∷ ws) ≡ after_words t ws
unfolding after_words
one-data t n a b c ws h p q r = ap (λ (x : Tally). after_words x ws) (not-counted t (data_word n a b c) (λ e. omega (arith, h, p, q, r, e)))

all-data : (t : Tally) (b ws : List ℕ) → Bytes b → after_words t (data_words b ++ ws) ≡ after_words t ws
unfolding data_words
all-data t [] ws h = refl
all-data t (a ∷ []) ws h = one-data t 1 a 0 0 ws (omega arith) h.0 (omega arith) (omega arith)
all-data t (a ∷ b ∷ []) ws h = one-data t 2 a b 0 ws (omega arith) h.0 h.1.0 (omega arith)
all-data t (a ∷ b ∷ c ∷ rest) ws h = one-data t 3 a b c (data_words rest ++ ws) (omega arith) h.0 h.1.0 h.1.1.0 ∙ all-data t rest ws h.1.1.1

-- where neither count passes 4,294,967,295
pub entries-tallied : (es : List Entry) (t : Tally) → FitAll es → t.last ≤ 63 → Countable (tallied t es) → after_words t (log_words es) ≡ tallied t es
unfolding after_words log_words entry_words tallied
entries-tallied [] t f l c = refl
entries-tallied (packet n bytes ∷ es) t f l c =
    let u = counted t n in
    let fits = lower-fits u (tallied u es) (tally-grows es u) c in
    let before = lower-fits t u (unfold counted in record { delivered = omega arith; missing = omega arith }) fits in
    ap (λ (x : Tally). after_words x (data_words bytes ++ log_words es)) (delivery t n (length bytes) f.0.0 (omega (arith, f.0.1)) l before fits)
    ∙ all-data u bytes (log_words es) f.0.2
    ∙ entries-tallied es u f.1 (unfold counted in omega (arith, f.0.0)) c
entries-tallied (psd bytes ∷ es) t f l c =
    ap (λ (x : Tally). after_words x (data_words bytes ++ log_words es)) (not-counted t (word 2 0 (length bytes)) (λ e. omega (arith, f.0.0, e)))
    ∙ all-data t bytes (log_words es) f.0.1
    ∙ entries-tallied es t f.1 l c
entries-tallied (note cause piece ∷ es) t f l c =
    ap (λ (x : Tally). after_words x (log_words es)) (not-counted t (word 3 cause piece) (λ e. omega (arith, f.0.0, f.0.1, e))) ∙ entries-tallied es t f.1 l c
