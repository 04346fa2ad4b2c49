-- Going through words one by one finds out whether they are a log.
use mathlib.Core.Path.{◌≡◌, refl, sym, ap, ap₂, subst, ◌∙◌}
use mathlib.Core.Bool.{Bool, true, false, ◌&&◌, true≢false}
use mathlib.Core.List.{List, [], ◌∷◌, ◌++◌}
use Prim.Native.Nat.{ℕ, zero, suc, ◌+◌, ◌-◌, ◌*◌, ◌/◌, ◌%◌, ◌<◌, ◌≤◌, min}
use native.Mathlib.Omega.{arith}
use lib.Dec.{eqb, leb, ltb}
use lib.ListN.{length}
use borrow.Author.Tests.{eqb-true, leb-true, ltb-true, eq-eqb, ne_eqb, le-leb, lt-ltb}
use Rattle.packet_log.specs.Log.{Entry, packet, psd, note, word, data_word, data_words, entry_words, log_words, kind_of}
use Rattle.packet_log.proofs.Packets.{Bytes, FitAll}
use Rattle.join.specs.Join.{high, low, entries_of, sized, all_sized, is_log}
use Rattle.join.specs.Scan.{head_fits_as, unused_zero, data_fits, fits, left_after, is_rest}
use Rattle.join.proofs.Fields.{kind-of, high-of, low_of, data-kind, data-high, data-low, from_fields, high-most, low-most, data-fields}
use Rattle.join.proofs.Tests.{unused-one, right-count, packet-length, psd-length, note-fits, fits_head, fits-data, after-note, after-head, after-data, head_of}
use Rattle.bits.proofs.Tests.{both, one-and}
use Rattle.join.proofs.Entries.{words-log, log-words}

-- ---- the words of entries pass

module _ (k h l : ℕ) (a : k ≤ 3) (b : h < 16384) (c : l < 65536) where
  head-fits : fits 0 (word k h l) ≡ head_fits_as k h l
  head-fits = sym (fits_head 0 (word k h l) refl) ∙ sym (head_of k h l (word k h l) (sym (kind-of k h l a b c)) (sym (high-of k h l a b c)) (sym (low_of k h l a b c)))

  head-left : (k ≡ 3 → ⊥) → left_after 0 (word k h l) ≡ l
  head-left e = sym (after-head 0 (word k h l) refl (λ f. e (sym (kind-of k h l a b c) ∙ f))) ∙ low_of k h l a b c

step : (left left' w : ℕ) (ws : List ℕ) → fits left w ≡ true → left_after left w ≡ left' → is_rest left (w ∷ ws) ≡ is_rest left' ws
unfolding is_rest
step left left' w ws e f = ap (λ (t : Bool). t && is_rest (left_after left w) ws) e ∙ ap (λ (k : ℕ). is_rest k ws) f

data-step : (n left left' a b c : ℕ) (ws : List ℕ) → n ≤ 3 → a < 256 → b < 256 → c < 256 → 0 < left → n ≡ min 3 left → left' ≡ left - 3
    → unused_zero n (b * 0x100 + c) ≡ true → is_rest left (data_word n a b c ∷ ws) ≡ is_rest left' ws
data-step n left left' a b c ws hn ha hb hc hl m e u =
    let q : (n * 0x100 + a) / 256 ≡ n = omega arith in
    step left left' (data_word n a b c) ws
    (sym (fits-data left (data_word n a b c) n hl m)
    ∙ sym (right-count n (data_word n a b c) (data-kind n a b c hn ha hb hc) (ap (λ (x : ℕ). x / 256) (data-high n a b c hn ha hb hc) ∙ q))
    ∙ ap (unused_zero n) (data-low n a b c hn ha hb hc) ∙ u)
    (sym (after-data left (data_word n a b c) left' hl e))

unused-1 : unused_zero 1 (0 * 0x100 + 0) ≡ true
unfolding unused_zero
unused-1 = refl

unused-3 : (l : ℕ) → unused_zero 3 l ≡ true
unfolding unused_zero
unused-3 l = refl

unused-2 : (b : ℕ) → unused_zero 2 (b * 0x100 + 0) ≡ true
unused-2 b = sym (unused-one 2 (b * 0x100 + 0) (λ e. omega arith) refl) ∙ eq-eqb ((b * 0x100 + 0) % 256) 0 (omega arith)

data-pass : (bytes ws : List ℕ) → Bytes bytes → is_rest (length bytes) (data_words bytes ++ ws) ≡ is_rest 0 ws
unfolding data_words
data-pass [] ws h = refl
data-pass (a ∷ []) ws h = data-step 1 1 0 a 0 0 ws (omega arith) h.0 (omega arith) (omega arith) (omega arith) (omega arith) (omega arith) unused-1
data-pass (a ∷ b ∷ []) ws h = data-step 2 2 0 a b 0 ws (omega arith) h.0 h.1.0 (omega arith) (omega arith) (omega arith) (omega arith) (unused-2 b)
data-pass (a ∷ b ∷ c ∷ rest) ws h =
    data-step 3 (suc (suc (suc (length rest)))) (length rest) a b c (data_words rest ++ ws) (omega arith) h.0 h.1.0 h.1.1.0 (omega arith) (omega arith) (omega arith)
    (unused-3 (b * 0x100 + c))
    ∙ data-pass rest ws h.1.1.1

words-pass : (es : List Entry) → FitAll es → all_sized es ≡ true → is_rest 0 (log_words es) ≡ true
unfolding log_words entry_words all_sized sized
words-pass [] h e = unfold is_rest in refl
words-pass (packet n bytes ∷ es) h e =
    let s = both (leb 1 (length bytes) && leb (length bytes) 4096) (all_sized es) e in
    let t = both (leb 1 (length bytes)) (leb (length bytes) 4096) s.0 in
    let p : n < 16384 = omega (arith, h.0.0) in
    let q : length bytes < 65536 = omega (arith, h.0.1) in
    step 0 (length bytes) (word 0 n (length bytes)) (data_words bytes ++ log_words es)
    (head-fits 0 n (length bytes) (omega arith) p q ∙ sym (packet-length n (length bytes) h.0.0 (leb-true 1 (length bytes) t.0)) ∙ t.1)
    (head-left 0 n (length bytes) (omega arith) p q (λ f. omega arith))
    ∙ data-pass bytes (log_words es) h.0.2 ∙ words-pass es h.1 s.1
words-pass (psd bytes ∷ es) h e =
    let s = both (leb 1 (length bytes) && ltb (length bytes) 0x10000) (all_sized es) e in
    let t = both (leb 1 (length bytes)) (ltb (length bytes) 0x10000) s.0 in
    step 0 (length bytes) (word 2 0 (length bytes)) (data_words bytes ++ log_words es)
    (head-fits 2 0 (length bytes) (omega arith) (omega arith) h.0.0 ∙ sym (psd-length 0 (length bytes) refl) ∙ t.0)
    (head-left 2 0 (length bytes) (omega arith) (omega arith) h.0.0 (λ f. omega arith))
    ∙ data-pass bytes (log_words es) h.0.1 ∙ words-pass es h.1 s.1
words-pass (note cause piece ∷ es) h e =
    step 0 0 (word 3 cause piece) (log_words es)
    (head-fits 3 cause piece (omega arith) h.0.0 h.0.1 ∙ sym (note-fits cause piece 3 refl))
    (sym (after-note 0 (word 3 cause piece) refl (kind-of 3 cause piece (omega arith) h.0.0 h.0.1)))
    ∙ words-pass es h.1 e

-- ---- words that pass are those of entries

-- the bytes that are still to come, and the entries after them
record Read (left : ℕ) (ws : List ℕ) : Type 0 where
  bytes : List ℕ
  entries : List Entry
  long : length bytes ≡ left
  small : Bytes bytes
  fit : FitAll entries
  in_range : all_sized entries ≡ true
  laid : data_words bytes ++ log_words entries ≡ ws

no_bytes : (bytes rest : List ℕ) → length bytes ≡ 0 → rest ≡ data_words bytes ++ rest
unfolding data_words
no_bytes [] rest e = refl
no_bytes (b ∷ bytes) rest e = absurd (omega arith)

add-packet : (w : ℕ) (ws : List ℕ) → kind_of w ≡ 0 → high w < 64 → 1 ≤ low w → low w ≤ 4096 → Read (low w) ws → Read 0 (w ∷ ws)
unfolding data_words log_words entry_words all_sized sized
add-packet w ws k a b c r =
    record {
      bytes = [];
      entries = packet (high w) r.bytes ∷ r.entries;
      long = refl;
      small = tt;
      fit = ((a, omega (arith, r.long), r.small), r.fit);
      in_range =
          one-and (leb 1 (length r.bytes) && leb (length r.bytes) 4096) (all_sized r.entries)
          (one-and (leb 1 (length r.bytes)) (leb (length r.bytes) 4096) (le-leb 1 (length r.bytes) (omega (arith, r.long))) (le-leb (length r.bytes) 4096 (omega (arith, r.long))))
          r.in_range;
      laid = ap₂ ◌∷◌ (ap (λ (y : ℕ). word 0 (high w) y) r.long ∙ from_fields 0 w k (omega arith)) r.laid;
    }

add-psd : (w : ℕ) (ws : List ℕ) → kind_of w ≡ 2 → high w ≡ 0 → 1 ≤ low w → Read (low w) ws → Read 0 (w ∷ ws)
unfolding data_words log_words entry_words all_sized sized
add-psd w ws k a b r =
    let m : length r.bytes < 65536 = omega (arith, r.long, low-most w) in
    record {
      bytes = [];
      entries = psd r.bytes ∷ r.entries;
      long = refl;
      small = tt;
      fit = ((m, r.small), r.fit);
      in_range =
          one-and (leb 1 (length r.bytes) && ltb (length r.bytes) 0x10000) (all_sized r.entries)
          (one-and (leb 1 (length r.bytes)) (ltb (length r.bytes) 0x10000) (le-leb 1 (length r.bytes) (omega (arith, r.long))) (lt-ltb (length r.bytes) 0x10000 m))
          r.in_range;
      laid = ap₂ ◌∷◌ (ap₂ (λ (x y : ℕ). word 2 x y) (sym a) r.long ∙ from_fields 2 w k (omega arith)) r.laid;
    }

add-note : (w : ℕ) (ws : List ℕ) → kind_of w ≡ 3 → Read 0 ws → Read 0 (w ∷ ws)
unfolding data_words log_words entry_words all_sized sized
add-note w ws k r =
    record {
      bytes = [];
      entries = note (high w) (low w) ∷ r.entries;
      long = refl;
      small = tt;
      fit = ((high-most w, low-most w), r.fit);
      in_range = r.in_range;
      laid = ap₂ ◌∷◌ (from_fields 3 w k (omega arith)) (no_bytes r.bytes (log_words r.entries) r.long ∙ r.laid);
    }

head_read : (k : ℕ) (w : ℕ) (ws : List ℕ) → kind_of w ≡ k → head_fits_as k (high w) (low w) ≡ true
    → ((left : ℕ) → left_after 0 w ≡ left → Read left ws) → Read 0 (w ∷ ws)
unfolding head_fits_as left_after
head_read zero w ws k e r =
    let p = both (ltb (high w) 64) (leb 1 (low w) && leb (low w) 4096) e in
    let q = both (leb 1 (low w)) (leb (low w) 4096) p.1 in
    add-packet w ws k (ltb-true (high w) 64 p.0) (leb-true 1 (low w) q.0) (leb-true (low w) 4096 q.1) (r (low w) (simp (ne_eqb (kind_of w) 3 (λ f. omega arith))))
head_read (suc zero) w ws k e r = absurd (true≢false (sym e))
head_read (suc (suc zero)) w ws k e r =
    let p = both (eqb (high w) 0) (leb 1 (low w)) e in
    add-psd w ws k (eqb-true (high w) 0 p.0) (leb-true 1 (low w) p.1) (r (low w) (simp (ne_eqb (kind_of w) 3 (λ f. omega arith))))
head_read (suc (suc (suc zero))) w ws k e r = add-note w ws k (r 0 (simp (eq-eqb (kind_of w) 3 k)))
head_read (suc (suc (suc (suc n)))) w ws k e r = absurd (true≢false (sym e))

record Data (n w : ℕ) : Type 0 where
  kind : kind_of w ≡ 1
  count : high w / 256 ≡ n
  unused : unused_zero n (low w) ≡ true

data-facts : (n w : ℕ) → data_fits n w ≡ true → Data n w
unfolding data_fits
data-facts n w e =
    let p = both (eqb (kind_of w) 1) (eqb (high w / 256) n && unused_zero n (low w)) e in
    let q = both (eqb (high w / 256) n) (unused_zero n (low w)) p.1 in
    record { kind = eqb-true (kind_of w) 1 p.0; count = eqb-true (high w / 256) n q.0; unused = q.1 }

data-read : (left n w : ℕ) (ws : List ℕ) → 0 < left → n ≡ min 3 left → Data n w → Read (left - 3) ws → Read left (w ∷ ws)
unfolding data_words unused_zero
data-read zero n w ws p m d r = absurd (omega arith)
data-read (suc zero) n w ws p m d r =
    let e : n ≡ 1 = omega arith in
    let z : low w ≡ 0 = eqb-true (low w) 0 (rw e at d.unused) in
    let x : low w / 256 ≡ 0 = omega arith in
    let y : low w % 256 ≡ 0 = omega arith in
    record {
      bytes = high w % 256 ∷ [];
      entries = r.entries;
      long = refl;
      small = (omega arith, tt);
      fit = r.fit;
      in_range = r.in_range;
      laid =
          ap₂ ◌∷◌ (ap₂ (λ (b c : ℕ). data_word 1 (high w % 256) b c) (sym x) (sym y) ∙ data-fields 1 w d.kind (d.count ∙ e))
          (no_bytes r.bytes (log_words r.entries) (omega arith) ∙ r.laid);
    }
data-read (suc (suc zero)) n w ws p m d r =
    let e : n ≡ 2 = omega arith in
    let y : low w % 256 ≡ 0 = eqb-true (low w % 256) 0 (rw e at d.unused) in
    record {
      bytes = high w % 256 ∷ low w / 256 ∷ [];
      entries = r.entries;
      long = refl;
      small = (omega arith, (omega (arith, low-most w), tt));
      fit = r.fit;
      in_range = r.in_range;
      laid =
          ap₂ ◌∷◌ (ap (λ (c : ℕ). data_word 2 (high w % 256) (low w / 256) c) (sym y) ∙ data-fields 2 w d.kind (d.count ∙ e))
          (no_bytes r.bytes (log_words r.entries) (omega arith) ∙ r.laid);
    }
data-read (suc (suc (suc left))) n w ws p m d r =
    let e : n ≡ 3 = omega arith in
    let q : length r.bytes ≡ left = omega arith in
    record {
      bytes = high w % 256 ∷ low w / 256 ∷ low w % 256 ∷ r.bytes;
      entries = r.entries;
      long = ap (λ (k : ℕ). suc (suc (suc k))) q;
      small = (omega arith, (omega (arith, low-most w), (omega arith, r.small)));
      fit = r.fit;
      in_range = r.in_range;
      laid = ap₂ ◌∷◌ (data-fields 3 w d.kind (d.count ∙ e)) r.laid;
    }

read-from : (left : ℕ) (ws : List ℕ) → is_rest left ws ≡ true → Read left ws
unfolding is_rest data_words log_words all_sized
read-from left [] e = record { bytes = []; entries = []; long = sym (eqb-true left 0 e); small = tt; fit = tt; in_range = refl; laid = refl }
read-from zero (w ∷ ws) e =
    let p = both (fits 0 w) (is_rest (left_after 0 w) ws) e in
    let r = read-from (left_after 0 w) ws p.1 in
    head_read (kind_of w) w ws refl (fits_head 0 w refl ∙ p.0) (λ left f. subst (λ (k : ℕ). Read k ws) f r)
read-from (suc left) (w ∷ ws) e =
    let p = both (fits (suc left) w) (is_rest (left_after (suc left) w) ws) e in
    let r = read-from (left_after (suc left) w) ws p.1 in
    data-read (suc left) (min 3 (suc left)) w ws (omega arith) refl
    (data-facts (min 3 (suc left)) w (fits-data (suc left) w (min 3 (suc left)) (omega arith) refl ∙ p.0))
    (subst (λ (k : ℕ). Read k ws) (sym (after-data (suc left) w (suc left - 3) (omega arith) refl)) r)

-- ---- so what passes is a log

passed-log : (ws : List ℕ) → is_rest 0 ws ≡ true → is_log ws ≡ true
passed-log ws e =
    let r = read-from 0 ws e in
    subst (λ (v : List ℕ). is_log v ≡ true) (no_bytes r.bytes (log_words r.entries) r.long ∙ r.laid) (words-log r.entries r.fit r.in_range)

log-passes : (ws : List ℕ) → is_log ws ≡ true → is_rest 0 ws ≡ true
log-passes ws e =
    let p = log-words ws e in
    subst (λ (v : List ℕ). is_rest 0 v ≡ true) p.2 (words-pass (entries_of ws) p.0 p.1)

either : (a b : Bool) → (a ≡ true → b ≡ true) → (b ≡ true → a ≡ true) → a ≡ b
either true b f g = sym (f refl)
either false true f g = g refl
either false false f g = refl

pub scan-log : (ws : List ℕ) → is_rest 0 ws ≡ is_log ws
scan-log ws = either (is_rest 0 ws) (is_log ws) (passed-log ws) (log-passes ws)
