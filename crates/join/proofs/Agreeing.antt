-- Numbers and result, word by word, are those of the entries.
use mathlib.Core.Path.{◌≡◌, refl, sym, ap, ap₂, ◌∙◌}
use mathlib.Core.Bool.{Bool, true, false, cond}
use mathlib.Core.List.{List, [], ◌∷◌, ◌++◌, append_assoc, append-nil}
use Prim.Native.Nat.{ℕ, ◌<◌}
use native.Mathlib.Omega.{arith}
use lib.Dec.{eqb}
use lib.ListN.{length}
use borrow.Author.Tests.{eq-eqb, ne_eqb}
use Rattle.packet_log.specs.Log.{Entry, packet, psd, note, word, data_word, data_words, entry_words, log_words, kind_of}
use Rattle.packet_log.proofs.Packets.{Bytes, FitAll}
use Rattle.join.specs.Join.{number, entries_of, is_log, numbers_of, with_bit29, partner_of, side_by_side, result_words}
use Rattle.join.specs.Scan.{is_packet, numbers, data_run, first_words, from_number, partner, first_joined, joined_words}
use Rattle.join.proofs.Fields.{kind-of, number_of, data-kind}
use Rattle.join.proofs.Entries.{past-data, begins, log-words}

-- ---- a word that begins no packet

module _ (w : ℕ) (ws : List ℕ) (e : kind_of w ≡ 0 → ⊥) where
  no-packet : is_packet w ≡ false
  no-packet = ne_eqb (kind_of w) 0 e

  past-joined : (enhanced : List ℕ) → joined_words enhanced (w ∷ ws) ≡ joined_words enhanced ws
  unfolding joined_words first_joined
  past-joined enhanced = rw no-packet

  past-number : (n : ℕ) → from_number n (w ∷ ws) ≡ from_number n ws
  unfolding from_number
  past-number n = rw no-packet

  past-numbers : numbers (w ∷ ws) ≡ numbers ws
  unfolding numbers
  past-numbers = rw no-packet

-- ---- a word that begins a packet

module _ (w : ℕ) (ws : List ℕ) (e : kind_of w ≡ 0) where
  a-packet : is_packet w ≡ true
  a-packet = eq-eqb (kind_of w) 0 e

  packet-joined : (enhanced : List ℕ) → joined_words enhanced (w ∷ ws) ≡ (w ∷ data_run ws ++ partner enhanced (number w)) ++ joined_words enhanced ws
  unfolding joined_words first_joined
  packet-joined enhanced = rw a-packet

  packet-number : (n : ℕ) → from_number n (w ∷ ws) ≡ cond (eqb (number w) n) (w ∷ ws) (from_number n ws)
  unfolding from_number
  packet-number n = rw a-packet

  packet-numbers : numbers (w ∷ ws) ≡ number w ∷ numbers ws
  unfolding numbers
  packet-numbers = rw a-packet

-- ---- data words

not-zero : (w : ℕ) → kind_of w ≡ 1 → kind_of w ≡ 0 → ⊥
not-zero w e f = omega arith

run-one : (w : ℕ) (ws : List ℕ) → kind_of w ≡ 1 → data_run (w ∷ ws) ≡ w ∷ data_run ws
unfolding data_run
run-one w ws e = rw (eq-eqb (kind_of w) 1 e)

run-other : (w : ℕ) (ws : List ℕ) → (kind_of w ≡ 1 → ⊥) → data_run (w ∷ ws) ≡ []
unfolding data_run
run-other w ws e = rw (ne_eqb (kind_of w) 1 e)

run-data : (bytes ws : List ℕ) → Bytes bytes → data_run (data_words bytes ++ ws) ≡ data_words bytes ++ data_run ws
unfolding data_words
run-data [] ws h = refl
run-data (a ∷ []) ws h = run-one (data_word 1 a 0 0) ws (data-kind 1 a 0 0 (omega arith) h.0 (omega arith) (omega arith))
run-data (a ∷ b ∷ []) ws h = run-one (data_word 2 a b 0) ws (data-kind 2 a b 0 (omega arith) h.0 h.1.0 (omega arith))
run-data (a ∷ b ∷ c ∷ rest) ws h =
    run-one (data_word 3 a b c) (data_words rest ++ ws) (data-kind 3 a b c (omega arith) h.0 h.1.0 h.1.1.0)
    ∙ ap (λ (r : List ℕ). data_word 3 a b c ∷ r) (run-data rest ws h.1.1.1)

-- a packet's data words are those that follow it
packet-run : (bytes : List ℕ) (es : List Entry) → Bytes bytes → FitAll es → data_run (data_words bytes ++ log_words es) ≡ data_words bytes
packet-run bytes es b h =
    run-data bytes (log_words es) b
    ∙ ap (λ (r : List ℕ). data_words bytes ++ r) (begins (λ (ws : List ℕ). data_run ws ≡ []) (unfold data_run in refl) run-other es h)
    ∙ append-nil (data_words bytes)

-- ---- entries

-- the first word of an entry that is no packet
psd-first : (bytes : List ℕ) → length bytes < 65536 → kind_of (word 2 0 (length bytes)) ≡ 0 → ⊥
psd-first bytes h e =
    let k : kind_of (word 2 0 (length bytes)) ≡ 2 = kind-of 2 0 (length bytes) (omega arith) (omega arith) h in
    omega arith

note-first : (cause piece : ℕ) → cause < 16384 → piece < 65536 → kind_of (word 3 cause piece) ≡ 0 → ⊥
note-first cause piece h l e =
    let k : kind_of (word 3 cause piece) ≡ 3 = kind-of 3 cause piece (omega arith) h l in
    omega arith

packet-first : (n : ℕ) (bytes : List ℕ) → n < 64 → length bytes < 65536 → kind_of (word 0 n (length bytes)) ≡ 0
packet-first n bytes h l = kind-of 0 n (length bytes) (omega arith) (omega arith) l

numbers-entries : (es : List Entry) → FitAll es → numbers (log_words es) ≡ numbers_of es
unfolding log_words entry_words numbers_of
numbers-entries [] h = unfold numbers in refl
numbers-entries (packet n bytes ∷ es) h =
    let l : length bytes < 65536 = omega (arith, h.0.1) in
    packet-numbers (word 0 n (length bytes)) (data_words bytes ++ log_words es) (packet-first n bytes h.0.0 l)
    ∙ ap₂ ◌∷◌ (number_of n (length bytes) h.0.0 l)
    (past-data numbers (λ w ws e. past-numbers w ws (not-zero w e)) bytes (log_words es) h.0.2 ∙ numbers-entries es h.1)
numbers-entries (psd bytes ∷ es) h =
    past-numbers (word 2 0 (length bytes)) (data_words bytes ++ log_words es) (psd-first bytes h.0.0)
    ∙ past-data numbers (λ w ws e. past-numbers w ws (not-zero w e)) bytes (log_words es) h.0.1 ∙ numbers-entries es h.1
numbers-entries (note cause piece ∷ es) h = past-numbers (word 3 cause piece) (log_words es) (note-first cause piece h.0.0 h.0.1) ∙ numbers-entries es h.1

partner-entries : (es : List Entry) (n : ℕ) → FitAll es → partner (log_words es) n ≡ partner_of es n
unfolding partner log_words entry_words partner_of
partner-entries [] n h = unfold from_number in unfold first_words in unfold with_bit29 in refl
partner-entries (packet m bytes ∷ es) n h =
    let l : length bytes < 65536 = omega (arith, h.0.1) in
    ap (λ (ws : List ℕ). with_bit29 (first_words ws))
    (packet-number (word 0 m (length bytes)) (data_words bytes ++ log_words es) (packet-first m bytes h.0.0 l) n
    ∙ ap₂ (λ (k : ℕ) (r : List ℕ). cond (eqb k n) (word 0 m (length bytes) ∷ data_words bytes ++ log_words es) r) (number_of m (length bytes) h.0.0 l)
    (past-data (from_number n) (λ w ws e. past-number w ws (not-zero w e) n) bytes (log_words es) h.0.2))
    ∙ go (eqb m n) (partner-entries es n h.1)
  where
    go : (t : Bool) → with_bit29 (first_words (from_number n (log_words es))) ≡ partner_of es n
        → with_bit29 (first_words (cond t (word 0 m (length bytes) ∷ data_words bytes ++ log_words es) (from_number n (log_words es))))
        ≡ cond t (with_bit29 (word 0 m (length bytes) ∷ data_words bytes)) (partner_of es n)
    go true e = unfold first_words in ap (λ (r : List ℕ). with_bit29 (word 0 m (length bytes) ∷ r)) (packet-run bytes es h.0.2 h.1)
    go false e = e
partner-entries (psd bytes ∷ es) n h =
    ap (λ (ws : List ℕ). with_bit29 (first_words ws))
    (past-number (word 2 0 (length bytes)) (data_words bytes ++ log_words es) (psd-first bytes h.0.0) n
    ∙ past-data (from_number n) (λ w ws e. past-number w ws (not-zero w e) n) bytes (log_words es) h.0.1)
    ∙ partner-entries es n h.1
partner-entries (note cause piece ∷ es) n h =
    ap (λ (ws : List ℕ). with_bit29 (first_words ws)) (past-number (word 3 cause piece) (log_words es) (note-first cause piece h.0.0 h.0.1) n)
    ∙ partner-entries es n h.1

joined-entries : (enhanced core : List Entry) → FitAll enhanced → FitAll core → joined_words (log_words enhanced) (log_words core) ≡ side_by_side enhanced core
unfolding log_words entry_words side_by_side
joined-entries enhanced [] he h = unfold joined_words in refl
joined-entries enhanced (packet n bytes ∷ es) he h =
    let l : length bytes < 65536 = omega (arith, h.0.1) in
    packet-joined (word 0 n (length bytes)) (data_words bytes ++ log_words es) (packet-first n bytes h.0.0 l) (log_words enhanced)
    ∙ ap₂ (λ (r s : List ℕ). (word 0 n (length bytes) ∷ r ++ partner (log_words enhanced) (number (word 0 n (length bytes)))) ++ s) (packet-run bytes es h.0.2 h.1)
    (past-data (joined_words (log_words enhanced)) (λ w ws e. past-joined w ws (not-zero w e) (log_words enhanced)) bytes (log_words es) h.0.2
    ∙ joined-entries enhanced es he h.1)
    ∙ ap (λ (r : List ℕ). (word 0 n (length bytes) ∷ data_words bytes ++ r) ++ side_by_side enhanced es)
    (ap (partner (log_words enhanced)) (number_of n (length bytes) h.0.0 l) ∙ partner-entries enhanced n he)
    ∙ ap (λ (r : List ℕ). word 0 n (length bytes) ∷ r) (append_assoc (data_words bytes) (partner_of enhanced n) (side_by_side enhanced es))
joined-entries enhanced (psd bytes ∷ es) he h =
    past-joined (word 2 0 (length bytes)) (data_words bytes ++ log_words es) (psd-first bytes h.0.0) (log_words enhanced)
    ∙ past-data (joined_words (log_words enhanced)) (λ w ws e. past-joined w ws (not-zero w e) (log_words enhanced)) bytes (log_words es) h.0.1
    ∙ joined-entries enhanced es he h.1
joined-entries enhanced (note cause piece ∷ es) he h =
    past-joined (word 3 cause piece) (log_words es) (note-first cause piece h.0.0 h.0.1) (log_words enhanced) ∙ joined-entries enhanced es he h.1

-- ---- logs

pub numbers-read : (ws : List ℕ) → is_log ws ≡ true → numbers ws ≡ numbers_of (entries_of ws)
numbers-read ws e =
    let p = log-words ws e in
    ap numbers (sym p.2) ∙ numbers-entries (entries_of ws) p.0

pub joined-read : (core enhanced : List ℕ) → is_log core ≡ true → is_log enhanced ≡ true → joined_words enhanced core ≡ result_words core enhanced
joined-read core enhanced e f =
    let p = log-words core e in
    let q = log-words enhanced f in
    ap₂ (λ (a b : List ℕ). joined_words a b) (sym q.2) (sym p.2) ∙ joined-entries (entries_of enhanced) (entries_of core) q.0 p.0
