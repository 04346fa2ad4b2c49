-- The words before the held bytes, as parts: each there or absent, of a kind and a value.
use mathlib.Core.Path.{◌≡◌, refl, sym, ap, ◌∙◌}
use mathlib.Core.Bool.{Bool, true, false, not, ◌||◌, cond}
use mathlib.Core.List.{List, [], ◌∷◌, ◌++◌, append_assoc, append-nil}
use Prim.Native.Nat.{ℕ, suc, ◌+◌, ◌*◌, ◌<◌, ◌≤◌}
use native.Mathlib.Omega.{arith}
use lib.Dec.{eqb}
use lib.ListN.{length}
use Rattle.receiver.specs.declared.Receiver.{Receiver}
use Rattle.snapshot.specs.Snapshot.{state_word, kind_in, value_in, optional, Kinds, head_words, has, value_of, bytes_in, from_kind}
use Rattle.snapshot.proofs.Bytes.{bytes_past, from_past}

pub record Part : Type 0 where
  pub there : Bool
  pub kind : ℕ
  pub value : ℕ

abbrev pub part : Bool → ℕ → ℕ → Part
part there kind value = record { there = there; kind = kind; value = value }

abbrev pub part_words : List Part → List ℕ
part_words [] = []
part_words (p ∷ ps) = optional p.there (state_word p.kind p.value) ++ part_words ps

-- each value within its 28 bits, and none of kind 5
abbrev pub InBits : List Part → Type 0
InBits [] = Unit {0}
InBits (p ∷ ps) = (p.value < 0x10000000) × (p.kind < 5) × InBits ps

-- what a kind is looked up as among parts
abbrev pub has_part : ℕ → Bool → List Part → Bool
has_part kind d [] = d
has_part kind d (p ∷ ps) = cond (eqb p.kind kind) (cond p.there true (has_part kind d ps)) (has_part kind d ps)

abbrev pub value_part : ℕ → ℕ → List Part → ℕ
value_part kind d [] = d
value_part kind d (p ∷ ps) = cond (eqb p.kind kind) (cond p.there p.value (value_part kind d ps)) (value_part kind d ps)

module _ (k v : ℕ) (h : v < 0x10000000) where
  pub word-kind : kind_in (state_word k v) ≡ k
  word-kind = omega arith

  pub word_value : value_in (state_word k v) ≡ v
  word_value = omega arith

same : {A : Type 0} (b : Bool) (x : A) → x ≡ cond b x x
same true x = refl
same false x = refl

has_word : (kind w : ℕ) (ws : List ℕ) → has kind (w ∷ ws) ≡ (eqb (kind_in w) kind || has kind ws)
unfolding has
has_word kind w ws = refl

value-word : (kind w : ℕ) (ws : List ℕ) → value_of kind (w ∷ ws) ≡ cond (eqb (kind_in w) kind) (value_in w) (value_of kind ws)
unfolding value_of
value-word kind w ws = refl

module _ (kind : ℕ) (ws : List ℕ) where
  pub has_parts : (ps : List Part) → InBits ps → has kind (part_words ps ++ ws) ≡ has_part kind (has kind ws) ps
  has_parts [] h = refl
  has_parts (p ∷ ps) h =
      ap (has kind) (append_assoc (optional p.there (state_word p.kind p.value)) (part_words ps) ws) ∙ go p.there (has_parts ps h.2)
    where
      one : (b : Bool) → has kind (part_words ps ++ ws) ≡ has_part kind (has kind ws) ps
          → (b || has kind (part_words ps ++ ws)) ≡ cond b true (has_part kind (has kind ws) ps)
      one true e = refl
      one false e = e

      go : (t : Bool) → has kind (part_words ps ++ ws) ≡ has_part kind (has kind ws) ps
          → has kind (optional t (state_word p.kind p.value) ++ (part_words ps ++ ws))
          ≡ cond (eqb p.kind kind) (cond t true (has_part kind (has kind ws) ps)) (has_part kind (has kind ws) ps)
      go false e = e ∙ same (eqb p.kind kind) (has_part kind (has kind ws) ps)
      go true e = has_word kind (state_word p.kind p.value) (part_words ps ++ ws) ∙ rw (word-kind p.kind p.value h.0) (one (eqb p.kind kind) e)

  pub value-parts : (ps : List Part) → InBits ps → value_of kind (part_words ps ++ ws) ≡ value_part kind (value_of kind ws) ps
  value-parts [] h = refl
  value-parts (p ∷ ps) h =
      ap (value_of kind) (append_assoc (optional p.there (state_word p.kind p.value)) (part_words ps) ws) ∙ go p.there (value-parts ps h.2)
    where
      go : (t : Bool) → value_of kind (part_words ps ++ ws) ≡ value_part kind (value_of kind ws) ps
          → value_of kind (optional t (state_word p.kind p.value) ++ (part_words ps ++ ws))
          ≡ cond (eqb p.kind kind) (cond t p.value (value_part kind (value_of kind ws) ps)) (value_part kind (value_of kind ws) ps)
      go false e = e ∙ same (eqb p.kind kind) (value_part kind (value_of kind ws) ps)
      go true e =
          value-word kind (state_word p.kind p.value) (part_words ps ++ ws)
          ∙ rw (word-kind p.kind p.value h.0, word_value p.kind p.value h.0, e)

-- what passes over each word of a kind under 5 passes over all of them
past-parts : (f : List ℕ → List ℕ) → ((w : ℕ) (ws : List ℕ) → kind_in w < 5 → f (w ∷ ws) ≡ f ws)
    → (ps : List Part) (ws : List ℕ) → InBits ps → f (part_words ps ++ ws) ≡ f ws
past-parts f past [] ws h = refl
past-parts f past (p ∷ ps) ws h =
    ap f (append_assoc (optional p.there (state_word p.kind p.value)) (part_words ps) ws) ∙ go p.there ∙ past-parts f past ps ws h.2
  where
    go : (t : Bool) → f (optional t (state_word p.kind p.value) ++ (part_words ps ++ ws)) ≡ f (part_words ps ++ ws)
    go false = refl
    go true = past (state_word p.kind p.value) (part_words ps ++ ws) (omega (arith, word-kind p.kind p.value h.0, h.1))

-- they have no bytes
pub bytes-parts : (ps : List Part) (ws : List ℕ) → InBits ps → bytes_in (part_words ps ++ ws) ≡ bytes_in ws
bytes-parts = past-parts bytes_in (λ w ws l. bytes_past w ws (λ e. omega arith))

-- nor counts
pub counts-parts : (ps : List Part) (ws : List ℕ) → InBits ps → from_kind 6 (part_words ps ++ ws) ≡ from_kind 6 ws
counts-parts = past-parts (from_kind 6) (λ w ws l. from_past 6 w ws (λ e. omega arith))

pub parts-length : (ps : List Part) → length (part_words ps) ≤ length ps
parts-length [] = omega arith
parts-length (p ∷ ps) = go p.there (parts-length ps)
  where
    go : (t : Bool) → length (part_words ps) ≤ length ps → length (optional t (state_word p.kind p.value) ++ part_words ps) ≤ suc (length ps)
    go true e = omega arith
    go false e = omega arith

-- ---- those of a receiver

abbrev pub programs_value : Receiver → ℕ
programs_value r = cond r.serviced (8 + r.services) 0 * 0x100 + r.entitled

abbrev pub head_parts : Kinds → Receiver → List Part
head_parts k r =
    part true 0 (r.stream * 16 + r.mode)
    ∷ part r.known 1 r.sequence
    ∷ part (not (eqb r.held 0)) 2 (r.number * 0x10000 + r.held)
    ∷ part k.register 3 r.register
    ∷ part k.programs 4 (programs_value r)
    ∷ []

pub head-parts : (k : Kinds) (r : Receiver) → head_words k r ≡ part_words (head_parts k r)
unfolding head_words
head-parts k r =
    ap (λ (l : List ℕ). state_word 0 (r.stream * 16 + r.mode) ∷ (optional r.known (state_word 1 r.sequence) ++ (optional (not (eqb r.held 0)) (state_word 2 (r.number * 0x10000 + r.held)) ++ (optional k.register (state_word 3 r.register) ++ l))))
    (sym (append-nil (optional k.programs (state_word 4 (programs_value r)))))

-- how many words there are
optional-length : (t : Bool) (w : ℕ) (l : List ℕ) → length (optional t w ++ l) ≡ cond t 1 0 + length l
optional-length true w l = omega arith
optional-length false w l = omega arith

pub head-count : (k : Kinds) (r : Receiver) → length (head_words k r) ≡ 1 + (cond r.known 1 0 + (cond (not (eqb r.held 0)) 1 0 + (cond k.register 1 0 + cond k.programs 1 0)))
head-count k r =
    ap length (head-parts k r)
    ∙ count r.known (state_word 1 r.sequence) (not (eqb r.held 0)) (state_word 2 (r.number * 0x10000 + r.held)) k.register (state_word 3 r.register) k.programs (state_word 4 (programs_value r))
  where
    count : (a : Bool) (u : ℕ) (b : Bool) (v : ℕ) (c : Bool) (w : ℕ) (d : Bool) (x : ℕ)
        → suc (length (optional a u ++ (optional b v ++ (optional c w ++ (optional d x ++ []))))) ≡ 1 + (cond a 1 0 + (cond b 1 0 + (cond c 1 0 + cond d 1 0)))
    count a u b v c w d x =
        omega (arith, optional-length a u (optional b v ++ (optional c w ++ (optional d x ++ []))), optional-length b v (optional c w ++ (optional d x ++ [])), optional-length c w (optional d x ++ []), optional-length d x [])
