-- What the table says of a writing call, by the writer's state.
use mathlib.Core.Path.{◌≡◌, refl, sym, ap, ◌∙◌}
use mathlib.Core.Bool.{Bool, true, false, cond}
use Prim.Native.Nat.{ℕ, suc, ◌+◌, ◌%◌, ◌<◌, ◌≤◌}
use native.Mathlib.Omega.{arith}
use native.Mathlib.Decide.{dec_lt}
use native.Mathlib.Nat.{mod-lt, mod_self, mod-eq_of_lt}
use lib.Dec.{eqb, leb}
use borrow.Author.Tests.{lt-leb, eqb-true, eqb-false}
use lib.ListN.{length}
use Rattle.refusal.specs.Refusal.{first_of}
use Rattle.modes.specs.Modes.{listing}
use Rattle.modes.specs.declared.Mode.{Mode}
use Rattle.modes.specs.declared.Listing.{Listing}
use Rattle.modes.specs.declared.Listing.TheVariants.{Listed}
use Rattle.reassembly.specs.Reassembly.{following}
use Rattle.writer.specs.Writing.{writer_tests, pdu_of, next_of, accepted_answer, refused_write, answer_in, write_answer, pdu_in, written_pdu}
use Rattle.writer.specs.declared.Writer.{Writer}
use Rattle.writer.specs.declared.Written.{Written}
use Rattle.delivery.specs.Delivery.{Writing, answer_to, buffer_after}

-- a writer's state: its mode, stream and register, PDU sequence q, packet i unfinished, and s of its bytes sent
abbrev pub state_at : ℕ → ℕ → ℕ → ℕ → ℕ → ℕ → Writer
state_at mode stream register q i s = record { mode = mode; stream = stream; register = register; sequence = q; number = i % 64; sent = s }

pub next-sequence : (range q : ℕ) → q < range → (q + 1) % range ≡ following range q
next-sequence range q h = go (eqb (suc q) range) refl
  where
    one : q + 1 ≡ suc q
    one = omega arith

    go : (b : Bool) → eqb (suc q) range ≡ b → (q + 1) % range ≡ cond b 0 (suc q)
    go true e = ap (λ (n : ℕ). n % range) (one ∙ eqb-true (suc q) range e) ∙ mod_self range
    go false e = let n = eqb-false (suc q) range e in ap (λ (n : ℕ). n % range) one ∙ mod-eq_of_lt (below (suc q) range n (omega arith))
      where
        below : (a b : ℕ) → (a ≡ b → ⊥) → a ≤ b → a < b
        below a b n l = go2 (dec_lt a b)
          where
            go2 : Dec (a < b) → a < b
            go2 (yes k) = k
            go2 (no k) = absurd (n (omega arith))

pub next-in-range : (range q : ℕ) → q < range → following range q < range
next-in-range range q h = rw (← next-sequence range q h) (mod-lt (q + 1) (omega arith))

-- ---- what the table says, whichever sequence comes next

module _ (mode stream register : ℕ) (m : Mode) (l : listing mode stream ≡ Listed m) where
  -- the number that a call is refused with, 0 for none
  abbrev pub number_at : ℕ → ℕ → ℕ → Writing → ℕ
  number_at q i s a = first_of (writer_tests a.settings a.psd a.lengths a.bytes (length a.buffer) m (state_at mode stream register q i s))

  pub same_number : (q i s : ℕ) (a : Writing) → q < m.sequences → number_at q i s a ≡ number_at 0 i s a
  same_number q i s a h =
      let e : leb m.sequences q ≡ false = lt-leb m.sequences q h in
      let f : leb m.sequences 0 ≡ false = lt-leb m.sequences 0 (omega arith) in
      rw (e, f)

  module _ (q i s : ℕ) (a : Writing) where
    abbrev w : Writer
    w = state_at mode stream register q i s

    abbrev acc : Written
    acc = accepted_answer a.settings a.psd a.lengths a.bytes (length a.buffer) m w

    answer-by : answer_to w a ≡ cond (eqb (number_at q i s a) 0) acc (refused_write w (number_at q i s a))
    unfolding write_answer
    answer-by = ap (λ (k : Listing). answer_in a.settings a.psd a.lengths a.bytes (length a.buffer) k w) l

    pub refusal_is : (answer_to w a).refusal ≡ number_at q i s a
    refusal_is = ap (λ (r : Written). r.refusal) answer-by ∙ go (eqb (number_at q i s a) 0) refl
      where
        go : (b : Bool) → eqb (number_at q i s a) 0 ≡ b → (cond b acc (refused_write w (number_at q i s a))).refusal ≡ number_at q i s a
        go true e = sym (eqb-true (number_at q i s a) 0 e)
        go false e = refl

    pub refused-writer : eqb (number_at q i s a) 0 ≡ false → (answer_to w a).writer ≡ w
    refused-writer e = ap (λ (r : Written). r.writer) answer-by ∙ ap (λ (b : Bool). (cond b acc (refused_write w (number_at q i s a))).writer) e

    pub accepted-writer : eqb (number_at q i s a) 0 ≡ true → (answer_to w a).writer ≡ next_of a.settings a.psd a.lengths a.bytes (length a.buffer) m w
    accepted-writer e = ap (λ (r : Written). r.writer) answer-by ∙ ap (λ (b : Bool). (cond b acc (refused_write w (number_at q i s a))).writer) e

    pub accepted-pdu : eqb (number_at q i s a) 0 ≡ true → buffer_after w a ≡ pdu_of a.settings a.psd a.lengths a.bytes (length a.buffer) m w
    unfolding written_pdu
    accepted-pdu e =
        ap (λ (k : Listing). pdu_in a.settings a.psd a.lengths a.bytes (length a.buffer) k w a.buffer) l
        ∙ ap (λ (b : Bool). cond b (pdu_of a.settings a.psd a.lengths a.bytes (length a.buffer) m w) a.buffer) e
