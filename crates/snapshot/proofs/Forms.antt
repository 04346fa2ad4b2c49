-- The words of a receiver, read: they say that receiver, its bytes and the kinds that are there.
use mathlib.Core.Path.{◌≡◌, refl, sym, ap, ap₂, ◌∙◌}
use mathlib.Core.Bool.{Bool, true, false, not, cond, true≢false}
use mathlib.Core.List.{List, ◌++◌, append-nil}
use Prim.Native.Nat.{ℕ, ◌+◌, ◌*◌, ◌/◌, ◌%◌, ◌<◌}
use native.Mathlib.Omega.{arith}
use lib.Dec.{eqb}
use lib.ListN.{length, get_or}
use borrow.Author.Tests.{eqb-true, eq-eqb}
use Rattle.packet_log.proofs.Packets.{Bytes}
use Rattle.receiver.specs.declared.Receiver.{Receiver}
use Rattle.packet_log.proofs.Same.{same-itself}
use Rattle.snapshot.specs.Snapshot.{Kinds, byte_words, count_words, words_with, has, value_of, bytes_in, from_kind, kinds_in, receiver_in, is_form}
use Rattle.snapshot.proofs.Bytes.{has-bytes, value-bytes, counts-bytes, bytes_back}
use Rattle.snapshot.proofs.Parts.{part_words, has_part, value_part, has_parts, value-parts, bytes-parts, counts-parts, programs_value, head_parts, head-parts}
use Rattle.snapshot.proofs.Counts.{Counted, has-counts, value-counts, bytes-counts, from-counts, delivered-back, missing-back, last-back}
use Rattle.snapshot.proofs.Fields.{Laid, in-bits}
use Rattle.bits.proofs.Tests.{one-and}

-- an absent kind means zero: register 0; nothing entitled and services unknown
pub record Absent (k : Kinds) (r : Receiver) : Type 0 where
  pub register : k.register ≡ false → r.register ≡ 0
  pub entitled : k.programs ≡ false → r.entitled ≡ 0
  pub serviced : k.programs ≡ false → r.serviced ≡ false

-- receivers of the same fields
same-fields : (q r : Receiver) → q.mode ≡ r.mode → q.stream ≡ r.stream → q.register ≡ r.register → q.entitled ≡ r.entitled → q.known ≡ r.known
    → q.sequence ≡ r.sequence
    → q.held ≡ r.held
    → q.number ≡ r.number
    → q.serviced ≡ r.serviced
    → q.services ≡ r.services
    → q.delivered ≡ r.delivered
    → q.missing ≡ r.missing
    → q.last ≡ r.last
    → q ≡ r
same-fields q r a b c d e f g h j l m n o = λ i. record {
  mode = a i;
  stream = b i;
  register = c i;
  entitled = d i;
  known = e i;
  sequence = f i;
  held = g i;
  number = h i;
  serviced = j i;
  services = l i;
  delivered = m i;
  missing = n i;
  last = o i;
}

-- ---- a value that is there, or 0
there : (t : Bool) → cond t true false ≡ t
there true = refl
there false = refl

or-zero : (t : Bool) (v : ℕ) → (t ≡ false → v ≡ 0) → cond t v 0 ≡ v
or-zero true v h = refl
or-zero false v h = sym (h refl)

module _ (k : Kinds) (r : Receiver) (bytes : List ℕ) (h : Laid r) (b : Bytes bytes) where
  counted : Counted r
  counted = record { delivered = h.delivered; missing = h.missing; last = omega (arith, h.last) }

  ends : words_with k r bytes ≡ part_words (head_parts k r) ++ (byte_words bytes ++ count_words r)
  unfolding words_with
  ends = ap (λ (l : List ℕ). l ++ (byte_words bytes ++ count_words r)) (head-parts k r)

  has_in : (kind : ℕ) → kind < 5 → has kind (words_with k r bytes) ≡ has_part kind false (head_parts k r)
  has_in kind front =
      ap (has kind) ends
      ∙ has_parts kind (byte_words bytes ++ count_words r) (head_parts k r) (in-bits k r h)
      ∙ ap (λ (t : Bool). has_part kind t (head_parts k r)) (has-bytes kind (λ e. omega arith) bytes (count_words r) b ∙ has-counts r counted kind (λ e. omega arith))

  value_in : (kind : ℕ) → kind < 5 → value_of kind (words_with k r bytes) ≡ value_part kind 0 (head_parts k r)
  value_in kind front =
      ap (value_of kind) ends
      ∙ value-parts kind (byte_words bytes ++ count_words r) (head_parts k r) (in-bits k r h)
      ∙ ap (λ (n : ℕ). value_part kind n (head_parts k r)) (value-bytes kind (λ e. omega arith) bytes (count_words r) b ∙ value-counts r counted kind (λ e. omega arith))

  pub bytes-in : bytes_in (words_with k r bytes) ≡ bytes
  bytes-in =
      ap bytes_in ends
      ∙ bytes-parts (head_parts k r) (byte_words bytes ++ count_words r) (in-bits k r h)
      ∙ bytes_back bytes (count_words r) b ∙ ap (λ (l : List ℕ). bytes ++ l) (bytes-counts r counted) ∙ append-nil bytes

  counts-in : from_kind 6 (words_with k r bytes) ≡ count_words r
  counts-in = ap (from_kind 6) ends ∙ counts-parts (head_parts k r) (byte_words bytes ++ count_words r) (in-bits k r h) ∙ counts-bytes bytes (count_words r) b ∙ from-counts r counted

  pub kinds-in : kinds_in (words_with k r bytes) ≡ k
  kinds-in =
      ap₂ (λ (s t : Bool). record { register = s; programs = t }) (has_in 3 (omega arith) ∙ there k.register) (has_in 4 (omega arith) ∙ there k.programs)

  -- ---- the values

  known_in : has 1 (words_with k r bytes) ≡ r.known
  known_in = has_in 1 (omega arith) ∙ there r.known

  mode-in : value_of 0 (words_with k r bytes) ≡ r.stream * 16 + r.mode
  mode-in = value_in 0 (omega arith)

  sequence-in : value_of 1 (words_with k r bytes) ≡ r.sequence
  sequence-in = value_in 1 (omega arith) ∙ or-zero r.known r.sequence h.unknown

  held_in : value_of 2 (words_with k r bytes) ≡ r.number * 0x10000 + r.held
  held_in = value_in 2 (omega arith) ∙ or-zero (not (eqb r.held 0)) (r.number * 0x10000 + r.held) (λ e. none (eqb-true r.held 0 (back (eqb r.held 0) e)))
    where
      back : (t : Bool) → not t ≡ false → t ≡ true
      back true e = refl
      back false e = absurd (true≢false e)

      none : r.held ≡ 0 → r.number * 0x10000 + r.held ≡ 0
      none z = let n = h.nothing z in omega arith

  module _ (a : Absent k r) where
    register-in : value_of 3 (words_with k r bytes) ≡ r.register
    register-in = value_in 3 (omega arith) ∙ or-zero k.register r.register a.register

    programs-in : value_of 4 (words_with k r bytes) ≡ programs_value r
    programs-in = value_in 4 (omega arith) ∙ or-zero k.programs (programs_value r) (λ e. nothing (a.entitled e) (a.serviced e))
      where
        nothing : r.entitled ≡ 0 → r.serviced ≡ false → programs_value r ≡ 0
        nothing z f = ap₂ (λ (t : Bool) (n : ℕ). cond t (8 + r.services) 0 * 0x100 + n) f z

    serviced-in : (t : Bool) (s e : ℕ) → s < 8 → e < 256 → eqb ((cond t (8 + s) 0 * 0x100 + e) / 0x800 % 2) 1 ≡ t
    serviced-in true s e hs he =
        let q : ((8 + s) * 0x100 + e) / 0x800 ≡ 1 = omega arith in
        eq-eqb (((8 + s) * 0x100 + e) / 0x800 % 2) 1 (ap (λ (n : ℕ). n % 2) q)
    serviced-in false s e hs he =
        let q : (0 * 0x100 + e) / 0x800 ≡ 0 = omega arith in
        ap (λ (n : ℕ). eqb (n % 2) 1) q

    services-in : (t : Bool) (s e : ℕ) → s < 8 → e < 256 → (t ≡ false → s ≡ 0) → (cond t (8 + s) 0 * 0x100 + e) / 0x100 % 8 ≡ s
    services-in true s e hs he z =
        let q : ((8 + s) * 0x100 + e) / 0x100 ≡ 8 + s = omega arith in
        let p : (8 + s) % 8 ≡ s = omega arith in
        ap (λ (n : ℕ). n % 8) q ∙ p
    services-in false s e hs he z =
        let q : (0 * 0x100 + e) / 0x100 ≡ 0 = omega arith in
        ap (λ (n : ℕ). n % 8) q ∙ sym (z refl)

    entitled-in : (n e : ℕ) → e < 256 → (n * 0x100 + e) % 0x100 ≡ e
    entitled-in n e he = omega arith

    pub receiver-in : receiver_in (words_with k r bytes) ≡ r
    receiver-in = same-fields (receiver_in (words_with k r bytes)) r mode stream register entitled (unfold receiver_in in known_in) sequence held number serviced services delivered missing last
      where
        mode : (receiver_in (words_with k r bytes)).mode ≡ r.mode
        mode = unfold receiver_in in let e : (r.stream * 16 + r.mode) % 16 ≡ r.mode = omega (arith, h.mode) in ap (λ (v : ℕ). v % 16) mode-in ∙ e

        stream : (receiver_in (words_with k r bytes)).stream ≡ r.stream
        stream =
            unfold receiver_in in
            let q : (r.stream * 16 + r.mode) / 16 ≡ r.stream = omega (arith, h.mode) in
            let e : r.stream % 4 ≡ r.stream = omega (arith, h.stream) in
            ap (λ (v : ℕ). v / 16 % 4) mode-in ∙ ap (λ (v : ℕ). v % 4) q ∙ e

        register : (receiver_in (words_with k r bytes)).register ≡ r.register
        register = unfold receiver_in in let e : r.register % 0x100 ≡ r.register = omega (arith, h.register) in ap (λ (v : ℕ). v % 0x100) register-in ∙ e

        entitled : (receiver_in (words_with k r bytes)).entitled ≡ r.entitled
        entitled = unfold receiver_in in ap (λ (v : ℕ). v % 0x100) programs-in ∙ entitled-in (cond r.serviced (8 + r.services) 0) r.entitled h.entitled

        sequence : (receiver_in (words_with k r bytes)).sequence ≡ r.sequence
        sequence = unfold receiver_in in let e : r.sequence % 8 ≡ r.sequence = omega (arith, h.sequence) in ap (λ (v : ℕ). v % 8) sequence-in ∙ e

        held : (receiver_in (words_with k r bytes)).held ≡ r.held
        held = unfold receiver_in in let e : (r.number * 0x10000 + r.held) % 0x10000 ≡ r.held = omega (arith, h.held) in ap (λ (v : ℕ). v % 0x10000) held_in ∙ e

        number : (receiver_in (words_with k r bytes)).number ≡ r.number
        number =
            unfold receiver_in in
            let q : (r.number * 0x10000 + r.held) / 0x10000 ≡ r.number = omega (arith, h.held) in
            let e : r.number % 64 ≡ r.number = omega (arith, h.number) in
            ap (λ (v : ℕ). v / 0x10000 % 64) held_in ∙ ap (λ (v : ℕ). v % 64) q ∙ e

        serviced : (receiver_in (words_with k r bytes)).serviced ≡ r.serviced
        serviced = unfold receiver_in in ap (λ (v : ℕ). eqb (v / 0x800 % 2) 1) programs-in ∙ serviced-in r.serviced r.services r.entitled h.services h.entitled

        services : (receiver_in (words_with k r bytes)).services ≡ r.services
        services = unfold receiver_in in ap (λ (v : ℕ). v / 0x100 % 8) programs-in ∙ services-in r.serviced r.services r.entitled h.services h.entitled h.unserved

        delivered : (receiver_in (words_with k r bytes)).delivered ≡ r.delivered
        delivered = unfold receiver_in in ap (λ (l : List ℕ). get_or l 0 0 % 0x10000 * 0x10000 + get_or l 1 0 % 0x10000) counts-in ∙ delivered-back r counted

        missing : (receiver_in (words_with k r bytes)).missing ≡ r.missing
        missing = unfold receiver_in in ap (λ (l : List ℕ). get_or l 2 0 % 0x10000 * 0x10000 + get_or l 3 0 % 0x10000) counts-in ∙ missing-back r counted h.unmissed

        last : (receiver_in (words_with k r bytes)).last ≡ r.last
        last = unfold receiver_in in ap (λ (l : List ℕ). get_or l 4 0 % 0x10000 % 0x100) counts-in ∙ last-back r counted h.unnumbered

    -- so they are of the form
    pub formed : length bytes ≡ r.held → is_form (words_with k r bytes) ≡ true
    unfolding is_form
    formed e =
        rw (kinds-in, receiver-in, bytes-in) (one-and _ _ (eq-eqb (length bytes) r.held e) (same-itself (words_with k r bytes)))
