-- A writer's state after an accepted call, and what it sent.
use mathlib.Core.Path.{◌≡◌, refl, sym, ap, subst, ◌∙◌}
use mathlib.Core.Bool.{Bool, true, false, ◌||◌, cond}
use mathlib.Core.List.{List, [], ◌∷◌}
use Prim.Native.Nat.{ℕ, ◌+◌, ◌%◌, ◌<◌, ◌≤◌}
use native.Mathlib.Omega.{arith}
use native.Mathlib.Nat.{mod-lt}
use lib.Dec.{eqb, ltb, leb}
use borrow.Author.Tests.{le-ltb, lt-leb, ltb-false, eq-eqb, eqb-true}
use lib.ListN.{length}
use Rattle.refusal.specs.Refusal.{any_of, first_of}
use Rattle.modes.specs.Modes.{listing}
use Rattle.modes.specs.declared.Mode.{Mode}
use Rattle.modes.specs.declared.Listing.{Listing}
use Rattle.modes.specs.declared.Listing.TheVariants.{Listed}
use Rattle.layout.specs.Control.{bit, piece_number}
use Rattle.modes.proofs.Listable.{listable}
use Rattle.settings.specs.declared.Settings.{Settings}
use Rattle.pieces.specs.Pieces.{total}
use Rattle.packing.specs.Packing.{overhead, piece_lengths}
use Rattle.packing.proofs.Limit.{one_piece}
use Rattle.packing.proofs.Bounds.{AtMost, Positive, sent-after, some-placed}
use Rattle.writer.specs.Writing.{wrong_lengths, wrong_writer, no_room, extra_of, placed_lengths, next_of, control_for, writer_tests, accepted_answer, refused_write, answer_in, write_answer}
use Rattle.writer.specs.declared.Writer.{Writer}
use Rattle.writer.specs.declared.Written.{Written}
use Rattle.writer.proofs.Judging.{first-fails, second-fails}
use Rattle.writer.proofs.Accepted.{Fine, fine}
use Rattle.writer.proofs.Sending.{extra-small, positive}

at_most : (ns : List ℕ) → wrong_lengths ns ≡ false → AtMost 4096 ns
at_most [] e = tt
at_most (n ∷ ns) e =
    let r = second-fails (eqb n 0) (ltb 4096 n || wrong_lengths ns) e in
    (ltb-false 4096 n (first-fails (ltb 4096 n) (wrong_lengths ns) r), at_most ns (second-fails (ltb 4096 n) (wrong_lengths ns) r))

module _ (settings : Settings) (psd lengths bytes : List ℕ) (size : ℕ) (m : Mode) (w : Writer) (f : Fine settings psd lengths bytes size m w) (l : listing w.mode w.stream ≡ Listed m) where
  -- the next state is not refused with 1
  pub next-right : any_of (wrong_writer m (next_of settings psd lengths bytes size m w)) ≡ false
  next-right =
      let b = listable w.mode w.stream m l in
      let n = next_of settings psd lengths bytes size m w in
      let h : n.sequence < m.sequences = mod-lt (w.sequence + 1) (omega (arith, b.least)) in
      let s : n.sent ≤ 4095 = sent-after m.width (extra_of settings psd lengths bytes size) size lengths 0 0 w.sent 4095 (at_most lengths f.right) f.sent in
      let u : leb m.sequences n.sequence ≡ false = lt-leb m.sequences n.sequence h in
      let v : ltb 63 n.number ≡ false = le-ltb 63 n.number (omega arith) in
      let x : ltb 4095 n.sent ≡ false = le-ltb 4095 n.sent s in
      rw (u, v, x)

  -- with packets offered, at least one byte is sent
  pub sends-a-byte : 0 < length lengths → 0 < total (placed_lengths settings psd lengths bytes size m w)
  unfolding total
  sends-a-byte h = go (placed_lengths settings psd lengths bytes size m w) (offered lengths refl h) (positive settings psd lengths bytes size m w f l)
    where
      offered : (ns : List ℕ) → lengths ≡ ns → 0 < length ns → 0 < length (placed_lengths settings psd lengths bytes size m w)
      offered [] e h = absurd (omega arith)
      offered (n ∷ ns) e h =
          let r : no_room m (extra_of settings psd lengths bytes size) size (n ∷ ns) ≡ false = subst (λ (k : List ℕ). no_room m (extra_of settings psd lengths bytes size) size k ≡ false) e f.room in
          subst (λ (k : List ℕ). 0 < length (piece_lengths m.width (extra_of settings psd lengths bytes size) size w.sent k)) (sym e)
          (some-placed m.width (extra_of settings psd lengths bytes size) size w.sent n ns (ltb-false size (overhead m.width (extra_of settings psd lengths bytes size) 1 + 2) r) (one_piece m.width (extra_of settings psd lengths bytes size) (extra-small settings psd lengths bytes size m w f l)))

      go : (ps : List ℕ) → 0 < length ps → Positive ps → 0 < total ps
      go [] n p = absurd (omega arith)
      go (k ∷ ps) n p = let q = p.0 in omega arith

-- piece k is of the packet with the writer's number plus k, modulo 64
pub numbers-run : (settings : Settings) (psd lengths bytes : List ℕ) (size : ℕ) (m : Mode) (w : Writer) (k : ℕ) → w.number ≤ 63
    → let c = control_for settings psd lengths bytes size m w in piece_number c.pfirst c.start k ≡ (w.number + k) % 64
numbers-run settings psd lengths bytes size m w k h = go (ltb 0 w.sent)
  where
    go : (b : Bool) → ((w.number + bit b) % 64 + cond b 63 0 + k) % 64 ≡ (w.number + k) % 64
    go true = omega (arith, h)
    go false = omega (arith, h)

-- ---- over calls

module _ (settings : Settings) (psd lengths bytes : List ℕ) (size : ℕ) (w : Writer) where
  accepted : (m : Mode) → (answer_in settings psd lengths bytes size (Listed m) w).refusal ≡ 0 → first_of (writer_tests settings psd lengths bytes size m w) ≡ 0
  accepted m h = by (eqb (first_of (writer_tests settings psd lengths bytes size m w)) 0) refl h
    where
      by : (b : Bool) → eqb (first_of (writer_tests settings psd lengths bytes size m w)) 0 ≡ b
          → (cond b (accepted_answer settings psd lengths bytes size m w) (refused_write w (first_of (writer_tests settings psd lengths bytes size m w)))).refusal ≡ 0
          → first_of (writer_tests settings psd lengths bytes size m w) ≡ 0
      by true e h = eqb-true (first_of (writer_tests settings psd lengths bytes size m w)) 0 e
      by false e h = h

  module _ (m : Mode) (l : listing w.mode w.stream ≡ Listed m) (h : (write_answer settings psd lengths bytes size w).refusal ≡ 0) where
    here : write_answer settings psd lengths bytes size w ≡ answer_in settings psd lengths bytes size (Listed m) w
    unfolding write_answer
    here = ap (λ (k : Listing). answer_in settings psd lengths bytes size k w) l

    tests : first_of (writer_tests settings psd lengths bytes size m w) ≡ 0
    tests = accepted m (ap (λ (r : Written). r.refusal) (sym here) ∙ h)

    -- the writer that an accepted call hands back is not refused with 1
    pub next-accepted : any_of (wrong_writer m (write_answer settings psd lengths bytes size w).writer) ≡ false
    next-accepted =
        let t : eqb (first_of (writer_tests settings psd lengths bytes size m w)) 0 ≡ true = eq-eqb (first_of (writer_tests settings psd lengths bytes size m w)) 0 tests in
        let e : (write_answer settings psd lengths bytes size w).writer ≡ next_of settings psd lengths bytes size m w =
        ap (λ (r : Written). r.writer) here ∙ ap (λ (b : Bool). (cond b (accepted_answer settings psd lengths bytes size m w) (refused_write w (first_of (writer_tests settings psd lengths bytes size m w)))).writer) t in
        ap (λ (n : Writer). any_of (wrong_writer m n)) e ∙ next-right settings psd lengths bytes size m w (fine settings psd lengths bytes size m w tests) l

    -- an accepted call with packets offered sends at least one byte
    pub byte-sent : 0 < length lengths → 0 < total (placed_lengths settings psd lengths bytes size m w)
    byte-sent = sends-a-byte settings psd lengths bytes size m w (fine settings psd lengths bytes size m w tests) l
