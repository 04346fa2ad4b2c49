-- What is turned down of two corrected copies, row by row.
use mathlib.Core.Path.{◌≡◌, refl, sym, ap, ap₂, subst, ◌∙◌}
use mathlib.Core.Bool.{Bool, true, false, not, ◌&&◌, cond}
use mathlib.Core.List.{List, ◌++◌}
use Prim.Native.Nat.{ℕ, ◌+◌, ◌-◌, ◌<◌, ◌≤◌}
use native.Mathlib.Omega.{arith}
use lib.Dec.{eqb}
use lib.ListN.{length, take, drop}
use borrow.Author.Tests.{eq-eqb, ne_eqb}
use Rattle.refusal.specs.Refusal.{first_of}
use Rattle.refusal.proofs.Rows.{past, row-off, rest-off, never}
use Rattle.modes.specs.Modes.{listing}
use Rattle.modes.specs.declared.Mode.{Mode}
use Rattle.modes.specs.declared.Listing.{Listing}
use Rattle.modes.specs.declared.Listing.TheVariants.{Listed}
use Rattle.layout.specs.Control.{control_at}
use Rattle.layout.specs.declared.ControlWord.{ControlWord}
use Rattle.pdu.specs.Reading.{reader_tests, mode_in, listing_of, width_of, wrong_with, wrong_of}
use Rattle.pdu.specs.declared.Verdict.{Verdict}
use Rattle.pdu.proofs.Lowest.{without-eleven}
use Rattle.pdu.proofs.Sizes.{sized}
use Rattle.receiver.specs.Receiving.{refused_answer, last_tests}
use Rattle.receiver.specs.Steps.{Answered, Takes, stream_tests}
use Rattle.receiver.specs.declared.Receiver.{Receiver}
use Rattle.receiver.specs.declared.Received.{Received}
use Rattle.receiver.proofs.Answering.{answered-refused, answered-number}
use Rattle.receiver.proofs.Rows.{first_on, same-listing}
use Rattle.diversity.specs.Diversity.{copy_number, lower, wrong_in_pair, front_of, differ}
use Rattle.packet_log.specs.Log.{same_list}
use Rattle.pair.specs.Steps.{come_as_both, both_number, Paired}

-- ---- rows 5 to 12, of a copy

module _ (m : Mode) (r : Receiver) (y : List ℕ) (l : listing r.mode r.stream ≡ Listed m) where
  module _ (c : ControlWord) (ec : c ≡ control_at y) (n : ℕ) (en : n ≡ first_of (stream_tests r c)) where
    all-rows : copy_number r y ≡ first_of (stream_tests r c ++ reader_tests (mode_in (listing_of c)) c y)
    unfolding copy_number
    all-rows = rw ec refl

    -- 5 and 6
    pub stream-number : ¬ (n ≡ 0) → (n ≡ copy_number r y) × (0 ≡ wrong_of y n)
    stream-number z = (
      sym (all-rows ∙ first_on (stream_tests r c) (reader_tests (mode_in (listing_of c)) c y) (λ q. z (en ∙ q)) ∙ sym en),
      sym (without-eleven y n (λ h. never 11 (stream_tests r c) refl refl (sym en ∙ h))),
    )

    -- 7 to 12
    pub reader-number : n ≡ 0 → (v k : ℕ) → v ≡ first_of (reader_tests m c y) → k ≡ wrong_with m.width c y v → (v ≡ copy_number r y) × (k ≡ wrong_of y v)
    unfolding wrong_of width_of
    reader-number z v k ev ek =
        let none : first_of (stream_tests r c) ≡ 0 = sym en ∙ z in
        let line : listing_of c ≡ Listed m = same-listing r c (row-off (stream_tests r c) 1 refl none) ∙ l in (
          ev ∙ sym (all-rows ∙ past (stream_tests r c) (reader_tests (mode_in (listing_of c)) c y) refl none ∙ ap (λ (x : Listing). first_of (reader_tests (mode_in x) c y)) line),
          ek ∙ ap (λ (x : Listing). wrong_with (mode_in x).width c y v) (sym line) ∙ ap (λ (d : ControlWord). wrong_with (mode_in (listing_of d)).width d y v) ec,
        )

  module _ (e : copy_number r y ≡ 0) where
    -- none of the rows 7 to 12 applies
    pub right-copy : first_of (reader_tests m (control_at y) y) ≡ 0
    unfolding copy_number
    right-copy =
        let c = control_at y in
        let rows = stream_tests r c ++ reader_tests (mode_in (listing_of c)) c y in
        let line : listing_of c ≡ Listed m = same-listing r c (row-off rows 1 refl e) ∙ l in
        ap (λ (x : Listing). first_of (reader_tests (mode_in x) c y)) (sym line) ∙ rest-off rows 2 refl e

    -- La is inside, after the control word
    pub la-inside : (13 ≤ (control_at y).la) × ((control_at y).la < length y)
    la-inside = let s = sized m (control_at y) y right-copy in (let a = s.after in omega (arith, a), s.la)

-- ---- row 20

module _ (y z : List ℕ) where
  pub lengths_differ : ¬ (length y ≡ length z) → true ≡ differ y z
  unfolding differ
  lengths_differ d = let t : eqb (length y) (length z) ≡ false = ne_eqb (length y) (length z) d in rw t

  -- a and e are the places after La
  pub bytes-differ : (a e : ℕ) (b : Bool) → length y ≡ length z → a ≡ (control_at y).la + 1 → e ≡ (control_at z).la + 1 → b ≡ same_list (take (a - 8) (drop 8 y)) (take (e - 8) (drop 8 z)) → not b ≡ differ y z
  unfolding differ
  bytes-differ a e b long ea ee eb =
      let t : eqb (length y) (length z) ≡ true = eq-eqb (length y) (length z) long in
      ap not (eb ∙ ap₂ (λ (i j : ℕ). same_list (take (i - 8) (drop 8 y)) (take (j - 8) (drop 8 z))) ea ee)
      ∙ ap (λ (x : Bool). not (x && same_list (front_of y) (front_of z))) (sym t)

-- ---- rows 5 to 12, 20, 13 and 27

module _ (m : Mode) (r : Receiver) (carry y z log : List ℕ) where
  abbrev lowest : ℕ
  lowest = lower (copy_number r y) (copy_number r z)

  refused-with : (n k : ℕ) (a : Received) → both_number m r carry y z log ≡ n → ¬ (n ≡ 0) → k ≡ wrong_in_pair y z n → a ≡ refused_answer r n k → Paired m r carry y z log a carry log
  refused-with n k a e d ek q =
      rw e (answered-refused m.sequences (come_as_both m r carry y z log) r carry log n (wrong_in_pair y z n) a d (q ∙ ap (refused_answer r n) ek))

  -- 5 to 12
  pub judged-call : (v : Verdict) (a : Received) → (v.number ≡ lowest) × (v.wrong ≡ wrong_in_pair y z v.number) → ¬ (v.number ≡ 0) → a ≡ refused_answer r v.number v.wrong → Paired m r carry y z log a carry log
  unfolding both_number
  judged-call v a e d q =
      let t : eqb lowest 0 ≡ false = ne_eqb lowest 0 (λ h. d (e.0 ∙ h)) in
      refused-with v.number v.wrong a (rw t (sym e.0)) d e.1 q

  module _ (none : lowest ≡ 0) where
    t : eqb lowest 0 ≡ true
    t = eq-eqb lowest 0 none

    -- 20
    pub differs-call : (b : Bool) (a : Received) → b ≡ differ y z → b ≡ true → a ≡ refused_answer r 20 0 → Paired m r carry y z log a carry log
    unfolding both_number wrong_in_pair
    differs-call b a eb h q = let u : differ y z ≡ true = sym eb ∙ h in refused-with 20 0 a (rw (t, u)) (λ e. absurd (omega arith)) refl q

    -- 13, 27, or accepted
    pub alike-call : (b : Bool) (a : Received) (carry_end log_end : List ℕ) → b ≡ differ y z → b ≡ false → Takes m.sequences (come_as_both m r carry y z log) r carry log a carry_end log_end
        → Paired m r carry y z log a carry_end log_end
    unfolding both_number wrong_in_pair
    alike-call b a carry_end log_end eb h q =
        let u : differ y z ≡ false = sym eb ∙ h in
        let rows = last_tests m.sequences (come_as_both m r carry y z log) r carry log in
        let n : ℕ = first_of rows in
        let number : both_number m r carry y z log ≡ n = rw (t, u) in
        let k : 0 ≡ wrong_in_pair y z n = let d : eqb n 11 ≡ false = ne_eqb n 11 (never 11 rows refl refl) in rw d in
        rw number (subst (λ (j : ℕ). Answered m.sequences (come_as_both m r carry y z log) r carry log n j a carry_end log_end) k q)

  -- ---- the header put back

  module _ (a : Received) (carry_end log_end : List ℕ) (h : Paired m r carry y z log a carry_end log_end) where
    number : a.refusal ≡ both_number m r carry y z log
    number = answered-number m.sequences (come_as_both m r carry y z log) r carry log (both_number m r carry y z log) (wrong_in_pair y z (both_number m r carry y z log)) a carry_end log_end h

    pub both-kept : (x v : List ℕ) → a.refusal ≡ 0 → x ≡ cond (eqb (both_number m r carry y z log) 0) x v
    both-kept x v e = let s : eqb (both_number m r carry y z log) 0 ≡ true = eq-eqb (both_number m r carry y z log) 0 (sym number ∙ e) in rw s

    pub both-put-back : (x v : List ℕ) → ¬ (a.refusal ≡ 0) → v ≡ cond (eqb (both_number m r carry y z log) 0) x v
    both-put-back x v d = let s : eqb (both_number m r carry y z log) 0 ≡ false = ne_eqb (both_number m r carry y z log) 0 (λ q. d (number ∙ q)) in rw s
