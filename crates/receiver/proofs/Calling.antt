-- A receiving call, part by part.
use mathlib.Core.Path.{◌≡◌, refl, sym, ap, ◌∙◌, subst}
use mathlib.Core.Bool.{Bool, true, false, cond}
use mathlib.Core.List.{List}
use Prim.Native.Nat.{ℕ, ◌<◌, ◌≤◌}
use native.Mathlib.Omega.{arith}
use lib.Dec.{eqb}
use lib.ListN.{length, get_or}
use borrow.Author.Tests.{eq-eqb, ne_eqb}
use Rattle.refusal.specs.Refusal.{first_of, any_of}
use Rattle.refusal.proofs.Rows.{never}
use Rattle.modes.specs.Modes.{listing}
use Rattle.modes.specs.declared.Mode.{Mode}
use Rattle.modes.specs.declared.Listing.{Listing}
use Rattle.modes.specs.declared.Listing.TheVariants.{Listed, Refused}
use Rattle.header.specs.Header.{header_of, front_replaced}
use Rattle.correction.specs.Marks.{marks_refusal, correction_with, corrected_pdu_with}
use Rattle.correction.specs.declared.Correction.TheVariants.{Corrected, Refused as CorrectionRefused}
use Rattle.correction.proofs.Answers.{refused-unchanged-with, corrected-allowed-with, header-put-back-with}
use Rattle.layout.specs.Control.{control_at}
use Rattle.layout.specs.declared.ControlWord.{ControlWord}
use Rattle.pdu.specs.Reading.{reader_tests, mode_in, wrong_with, wrong_of}
use Rattle.pdu.proofs.Lowest.{without-eleven}
use Rattle.receiver.specs.Receiving.{come_by, mode_of, wrong_fields, wrong_state, refused_answer, receive_number, receive_answer, carry_after, pdu_after, log_after, last_tests}
use Rattle.receiver.specs.Steps.{Takes, stream_tests, corrected_number, Answered}
use Rattle.receiver.specs.declared.Receiver.{Receiver}
use Rattle.receiver.specs.declared.Received.{Received}
use Rattle.receiver.proofs.Answering.{answered-refused, answered-number}
use Rattle.receiver.proofs.Rows.{at-stream, same_width, at-reader, at-log, state-listed, state-unlisted, at-state, at-carry, at-correction, at-corrected}

-- ---- a corrected PDU y with the control word c

module _ (m : Mode) (r : Receiver) (carry y log : List ℕ) where
  abbrev applying : ℕ
  applying = corrected_number m r carry y log

  -- what is promised of the answer a, and of the carry buffer and the log after the call
  abbrev pub Corrects : Received → List ℕ → List ℕ → Type 0
  Corrects a carry_end log_end = Answered m.sequences (come_by r.register m.width (control_at y) y) r carry log applying (wrong_of y applying) a carry_end log_end

  refused-with : (n k : ℕ) (a : Received) → applying ≡ n → (n ≡ 0 → ⊥) → k ≡ wrong_of y n → a ≡ refused_answer r n k → Corrects a carry log
  refused-with n k a e z w q = rw e (answered-refused m.sequences (come_by r.register m.width (control_at y) y) r carry log n (wrong_of y n) a z (q ∙ ap (refused_answer r n) w))

  module _ (c : ControlWord) (ec : c ≡ control_at y) where
    -- 5 and 6
    pub stream-call : (n : ℕ) (a : Received) → n ≡ first_of (stream_tests r c) → (n ≡ 0 → ⊥) → a ≡ refused_answer r n 0 → Corrects a carry log
    stream-call n a e z q =
        refused-with n 0 a (at-stream m r carry y log c ec n e z) z (sym (without-eleven y n (λ h. never 11 (stream_tests r c) refl refl (sym e ∙ h)))) q

    module _ (l : listing r.mode r.stream ≡ Listed m) (n : ℕ) (en : n ≡ first_of (stream_tests r c)) (zn : n ≡ 0) where
      none : first_of (stream_tests r c) ≡ 0
      none = sym en ∙ zn

      same-wrong : (v : ℕ) → wrong_with m.width c y v ≡ wrong_of y v
      unfolding wrong_of
      same-wrong v = let w = sym (same_width m r carry y log c ec l none) in λ i. wrong_with (w i) (ec i) y v

      -- 7 to 12
      pub reader-call : (v k : ℕ) (a : Received) → v ≡ first_of (reader_tests m c y) → k ≡ wrong_with m.width c y v → (v ≡ 0 → ⊥) → a ≡ refused_answer r v k → Corrects a carry log
      reader-call v k a e w z q = refused-with v k a (at-reader m r carry y log c ec l none v e z) z (w ∙ same-wrong v) q

      -- 13, 27, or accepted
      pub log-call : (v : ℕ) (a : Received) (carry_end log_end : List ℕ) → v ≡ first_of (reader_tests m c y) → v ≡ 0
          → Takes m.sequences (come_by r.register m.width c y) r carry log a carry_end log_end
          → Corrects a carry_end log_end
      log-call v a carry_end log_end e z q =
          let n : ℕ = first_of (last_tests m.sequences (come_by r.register m.width c y) r carry log) in
          let number : applying ≡ n = at-log m r carry y log c ec l none (sym e ∙ z) in
          let k : 0 ≡ wrong_of y n = sym (without-eleven y n (never 11 (last_tests m.sequences (come_by r.register m.width c y) r carry log) refl refl)) in
          let first : Answered m.sequences (come_by r.register m.width c y) r carry log n (wrong_of y n) a carry_end log_end =
          subst (λ (j : ℕ). Answered m.sequences (come_by r.register m.width c y) r carry log n j a carry_end log_end) k q in
          let second : Answered m.sequences (come_by r.register m.width c y) r carry log applying (wrong_of y applying) a carry_end log_end = rw number first in
          subst (λ (d : ControlWord). Answered m.sequences (come_by r.register m.width d y) r carry log applying (wrong_of y applying) a carry_end log_end) ec second

  -- ---- the header put back

  module _ (a : Received) (carry_end log_end : List ℕ) (h : Corrects a carry_end log_end) (v : List ℕ) where
    number : a.refusal ≡ applying
    number = answered-number m.sequences (come_by r.register m.width (control_at y) y) r carry log applying (wrong_of y applying) a carry_end log_end h

    pub kept : a.refusal ≡ 0 → y ≡ cond (eqb applying 0) y v
    kept z = let t : eqb applying 0 ≡ true = eq-eqb applying 0 (sym number ∙ z) in rw t

    pub put_back : (a.refusal ≡ 0 → ⊥) → v ≡ cond (eqb applying 0) y v
    put_back z = let t : eqb applying 0 ≡ false = ne_eqb applying 0 (λ q. z (number ∙ q)) in rw t

-- ---- the whole call

module _ (marks carry pdu log : List ℕ) (r : Receiver) where
  -- what is promised of the answer a, and of the carry buffer, the PDU and the log after the call
  abbrev pub Promised : Received → List ℕ → List ℕ → List ℕ → Type 0
  Promised a carry_end pdu_end log_end =
      (a ≡ receive_answer marks carry pdu log r)
      × ((carry_end ≡ carry_after marks carry pdu log r) × ((pdu_end ≡ pdu_after marks carry pdu log r) × (log_end ≡ log_after marks carry pdu log r)))

  -- the answer and the buffers after a corrected PDU, for a mode and the number that applies
  abbrev Given : Mode → ℕ → Received → List ℕ → List ℕ → Type 0
  Given m n a carry_end log_end =
      let y = corrected_pdu_with marks pdu in
      Answered m.sequences (come_by r.register m.width (control_at y) y) r carry log n (wrong_of y n) a carry_end log_end

  pub turned_down : (n : ℕ) (a : Received) → receive_number marks carry pdu log r ≡ n → (n ≡ 0 → ⊥) → (n ≡ 11 → ⊥) → a ≡ refused_answer r n 0 → Promised a carry pdu log
  unfolding receive_answer carry_after pdu_after log_after
  turned_down n a e z d q =
      let t : eqb (receive_number marks carry pdu log r) 0 ≡ false = ne_eqb (receive_number marks carry pdu log r) 0 (λ h. z (sym e ∙ h)) in
      let k : 0 ≡ wrong_of (corrected_pdu_with marks pdu) n = sym (without-eleven (corrected_pdu_with marks pdu) n d) in
      (rw t (q ∙ ap (refused_answer r n) k ∙ ap (λ (x : ℕ). refused_answer r x (wrong_of (corrected_pdu_with marks pdu) x)) (sym e)), (rw t, (rw t, rw t)))

  -- 1, for a mode and stream that the table has not
  pub unlisted-call : (l : Listing) (n : ℕ) (a : Received) → l ≡ listing r.mode r.stream → l ≡ Refused n → a ≡ refused_answer r 1 0 → Promised a carry pdu log
  unlisted-call l n a e f q = turned_down 1 a (at-state marks carry pdu log r (state-unlisted r n (sym e ∙ f))) (λ z. omega arith) (λ z. omega arith) q

  module _ (m : Mode) (l : listing r.mode r.stream ≡ Listed m) (b : Bool) (eb : b ≡ any_of (wrong_fields m r)) where
    -- 1
    pub state-call : (a : Received) → b ≡ true → a ≡ refused_answer r 1 0 → Promised a carry pdu log
    state-call a t q = turned_down 1 a (at-state marks carry pdu log r (state-listed r m l ∙ sym eb ∙ t)) (λ z. omega arith) (λ z. omega arith) q

    module _ (f : b ≡ false) where
      right : any_of (wrong_state r) ≡ false
      right = state-listed r m l ∙ sym eb ∙ f

      -- 2
      pub carry-call : (a : Received) → length carry < 4096 → a ≡ refused_answer r 2 0 → Promised a carry pdu log
      carry-call a h q = turned_down 2 a (at-carry marks carry pdu log r right h) (λ z. omega arith) (λ z. omega arith) q

      module _ (room : 4096 ≤ length carry) where
        -- 3, 19 and 4
        pub correction-call : (n : ℕ) (a : Received) (pdu_end : List ℕ) → correction_with marks pdu ≡ CorrectionRefused n → pdu_end ≡ corrected_pdu_with marks pdu → a ≡ refused_answer r n 0 → Promised a carry pdu_end log
        correction-call n a pdu_end e ep q =
            let k = at-correction marks carry pdu log r right room n e in
            subst (λ (x : List ℕ). Promised a carry x log) (sym (ep ∙ refused-unchanged-with marks pdu n e)) (turned_down n a k.0 k.1 k.2 q)

        -- a corrected PDU y, whose header was w
        pub corrected-call : (n : ℕ) (a : Received) (y w carry_end pdu_end log_end : List ℕ) → ((i : ℕ) → get_or pdu i 0 < 256) → correction_with marks pdu ≡ Corrected n → w ≡ header_of pdu → y ≡ corrected_pdu_with marks pdu
            → Corrects m r carry y log a carry_end log_end
            → pdu_end ≡ cond (eqb (corrected_number m r carry y log) 0) y (front_replaced y w)
            → Promised a carry_end pdu_end log_end
        unfolding receive_answer carry_after pdu_after log_after
        corrected-call n a y w carry_end pdu_end log_end bytes e ew ey h ep =
            let size : (96 ≤ length pdu) × (length pdu ≤ 20480) × (marks_refusal marks ≡ 0) = corrected-allowed-with marks pdu n e in
            let mode : mode_of r ≡ m = ap mode_in l in
            let number : receive_number marks carry pdu log r ≡ corrected_number m r carry (corrected_pdu_with marks pdu) log = at-corrected marks carry pdu log r right room n e ∙ ap (λ (x : Mode). corrected_number x r carry (corrected_pdu_with marks pdu) log) mode in
            let u : front_replaced y w ≡ pdu = rw (ew, ey) (header-put-back-with marks pdu size.0 size.1 bytes size.2) in
            let h₁ : Corrects m r carry (corrected_pdu_with marks pdu) log a carry_end log_end = subst (λ (x : List ℕ). Corrects m r carry x log a carry_end log_end) ey h in
            let h₂ : Given m (receive_number marks carry pdu log r) a carry_end log_end = rw number h₁ in
            let h₃ : Given (mode_of r) (receive_number marks carry pdu log r) a carry_end log_end = subst (λ (x : Mode). Given x (receive_number marks carry pdu log r) a carry_end log_end) (sym mode) h₂ in
            let ending : pdu_end ≡ cond (eqb (receive_number marks carry pdu log r) 0) (corrected_pdu_with marks pdu) pdu =
            ep ∙ ap (λ (x : List ℕ). cond (eqb (corrected_number m r carry y log) 0) y x) u ∙ ap (λ (x : List ℕ). cond (eqb (corrected_number m r carry x log) 0) x pdu) ey ∙ ap (λ (x : ℕ). cond (eqb x 0) (corrected_pdu_with marks pdu) pdu) (sym number) in
            (h₃.answer, (h₃.held, (ending, h₃.logged)))
