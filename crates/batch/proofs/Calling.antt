-- The call: rows 1, 2 and 18, and then the PDUs one by one.
use mathlib.Core.Path.{◌≡◌, refl, sym, ap, ◌∙◌}
use mathlib.Core.Bool.{Bool, true, false, not, cond}
use mathlib.Core.List.{List, [], ◌∷◌, ◌++◌}
use Prim.Native.Nat.{ℕ}
use native.Mathlib.Omega.{arith}
use lib.Dec.{eqb}
use lib.ListN.{length}
use lib.Seq.{sets}
use borrow.Author.Tests.{eq-eqb, ne_eqb, eqb-true}
use Rattle.refusal.specs.Refusal.{first_of}
use Rattle.refusal.proofs.Rows.{past}
use Rattle.pieces.specs.Pieces.{total}
use Rattle.receiver.specs.Steps.{state_tests}
use Rattle.receiver.specs.declared.Receiver.{Receiver}
use Rattle.batch.specs.declared.Batch.{Batch}
use Rattle.batch.specs.Batches.{Result, one_by_one, word_ends, batch_number, batch_received, ends_after}
use Rattle.batch.specs.Steps.{leaving, begun_with}

-- where a row applies, those after it make no difference
earlier : (ts us : List (Bool × ℕ)) → ¬ (first_of ts ≡ 0) → first_of (ts ++ us) ≡ first_of ts
earlier [] us h = absurd (h refl)
earlier ((true, n) ∷ ts) us h = refl
earlier ((false, n) ∷ ts) us h = earlier ts us h

module _ (lengths carry pdus log ends : List ℕ) (r : Receiver) where
  abbrev number : ℕ
  number = batch_number lengths carry pdus log r

  abbrev whole : Result
  whole = batch_received lengths carry pdus log r

  -- what is promised of the answer, and of the buffers after the call
  abbrev pub Promised : Batch → List ℕ → List ℕ → List ℕ → List ℕ → Type 0
  Promised b c p l e = (b ≡ whole.answer) × ((c ≡ whole.carry) × ((p ≡ whole.pdus) × ((l ≡ whole.log) × (e ≡ ends_after lengths carry pdus log r ends))))

  turned_down : (n : ℕ) (b : Batch) → number ≡ n → ¬ (n ≡ 0) → b ≡ begun_with r n → Promised b carry pdus log ends
  unfolding batch_received ends_after
  turned_down n b e z q =
      let t : eqb number 0 ≡ false = ne_eqb number 0 (λ h. z (sym e ∙ h)) in
      (rw (t, e) q, (rw t, (rw t, (rw t, rw t))))

  module _ (n : ℕ) (en : n ≡ first_of (state_tests r (length carry))) where
    -- 1 and 2
    pub state-call : (b : Batch) → ¬ (n ≡ 0) → b ≡ begun_with r n → Promised b carry pdus log ends
    state-call b z q =
        turned_down n b (unfold batch_number in earlier (state_tests r (length carry)) ((not (eqb (total lengths) (length pdus)), 18) ∷ []) (λ h. z (en ∙ h)) ∙ sym en) z q

    module _ (z : n ≡ 0) (t : Bool) (et : t ≡ eqb (total lengths) (length pdus)) where
      after-state : number ≡ cond (not t) 18 0
      unfolding batch_number
      after-state = past (state_tests r (length carry)) ((not (eqb (total lengths) (length pdus)), 18) ∷ []) refl (sym en ∙ z) ∙ ap (λ (b : Bool). cond (not b) 18 0) (sym et)

      -- 18
      pub sum-call : (b : Batch) → t ≡ false → b ≡ begun_with r 18 → Promised b carry pdus log ends
      sum-call b f q = turned_down 18 b (after-state ∙ rw f) (λ e. omega arith) q

      -- the lengths sum to the buffer
      pub sum-right : t ≡ true → total lengths ≡ length pdus
      sum-right f = eqb-true (total lengths) (length pdus) (sym et ∙ f)

      -- one by one
      pub each-call : (b : Batch) (c p l told : List ℕ) → t ≡ true → leaving b c p l ≡ one_by_one lengths r carry pdus log → told ≡ sets ends 0 (word_ends 0 lengths r carry pdus log) → Promised b c p l told
      unfolding batch_received ends_after
      each-call b c p l told f q s =
          let e : eqb number 0 ≡ true = eq-eqb number 0 (after-state ∙ rw f) in
          rw e (ap (λ (x : Result). x.answer) q, (ap (λ (x : Result). x.carry) q, (ap (λ (x : Result). x.pdus) q, (ap (λ (x : Result). x.log) q, s))))
