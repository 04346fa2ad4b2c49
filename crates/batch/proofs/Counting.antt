-- The counts after a PDU of a batch.
use mathlib.Core.Path.{◌≡◌, sym, ap, ap₂, ◌∙◌}
use mathlib.Core.Bool.{true, false, cond}
use mathlib.Core.List.{List, []}
use Prim.Native.Nat.{ℕ, ◌+◌}
use native.Mathlib.Nat.{add-zero}
use lib.Dec.{eqb}
use borrow.Author.Tests.{eq-eqb, ne_eqb}
use Rattle.receiver.specs.Receiving.{receive_answer}
use Rattle.receiver.specs.declared.Receiver.{Receiver}
use Rattle.receiver.specs.declared.Received.{Received}
use Rattle.batch.specs.declared.Batch.{Batch}
use Rattle.batch.specs.Steps.{with_answer}
use Rattle.batch.proofs.Single.{no-k}

-- an answer x for a PDU whose call answers a
module _ (b : Batch) (carry pdu log : List ℕ) (a : Received) (e : a ≡ receive_answer [] carry pdu log b.receiver) (x : Batch) (words : x.words ≡ b.words + a.words) (receiver : x.receiver ≡ a.receiver) where
  abbrev right : Batch
  right = with_answer b (receive_answer [] carry pdu log b.receiver)

  fields : x.refusal ≡ a.refusal → x.wrong ≡ a.wrong → x.taken ≡ b.taken + cond (eqb a.refusal 0) 1 0 → x ≡ right
  fields n k t =
      ap₂ (λ (i j : ℕ). record { refusal = i; wrong = j; taken = x.taken; words = x.words; receiver = x.receiver }) n k
      ∙ ap₂ (λ (i j : ℕ). record { refusal = a.refusal; wrong = a.wrong; taken = i; words = j; receiver = x.receiver }) t words
      ∙ ap (λ (r : Receiver). record { refusal = a.refusal; wrong = a.wrong; taken = b.taken + cond (eqb a.refusal 0) 1 0; words = b.words + a.words; receiver = r }) receiver
      ∙ ap (with_answer b) e

  -- a refused PDU is not counted
  pub counted-refused : ¬ (a.refusal ≡ 0) → x.refusal ≡ a.refusal → x.wrong ≡ a.wrong → x.taken ≡ b.taken → x ≡ right
  counted-refused h n k t =
      let f : eqb a.refusal 0 ≡ false = ne_eqb a.refusal 0 h in
      fields n k (t ∙ rw f (sym (add-zero b.taken)))

  -- one that is taken is
  pub counted-taken : a.refusal ≡ 0 → x.refusal ≡ 0 → x.wrong ≡ 0 → x.taken ≡ b.taken + 1 → x ≡ right
  counted-taken h n k t =
      let f : eqb a.refusal 0 ≡ true = eq-eqb a.refusal 0 h in
      let z : a.wrong ≡ 0 = ap (λ (y : Received). y.wrong) e ∙ no-k [] carry pdu log b.receiver (sym (ap (λ (y : Received). y.refusal) e) ∙ h) in
      fields (n ∙ sym h) (k ∙ sym z) (t ∙ rw f)
