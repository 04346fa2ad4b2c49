-- The answer and the buffers after a step, accepted or refused.
use mathlib.Core.Path.{◌≡◌, refl, sym, ap, ◌∙◌}
use mathlib.Core.Bool.{Bool, true, false, cond}
use mathlib.Core.List.{List}
use Prim.Native.Nat.{ℕ}
use lib.Dec.{eqb}
use borrow.Author.Tests.{eq-eqb, ne_eqb, eqb-true}
use Rattle.buffer.specs.Buffer.{put_at}
use Rattle.packet_log.specs.Log.{log_words}
use Rattle.reassembly.specs.Holder.{Come}
use Rattle.reassembly.specs.Run.{partial_bytes}
use Rattle.receiver.specs.Receiving.{refused_answer, outcome_in, taken_answer}
use Rattle.receiver.specs.Steps.{Answered}
use Rattle.receiver.specs.declared.Receiver.{Receiver}
use Rattle.receiver.specs.declared.Received.{Received}

module _ (range : ℕ) (come : Come) (r : Receiver) (carry log : List ℕ) (n k : ℕ) (a : Received) where
  pub answered-refused : (n ≡ 0 → ⊥) → a ≡ refused_answer r n k → Answered range come r carry log n k a carry log
  answered-refused z e =
      let t : eqb n 0 ≡ false = ne_eqb n 0 z in
      record { answer = rw t e; held = rw t; logged = rw t }

  pub answered-accepted : (carry_after log_after : List ℕ) → n ≡ 0 → a ≡ taken_answer range come r carry log
      → carry_after ≡ put_at carry 0 (partial_bytes (outcome_in range come r carry log).partial) → log_after ≡ put_at log 0 (log_words (outcome_in range come r carry log).entries)
      → Answered range come r carry log n k a carry_after log_after
  answered-accepted carry_after log_after z e ec el =
      let t : eqb n 0 ≡ true = eq-eqb n 0 z in
      record { answer = rw t e; held = rw t ec; logged = rw t el }

  -- the number that is answered
  pub answered-number : (carry_after log_after : List ℕ) → Answered range come r carry log n k a carry_after log_after → a.refusal ≡ n
  answered-number carry_after log_after h = ap (λ (x : Received). x.refusal) h.answer ∙ go (eqb n 0) refl
    where
      go : (b : Bool) → eqb n 0 ≡ b → (cond b (taken_answer range come r carry log) (refused_answer r n k)).refusal ≡ n
      go true e = sym (eqb-true n 0 e)
      go false e = refl
