-- What the parts of a pair's call promise.
use Rattle.std.specs.Prelude.{not, cond, List, [], ◌∷◌, ℕ, min, eqb}
use Rattle.refusal.specs.Refusal.{first_of}
use Rattle.modes.specs.declared.Mode.{Mode}
use Rattle.layout.specs.Control.{control_at}
use Rattle.pdu.specs.declared.Verdict.{Verdict}
use Rattle.reassembly.specs.Holder.{Come}
use Rattle.receiver.specs.Steps.{Answered}
use Rattle.receiver.specs.declared.Receiver.{Receiver}
use Rattle.receiver.specs.declared.Received.{Received}
use Rattle.diversity.specs.Diversity.{pair_come, copy_number, lower, wrong_in_pair, differ}
use Rattle.receiver.specs.Receiving.{last_tests}

-- ---- rows 5 to 12, 20, 13 and 27, of two corrected copies

-- the k that comes with the lower of two numbers; of two that are the same, the smaller k
abbrev pub lower_wrong : Verdict → Verdict → ℕ
lower_wrong a b = cond (eqb a.number b.number) (min a.wrong b.wrong) (cond (eqb (lower a.number b.number) a.number) a.wrong b.wrong)

-- for a receiver of a mode, the lent carry and log, and two corrected copies
module _ (m : Mode) (r : Receiver) (carry y z log : List ℕ) where
  abbrev pub come_as_both : Come
  come_as_both = pair_come r.register m.width (control_at y) y z

  -- the number of the first row from 5 on that applies
  unfoldable pub both_number : ℕ
  both_number =
      let n = lower (copy_number r y) (copy_number r z) in
      first_of ((not (eqb n 0), n) ∷ (differ y z, 20) ∷ last_tests m.sequences come_as_both r carry log)

  abbrev pub Paired : Received → List ℕ → List ℕ → Type 0
  Paired a carry_after log_after = Answered m.sequences come_as_both r carry log both_number (wrong_in_pair y z both_number) a carry_after log_after
