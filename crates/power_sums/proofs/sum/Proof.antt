-- `power_sums::sum` meets its contract: before each turn it has the sum over the bytes below i.
use native.Mathlib.Nat.{mul-le-mul}
use native.Mathlib.Numerals.{add-one}
use native.Mathlib.Omega.{arith}
use mathlib.Core.Path.{◌≡◌, refl, sym, ◌∙◌, ap, ap₂}
use Prim.Native.Nat.{ℕ, ◌≤◌, ◌-◌}
use lib.Bits.{bit_xor}
use lib.ListN.{get_or}
use borrow.Author.Rules.{rules}
use Rattle.field.specs.Field.{mul}
use Rattle.header.specs.Header.{sum_up, term, syndrome}
use Rattle.power_sums.proofs.sum.Statement.{statement}
use Rattle.power_sums.proofs.sum.Tie as tie

abbrev invariant-loop : tie.invariant-loop-i
invariant-loop powers logarithms header j s₀ i₀ s i = (i ≤ 96) × (s ≡ sum_up (term j header) i)

abbrev decreases-loop : tie.decreases-loop-i
decreases-loop powers logarithms header j s₀ i₀ s i = 96 - i

loop-holds : tie.Need-loop-i-init invariant-loop decreases-loop
unfolding sum_up
loop-holds c = (omega arith, refl)

mul-power-by : tie.Need-overflow_mul-i invariant-loop decreases-loop
mul-power-by c = omega (arith, mul-le-mul c.before.before.before.loop-i.invariant.0 c.before.before.before.before.requires.1.1)

loop-again : tie.Need-loop-i-preserved invariant-loop decreases-loop
unfolding sum_up term
loop-again c =
    let l = c.before.before.before.before in
    let i : ℕ = l.before.loop-i.i in
    let a = l.before.before.args in (
      omega arith,
      ap₂ bit_xor l.before.loop-i.invariant.1
          (c.product_by-s.ensures ∙ ap (mul (get_or a.header.now i 0)) c.before.power_by.ensures)
          ∙ ap (sum_up (term a.j a.header.now)) (sym (add-one i)),
    )

returns : tie.Need-returns invariant-loop decreases-loop
unfolding syndrome
returns c =
    c.before.loop-i.invariant.1
    ∙ ap (sum_up (term c.before.before.args.j c.before.before.args.header.now)) (omega arith)

pub sum_spec : {M : Type 1} → statement M
sum_spec =
    tie.close (tie.spec invariant-loop decreases-loop
    loop-holds (λ c. search rules) mul-power-by (λ c κs. search rules) (λ c κs. search rules) (λ c. search rules) (λ c. search rules) loop-again returns)
