use Rattle.std.proofs.Common.{◌≡◌, ◌<◌, ◌+◌, ℕ, suc, List, eqb, length, drop, get_or, refl, ap, sym, arith, ◌∙◌}
use mathlib.Core.Bool.{true, false, ◌&&◌}
use lib.ListN.{drop_of_length-le}
use lib.Seq.{drop-cons}
use native.Mathlib.Numerals.{add-one}
use borrow.Author.Tests.{eq-eqb, ne_eqb}
use Rattle.header.specs.Header.{all_zero}
use Rattle.header.proofs.all_zero.Goals as goal

-- a zero can be left out
zero-here : (s : List ℕ) (i : ℕ) → i < length s → get_or s i 0 ≡ 0 → all_zero (drop (i + 1) s) ≡ all_zero (drop i s)
zero-here s i h e =
    let z : eqb (get_or s i 0) 0 ≡ true = eq-eqb _ _ e in
    ap (λ (n : ℕ). all_zero (drop n s)) (add-one i) ∙ sym (ap all_zero (drop-cons s i 0 h) ∙ ap (λ b. b && all_zero (drop (suc i) s)) z)

nonzero-here : (s : List ℕ) (i : ℕ) → i < length s → ¬ (get_or s i 0 ≡ 0) → all_zero (drop i s) ≡ false
nonzero-here s i h n =
    let z : eqb (get_or s i 0) 0 ≡ false = ne_eqb _ _ n in
    ap all_zero (drop-cons s i 0 h) ∙ ap (λ b. b && all_zero (drop (suc i) s)) z

pub loop-x-init : goal.loop-x-init
loop-x-init c = refl

pub returns-then-x-ne0 : goal.returns-then-x-ne0
returns-then-x-ne0 c = sym (nonzero-here c.args.s c.loop-x.x-index (omega arith) c.if-x-ne0.true) ∙ c.loop-x.invariant

pub loop-x-preserved : goal.loop-x-preserved
loop-x-preserved c = zero-here c.args.s c.loop-x.x-index (omega arith) c.if-x-ne0.false ∙ c.loop-x.invariant

pub returns : goal.returns
returns c = sym (ap all_zero (drop_of_length-le c.args.s {i = c.loop-x.x-index} (omega arith))) ∙ c.loop-x.invariant
