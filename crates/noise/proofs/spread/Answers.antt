use Rattle.std.proofs.Common.{◌≡◌, ◌+◌, ◌-◌, ℕ, refl, ap, sym, arith, ◌∙◌}
use Rattle.noise.specs.Noise.{down}
use Rattle.noise.proofs.Laws.{down_turn}
use Rattle.noise.proofs.spread.Goals as goal

pub loop-init : goal.loop-init
loop-init c = let e : c.args.offset - 0 ≡ c.args.offset = omega arith in rw (e, c.from-mask.ensures) refl

pub loop-preserved : goal.loop-preserved
loop-preserved c =
    let left = c.args.offset - c.loop.counter in
    let e : c.args.offset - (c.loop.counter + 1) ≡ c.args.offset - c.loop.counter - 1 = omega arith in
    rw e (down_turn left c.loop.mask (omega arith) ∙ c.loop.invariant)

pub returns : goal.returns
unfolding down
returns c = let z : c.args.offset - c.loop.counter ≡ 0 = omega arith in sym (ap (λ (n : ℕ). down n c.loop.mask) z) ∙ c.loop.invariant
