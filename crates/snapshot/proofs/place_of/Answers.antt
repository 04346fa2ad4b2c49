use Rattle.std.proofs.Common.{◌∙◌, ◌≡◌, sym, drop, length, ap, arith}
use Rattle.snapshot.proofs.Reading.{from-here, from_next, from_end}
use Rattle.snapshot.proofs.place_of.Goals as goal

pub returns-then-w-kind : goal.returns-then-w-kind
returns-then-w-kind c = (from-here c.args.words.now c.loop-i.i c.loop-i-test.true c.args.kind c.if-w-kind.true ∙ c.loop-i.invariant, omega arith)

pub loop-i-preserved : goal.loop-i-preserved
loop-i-preserved c = from_next c.args.words.now c.loop-i.i c.loop-i-test.true c.args.kind c.if-w-kind.false ∙ c.loop-i.invariant

pub returns : goal.returns
returns c =
    let e : c.loop-i.i ≡ length c.args.words.now = omega arith in
    (ap (λ k. drop k c.args.words.now) (sym e) ∙ from_end c.args.words.now c.loop-i.i c.loop-i-test.false c.args.kind ∙ c.loop-i.invariant, omega arith)
