use Rattle.std.proofs.Common.{◌≡◌, ◌+◌, ◌*◌, arith, ap, ◌∙◌}
use Rattle.crc.specs.Ring.{next_high, next_low, far_high, far_low}
use Rattle.crc.proofs.Ring.{three, far-again, done}
use Rattle.crc.proofs.by_32.Goals as goal

pub loop-k-preserved : goal.loop-k-preserved
loop-k-preserved c =
    let at = c.args.from + 32 * c.loop-k.k in
    let e : c.args.from + 32 * (c.loop-k.k + 1) ≡ at + 32 = omega arith in
    let high = ap (far_high c.loop-k.h c.loop-k.l) (c.next_high-c.ensures.0 ∙ three next_high c.word-a.ensures c.word-b.ensures c.word.ensures) in
    let low = ap (far_low c.loop-k.h c.loop-k.l) (c.next_low-d.ensures.0 ∙ three next_low c.word-a.ensures c.word-b.ensures c.word-in-loop-k.ensures) in (
      c.far_high-x.ensures.1,
      c.far_low-l.ensures.1,
      rw (c.far_high-x.ensures.0, high, c.far_low-l.ensures.0, low, e)
          (far-again _ c.args.bytes.now c.loop-k.h c.loop-k.l at c.loop-k.invariant.0 c.loop-k.invariant.1 (λ k. (c.type_inv.bytes k).fits) c.loop-k.invariant.2 (omega arith)),
    )

pub returns : goal.returns
returns c =
    c.finish.ensures
    ∙ done _ c.args.bytes.now c.loop-k.h c.loop-k.l (c.args.from + 32 * c.loop-k.k) c.loop-k.invariant.0 c.loop-k.invariant.1 (λ k. (c.type_inv.bytes k).fits) c.loop-k.invariant.2 (omega arith)
