use Rattle.std.proofs.Common.{◌≡◌, ◌+◌, ◌-◌, ◌*◌, drop, subst, ℕ, arith}
use Rattle.header.specs.Packed.{LeftOver}
use Rattle.header.proofs.Lanes.{next-left, nothing_left, eight-more, parity-left}
use Rattle.header.proofs.remainder.Goals as goal

pub loop-k-init : goal.loop-k-init
loop-k-init c = (omega arith, nothing_left c.args.header.now (omega arith))

pub step-r-requires : goal.step-r-requires
step-r-requires c =
    let a = c.x8-a.ensures in
    let b = next-left 0 c.next-b.ensures a in
    let x = next-left 1 c.next-c.ensures b in
    let d = next-left 2 c.next-d.ensures x in
    let e = next-left 3 c.next-e.ensures d in
    let f = next-left 4 c.next-f.ensures e in
    let g = next-left 5 c.next-g.ensures f in
    let h = next-left 6 c.next-h.ensures g in
    record { a_value = (a, b, x, d); e_value = (e, f, g, h) }

pub loop-k-preserved : goal.loop-k-preserved
loop-k-preserved c =
    let w = c.args.header.now in
    let at = 8 * (c.loop-k.k - 1) in
    let e : 8 * c.loop-k.k ≡ 8 * (c.loop-k.k - 1) + 8 = omega arith in
    (omega arith, eight-more w at c.loop-k.r c.word.result c.step-r.result (omega arith) (subst (λ (n : ℕ). LeftOver c.loop-k.r (drop n w)) e c.loop-k.invariant.1) c.word.ensures c.step-r.ensures)

pub returns : goal.returns
returns c =
    let w = c.args.header.now in
    let e : 8 * c.loop-k.k ≡ 8 = omega arith in
    parity-left w c.loop-k.r (omega arith) (λ k. (c.type_inv.header k).fits) (subst (λ (n : ℕ). LeftOver c.loop-k.r (drop n w)) e c.loop-k.invariant.1)
