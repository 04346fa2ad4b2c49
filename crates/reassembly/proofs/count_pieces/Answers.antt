use Rattle.std.proofs.Common.{◌≡◌, ◌-◌, refl, sym, ◌∙◌, arith}
use native.Mathlib.Nat.{sub-zero}
use Rattle.reassembly.proofs.Counts.{count_none, piece-small, count_next, next-bounded, bounded-more}
use Rattle.reassembly.proofs.count_pieces.Goals as goal

pub loop-k-init : goal.loop-k-init
loop-k-init c =
    let z : c.args.head.nop - 0 ≡ c.args.head.nop = sub-zero c.args.head.nop in
    record { few = c.requires.held_bound.0; bounded = c.requires.held_bound.2; so_far = rw z refl }

pub overflow_sub-e : goal.overflow_sub-e
overflow_sub-e c = omega (arith, c.requires.by_index c.loop-k.k c.loop-k-test.true, c.from-a.ensures, c.from-e.ensures)

pub add_piece-sum-requires : goal.add_piece-sum-requires
add_piece-sum-requires c =
    let a = c.args in
    let o = c.loop-k in
    let small = piece-small a.head a.marks a.causes o.k o.continues o.kept o.sum c.loop-k-test.true c.from-a.result c.from-e.result c.ends_here-ends.result c.count_piece-p.result c.from-a.ensures c.from-e.ensures c.ends_here-ends.ensures c.count_piece-p.ensures in
    (bounded-more o.k 63 o.sum (omega arith) o.invariant.bounded, small.0)

pub loop-k-preserved : goal.loop-k-preserved
loop-k-preserved c =
    let a = c.args in
    let o = c.loop-k in
    let more = c.loop-k-test.true in
    let p = c.count_piece-p in
    let small = piece-small a.head a.marks a.causes o.k o.continues o.kept o.sum more c.from-a.result c.from-e.result c.ends_here-ends.result p.result c.from-a.ensures c.from-e.ensures c.ends_here-ends.ensures p.ensures in
    let bounded = next-bounded a.head a.marks a.causes o.k o.continues o.kept o.sum more c.from-a.result c.from-e.result c.ends_here-ends.result p.result c.from-a.ensures c.from-e.ensures c.ends_here-ends.ensures p.ensures c.piece_number-n.result c.add_piece-sum.result c.piece_number-n.ensures c.add_piece-sum.ensures o.invariant.bounded in
    let next = count_next a.head a.marks a.causes o.k o.continues o.kept o.sum more c.from-a.result c.from-e.result c.ends_here-ends.result p.result c.from-a.ensures c.from-e.ensures c.ends_here-ends.ensures p.ensures c.piece_number-n.result c.add_piece-sum.result c.piece_number-n.ensures c.add_piece-sum.ensures in
    record { few = small.1; bounded = bounded; so_far = next ∙ o.invariant.so_far }

pub returns : goal.returns
returns c =
    let a = c.args in
    let o = c.loop-k in
    sym (count_none a.head a.marks a.causes o.k o.continues o.kept o.sum c.loop-k-test.false) ∙ o.invariant.so_far
