use Rattle.std.proofs.Common.{◌≡◌, ◌+◌, ◌-◌, ◌*◌, ◌/◌, ℕ, length, arith}
use Rattle.packet_log.proofs.Blocks.{block-turn}
use Rattle.packet_log.proofs.put_blocks.Goals as goal

pub loop-k-preserved : goal.loop-k-preserved
loop-k-preserved c =
    let a = c.args in
    let l = c.loop-k in
    let p : a.at + 4 * (l.k + 1) ≡ a.at + (4 * l.k + 4) = omega arith in
    let q : a.from + 12 * (l.k + 1) ≡ a.from + 12 * l.k + 12 = omega arith in record {
      left = λ rest. rw (p, q) (block-turn l.log _ a.bytes.now rest _ a.at (a.from + 12 * l.k) (4 * l.k) l.x l.y (omega arith) (omega arith) (λ n. (c.type_inv.bytes n).fits)
          l.invariant.first l.invariant.others c.put_block.ensures (l.invariant.left rest));
      first = c.eight-x-in-loop-k.ensures;
      others = c.four-y-in-loop-k.ensures.0;
      y_bound = c.four-y-in-loop-k.ensures.1;
    }

pub returns-clause-leaves : goal.returns-clause-leaves
returns-clause-leaves c =
    λ rest.
    let a = c.args in
    let l = c.loop-k in
    let k : ℕ = (length a.bytes.now - a.from - 12) / 12 in
    let e : l.k ≡ k = omega arith in
    let q : a.from + 3 * (4 * k + 4) ≡ a.from + 12 * k + 12 = omega arith in
    rw q (block-turn l.log _ a.bytes.now rest _ a.at (a.from + 12 * k) (4 * k) l.x l.y (omega arith) (omega arith) (λ n. (c.type_inv.bytes n).fits)
    (rw e at l.invariant.first) (rw e at l.invariant.others) c.put_block-2.ensures (rw e at (l.invariant.left rest)))
