use Rattle.std.proofs.Common.{◌∙◌, sym, arith}
use Rattle.writer.proofs.Counting.{wrongly, stops-here, goes-on-here, not_more, none_left}
use Rattle.writer.proofs.wrong_lengths.Goals as goal

pub returns-then-n-left : goal.returns-then-n-left
returns-then-n-left c =
    let ls = c.args.lengths.now in
    stops-here ls c.loop-length.length-index c.loop-length.left c.from-n.result (wrongly ls c.args.count) (omega arith) c.from-n.ensures c.loop-length.invariant c.if-n-left.true

pub overflow_sub-left : goal.overflow_sub-left
overflow_sub-left c = not_more c.from-n.result c.loop-length.left c.if-n-left.false

pub loop-length-preserved : goal.loop-length-preserved
loop-length-preserved c =
    let ls = c.args.lengths.now in
    goes-on-here ls c.loop-length.length-index c.loop-length.left c.from-n.result (wrongly ls c.args.count) (omega arith) c.from-n.ensures c.loop-length.invariant c.if-n-left.false

pub returns : goal.returns
returns c = sym (none_left c.args.lengths.now c.loop-length.length-index c.loop-length.left (omega arith)) ∙ c.loop-length.invariant
