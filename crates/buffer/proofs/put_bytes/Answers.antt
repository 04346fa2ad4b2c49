use Rattle.std.proofs.Common.{arith}
use Rattle.buffer.proofs.Laws.{copy_start, copy-turn, copy-end}
use Rattle.buffer.proofs.put_bytes.Goals as goal

pub loop-j-init : goal.loop-j-init
loop-j-init c = copy_start c.args.dst.now c.args.src.now c.args.at

pub loop-j-preserved : goal.loop-j-preserved
loop-j-preserved c = copy-turn c.args.dst.now c.loop-j.dst c.args.src.now c.args.at c.loop-j.j _ (omega arith) (omega arith) (omega arith) c.loop-j.invariant

pub returns : goal.returns
returns c = copy-end c.args.dst.now c.loop-j.dst c.args.src.now c.args.at c.loop-j.j (omega arith) c.loop-j.invariant
