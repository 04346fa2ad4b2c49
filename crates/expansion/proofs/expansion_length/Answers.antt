use Rattle.std.proofs.Common.{arith}
use Rattle.expansion.proofs.Chains.{left-start, left-past-la, left-past-end, left-full, left-found, left-next}
use Rattle.expansion.proofs.expansion_length.Goals as goal

pub loop-i-init : goal.loop-i-init
loop-i-init c = left-start _ _ _

pub returns-then-last-place : goal.returns-then-last-place
returns-then-last-place c = left-past-la c.args.pdu.now c.args.at c.args.la c.loop-i.i (omega arith) c.loop-i.invariant

pub returns-then-pdu-place : goal.returns-then-pdu-place
returns-then-pdu-place c = left-past-end c.args.pdu.now c.args.at c.args.la c.loop-i.i (omega arith) c.loop-i.invariant

pub returns-then-pdu-place-lt128 : goal.returns-then-pdu-place-lt128
returns-then-pdu-place-lt128 c =
    left-found c.args.pdu.now c.args.at c.args.la c.loop-i.i (omega arith) (omega arith) (omega arith) c.loop-i.invariant (rw c.from.ensures at c.if-pdu-place-lt128.true)

pub loop-i-preserved : goal.loop-i-preserved
loop-i-preserved c =
    left-next c.args.pdu.now c.args.at c.args.la c.loop-i.i (omega arith) (omega arith) (omega arith) c.loop-i.invariant (rw c.from.ensures at c.if-pdu-place-lt128.false)

pub returns : goal.returns
returns c = left-full c.args.pdu.now c.args.at c.args.la c.loop-i.i (omega arith) c.loop-i.invariant
