-- The largest number that passes the test is the same as a test of one number.
use Rattle.std.proofs.Common.{arith}
use Rattle.packing.proofs.Limit.{past-63, past-la, within}
use Rattle.packing.proofs.within_limit.Goals as goal

pub returns-then-k-gt63 : goal.returns-then-k-gt63
returns-then-k-gt63 c = past-63 c.args.width c.args.extra c.args.k (omega arith)

pub returns-then-overhead-gt256 : goal.returns-then-overhead-gt256
returns-then-overhead-gt256 c = past-la c.args.width c.args.extra c.args.k (omega arith) (omega arith)

pub returns : goal.returns
returns c = within c.args.width c.args.extra c.args.k (omega arith) (omega arith)
