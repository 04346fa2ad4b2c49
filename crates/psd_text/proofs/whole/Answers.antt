use Rattle.std.proofs.Common.{arith}
use Rattle.io.proofs.Counting.{length-take_of_le}
use Rattle.psd_text.proofs.whole.Goals as goal

pub slice_bounds-result-length : goal.slice_bounds-result-length
slice_bounds-result-length c = length-take_of_le 197 c.args.text.now (omega arith)
