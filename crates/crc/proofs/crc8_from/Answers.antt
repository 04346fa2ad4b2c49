use Rattle.std.proofs.Common.{◌*◌, ◌/◌, ◌%◌, arith, ◌∙◌}
use lib.ListN.{length}
use Rattle.crc.proofs.Ring.{start as from_start, first_taken}
use Rattle.crc.proofs.crc8_from.Goals as goal

pub returns : goal.returns
returns c =
    let b = c.args.bytes.now in
    let s = c.args.start in
    c.by_1.ensures
    ∙ rw (c.first_high.ensures, c.first_low.ensures, c.from-h.ensures)
    (first_taken _ (s * 36028797018963968) b (omega arith) (λ k. (c.type_inv.bytes k).fits) (from_start s b c.ranges.start.fits) (omega arith) (length b % 16 / 8) (omega arith))
