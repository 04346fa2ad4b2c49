use Rattle.std.proofs.Common.{arith}
use Rattle.packet_log.proofs.Examples.{of-packet-5}
use Rattle.examples.proofs.log_line.Goals as goal

-- three words
pub put_packet-requires : goal.put_packet-requires
put_packet-requires c = record { second_len_bound = omega arith; second_in_bounds = rw of-packet-5 (omega arith) }
