-- with the locators left put after them, the bytes written come to all
use Rattle.std.proofs.Common.{◌≡◌, ◌+◌, ◌*◌, drop}
use Rattle.buffer.specs.Buffer.{put_at}
use Rattle.layout.specs.Locators.{bytes16}
use Rattle.layout.proofs.put_locators16.Given as goal

abbrev pub invariant-loop-k : goal.invariant-loop-k
invariant-loop-k l = put_at l.pdu (14 + 2 * l.k) (bytes16 (drop l.k l.locators)) ≡ put_at l.initial.pdu 14 (bytes16 l.locators)
