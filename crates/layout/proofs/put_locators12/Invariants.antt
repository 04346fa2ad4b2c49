-- with the locators left put after them, the bytes written come to all
use Rattle.std.proofs.Common.{◌≡◌, ◌+◌, ◌*◌, drop}
use Rattle.buffer.specs.Buffer.{put_at}
use Rattle.layout.specs.Locators.{bytes12}
use Rattle.layout.proofs.put_locators12.Given as goal

abbrev pub invariant-loop-j : goal.invariant-loop-j
invariant-loop-j l = put_at l.pdu (14 + 3 * l.j) (bytes12 (drop (2 * l.j) l.locators)) ≡ put_at l.initial.pdu 14 (bytes12 l.locators)
