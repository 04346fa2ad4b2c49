-- What is left, after the value so far, is read as the whole is.
use Rattle.std.proofs.Common.{◌≡◌, ◌<◌, length, drop}
use Rattle.text.specs.Text.{read_from}
use Rattle.text.proofs.parse.Given as goal

abbrev pub invariant-loop-byte : goal.invariant-loop-byte
invariant-loop-byte l = (l.value < 4294967296) × (0 < length l.text) × (read_from l.value (drop l.byte-index l.text) ≡ read_from 0 l.text)
