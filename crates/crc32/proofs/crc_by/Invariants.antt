-- with the words left the register comes to that of all
use Rattle.std.proofs.Common.{◌≡◌, drop}
use Rattle.crc32.specs.Crc32.{crc32_from, entries_bytes}
use Rattle.crc32.proofs.crc_by.Given as goal

abbrev pub invariant-loop-word : goal.invariant-loop-word
invariant-loop-word l = crc32_from l.register (entries_bytes (drop l.word-index l.words)) ≡ crc32_from 4294967295 (entries_bytes l.words)
