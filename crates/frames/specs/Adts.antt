-- The header of an ADTS frame, by its bytes from 0 on.
use Rattle.std.specs.Prelude.{Bool, ◌&&◌, ℕ, ◌+◌, ◌-◌, ◌*◌, ◌/◌, ◌%◌, eqb, leb}

-- twelve bits set, the first eight of them byte 0
abbrev pub is_sync : ℕ → ℕ → Bool
is_sync b0 b1 = eqb b0 0xFF && leb 0xF0 b1

-- thirteen bits: the two lowest of byte 3, byte 4, and the three highest of byte 5
abbrev pub frame_length : ℕ → ℕ → ℕ → ℕ
frame_length b3 b4 b5 = b3 % 4 * 2048 + b4 * 8 + b5 / 32

-- 7 bytes, and two of check unless bit 0 of byte 1 is set
abbrev pub header_length : ℕ → ℕ
header_length b1 = 7 + 2 * (1 - b1 % 2)
