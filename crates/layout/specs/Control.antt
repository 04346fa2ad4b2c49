-- Document 01, "Control word, bytes 8 to 13": the fields' bytes, and the bytes' fields. Bit 0 is a byte's least significant.
use Rattle.std.specs.Prelude.{Bool, cond, List, [], ◌∷◌, ℕ, ◌+◌, ◌*◌, ◌%◌, ◌/◌, ◌<◌, eqb, get_or}
use Rattle.layout.specs.declared.ControlWord.{ControlWord}

abbrev pub bit : Bool → ℕ
bit b = cond b 1 0

-- is bit 0 set?
abbrev pub odd : ℕ → Bool
odd n = eqb (n % 2) 1

-- 8: bits 3-0 mode, 5-4 stream, 7-6 low two bits of PDU sequence
abbrev pub byte8 : ControlWord → ℕ
byte8 c = c.mode % 16 + 16 * (c.stream % 4) + 64 * (c.sequence % 4)

-- 9: bit 0 its top bit, 2-1 blend, 7-3 gain (core) or stream delay (enhanced)
abbrev pub byte9 : ControlWord → ℕ
byte9 c = c.sequence / 4 % 2 + 2 * (c.blend % 4) + 8 * (c.gain % 32)

-- 10: bits 5-0 common delay, 7-6 low two bits of latency
abbrev pub byte10 : ControlWord → ℕ
byte10 c = c.common % 64 + 64 * (c.latency % 4)

-- 11: bit 0 its top bit, 1 Pfirst, 2 Plast, 7-3 low five bits of starting number
abbrev pub byte11 : ControlWord → ℕ
byte11 c = c.latency / 4 % 2 + 2 * bit c.pfirst + 4 * bit c.plast + 8 * (c.start % 32)

-- 12: bit 0 its top bit, 6-1 count of pieces (NOP), 7 expansion flag
abbrev pub byte12 : ControlWord → ℕ
byte12 c = c.start / 32 % 2 + 2 * (c.nop % 64) + 128 * bit c.flag

-- 13: La
unfoldable pub control_bytes : ControlWord → List ℕ
control_bytes c = byte8 c ∷ byte9 c ∷ byte10 c ∷ byte11 c ∷ byte12 c ∷ c.la ∷ []

unfoldable pub control_of : ℕ → ℕ → ℕ → ℕ → ℕ → ℕ → ControlWord
control_of b8 b9 b10 b11 b12 b13 = record {
  mode = b8 % 16;
  stream = b8 / 16 % 4;
  sequence = b8 / 64 + 4 * (b9 % 2);
  blend = b9 / 2 % 4;
  gain = b9 / 8;
  common = b10 % 64;
  latency = b10 / 64 + 4 * (b11 % 2);
  pfirst = odd (b11 / 2);
  plast = odd (b11 / 4);
  start = b11 / 8 + 32 * (b12 % 2);
  nop = b12 / 2 % 64;
  flag = odd (b12 / 128);
  la = b13;
}

-- the control word of a PDU
abbrev pub control_at : List ℕ → ControlWord
control_at p = control_of (get_or p 8 0) (get_or p 9 0) (get_or p 10 0) (get_or p 11 0) (get_or p 12 0) (get_or p 13 0)

-- piece k (from 0) has the starting number plus k, minus 1 if Pfirst, modulo 64
abbrev pub piece_number : Bool → ℕ → ℕ → ℕ
piece_number pfirst start k = (start + cond pfirst 63 0 + k) % 64

-- every field within its width
pub record InWidth (c : ControlWord) : Type 0 where
  pub mode : c.mode < 16
  pub stream : c.stream < 4
  pub sequence : c.sequence < 8
  pub blend : c.blend < 4
  pub gain : c.gain < 32
  pub common : c.common < 64
  pub latency : c.latency < 8
  pub start : c.start < 64
  pub nop : c.nop < 64
